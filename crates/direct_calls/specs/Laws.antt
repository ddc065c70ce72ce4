-- What the steps of a direct call come to together: entries out into words, the call on these, and what it leaves of them back.
-- Assumes nothing.
use Rattle.std.specs.Prelude.{ℕ, ◌+◌, ◌-◌, ◌≤◌, min, ◌≡◌, List, ◌++◌, map, length, take, drop}
use Rattle.std.proofs.Common.{arith, sym, subst, ◌∙◌, length-append, length-drop, take_at, length-take-le}
use Rattle.std.proofs.Math.Path.{ap}
use Rattle.std.proofs.lemmas.List.{length-map}
use Rattle.lists.specs.Parts.{take_least, drop_least}
use Rattle.entries.specs.Entries.{pack_of, unpack_of}
use Rattle.entries.specs.declared.Entry.{Entry}
use Rattle.nucleus.specs.Nucleus.{nucleus, Result, resulting}
use Rattle.nucleus.specs.Step.{step}
use Rattle.nucleus.specs.declared.Answer.{Answer}
use Rattle.nucleus.specs.declared.Call.{Call}
use Rattle.nucleus.specs.declared.State.{State}
use Rattle.database.specs.Database.{database, fitting_in, words, with_words, Reply, reply, reply_of, direct_call}
use Rattle.database.proofs.Laws.{fitting_size, step_fits}
use Rattle.direct_calls.specs.DirectCalls.{packed_front, unpacked_front, with_rest, on_words}

-- the first n words, lent as as many as there are, are what the call is on
pub with_others : (n k : ℕ) (call : Call) (format buffer : List ℕ) (s : State) (store ws images : List ℕ) (r : Result) → k ≡ min n (length ws)
    → r ≡ step n call format buffer (nucleus s store (take k ws) images) → with_rest (drop k ws) r ≡ on_words n call format buffer (nucleus s store ws images)
with_others n k call format buffer s store ws images r fit called =
    let front : take k ws ≡ take n ws = ap (λ (m : ℕ). take m ws) fit ∙ take_least n ws in
    let rest : drop k ws ≡ drop n ws = ap (λ (m : ℕ). drop m ws) fit ∙ drop_least n ws in
    ap (with_rest (drop k ws)) called ∙ (λ i. with_rest (rest i) (step n call format buffer (nucleus s store (front i) images)))

-- k entries as words in front of others
pub front_words : (capacity k : ℕ) (queue : List Entry) (blank ws : List ℕ) → k ≡ fitting_in capacity queue → ws ≡ packed_front k queue blank → take k ws ≡ words k queue
front_words capacity k queue blank ws fit out =
    let size : k ≤ length queue = subst (λ (m : ℕ). m ≤ length queue) (sym fit) (fitting_size capacity (length queue)) in
    ap (take k) out ∙ take_at (words k queue) (drop k blank) k (length-map (take k queue) pack_of ∙ length-take-le k queue size)

module _ (capacity : ℕ) (call : Call) (format buffer : List ℕ) (s : State) (store : List ℕ) (queue : List Entry) (images : List ℕ) where
  -- the reply of a result, with a queue of entries in place of its words
  abbrev as_reply : List Entry → Result → Reply
  as_reply q r = reply r.answer (database r.nucleus.state r.nucleus.store q r.nucleus.images) r.buffer

  -- the call on k entries
  abbrev on_entries : ℕ → Result
  on_entries k = step k call format buffer (nucleus s store (words k queue) images)

  abbrev replied : ℕ → Result → Reply
  replied k r = as_reply (with_words k r.nucleus.queue queue) r

  fits_reply : replied (fitting_in capacity queue) (on_entries (fitting_in capacity queue)) ≡ direct_call capacity call format buffer (database s store queue images)
  unfolding direct_call
  fits_reply = ap (reply_of capacity queue) (sym (step_fits capacity call format buffer (database s store queue images)))

  -- k entries as words in front of others; the call on the first k; the first k of what is left, as entries
  module _ (k : ℕ) (blank ws left : List ℕ) (fit : k ≡ fitting_in capacity queue) (out : ws ≡ packed_front k queue blank) (long : length left ≡ length ws) (room : k ≤ length ws) where
    abbrev on_front : Result
    on_front = step k call format buffer (nucleus s store (take k ws) images)

    pub directly : (answer : Answer) (s₂ : State) (store₂ : List ℕ) (queue₂ : List Entry) (images₂ buffer₂ : List ℕ)
        → resulting answer (nucleus s₂ store₂ left images₂) buffer₂ ≡ on_words k call format buffer (nucleus s store ws images) → queue₂ ≡ unpacked_front k left queue
        → reply answer (database s₂ store₂ queue₂ images₂) buffer₂ ≡ direct_call capacity call format buffer (database s store queue images)
    directly answer s₂ store₂ queue₂ images₂ buffer₂ called back =
        let left_is : left ≡ on_front.nucleus.queue ++ drop k ws = ap (λ (r : Result). r.nucleus.queue) called in
        let lengths : length left ≡ length on_front.nucleus.queue + (length ws - k) = ap length left_is ∙ length-append on_front.nucleus.queue (drop k ws) ∙ ap (λ (m : ℕ). length on_front.nucleus.queue + m) (length-drop k ws) in
        let size : length on_front.nucleus.queue ≡ k = omega (arith, lengths, long, room) in
        let taken : take k left ≡ on_front.nucleus.queue = ap (take k) left_is ∙ take_at on_front.nucleus.queue (drop k ws) k size in
        ap (as_reply queue₂) called ∙ ap (λ (q : List Entry). as_reply q on_front) (back ∙ ap (λ (l : List ℕ). map unpack_of l ++ drop k queue) taken)
        ∙ ap (λ (l : List ℕ). replied k (step k call format buffer (nucleus s store l images))) (front_words capacity k queue blank ws fit out) ∙ ap (λ (m : ℕ). replied m (on_entries m)) fit ∙ fits_reply
