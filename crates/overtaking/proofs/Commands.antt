-- A command leaves the line as it was; RI, ET and BT let go what they remove, and no other command removes an entry.
-- Assumes nothing.
use Prim.Native.Nat.{ℕ, zero, suc, ◌+◌, ◌≤◌, ◌<◌}
use native.Mathlib.Omega.{arith}
use Rattle.std.specs.Prelude.{◌≡◌, Bool, eqb, ltb, get_or, Option, Some, None}
use Rattle.std.proofs.Math.Path.{refl}
use Rattle.std.proofs.Common.{ap, ◌∙◌}
use Rattle.std.proofs.Math.Bool.{true, false}
use mathlib.Core.List.{List, [], ◌∷◌}
use Rattle.std.proofs.Math.ListN.{length, take, set, length-set}
use Rattle.std.proofs.Math.Seq.{set_out, take_all}
use borrow.Author.Tests.{ltb-true, ltb-false}
use Rattle.lists.specs.Tests.{cond, Outcome, holds, fails, outcome}
use Rattle.lists.specs.Folds.{total}
use Rattle.entries.specs.Entries.{bit, pack_of, unpack_of, entries, is_of}
use Rattle.entries.specs.Laws.{no_entry, entries_are, entries_last, entries_kept, length_entries}
use Rattle.entries.specs.declared.Entry.{Entry}
use Rattle.queue.specs.Queue.{append}
use Rattle.queue.specs.Laws.{held_found}
use Rattle.changes.specs.Changes.{as_changed, settled, change, first_change_queue}
use Rattle.changes.specs.Laws.{entries_change}
use Rattle.removal.specs.declared.Removal.TheVariants.{One, Unchanged}
use Rattle.nucleus.specs.Users.{started}
use Rattle.nucleus.specs.Nucleus.{Nucleus, Request, entries_of, change_user}
use Rattle.nucleus.specs.Clock.{removed, backed_out}
use Rattle.nucleus.specs.Target.{is_holder, holder_of, record_at, file_place}
use Rattle.nucleus.specs.Effects.{entry_for, with_entry, held, imaged_at, imaged, written, erased, with_last, released, effect_at}
use Rattle.nucleus.specs.declared.Command.{Command}
use Rattle.nucleus.specs.declared.Command.TheVariants.{Hi, Ri, L1, L4, A1, E1, N1, N2, Et, Bt, Re, Op, Cl, Pe}
use Rattle.nucleus.specs.declared.WaitQueue.{WaitQueue}
use Rattle.overtaking.specs.Moments.{holds_of}
use Rattle.overtaking.proofs.Stages.{total_append}

-- ---- the line
abbrev line : Nucleus → WaitQueue
line n = n.state.wait_queue

module _ (r : Request) (isn : ℕ) (n : Nucleus) where
  line_held : line (held r isn n) ≡ line n
  unfolding held
  line_held = go (is_holder r.call.user (holder_of r n isn))
    where
      go : (b : Bool) → line (cond b n (change_user r.call.user (started n.state.clock) (with_entry r isn n))) ≡ line n
      go true = refl
      go false = refl

  line_imaged : line (imaged r isn n) ≡ line n
  unfolding imaged
  line_imaged = go (holder_of r (held r isn n) isn) ∙ line_held
    where
      go : (l : Option (ℕ × Entry)) → line (imaged_at r l isn (held r isn n)) ≡ line (held r isn n)
      go (Some (i, e)) = refl
      go None = refl

  line_written : line (written r isn n) ≡ line n
  unfolding written
  line_written = line_imaged

  line_added : line (with_last r (file_place r n) isn (written r isn n)) ≡ line n
  line_added = go (file_place r n) ∙ line_written
    where
      go : (x : Option ℕ) → line (with_last r x isn (written r isn n)) ≡ line (written r isn n)
      go (Some i) = refl
      go None = refl

  line_erased : line (erased r isn n) ≡ line n
  unfolding erased
  line_erased = line_imaged

  line_released : line (released r n) ≡ line n
  unfolding removed
  line_released = go (eqb r.call.isn 0)
    where
      go : (b : Bool) → line (cond b (removed (Unchanged r.call.user) n) (removed (One r.call.file r.call.isn) n)) ≡ line n
      go true = refl
      go false = refl

  pub line_effect : (c : Command) → line (effect_at r isn c n).nucleus ≡ line n
  unfolding effect_at removed backed_out
  line_effect Hi = line_held
  line_effect Ri = line_released
  line_effect L1 = refl
  line_effect L4 = line_held
  line_effect A1 = line_written
  line_effect E1 = line_erased
  line_effect N1 = line_added
  line_effect N2 = line_written
  line_effect Et = refl
  line_effect Bt = refl
  line_effect Re = refl
  line_effect Op = refl
  line_effect Cl = refl
  line_effect Pe = refl

-- ---- the holds of a record
total_set : {A : Type 0} (f : A → ℕ) (l : List A) (i : ℕ) (x d : A) → f x ≡ f (get_or l i d) → total f (set l i x) ≡ total f l
total_set f [] i x d h = refl
total_set f (y ∷ l) zero x d h = ap (λ k. k + total f l) h
total_set f (y ∷ l) (suc i) x d h = ap (λ k. f y + k) (total_set f l i x d h)

module _ (file number : ℕ) where
  abbrev here : List Entry → ℕ
  here es = total (λ e. bit (is_of file number e)) es

  -- one more entry, where there is a place
  here_more : (words : List ℕ) (count : ℕ) (e : Entry) → here (entries words count) ≤ here (entries (append words count e) (count + 1))
  unfolding append
  here_more words count e = go (outcome (ltb count (length words)))
    where
      go : Outcome (ltb count (length words)) → here (entries words count) ≤ here (entries (set words count (pack_of e)) (count + 1))
      go (holds t) =
          let more : List ℕ = set words count (pack_of e) in
          let long : count < length more = simp length-set (ltb-true count (length words) t) in
          let sum = total_append (λ e. bit (is_of file number e)) (entries words count) (unpack_of (get_or more count 0) ∷ []) in
          rw (entries_last more count long, entries_kept words count count (pack_of e) (omega arith), sum) (omega arith)
      go (fails t) =
          let short : length words ≤ count = ltb-false count (length words) t in
          let all_words : take (count + 1) words ≡ words = take_all (count + 1) words (omega arith) in
          rw (set_out words count (pack_of e) short, entries_are words (count + 1), entries_are words count, all_words, take_all count words short) (omega arith)

  -- the first change of one
  here_changed : (words : List ℕ) (count at : ℕ) (existed : Bool) → at < count
      → here (entries (first_change_queue words at existed) count) ≡ here (entries words count)
  unfolding first_change_queue
  here_changed words count at existed h = go (settled words at)
    where
      go : (b : Bool) → here (entries (cond b words (change words at existed)) count) ≡ here (entries words count)
      go true = refl
      go false =
          let changed = as_changed existed (get_or (entries words count) at no_entry) in
          rw (entries_change words count at existed h) (total_set (λ e. bit (is_of file number e)) (entries words count) at changed no_entry refl)

  module _ (r : Request) (isn : ℕ) (n : Nucleus) where
    abbrev pub Kept : Nucleus → Type 0
    Kept m = holds_of file number n ≤ holds_of file number m

    pub kept_held : Kept (held r isn n)
    unfolding held
    kept_held = go (is_holder r.call.user (holder_of r n isn))
      where
        go : (b : Bool) → Kept (cond b n (change_user r.call.user (started n.state.clock) (with_entry r isn n)))
        go true = omega arith
        go false = here_more n.queue n.state.count (entry_for r isn n)

    kept_imaged : Kept (imaged r isn n)
    unfolding imaged
    kept_imaged = go (holder_of r (held r isn n) isn) refl
      where
        go : (l : Option (ℕ × Entry)) → holder_of r (held r isn n) isn ≡ l → Kept (imaged_at r l isn (held r isn n))
        go (Some (i, e)) found =
            let m = held r isn n in
            let inside = (held_found r.call.file isn (entries_of m) i e found).inside in
            let at : i < m.state.count = omega (arith, inside, length_entries m.queue m.state.count) in
            rw (here_changed m.queue m.state.count i (record_at r m isn) at) kept_held
        go None found = kept_held

    pub kept_written : Kept (written r isn n)
    unfolding written
    kept_written = kept_imaged

    pub kept_erased : Kept (erased r isn n)
    unfolding erased
    kept_erased = kept_imaged

    pub kept_added : Kept (with_last r (file_place r n) isn (written r isn n))
    kept_added = go (file_place r n)
      where
        go : (x : Option ℕ) → Kept (with_last r x isn (written r isn n))
        go (Some i) = kept_written
        go None = kept_written
