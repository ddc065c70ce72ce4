-- The line after a command is what the definitions make of it, where the words are those of the entries before it.
-- Assumes nothing.
use Rattle.std.specs.Prelude.{ℕ, ◌≡◌, ◌≢◌, true, false, ◌&&◌, List, eqb, length, take}
use Rattle.std.proofs.Common.{sym, ap, ◌∙◌, eq-eqb, ne_eqb}
use Rattle.std.proofs.lemmas.List.Edits.{sets}
use Rattle.lists.specs.Sift.{sift}
use Rattle.lists.specs.Tests.{and-false, Outcome, holds, fails, outcome}
use Rattle.entries.specs.Entries.{entries}
use Rattle.entries.specs.declared.Entry.{Entry}
use Rattle.removal.specs.Removal.{goes}
use Rattle.removal.proofs.Picking.{entries_picked}
use Rattle.nucleus.specs.Commands.{one_of, letting_go}
use Rattle.nucleus.specs.Responses.{waiting_number}
use Rattle.nucleus.specs.Nucleus.{Nucleus, request, max_capacity, entries_of}
use Rattle.nucleus.specs.Waiters.{joined_line, change_line, let_go, lets_go, handed}
use Rattle.nucleus.specs.Step.{lined}
use Rattle.nucleus.specs.declared.Call.{Call}
use Rattle.nucleus.specs.declared.Command.{Command}
use Rattle.settling.specs.Settling.{going_words, lined_by}

-- ---- the ways that it can go
module _ (gone : List Entry) (c : Command) (call : Call) (response : ℕ) (n : Nucleus) where
  pub lined_waiting : response ≡ waiting_number → lined_by gone c call response n ≡ change_line (joined_line c call) n
  lined_waiting e = rw (eq-eqb response waiting_number e)

  module _ (other : response ≢ waiting_number) where
    pub lined_refused : response ≢ 0 → lined_by gone c call response n ≡ n
    lined_refused e = rw (ne_eqb response waiting_number other, ne_eqb response 0 e)

    pub lined_kept : one_of letting_go c ≡ false → lined_by gone c call response n ≡ n
    lined_kept e = rw (ne_eqb response waiting_number other, e, and-false (eqb response 0))

    pub lined_handed : response ≡ 0 → one_of letting_go c ≡ true → lined_by gone c call response n ≡ handed gone n
    lined_handed z e = rw (ne_eqb response waiting_number other, eq-eqb response 0 z, e)

-- ---- the words that were noted before it
module _ (capacity : ℕ) (c : Command) (call : Call) (format buffer : List ℕ) (before : Nucleus) (out : List ℕ) (places : length out ≡ max_capacity) where
  abbrev noted : List ℕ
  noted = going_words c call before.queue before.state.count (length out)

  lined_as : (response : ℕ) (n : Nucleus)
      → lined_by (entries (sets out 0 noted) (length noted)) c call response n ≡ lined (request capacity c call format buffer) before response n
  lined_as response n = go (outcome (one_of letting_go c))
    where
      go : Outcome (one_of letting_go c) → lined_by (entries (sets out 0 noted) (length noted)) c call response n ≡ lined (request capacity c call format buffer) before response n
      go (fails t) = rw (t, and-false (eqb response 0))
      go (holds t) =
          let same : entries (sets out 0 noted) (length noted) ≡ let_go (lets_go c call) before
          = rw t (entries_picked before.queue before.state.count (lets_go c call) out ∙ ap (λ k. take k (sift (goes (lets_go c call)) (entries_of before))) places) in
          ap (λ (es : List Entry). lined_by es c call response n) same

  -- with the words as code has them
  pub lined_noted : (words : List ℕ) (count : ℕ) → words ≡ sets out 0 noted → count ≡ length noted → (response : ℕ) (n m : Nucleus)
      → lined_by (entries words count) c call response n ≡ m → lined (request capacity c call format buffer) before response n ≡ m
  lined_noted words count w k response n m e = sym (lined_as response n) ∙ ap (λ (es : List Entry). lined_by es c call response n) (sym (λ i. entries (w i) (k i))) ∙ e
