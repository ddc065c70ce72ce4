-- What refuses L1 and L4: what refuses their target, and past it the rows of the ISN that they have.
-- Assumes nothing.
use Rattle.std.specs.Prelude.{ℕ, ◌≡◌, true, List, [], ◌∷◌, Some, None, Ok, Err}
use Rattle.std.proofs.Common.{◌∙◌}
use borrow.Author.Tests.{not-false}
use Rattle.definition.specs.declared.File.{File}
use Rattle.store.specs.Store.{has_record}
use Rattle.nucleus.specs.Rows.{Row, first_cause}
use Rattle.nucleus.specs.declared.Call.{Call}
use Rattle.nucleus.specs.declared.Response.{Response}
use Rattle.shares.proofs.Laws.{row_passed, last_passed}
use Rattle.shares.specs.Chains.{row_shown, row_waits, row_other, row_there, rows_room, sought_isn, l1_cause, l4_cause}
use Rattle.shares.specs.declared.Share.{Share}
use Rattle.retrieval.specs.Retrieval.{read_target}
use Rattle.retrieval.specs.Laws.{target_refused, target_later, target_sought}

module _ (call : Call) (f : File) (part : List ℕ) (x : Share) (queue : List ℕ) (format buffer : List ℕ) where
  module _ (images : List ℕ) (width : ℕ) where
    pub l1_refused : (cause : Response) → read_target call f part format buffer ≡ Err cause → l1_cause call f part x queue images width format buffer ≡ Some cause
    unfolding l1_cause
    l1_refused cause e = target_refused call f part format buffer cause e (row_shown call f part x queue images width (sought_isn call f part) ∷ [])

    pub l1_left : (isn : ℕ) → read_target call f part format buffer ≡ Ok isn → l1_cause call f part x queue images width format buffer ≡ first_cause (row_shown call f part x queue images width isn ∷ [])
    unfolding l1_cause
    l1_left isn e =
        target_later call f part format buffer isn e (row_shown call f part x queue images width (sought_isn call f part) ∷ [])
        ∙ rw (target_sought call f part format buffer isn e)

  module _ (room : ℕ) where
    -- 20, 145, 113, 47 and 70
    abbrev rows_held : ℕ → List Row
    rows_held isn = row_waits call x queue isn ∷ row_other call x queue isn ∷ row_there f part isn ∷ rows_room call x queue room isn

    pub l4_refused : (cause : Response) → read_target call f part format buffer ≡ Err cause → l4_cause call f part x queue room format buffer ≡ Some cause
    unfolding l4_cause
    l4_refused cause e = target_refused call f part format buffer cause e (rows_held (sought_isn call f part))

    pub l4_left : (isn : ℕ) → read_target call f part format buffer ≡ Ok isn → l4_cause call f part x queue room format buffer ≡ first_cause (rows_held isn)
    unfolding l4_cause
    l4_left isn e = target_later call f part format buffer isn e (rows_held (sought_isn call f part)) ∙ rw (target_sought call f part format buffer isn e)

    pub held_there : (isn : ℕ) → first_cause (rows_held isn) ≡ None → has_record f part isn ≡ true
    held_there isn e =
        not-false (has_record f part isn)
        (row_passed (row_there f part isn) (rows_room call x queue room isn) (last_passed (row_waits call x queue isn ∷ row_other call x queue isn ∷ []) (row_there f part isn ∷ rows_room call x queue room isn) e))
