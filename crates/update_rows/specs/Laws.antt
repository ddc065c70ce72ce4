-- The rows of A1 are those of its chain; where none refuses, a record is there.
-- Assumes nothing.
use Rattle.std.specs.Prelude.{ℕ, ◌≡◌, true, List, [], ◌∷◌, ◌++◌, None}
use Rattle.std.proofs.Math.Path.{refl}
use Rattle.definition.specs.declared.File.{File}
use Rattle.store.specs.Store.{has_record}
use Rattle.nucleus.specs.Rows.{first_cause}
use Rattle.nucleus.specs.declared.Call.{Call}
use Rattle.shares.proofs.Laws.{last_passed}
use Rattle.shares.specs.Chains.{row_scratch, rows_brought, a1_cause}
use Rattle.shares.specs.declared.Share.{Share}
use Rattle.change_rows.specs.ChangeRows.{rows_changed}
use Rattle.change_rows.specs.Laws.{change_there}
use Rattle.update_rows.specs.UpdateRows.{row_taken, rows_amended}

module _ (f : File) (part : List ℕ) (call : Call) (x : Share) (queue : List ℕ) (room : ℕ) (images : List ℕ) (width : ℕ) (format buffer : List ℕ) where
  pub a1_cause_is : a1_cause f part call x queue images width room format buffer ≡ first_cause (rows_amended f part call x queue room images width format buffer)
  unfolding a1_cause
  a1_cause_is = refl

  pub amend_there : first_cause (rows_amended f part call x queue room images width format buffer) ≡ None → has_record f part call.isn ≡ true
  amend_there e =
      let last = row_taken f part call x queue room images width format buffer ∷ [] in
      change_there f part call x queue room last (last_passed (row_scratch f ∷ rows_brought f format buffer) (rows_changed f part call x queue room ++ last) e)
