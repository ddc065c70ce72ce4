-- The rows of a change are E1's; where none refuses, a record is there.
-- Assumes nothing.
use Rattle.std.specs.Prelude.{ℕ, ◌≡◌, true, List, [], ◌∷◌, ◌++◌, None}
use Rattle.std.proofs.Math.Path.{refl}
use Rattle.std.proofs.lemmas.Bool.{not-false}
use Rattle.definition.specs.declared.File.{File}
use Rattle.store.specs.Store.{has_record}
use Rattle.nucleus.specs.Rows.{Row, first_cause}
use Rattle.nucleus.specs.declared.Call.{Call}
use Rattle.shares.proofs.Laws.{row_passed, last_passed}
use Rattle.shares.specs.Chains.{row_other, row_there, row_held, rows_room, e1_cause}
use Rattle.shares.specs.declared.Share.{Share}
use Rattle.change_rows.specs.ChangeRows.{rows_changed}

module _ (f : File) (part : List ℕ) (call : Call) (x : Share) (queue : List ℕ) (room : ℕ) where
  pub e1_cause_is : e1_cause call x queue f part room ≡ first_cause (rows_changed f part call x queue room)
  unfolding e1_cause
  e1_cause_is = refl

  -- whatever rows come after
  pub change_there : (later : List Row) → first_cause (rows_changed f part call x queue room ++ later) ≡ None → has_record f part call.isn ≡ true
  change_there later e =
      let behind = row_held call x queue call.isn ∷ rows_room call x queue room call.isn ++ later in
      not-false (has_record f part call.isn)
      (row_passed (row_there f part call.isn) behind (last_passed (row_other call x queue call.isn ∷ []) (row_there f part call.isn ∷ behind) e))
