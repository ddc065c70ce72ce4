-- The rows of a change at the call's ISN, which A1 and E1 both have.
use Rattle.std.specs.Prelude.{ℕ, List, ◌∷◌}
use Rattle.definition.specs.declared.File.{File}
use Rattle.nucleus.specs.Rows.{Row}
use Rattle.nucleus.specs.declared.Call.{Call}
use Rattle.shares.specs.Chains.{row_other, row_there, row_held, rows_room}
use Rattle.shares.specs.declared.Share.{Share}

module _ (f : File) (part : List ℕ) (call : Call) (x : Share) (queue : List ℕ) (room : ℕ) where
  -- 145, 113, 144, 47 and 70
  abbrev pub rows_changed : List Row
  rows_changed =
      row_other call x queue call.isn
      ∷ row_there f part call.isn
      ∷ row_held call x queue call.isn
      ∷ rows_room call x queue room call.isn
