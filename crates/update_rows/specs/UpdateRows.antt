-- A1's rows: those of a record that is to be made, those of a change, and 198.
use Rattle.std.specs.Prelude.{ℕ, true, List, [], ◌∷◌, ◌++◌}
use Rattle.definition.specs.declared.File.{File}
use Rattle.nucleus.specs.Rows.{Row, row}
use Rattle.nucleus.specs.declared.Call.{Call}
use Rattle.nucleus.specs.declared.Response.TheVariants.{ValueTaken}
use Rattle.shares.specs.Chains.{row_scratch, rows_brought, replaced, taken}
use Rattle.shares.specs.declared.Share.{Share}
use Rattle.change_rows.specs.ChangeRows.{rows_changed}

module _ (f : File) (part : List ℕ) (call : Call) (x : Share) (queue : List ℕ) (room : ℕ) (images : List ℕ) (width : ℕ) (format buffer : List ℕ) where
  -- 198
  abbrev pub row_taken : Row
  row_taken = row ValueTaken (taken f part call x queue images width true format call.isn (replaced f part format buffer call.isn))

  abbrev pub rows_amended : List Row
  rows_amended = (row_scratch f ∷ rows_brought f format buffer) ++ rows_changed f part call x queue room ++ row_taken ∷ []
