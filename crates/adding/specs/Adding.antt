-- The rows of N1 and N2 in groups: those that both begin and end with.
use Rattle.std.specs.Prelude.{ℕ, false, List, [], ◌∷◌, ◌++◌, Option}
use Rattle.definition.specs.declared.File.{File}
use Rattle.nucleus.specs.Rows.{Row, row, first_cause}
use Rattle.nucleus.specs.declared.Call.{Call}
use Rattle.nucleus.specs.declared.Response.{Response}
use Rattle.nucleus.specs.declared.Response.TheVariants.{ValueTaken}
use Rattle.shares.specs.Chains.{row_scratch, rows_brought, rows_room, added, taken}
use Rattle.shares.specs.declared.Share.{Share}

-- those that both begin with: the file's and the buffers'
abbrev pub rows_beginning : File → List ℕ → List ℕ → List Row
rows_beginning f format buffer = row_scratch f ∷ rows_brought f format buffer

-- those that both end with, at an ISN: 47, 70 and 198
module _ (f : File) (part : List ℕ) (call : Call) (x : Share) (queue images : List ℕ) (width room : ℕ) (format buffer : List ℕ) where
  abbrev pub row_taken : ℕ → Row
  row_taken isn = row ValueTaken (taken f part call x queue images width false format isn (added f part format buffer isn))

  abbrev pub rows_ending : ℕ → List Row
  rows_ending isn = rows_room call x queue room isn ++ row_taken isn ∷ []

  unfoldable pub last_cause : ℕ → Option Response
  last_cause isn = first_cause (rows_ending isn)
