-- What L1 and L4 begin with: the rows 41, 53 and 3, and the ISN to read where none of them holds.
use Rattle.std.specs.Prelude.{ℕ, List, [], ◌∷◌, ◌++◌, Option, Some, None, Result, Ok, Err}
use Rattle.definition.specs.declared.File.{File}
use Rattle.nucleus.specs.Rows.{Row, first_cause}
use Rattle.nucleus.specs.declared.Call.{Call}
use Rattle.nucleus.specs.declared.Response.{Response}
use Rattle.shares.specs.Chains.{rows_read, row_found, sought_isn}

abbrev pub target_unless : Option Response → ℕ → Result ℕ Response
target_unless (Some cause) isn = Err cause
target_unless None isn = Ok isn

abbrev pub rows_target : Call → File → List ℕ → List ℕ → List ℕ → List Row
rows_target call f part format buffer = rows_read f format buffer ++ row_found call f part ∷ []

unfoldable pub read_target : Call → File → List ℕ → List ℕ → List ℕ → Result ℕ Response
read_target call f part format buffer = target_unless (first_cause (rows_target call f part format buffer)) (sought_isn call f part)
