-- What a caller knows where no row of the format buffer's holds.
-- Assumes nothing.
use Rattle.std.specs.Prelude.{ℕ, ◌≤◌, ◌≡◌, not, List, [], ◌∷◌, ◌++◌, ltb, length, None}
use Rattle.std.proofs.Common.{ltb-false}
use Rattle.definition.specs.declared.File.{File}
use Rattle.elements.specs.Elements.{format_valid, length_needed}
use Rattle.nucleus.specs.Rows.{Row, row, first_cause}
use Rattle.nucleus.specs.declared.Response.TheVariants.{FormatInvalid, RecordLength}
use Rattle.shares.proofs.Laws.{row_passed, last_passed}
use Rattle.shares.specs.Chains.{rows_read}

-- the record buffer has room for what is read, whatever rows come after
pub read_room : (f : File) (format buffer : List ℕ) (later : List Row) → first_cause (rows_read f format buffer ++ later) ≡ None → length_needed f format ≤ length buffer
read_room f format buffer later e =
    let short = row RecordLength (ltb (length buffer) (length_needed f format)) in
    ltb-false (length buffer) (length_needed f format) (row_passed short later (last_passed (row FormatInvalid (not (format_valid f format)) ∷ []) (short ∷ later) e))
