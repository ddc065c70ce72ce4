-- The format buffer's rows, for a command that brings values and for one that reads. Where none are brought, 44 and 55 do not hold, and the first
-- cause is that of `rows_read`; where they are, these are `rows_brought`.
use Rattle.std.specs.Prelude.{ℕ, Bool, not, ◌&&◌, List, [], ◌∷◌, ltb, length}
use Rattle.definition.specs.declared.File.{File}
use Rattle.elements.specs.Elements.{format_valid, named_twice, length_needed}
use Rattle.fields.specs.Fields.{values_allowed}
use Rattle.nucleus.specs.Rows.{Row, row}
use Rattle.nucleus.specs.declared.Response.TheVariants.{FormatInvalid, FieldTwice, RecordLength, ValueInvalid}

abbrev pub rows_judged : Bool → File → List ℕ → List ℕ → List Row
rows_judged brings f format buffer =
    row FormatInvalid (not (format_valid f format))
    ∷ row FieldTwice (brings && named_twice f format)
    ∷ row RecordLength (ltb (length buffer) (length_needed f format))
    ∷ row ValueInvalid (brings && not (values_allowed f format buffer))
    ∷ []
