-- Where the fields of a record and the slots of a file lie (document 01, 'Store': "ISNs rising; each ISN has one byte, 1 for a record and any
-- other for none, then the width").
use Rattle.std.specs.Prelude.{ℕ, ◌+◌, ◌-◌, ◌*◌, take}
use Rattle.lists.specs.Folds.{total}
use Rattle.definition.specs.Table.{fields_of}
use Rattle.definition.specs.declared.Field.{Field}
use Rattle.definition.specs.declared.File.{File}

abbrev pub field_length : Field → ℕ
field_length f = f.length

-- where the k-th field, from 0, begins in its record
unfoldable pub field_offset : File → ℕ → ℕ
field_offset f k = total field_length (take k (fields_of f))

-- document 01's width
unfoldable pub record_length : File → ℕ
record_length f = total field_length (fields_of f)

-- the bytes of one ISN: the byte that says whether there is a record, then the record
abbrev pub slot_length : File → ℕ
slot_length f = record_length f + 1

-- where the slot of an ISN, from 1, begins in its file
abbrev pub slot_offset : File → ℕ → ℕ
slot_offset f isn = (isn - 1) * slot_length f

-- the bytes of all its slots
abbrev pub file_size : File → ℕ
file_size f = f.max_isn * slot_length f
