-- Records in the part of the store that belongs to one file (document 01, 'Store': "files in table order, ISNs rising; each ISN has one byte,
-- 1 for a record and any other for none, then the width").
use Rattle.std.specs.Prelude.{ℕ, ◌+◌, ◌-◌, ◌*◌, ◌/◌, min, Bool, ◌&&◌, List, [], ◌∷◌, eqb, length, get_or, set, Option, Some, None}
use Rattle.lists.specs.Tests.{cond, within}
use Rattle.definition.specs.Table.{field_at, file_at}
use Rattle.definition.specs.declared.File.{File}
use Rattle.definition.specs.declared.Definition.{Definition}
use Rattle.records.specs.Records.{field_length, field_offset, record_length, slot_length, slot_offset, file_size}
use Rattle.layout.specs.Layout.{file_offset}
use Rattle.lists.specs.Numbers.{from_to}
use Rattle.lists.specs.Pieces.{piece, patch}

-- ---- a row of slots of one size, the first of them at the front of a list of bytes
-- whether the slot, of those up to the last, has a record
abbrev pub recorded : ℕ → ℕ → List ℕ → ℕ → Bool
recorded last size part isn = within 1 last isn && eqb (get_or part ((isn - 1) * size) 0) 1

-- 0 in the first byte of each of the slots
abbrev pub cleared : ℕ → List ℕ → List ℕ → List ℕ
cleared size [] part = part
cleared size (isn ∷ isns) part = cleared size isns (set part ((isn - 1) * size) 0)

-- ---- a file's slots
-- how many lie whole within so many bytes: those of ISN 1 to this
abbrev pub slot_count : File → ℕ → ℕ
slot_count f bytes = min f.max_isn (bytes / slot_length f)

-- the ISN is 1 to the highest, and its slot ends within the part
unfoldable pub slot_fits : File → List ℕ → ℕ → Bool
slot_fits f part isn = within 1 (slot_count f (length part)) isn

-- the ISNs from the given one on whose slots lie within the part
abbrev pub isns_from : File → List ℕ → ℕ → List ℕ
isns_from f part from = from_to from (slot_count f (length part))

-- "1 for a record and any other for none"
unfoldable pub has_record : File → List ℕ → ℕ → Bool
has_record f part isn = recorded (slot_count f (length part)) (slot_length f) part isn

-- the bytes behind the first
abbrev pub record_of : File → List ℕ → ℕ → List ℕ
record_of f part isn = piece (slot_offset f isn + 1) (record_length f) part

unfoldable pub get : File → List ℕ → ℕ → Option (List ℕ)
get f part isn = cond (has_record f part isn) (Some (record_of f part isn)) None

-- what the store shows of an ISN: its record, and no bytes where there is none
unfoldable pub shown : File → List ℕ → ℕ → List ℕ
shown f part isn = cond (has_record f part isn) (record_of f part isn) []

-- the bytes of the field at place k of a record
abbrev pub field_value : File → ℕ → List ℕ → List ℕ
field_value f k r = piece (field_offset f k) (field_length (field_at f k)) r

-- ---- writing
-- a record: 1, and then the record
unfoldable pub put_record : File → List ℕ → ℕ → List ℕ → List ℕ
put_record f part isn r =
    cond (slot_fits f part isn && eqb (length r) (record_length f)) (patch (slot_offset f isn) (slot_length f) part (1 ∷ r)) part

-- "Emptying sets an ISN's first byte to 0 and keeps the rest"
unfoldable pub empty : File → List ℕ → ℕ → List ℕ
empty f part isn = cond (slot_fits f part isn) (set part (slot_offset f isn) 0) part

-- "Set-up puts 0 in every first byte of an ISN and writes nothing else lent"
unfoldable pub fresh : File → List ℕ → List ℕ
fresh f part = cleared (slot_length f) (isns_from f part 1) part

-- ---- the whole store
-- the part of the i-th file, from 0
unfoldable pub file_part : Definition → ℕ → List ℕ → List ℕ
file_part d i store = piece (file_offset d i) (file_size (file_at d i)) store

-- the store with another part of the i-th file
unfoldable pub with_part : Definition → ℕ → List ℕ → List ℕ → List ℕ
with_part d i store part = patch (file_offset d i) (file_size (file_at d i)) store part
