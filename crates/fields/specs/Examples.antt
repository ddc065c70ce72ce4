-- Worked examples: the definitions computed on a file of three fields, AA alphanumeric of 2 bytes, AB packed of 2 and AC unpacked of 1; each
-- table checked by one law.
-- Assumes nothing.
use Rattle.std.specs.Prelude.{ℕ, ◌≡◌, refl, Bool, true, false, List, [], ◌∷◌, map, set}
use Rattle.definition.specs.Table.{no_file}
use Rattle.records.specs.Records.{field_offset, record_length}
use Rattle.digits.specs.Digits.{allowed}
use Rattle.values.specs.Values.{below_zero, stored}
use Rattle.elements.specs.Elements.{field_named, places, length_needed}
use Rattle.fields.specs.Fields.{fits, read_fields, write_fields, values_allowed}
use Rattle.definition.specs.declared.Format.TheVariants.{Alphanumeric, Unpacked, Packed}
use Rattle.definition.specs.declared.FieldOption.TheVariants.{Plain}
use Rattle.definition.specs.declared.Field.{Field}
use Rattle.definition.specs.declared.File.{File}

unfoldable pub aa : Field
aa = record { name = record { first = 65; second = 65 }; length = 2; format = Alphanumeric; option = Plain }

unfoldable pub ab : Field
ab = record { name = record { first = 65; second = 66 }; length = 2; format = Packed; option = Plain }

unfoldable pub ac : Field
ac = record { name = record { first = 65; second = 67 }; length = 1; format = Unpacked; option = Plain }

unfoldable pub three : File
three = record { number = 1; max_isn = 3; count = 3; fields = set (set (set no_file.fields 0 aa) 1 ab) 2 ac }

-- `AB.` `AB,AA.` `AC,AB.` `AB,AA,AB.`
only_ab : List ℕ
only_ab = 65 ∷ 66 ∷ 46 ∷ []

ab_aa : List ℕ
ab_aa = 65 ∷ 66 ∷ 44 ∷ 65 ∷ 65 ∷ 46 ∷ []

ac_ab : List ℕ
ac_ab = 65 ∷ 67 ∷ 44 ∷ 65 ∷ 66 ∷ 46 ∷ []

ab_aa_ab : List ℕ
ab_aa_ab = 65 ∷ 66 ∷ 44 ∷ 65 ∷ 65 ∷ 44 ∷ 65 ∷ 66 ∷ 46 ∷ []

-- ---- a record of nulls: spaces, a packed zero, a digit 0
unfoldable pub nulled : List ℕ
nulled = 0x20 ∷ 0x20 ∷ 0x00 ∷ 0x0F ∷ 0x30 ∷ []

-- ---- values by a format buffer: whether they are allowed, and the record of nulls with them
record Written : Type 0 where
  format : List ℕ
  values : List ℕ
  good : Bool
  after : List ℕ

writes : List Written
writes =
    -- stored with F; with D; in the buffer's order, and not the record's; a zero always with F
    record { format = only_ab; values = 0x12 ∷ 0x3C ∷ []; good = true; after = 0x20 ∷ 0x20 ∷ 0x12 ∷ 0x3F ∷ 0x30 ∷ [] } ∷
    record { format = only_ab; values = 0x12 ∷ 0x3B ∷ []; good = true; after = 0x20 ∷ 0x20 ∷ 0x12 ∷ 0x3D ∷ 0x30 ∷ [] } ∷
    record { format = ab_aa; values = 0x12 ∷ 0x3D ∷ 0x58 ∷ 0x59 ∷ []; good = true; after = 0x58 ∷ 0x59 ∷ 0x12 ∷ 0x3D ∷ 0x30 ∷ [] } ∷
    record { format = ac_ab; values = 0x37 ∷ 0x00 ∷ 0x0D ∷ []; good = true; after = 0x20 ∷ 0x20 ∷ 0x00 ∷ 0x0F ∷ 0x37 ∷ [] } ∷
    -- more values than are named; too few
    record { format = only_ab; values = 0x45 ∷ 0x6F ∷ 0xFF ∷ []; good = true; after = 0x20 ∷ 0x20 ∷ 0x45 ∷ 0x6F ∷ 0x30 ∷ [] } ∷
    record { format = ab_aa; values = 0x12 ∷ 0x3C ∷ 0x58 ∷ []; good = false; after = nulled } ∷
    -- a digit that is not allowed, a sign that is not allowed in the second value: `allowed` is asked before anything is written
    record { format = ac_ab; values = 0x3A ∷ 0x12 ∷ 0x3C ∷ []; good = false; after = 0x20 ∷ 0x20 ∷ 0x12 ∷ 0x3F ∷ 0x3A ∷ [] } ∷
    record { format = ac_ab; values = 0x31 ∷ 0x12 ∷ 0x39 ∷ []; good = false; after = 0x20 ∷ 0x20 ∷ 0x12 ∷ 0x3F ∷ 0x31 ∷ [] } ∷ []

written : Written → Written
written r = record {
  format = r.format;
  values = r.values;
  good = values_allowed three r.format r.values;
  after = write_fields three r.format r.values nulled;
}

writes_right : map written writes ≡ writes
unfolding aa ab ac three only_ab ab_aa ac_ab nulled writes written field_named places length_needed field_offset record_length stored below_zero allowed fits write_fields values_allowed
writes_right = refl

-- ---- a record read by a format buffer into a record buffer: "Reading may name a field twice"
record Reading : Type 0 where
  format : List ℕ
  buffer : List ℕ
  after : List ℕ

readings : List Reading
readings =
    record { format = only_ab; buffer = 0 ∷ 0 ∷ []; after = 0x12 ∷ 0x3F ∷ [] } ∷
    record { format = ab_aa; buffer = 1 ∷ 2 ∷ 3 ∷ 4 ∷ 5 ∷ []; after = 0x12 ∷ 0x3F ∷ 0x58 ∷ 0x59 ∷ 5 ∷ [] } ∷
    record { format = ab_aa_ab; buffer = 1 ∷ 2 ∷ 3 ∷ 4 ∷ 5 ∷ 6 ∷ []; after = 0x12 ∷ 0x3F ∷ 0x58 ∷ 0x59 ∷ 0x12 ∷ 0x3F ∷ [] } ∷
    -- a record buffer that is too short stays as it is
    record { format = ab_aa; buffer = 1 ∷ 2 ∷ 3 ∷ []; after = 1 ∷ 2 ∷ 3 ∷ [] } ∷ []

reading : Reading → Reading
reading r = record {
  format = r.format;
  buffer = r.buffer;
  after = read_fields three r.format (0x58 ∷ 0x59 ∷ 0x12 ∷ 0x3F ∷ 0x37 ∷ []) r.buffer;
}

readings_right : map reading readings ≡ readings
unfolding aa ab ac three only_ab ab_aa ab_aa_ab readings reading field_named places length_needed field_offset record_length fits read_fields
readings_right = refl
