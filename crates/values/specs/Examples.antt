-- Worked examples: the definitions computed on values of each format, rows of one table checked by one law; then null values likewise.
-- Assumes nothing.
use Rattle.std.specs.Prelude.{ℕ, ◌≡◌, refl, Bool, true, false, List, [], ◌∷◌, ◌++◌, map, length}
use Rattle.digits.specs.Digits.{allowed}
use Rattle.values.specs.Values.{below_zero, stored, null_value, Decimal, decimal}
use Rattle.definition.specs.declared.Format.{Format}
use Rattle.definition.specs.declared.Format.TheVariants.{Alphanumeric, Binary, Unpacked, Packed}

-- a value as given: whether it is allowed, its stored form, and the number that it means
record Row : Type 0 where
  format : Format
  given : List ℕ
  good : Bool
  form : List ℕ
  number : Decimal

plus : ℕ → Decimal
plus n = record { negative = false; magnitude = n }

minus : ℕ → Decimal
minus n = record { negative = true; magnitude = n }

-- "X'00500C' stored X'00500F'; X'00000D' stored X'00000F'" (document 01, 'Marked for proof'); signs of document 01; those of document 02, No. 2, and
-- zeros with them; half bytes that are no signs; bad digits
packed : List Row
packed =
    record { format = Packed; given = 0x00 ∷ 0x50 ∷ 0x0C ∷ []; good = true; form = 0x00 ∷ 0x50 ∷ 0x0F ∷ []; number = plus 500 } ∷
    record { format = Packed; given = 0x00 ∷ 0x00 ∷ 0x0D ∷ []; good = true; form = 0x00 ∷ 0x00 ∷ 0x0F ∷ []; number = plus 0 } ∷
    record { format = Packed; given = 0x00 ∷ 0x12 ∷ 0x3D ∷ []; good = true; form = 0x00 ∷ 0x12 ∷ 0x3D ∷ []; number = minus 123 } ∷
    record { format = Packed; given = 0x00 ∷ 0x12 ∷ 0x3F ∷ []; good = true; form = 0x00 ∷ 0x12 ∷ 0x3F ∷ []; number = plus 123 } ∷
    record { format = Packed; given = 0x00 ∷ 0x12 ∷ 0x3C ∷ []; good = true; form = 0x00 ∷ 0x12 ∷ 0x3F ∷ []; number = plus 123 } ∷
    record { format = Packed; given = 0x10 ∷ 0x0D ∷ []; good = true; form = 0x10 ∷ 0x0D ∷ []; number = minus 100 } ∷
    record { format = Packed; given = 0x5D ∷ []; good = true; form = 0x5D ∷ []; number = minus 5 } ∷
    record { format = Packed; given = 0x0D ∷ []; good = true; form = 0x0F ∷ []; number = plus 0 } ∷
    record { format = Packed; given = 0x99 ∷ 0x9C ∷ []; good = true; form = 0x99 ∷ 0x9F ∷ []; number = plus 999 } ∷
    record { format = Packed; given = 0x5A ∷ []; good = true; form = 0x5F ∷ []; number = plus 5 } ∷
    record { format = Packed; given = 0x5B ∷ []; good = true; form = 0x5D ∷ []; number = minus 5 } ∷
    record { format = Packed; given = 0x5E ∷ []; good = true; form = 0x5F ∷ []; number = plus 5 } ∷
    record { format = Packed; given = 0x10 ∷ 0x0B ∷ []; good = true; form = 0x10 ∷ 0x0D ∷ []; number = minus 100 } ∷
    record { format = Packed; given = 0x0B ∷ []; good = true; form = 0x0F ∷ []; number = plus 0 } ∷
    record { format = Packed; given = 0x00 ∷ 0x00 ∷ 0x0B ∷ []; good = true; form = 0x00 ∷ 0x00 ∷ 0x0F ∷ []; number = plus 0 } ∷
    record { format = Packed; given = 0x00 ∷ 0x0A ∷ []; good = true; form = 0x00 ∷ 0x0F ∷ []; number = plus 0 } ∷
    record { format = Packed; given = 0x59 ∷ []; good = false; form = 0x5F ∷ []; number = plus 5 } ∷
    record { format = Packed; given = 0x50 ∷ []; good = false; form = 0x5F ∷ []; number = plus 5 } ∷
    record { format = Packed; given = 0xA1 ∷ 0x2B ∷ []; good = false; form = 0xA1 ∷ 0x2D ∷ []; number = minus 12 } ∷
    record { format = Packed; given = 0xA1 ∷ 0x2D ∷ []; good = false; form = 0xA1 ∷ 0x2D ∷ []; number = minus 12 } ∷
    record { format = Packed; given = 0x1A ∷ 0x2D ∷ []; good = false; form = 0x1A ∷ 0x2D ∷ []; number = minus 102 } ∷
    record { format = Packed; given = 0x12 ∷ 0xAC ∷ []; good = false; form = 0x12 ∷ 0xAF ∷ []; number = plus 120 } ∷
    record { format = Packed; given = 0x0A ∷ 0x0D ∷ []; good = false; form = 0x0A ∷ 0x0D ∷ []; number = plus 0 } ∷
    record { format = Packed; given = 0x0A ∷ 0x0B ∷ []; good = false; form = 0x0A ∷ 0x0D ∷ []; number = plus 0 } ∷
    record { format = Packed; given = []; good = false; form = []; number = plus 0 } ∷ []

others : List Row
others =
    record { format = Unpacked; given = 0x30 ∷ 0x31 ∷ 0x39 ∷ []; good = true; form = 0x30 ∷ 0x31 ∷ 0x39 ∷ []; number = plus 19 } ∷
    record { format = Unpacked; given = 0x2F ∷ 0x31 ∷ []; good = false; form = 0x2F ∷ 0x31 ∷ []; number = plus 1 } ∷
    record { format = Unpacked; given = 0x31 ∷ 0x3A ∷ []; good = false; form = 0x31 ∷ 0x3A ∷ []; number = plus 10 } ∷
    record { format = Unpacked; given = 0xF1 ∷ []; good = false; form = 0xF1 ∷ []; number = plus 0 } ∷
    record { format = Unpacked; given = []; good = true; form = []; number = plus 0 } ∷
    record { format = Alphanumeric; given = 0x00 ∷ 0x3D ∷ 0xFF ∷ []; good = true; form = 0x00 ∷ 0x3D ∷ 0xFF ∷ []; number = plus 0 } ∷
    record { format = Binary; given = 0x00 ∷ 0x3D ∷ 0xFF ∷ []; good = true; form = 0x00 ∷ 0x3D ∷ 0xFF ∷ []; number = plus 0 } ∷ []

computed : Row → Row
computed r = record {
  format = r.format;
  given = r.given;
  good = allowed r.format r.given;
  form = stored r.format r.given;
  number = decimal r.format r.given;
}

rows : List Row
rows = packed ++ others

rows_right : map computed rows ≡ rows
unfolding rows packed others plus minus computed allowed below_zero stored decimal
rows_right = refl

-- "Nulls: `A` blanks X'20', `B` zeros, `U` zeros X'30', `P` zero with F"
record Null : Type 0 where
  format : Format
  bytes : List ℕ

nulls : List Null
nulls =
    record { format = Alphanumeric; bytes = 0x20 ∷ 0x20 ∷ [] } ∷
    record { format = Binary; bytes = 0x00 ∷ 0x00 ∷ [] } ∷
    record { format = Unpacked; bytes = 0x30 ∷ 0x30 ∷ [] } ∷
    record { format = Packed; bytes = 0x00 ∷ 0x0F ∷ [] } ∷
    record { format = Packed; bytes = 0x0F ∷ [] } ∷
    record { format = Packed; bytes = [] } ∷ []

nulled : Null → Null
nulled n = record { format = n.format; bytes = null_value n.format (length n.bytes) }

nulls_right : map nulled nulls ≡ nulls
unfolding nulls nulled null_value
nulls_right = refl
