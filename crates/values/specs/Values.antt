-- One value of a field, a row of bytes, by the field's format (document 01, 'Files and their definition'): the form in which it is stored, the
-- null value, and the number that it means.
use Rattle.std.specs.Prelude.{ℕ, ◌+◌, ◌-◌, ◌*◌, ◌/◌, Bool, false, not, ◌&&◌, List, [], ◌∷◌, map, eqb, length, set, replicate}
use Rattle.lists.specs.Tests.{cond}
use Rattle.lists.specs.Folds.{any}
use Rattle.definition.specs.declared.Format.{Format}
use Rattle.definition.specs.declared.Format.TheVariants.{Alphanumeric, Binary, Unpacked, Packed}
use Rattle.digits.specs.Digits.{unpacked_digit, digit, negative_sign, last, digits, sign}

-- ---- "It is stored with F or D, and a zero always with F": of any bytes, whether allowed or not
abbrev pub not_zero : ℕ → Bool
not_zero h = not (eqb h 0)

-- below zero: a negative sign, and some digit that is not zero
unfoldable pub below_zero : List ℕ → Bool
below_zero v = negative_sign (sign v) && any not_zero (digits v)

abbrev pub stored_sign : List ℕ → ℕ
stored_sign v = cond (below_zero v) 0xD 0xF

abbrev pub with_sign : List ℕ → ℕ → List ℕ
with_sign v s = set v (length v - 1) (last v / 16 * 16 + s)

unfoldable pub stored : Format → List ℕ → List ℕ
stored Alphanumeric v = v
stored Binary v = v
stored Unpacked v = v
stored Packed v = with_sign v (stored_sign v)

-- ---- "Nulls: `A` blanks X'20', `B` zeros, `U` zeros X'30', `P` zero with F", of a length
-- the byte that is repeated; of `P` the last one is another
abbrev pub null_byte : Format → ℕ
null_byte Alphanumeric = 0x20
null_byte Binary = 0
null_byte Unpacked = 0x30
null_byte Packed = 0

unfoldable pub null_value : Format → ℕ → List ℕ
null_value Alphanumeric n = replicate n (null_byte Alphanumeric)
null_value Binary n = replicate n (null_byte Binary)
null_value Unpacked n = replicate n (null_byte Unpacked)
null_value Packed n = set (replicate n (null_byte Packed)) (n - 1) 0x0F

-- ---- "read as a number, a bad digit is 0 and any sign but" B or "D positive" (document 02, No. 2: "in lent stored bytes too"); a zero is not
-- negative. `A` and `B` mean no number
pub record Decimal : Type 0 where
  pub negative : Bool
  pub magnitude : ℕ

abbrev pub unpacked_value : ℕ → ℕ
unpacked_value b = cond (unpacked_digit b) (b - 0x30) 0

abbrev pub digit_value : ℕ → ℕ
digit_value h = cond (digit h) h 0

-- the number of a row of digits after the number n of those before
abbrev pub number_after : ℕ → List ℕ → ℕ
number_after n [] = n
number_after n (d ∷ ds) = number_after (n * 10 + d) ds

abbrev pub signed : Bool → ℕ → Decimal
signed s n = record { negative = s && not_zero n; magnitude = n }

unfoldable pub decimal : Format → List ℕ → Decimal
decimal Alphanumeric v = signed false 0
decimal Binary v = signed false 0
decimal Unpacked v = signed false (number_after 0 (map unpacked_value v))
decimal Packed v = signed (negative_sign (sign v)) (number_after 0 (map digit_value (digits v)))
