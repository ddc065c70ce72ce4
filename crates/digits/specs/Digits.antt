-- Digits and signs of a value, and which values are allowed, by the field's format (document 01, 'Files and their definition').
use Rattle.std.specs.Prelude.{ℕ, ◌-◌, ◌/◌, ◌%◌, Bool, true, ◌&&◌, ◌||◌, List, [], ◌∷◌, ◌++◌, eqb, leb, length, get_or, take}
use Rattle.lists.specs.Tests.{within}
use Rattle.lists.specs.Folds.{all}
use Rattle.definition.specs.declared.Format.{Format}
use Rattle.definition.specs.declared.Format.TheVariants.{Alphanumeric, Binary, Unpacked, Packed}

-- ---- "`U` digits X'30' to X'39'"
abbrev pub unpacked_digit : ℕ → Bool
unpacked_digit b = within 0x30 0x39 b

-- ---- "Packed: two digits a byte, the last half byte a sign"; "A, C, E and F are now positive, B and D negative" (document 02, No. 2)
abbrev pub digit : ℕ → Bool
digit h = leb h 9

abbrev pub positive_sign : ℕ → Bool
positive_sign h = eqb h 0xA || eqb h 0xC || eqb h 0xE || eqb h 0xF

abbrev pub negative_sign : ℕ → Bool
negative_sign h = eqb h 0xB || eqb h 0xD

-- the two half bytes of each byte
abbrev pub halves : List ℕ → List ℕ
halves [] = []
halves (b ∷ bs) = b / 16 ∷ b % 16 ∷ halves bs

-- the last byte, 0 where there is none, and those before it
abbrev pub last : List ℕ → ℕ
last v = get_or v (length v - 1) 0

abbrev pub front : List ℕ → List ℕ
front v = take (length v - 1) v

abbrev pub digits : List ℕ → List ℕ
digits v = halves (front v) ++ last v / 16 ∷ []

abbrev pub sign : List ℕ → ℕ
sign v = last v % 16

-- ---- "a digit or sign not allowed" (55), said the other way. Packed bytes need a sign, so no byte at all is not allowed there
unfoldable pub allowed : Format → List ℕ → Bool
allowed Alphanumeric v = true
allowed Binary v = true
allowed Unpacked v = all unpacked_digit v
allowed Packed v = all digit (digits v) && (positive_sign (sign v) || negative_sign (sign v))
