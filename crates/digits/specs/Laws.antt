-- What is allowed, format by format; packed digits: both half bytes of every byte but the last, and the high one of the last; signs: every other
-- half byte.
-- Assumes nothing.
use Rattle.std.specs.Prelude.{ℕ, ◌/◌, ◌<◌, ◌≡◌, Bool, true, not, ◌&&◌, ◌||◌, List, [], ◌∷◌}
use Rattle.std.proofs.Common.{arith}
use Rattle.std.proofs.Math.Path.{refl}
use Rattle.std.proofs.Math.Bool.{and-true}
use Rattle.lists.specs.Tests.{within}
use Rattle.lists.specs.Folds.{all, all_append}
use Rattle.lists.specs.Numbers.{same_below}
use Rattle.digits.specs.Digits.{unpacked_digit, digit, positive_sign, negative_sign, halves, front, last, digits, sign, allowed}
use Rattle.definition.specs.declared.Format.TheVariants.{Alphanumeric, Binary, Unpacked, Packed}

pub all_digits : (v : List ℕ) → all digit (digits v) ≡ (all digit (halves (front v)) && digit (last v / 16))
all_digits v = rw (all_append digit (halves (front v)) (last v / 16 ∷ []), and-true (digit (last v / 16)))

-- ---- signs, by one check of all numbers that a byte can be, and one of all half bytes
abbrev a_sign : ℕ → Bool
a_sign h = positive_sign h || negative_sign h

pub sign_is : (h : ℕ) → h < 256 → (positive_sign h || negative_sign h) ≡ within 0xA 0xF h
sign_is = same_below a_sign (within 0xA 0xF) 256 refl

sign_no_digit : (h : ℕ) → h < 16 → (positive_sign h || negative_sign h) ≡ not (digit h)
sign_no_digit = same_below a_sign (λ h. not (digit h)) 16 refl

module _ (v : List ℕ) where
  pub plain_allowed : allowed Alphanumeric v ≡ true
  unfolding allowed
  plain_allowed = refl

  pub binary_allowed : allowed Binary v ≡ true
  unfolding allowed
  binary_allowed = refl

  pub unpacked_allowed : allowed Unpacked v ≡ all unpacked_digit v
  unfolding allowed
  unpacked_allowed = refl

  pub packed_allowed : allowed Packed v ≡ (all digit (digits v) && (positive_sign (sign v) || negative_sign (sign v)))
  unfolding allowed
  packed_allowed = refl

  -- "55 is then given only for the half bytes 0 to 9 in the sign's place or a bad digit" (document 02, No. 2)
  pub packed_refused : allowed Packed v ≡ (all digit (digits v) && not (digit (sign v)))
  packed_refused = rw (packed_allowed, sign_no_digit (sign v) (omega arith))
