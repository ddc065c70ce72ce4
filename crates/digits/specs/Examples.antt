-- Worked examples: which of all numbers that a byte can be are digits, positive signs and negative signs. Values are in `values`, `Examples`.
-- Assumes nothing.
use Rattle.std.specs.Prelude.{◌≡◌, refl, [], ◌∷◌}
use Rattle.lists.specs.Numbers.{numbers}
use Rattle.lists.specs.Sift.{sift}
use Rattle.digits.specs.Digits.{digit, positive_sign, negative_sign}

digits_are : sift digit (numbers 256 0) ≡ numbers 10 0
digits_are = refl

-- "A, C, E and F are now positive, B and D negative" (document 02, No. 2)
positive_are : sift positive_sign (numbers 256 0) ≡ 0xA ∷ 0xC ∷ 0xE ∷ 0xF ∷ []
positive_are = refl

negative_are : sift negative_sign (numbers 256 0) ≡ 0xB ∷ 0xD ∷ []
negative_are = refl
