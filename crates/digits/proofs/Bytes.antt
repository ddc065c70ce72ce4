-- Half bytes, byte by byte.
-- Assumes nothing.
use Rattle.std.specs.Prelude.{◌≡◌, refl, ◌&&◌, ◌/◌, ◌%◌, ℕ, List, [], ◌∷◌}
use Rattle.std.specs.List.{list_all}
use Rattle.std.proofs.Common.{ap, ◌∙◌}
use Rattle.std.proofs.Math.Bool.{and_assoc}
use Rattle.lists.specs.Folds.{all}
use Rattle.digits.specs.Digits.{digit, halves}

pub all_halves : (l : List ℕ) → list_all (λ b. digit (b / 16) && digit (b % 16)) l ≡ all digit (halves l)
all_halves [] = refl
all_halves (b ∷ bs) = ap (λ t. (digit (b / 16) && digit (b % 16)) && t) (all_halves bs) ∙ and_assoc (digit (b / 16)) (digit (b % 16)) (all digit (halves bs))
