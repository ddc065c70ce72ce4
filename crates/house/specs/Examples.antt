-- Worked examples: the bytes behind an item's kind.
-- Assumes nothing.
use Rattle.std.specs.Prelude.{◌≡◌, refl, [], ◌∷◌, map, Some, None}
use Rattle.house.specs.House.{rest_of_item}

kinds : map rest_of_item (0 ∷ 1 ∷ 2 ∷ 3 ∷ 255 ∷ []) ≡ Some 0 ∷ Some 3 ∷ Some 5 ∷ None ∷ None ∷ []
unfolding rest_of_item
kinds = refl
