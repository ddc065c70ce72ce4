-- What a chain of iterators finds, in this crate's words: the library's `list_all` and `list_any` are `all` and `any`.
-- Assumes nothing.
use Rattle.std.specs.Prelude.{◌≡◌, refl, Bool, ◌&&◌, ◌||◌, List, [], ◌∷◌, map}
use Rattle.std.specs.List.{list_all, list_any}
use Rattle.std.proofs.Common.{ap}
use Rattle.lists.specs.Folds.{all, any}

module _ {A : Type 0} (p : A → Bool) where
  pub all_listed : (l : List A) → list_all p l ≡ all p l
  all_listed [] = refl
  all_listed (x ∷ xs) = ap (λ b. p x && b) (all_listed xs)

  pub any_listed : (l : List A) → list_any p l ≡ any p l
  any_listed [] = refl
  any_listed (x ∷ xs) = ap (λ b. p x || b) (any_listed xs)

  pub all_map : {X : Type 0} (f : X → A) (l : List X) → all p (map f l) ≡ all (λ x. p (f x)) l
  all_map f [] = refl
  all_map f (x ∷ xs) = ap (λ b. p (f x) && b) (all_map f xs)

  pub any_map : {X : Type 0} (f : X → A) (l : List X) → any p (map f l) ≡ any (λ x. p (f x)) l
  any_map f [] = refl
  any_map f (x ∷ xs) = ap (λ b. p (f x) || b) (any_map f xs)
