-- What an array's `map` gives, where its closure computes f: the list's map.
-- Assumes nothing.
use Rattle.std.specs.Prelude.{◌≡◌, ℕ, ◌<◌, List, [], ◌∷◌, map, length}
use Rattle.std.specs.Array.{IsMapOf}
use Rattle.std.specs.Fn.{Called}
use Rattle.std.proofs.Common.{arith, sym, ◌∙◌}
use Rattle.std.proofs.lemmas.List.{ext_get_or, get_or-map, length-map}
use Rattle.lists.specs.Rest.{empty}
use denote.Param.Members.{Mut}

module _ {F A B : Type 0} (g : Mut F (A × Unit {0}) B) (f : A → B) where
  pub array_map : (s : F) (n : ℕ) (xs : List A) (ys : List B) → length xs ≡ n → IsMapOf g s xs ys n → ((x : A) (y : B) (p q : F) → Called g p (x, tt) y q → y ≡ f x) → ys ≡ map f xs
  array_map s n [] ys e h pure = empty ys (omega (arith, h.long))
  array_map s n (x ∷ xs) ys e h pure =
      let size : length ys ≡ length (map f (x ∷ xs)) = h.long ∙ sym e ∙ sym (length-map (x ∷ xs) f) in
      ext_get_or (f x) ys (map f (x ∷ xs)) size (λ i k.
      let m : i < length (x ∷ xs) = omega (arith, h.long) in
      let at = h.at i x (f x) (omega (arith, h.long)) in
      pure _ _ at.0 at.1 at.2 ∙ sym (get_or-map f (x ∷ xs) i x (f x) m))
