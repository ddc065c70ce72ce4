-- A list and its image under a function, and tests of either.
-- Assumes nothing.
use Rattle.std.specs.Prelude.{◌≡◌, refl, ℕ, zero, suc, List, [], ◌∷◌, map, Bool, true, ◌&&◌, ◌||◌, eqb, take, set}
use Rattle.std.proofs.Common.{ap, eqb-true, eq-eqb}
use Rattle.lists.specs.Tests.{Outcome, holds, fails, outcome, or-true}
use Rattle.lists.specs.Folds.{all, any, distinct}

module _ {A B : Type 0} (f : A → B) where
  pub take_map : (i : ℕ) (l : List A) → take i (map f l) ≡ map f (take i l)
  take_map zero l = refl
  take_map (suc i) [] = refl
  take_map (suc i) (x ∷ l) = ap (λ t. f x ∷ t) (take_map i l)

  pub map_set : (l : List A) (i : ℕ) (x : A) → map f (set l i x) ≡ set (map f l) i (f x)
  map_set [] i x = refl
  map_set (y ∷ l) zero x = refl
  map_set (y ∷ l) (suc i) x = ap (λ t. f y ∷ t) (map_set l i x)

-- ---- tests over what a function makes of a list
pub all_over : {A B : Type 0} (f : A → B) (p : B → Bool) (l : List A) → all p (map f l) ≡ all (λ x. p (f x)) l
all_over f p [] = refl
all_over f p (x ∷ l) = ap (λ b. p (f x) && b) (all_over f p l)

pub any_over : {A B : Type 0} (f : A → B) (p : B → Bool) (l : List A) → any p (map f l) ≡ any (λ x. p (f x)) l
any_over f p [] = refl
any_over f p (x ∷ l) = ap (λ b. p (f x) || b) (any_over f p l)

-- an element among what a function makes of a list
pub elem_map : (f : ℕ → ℕ) (n : ℕ) (l : List ℕ) → any (eqb n) l ≡ true → any (eqb (f n)) (map f l) ≡ true
elem_map f n [] h = h
elem_map f n (x ∷ l) h = go (outcome (eqb n x)) (elem_map f n l)
  where
    go : Outcome (eqb n x) → (any (eqb n) l ≡ true → any (eqb (f n)) (map f l) ≡ true) → any (eqb (f n)) (map f (x ∷ l)) ≡ true
    go (holds e) later = rw (eq-eqb (f n) (f x) (ap f (eqb-true n x e)))
    go (fails e) later = rw (later (rw e at h)) (or-true (eqb (f n) (f x)))

pub distinct_over : {A B : Type 0} (f : A → B) (like : B → B → Bool) (l : List A) → distinct (λ x y. like (f x) (f y)) l ≡ distinct like (map f l)
distinct_over f like [] = refl
distinct_over f like (x ∷ l) = rw (distinct_over f like l, any_over f (like (f x)) l)
