-- The elements that pass a test, in order, and what folds and maps make of them.
-- Assumes nothing.
use Rattle.std.specs.Prelude.{◌≡◌, refl, Bool, true, false, not, ◌&&◌, ◌||◌, List, [], ◌∷◌, ◌++◌, map, ℕ, ◌+◌, ◌≤◌, eqb, length}
use Rattle.std.proofs.Common.{sym, ◌∙◌, ap, arith, eqb-true}
use Rattle.std.proofs.Math.Bool.{and_comm}
use Rattle.std.proofs.lemmas.Bool.{not-true}
use Rattle.lists.specs.Tests.{not_both, Outcome, holds, fails, outcome, and_left, and_right, and-false, or_left, or_right}
use Rattle.lists.specs.Folds.{any, all, distinct, Each}

module _ {A : Type 0} where
  abbrev pub keep : Bool → A → List A → List A
  keep true x xs = x ∷ xs
  keep false x xs = xs

  abbrev pub sift : (A → Bool) → List A → List A
  sift p [] = []
  sift p (x ∷ xs) = keep (p x) x (sift p xs)

  pub sift_keep : (p : A → Bool) (b : Bool) (x : A) (xs : List A) → sift p (keep b x xs) ≡ keep (b && p x) x (sift p xs)
  sift_keep p true x xs = refl
  sift_keep p false x xs = refl

  pub sift_sift : (p r : A → Bool) (xs : List A) → sift p (sift r xs) ≡ sift (λ x. r x && p x) xs
  sift_sift p r [] = refl
  sift_sift p r (x ∷ xs) = sift_keep p (r x) x (sift r xs) ∙ ap (keep (r x && p x) x) (sift_sift p r xs)

  pub sift_ext : (p r : A → Bool) → ((x : A) → p x ≡ r x) → (xs : List A) → sift p xs ≡ sift r xs
  sift_ext p r h [] = refl
  sift_ext p r h (x ∷ xs) = rw (h x) (ap (keep (r x) x) (sift_ext p r h xs))

  pub sift_comm : (p r : A → Bool) (xs : List A) → sift p (sift r xs) ≡ sift r (sift p xs)
  sift_comm p r xs = sift_sift p r xs ∙ sift_ext (λ x. r x && p x) (λ x. p x && r x) (λ x. and_comm (r x) (p x)) xs ∙ sym (sift_sift r p xs)

  pub sift_map : (p : A → Bool) (f : A → A) → ((x : A) → p (f x) ≡ p x) → (xs : List A) → sift p (map f xs) ≡ map f (sift p xs)
  sift_map p f h [] = refl
  sift_map p f h (x ∷ xs) = rw (h x, sift_map p f h xs) (go (p x))
    where
      go : (b : Bool) → keep b (f x) (map f (sift p xs)) ≡ map f (keep b x (sift p xs))
      go true = refl
      go false = refl

  pub sift_append : (p : A → Bool) (xs ys : List A) → sift p (xs ++ ys) ≡ sift p xs ++ sift p ys
  sift_append p [] ys = refl
  sift_append p (x ∷ xs) ys = rw (sift_append p xs ys) (go (p x))
    where
      go : (b : Bool) → keep b x (sift p xs ++ sift p ys) ≡ keep b x (sift p xs) ++ sift p ys
      go true = refl
      go false = refl

  pub sift_none : (p : A → Bool) (xs : List A) → any p xs ≡ false → sift p xs ≡ []
  sift_none p [] h = refl
  sift_none p (x ∷ xs) h = rw (or_left (p x) (any p xs) h) (sift_none p xs (or_right (p x) (any p xs) h))

  pub any_sift : (p r : A → Bool) (xs : List A) → any r (sift p xs) ≡ any (λ x. p x && r x) xs
  any_sift p r [] = refl
  any_sift p r (x ∷ xs) = go (p x) ∙ ap (λ b. (p x && r x) || b) (any_sift p r xs)
    where
      go : (b : Bool) → any r (keep b x (sift p xs)) ≡ ((b && r x) || any r (sift p xs))
      go true = refl
      go false = refl

  pub all_sift : (p : A → Bool) (xs : List A) → all p (sift p xs) ≡ true
  all_sift p [] = refl
  all_sift p (x ∷ xs) = go (p x) refl (all_sift p xs)
    where
      go : (b : Bool) → p x ≡ b → all p (sift p xs) ≡ true → all p (keep b x (sift p xs)) ≡ true
      go true e i = rw e i
      go false e i = i

  -- a test that holds of all holds of those that are left
  pub all_keeps : (f p : A → Bool) (xs : List A) → all f xs ≡ true → all f (sift p xs) ≡ true
  all_keeps f p [] h = refl
  all_keeps f p (x ∷ xs) h = go (p x) (all_keeps f p xs (and_right (f x) (all f xs) h))
    where
      go : (b : Bool) → all f (sift p xs) ≡ true → all f (keep b x (sift p xs)) ≡ true
      go true i = rw (and_left (f x) (all f xs) h) i
      go false i = i

  pub all_map : (f : A → Bool) (g : A → A) → ((x : A) → f x ≡ true → f (g x) ≡ true) → (xs : List A) → all f xs ≡ true → all f (map g xs) ≡ true
  all_map f g t [] h = refl
  all_map f g t (x ∷ xs) h = rw (t x (and_left (f x) (all f xs) h)) (all_map f g t xs (and_right (f x) (all f xs) h))

-- ---- a number that stands in a list
pub any_elem : (p : ℕ → Bool) (d : ℕ) (xs : List ℕ) → any p xs ≡ false → any (eqb d) xs ≡ true → p d ≡ false
any_elem p d [] h i = absurd (not_both false i refl)
any_elem p d (x ∷ xs) h i = go (eqb d x) refl (any_elem p d xs (or_right (p x) (any p xs) h))
  where
    go : (b : Bool) → eqb d x ≡ b → (any (eqb d) xs ≡ true → p d ≡ false) → p d ≡ false
    go true e f = rw (eqb-true d x e) (or_left (p x) (any p xs) h)
    go false e f = f (rw e at i)

pub elem_all : (p : ℕ → Bool) (d : ℕ) (xs : List ℕ) → all p xs ≡ true → any (eqb d) xs ≡ true → p d ≡ true
elem_all p d [] h i = absurd (not_both false i refl)
elem_all p d (x ∷ xs) h i = go (eqb d x) refl (elem_all p d xs (and_right (p x) (all p xs) h))
  where
    go : (b : Bool) → eqb d x ≡ b → (any (eqb d) xs ≡ true → p d ≡ true) → p d ≡ true
    go true e f = rw (eqb-true d x e) (and_left (p x) (all p xs) h)
    go false e f = f (rw e at i)

-- ---- what is left of a list
module _ {A : Type 0} where
  -- it passes a test that those that stay pass
  pub all_left : (p r q : A → Bool) → ((x : A) → p x ≡ true → r x ≡ true → q x ≡ true) → (xs : List A) → all p xs ≡ true → all q (sift r xs) ≡ true
  all_left p r q f [] h = refl
  all_left p r q f (x ∷ xs) h = go (outcome (r x)) (all_left p r q f xs (and_right (p x) (all p xs) h))
    where
      go : Outcome (r x) → all q (sift r xs) ≡ true → all q (sift r (x ∷ xs)) ≡ true
      go (holds t) i = rw (t, f x (and_left (p x) (all p xs) h) t) i
      go (fails t) i = rw t i

  -- it is the list, where each element stays
  pub sift_all : (p : A → Bool) (xs : List A) → all p xs ≡ true → sift p xs ≡ xs
  sift_all p [] h = refl
  sift_all p (x ∷ xs) h = rw (and_left (p x) (all p xs) h) (ap (λ l. x ∷ l) (sift_all p xs (and_right (p x) (all p xs) h)))

  -- and where none goes
  pub sift_rest : (p : A → Bool) (xs : List A) → any p xs ≡ false → sift (λ x. not (p x)) xs ≡ xs
  sift_rest p [] h = refl
  sift_rest p (x ∷ xs) h = rw (or_left (p x) (any p xs) h) (ap (λ l. x ∷ l) (sift_rest p xs (or_right (p x) (any p xs) h)))

  -- it is no longer
  pub length_sift : (p : A → Bool) (l : List A) → length (sift p l) ≤ length l
  length_sift p [] = omega arith
  length_sift p (x ∷ l) = go (p x) (length_sift p l)
    where
      go : (b : Bool) → length (sift p l) ≤ length l → length (keep b x (sift p l)) ≤ length (x ∷ l)
      go true h = omega arith
      go false h = omega arith

  -- and with what went as long
  pub length_parts : (p : A → Bool) (l : List A) → length (sift (λ x. not (p x)) l) + length (sift p l) ≡ length l
  length_parts p [] = refl
  length_parts p (x ∷ l) = go (p x) (length_parts p l)
    where
      go : (b : Bool) → length (sift (λ y. not (p y)) l) + length (sift p l) ≡ length l → length (keep (not b) x (sift (λ y. not (p y)) l)) + length (keep b x (sift p l)) ≡ length (x ∷ l)
      go true later = omega (arith, later)
      go false later = omega (arith, later)

-- what a function makes of it
pub sift_over : {A B : Type 0} (f : A → B) (p : B → Bool) (l : List A) → sift p (map f l) ≡ map f (sift (λ x. p (f x)) l)
sift_over f p [] = refl
sift_over f p (x ∷ l) = rw (sift_over f p l) (go (p (f x)))
  where
    go : (b : Bool) → keep b (f x) (map f (sift (λ y. p (f y)) l)) ≡ map f (keep b x (sift (λ y. p (f y)) l))
    go true = refl
    go false = refl

pub each_sift : {A : Type 0} (P : A → Type 0) (p : A → Bool) (l : List A) → Each P l → Each P (sift p l)
each_sift P p [] h = tt
each_sift P p (x ∷ l) h = go (p x) (each_sift P p l h.1)
  where
    go : (b : Bool) → Each P (sift p l) → Each P (keep b x (sift p l))
    go true r = (h.0, r)
    go false r = r

module _ {A : Type 0} where
  -- what is in no element is in none of those that are left
  pub any_left : (p r : A → Bool) (l : List A) → any r l ≡ false → any r (sift p l) ≡ false
  any_left p r [] h = refl
  any_left p r (x ∷ l) h = go (p x) (any_left p r l (or_right (r x) (any r l) h))
    where
      go : (b : Bool) → any r (sift p l) ≡ false → any r (keep b x (sift p l)) ≡ false
      go true i = rw (or_left (r x) (any r l) h) i
      go false i = i

  pub distinct_sift : (like : A → A → Bool) (p : A → Bool) (l : List A) → distinct like l ≡ true → distinct like (sift p l) ≡ true
  distinct_sift like p [] h = refl
  distinct_sift like p (x ∷ l) h = go (p x) (distinct_sift like p l (and_right (not (any (like x) l)) (distinct like l) h))
    where
      go : (b : Bool) → distinct like (sift p l) ≡ true → distinct like (keep b x (sift p l)) ≡ true
      go true i = rw (any_left p (like x) l (not-true (any (like x) l) (and_left (not (any (like x) l)) (distinct like l) h))) i
      go false i = i

-- an element of a list that passes a test
pub elem_both : (q : ℕ → Bool) (f : ℕ) (xs : List ℕ) → any (eqb f) xs ≡ true → q f ≡ true → any (λ x. q x && eqb f x) xs ≡ true
elem_both q f [] h t = h
elem_both q f (x ∷ xs) h t = go (outcome (eqb f x)) (elem_both q f xs)
  where
    go : Outcome (eqb f x) → (any (eqb f) xs ≡ true → q f ≡ true → any (λ y. q y && eqb f y) xs ≡ true) → any (λ y. q y && eqb f y) (x ∷ xs) ≡ true
    go (holds e) later = let same : f ≡ x = eqb-true f x e in rw (e, ← same, t)
    go (fails e) later = rw (e, and-false (q x)) (later (rw e at h) t)
