-- Folds over lists: every, some, a sum, a maximum, no two alike; and their laws.
-- Assumes nothing.
use Rattle.std.specs.Prelude.{◌≡◌, refl, Bool, true, false, not, ◌&&◌, ◌||◌, List, [], ◌∷◌, ◌++◌, ℕ, zero, suc, ◌+◌, ◌*◌, ◌≤◌, ◌<◌, max, length, take, get_or, set, replicate}
use Rattle.std.proofs.Common.{sym, suc-le-suc, not-suc-le-zero, le_of_suc-le-suc, arith}
use Rattle.std.proofs.Math.Bool.{and_assoc, or_assoc}
use Rattle.std.proofs.lemmas.Bool.{not-true}
use Rattle.lists.specs.Tests.{and-false, and_left, and_right, or_left, or_right, not_both, Outcome, holds, fails, outcome}

module _ {A : Type 0} where
  abbrev pub all : (A → Bool) → List A → Bool
  all p [] = true
  all p (x ∷ xs) = p x && all p xs

  abbrev pub any : (A → Bool) → List A → Bool
  any p [] = false
  any p (x ∷ xs) = p x || any p xs

  -- the sum of f over the elements
  abbrev pub total : (A → ℕ) → List A → ℕ
  total f [] = 0
  total f (x ∷ xs) = f x + total f xs

  -- the maximum of f over the elements, 0 for none
  abbrev pub maximum : (A → ℕ) → List A → ℕ
  maximum f [] = 0
  maximum f (x ∷ xs) = max (f x) (maximum f xs)

  -- no element is like a later one
  abbrev pub distinct : (A → A → Bool) → List A → Bool
  distinct like [] = true
  distinct like (x ∷ xs) = not (any (like x) xs) && distinct like xs

  -- every element passes the test, and no two are alike
  abbrev pub sound : (A → Bool) → (A → A → Bool) → List A → Bool
  sound ok like xs = all ok xs && distinct like xs

  -- every element has the property
  abbrev pub Each : (A → Type 0) → List A → Type 0
  Each P [] = Unit {0}
  Each P (x ∷ xs) = P x × Each P xs

  pub each_at : (P : A → Type 0) (l : List A) (d : A) → Each P l → (i : ℕ) → i < length l → P (get_or l i d)
  each_at P [] d h i k = absurd (not-suc-le-zero k)
  each_at P (x ∷ xs) d h zero k = h.0
  each_at P (x ∷ xs) d h (suc i) k = each_at P xs d h.1 i (le_of_suc-le-suc k)

  -- a list reads past its end as the default
  pub each_getD : (P : A → Type 0) (l : List A) (d : A) → Each P l → P d → (i : ℕ) → P (get_or l i d)
  each_getD P [] d h k i = k
  each_getD P (x ∷ xs) d h k zero = h.0
  each_getD P (x ∷ xs) d h k (suc i) = each_getD P xs d h.1 k i

  pub each_index : (P : A → Type 0) (d : A) (l : List A) → ((i : ℕ) → i < length l → P (get_or l i d)) → Each P l
  each_index P d [] h = tt
  each_index P d (x ∷ xs) h = (h zero (omega arith), each_index P d xs (λ i k. h (suc i) (suc-le-suc k)))

  pub each_take : (P : A → Type 0) (n : ℕ) (l : List A) → Each P l → Each P (take n l)
  each_take P zero l h = tt
  each_take P (suc n) [] h = tt
  each_take P (suc n) (x ∷ xs) h = (h.0, each_take P n xs h.1)

  -- ---- at an index
  pub all_at : (p : A → Bool) (l : List A) (d : A) → all p l ≡ true → (i : ℕ) → i < length l → p (get_or l i d) ≡ true
  all_at p [] d h i k = absurd (not-suc-le-zero k)
  all_at p (x ∷ xs) d h zero k = and_left (p x) (all p xs) h
  all_at p (x ∷ xs) d h (suc i) k = all_at p xs d (and_right (p x) (all p xs) h) i (le_of_suc-le-suc k)

  pub any_at : (p : A → Bool) (l : List A) (d : A) → any p l ≡ false → (i : ℕ) → i < length l → p (get_or l i d) ≡ false
  any_at p [] d h i k = absurd (not-suc-le-zero k)
  any_at p (x ∷ xs) d h zero k = or_left (p x) (any p xs) h
  any_at p (x ∷ xs) d h (suc i) k = any_at p xs d (or_right (p x) (any p xs) h) i (le_of_suc-le-suc k)

  pub distinct_at : (like : A → A → Bool) (l : List A) (d : A) → distinct like l ≡ true → (i j : ℕ) → i < j → j < length l → like (get_or l i d) (get_or l j d) ≡ false
  distinct_at like [] d h i j b k = absurd (not-suc-le-zero k)
  distinct_at like (x ∷ xs) d h zero zero b k = absurd (not-suc-le-zero b)
  distinct_at like (x ∷ xs) d h zero (suc j) b k =
      any_at (like x) xs d (not-true (any (like x) xs) (and_left (not (any (like x) xs)) (distinct like xs) h)) j (le_of_suc-le-suc k)
  distinct_at like (x ∷ xs) d h (suc i) zero b k = absurd (not-suc-le-zero b)
  distinct_at like (x ∷ xs) d h (suc i) (suc j) b k =
      distinct_at like xs d (and_right (not (any (like x) xs)) (distinct like xs) h) i j (le_of_suc-le-suc b) (le_of_suc-le-suc k)

  -- ---- a list in two parts, of equal elements, with one element changed
  pub all_append : (p : A → Bool) (xs ys : List A) → all p (xs ++ ys) ≡ (all p xs && all p ys)
  all_append p [] ys = refl
  all_append p (x ∷ xs) ys = rw (all_append p xs ys) (sym (and_assoc (p x) (all p xs) (all p ys)))

  pub any_append : (p : A → Bool) (xs ys : List A) → any p (xs ++ ys) ≡ (any p xs || any p ys)
  any_append p [] ys = refl
  any_append p (x ∷ xs) ys = rw (any_append p xs ys) (sym (or_assoc (p x) (any p xs) (any p ys)))

  pub all_replicate : (p : A → Bool) (n : ℕ) (x : A) → p x ≡ true → all p (replicate n x) ≡ true
  all_replicate p zero x h = refl
  all_replicate p (suc n) x h = rw h (all_replicate p n x h)

  pub each_replicate : (P : A → Type 0) (n : ℕ) (x : A) → P x → Each P (replicate n x)
  each_replicate P zero x h = tt
  each_replicate P (suc n) x h = (h, each_replicate P n x h)

  pub each_set : (P : A → Type 0) (l : List A) (i : ℕ) (x : A) → Each P l → P x → Each P (set l i x)
  each_set P [] i x h k = tt
  each_set P (y ∷ ys) zero x h k = (k, h.1)
  each_set P (y ∷ ys) (suc i) x h k = (h.0, each_set P ys i x h.1 k)

  -- ---- some element
  pub any_agree : (p q : A → Bool) → ((x : A) → p x ≡ q x) → (l : List A) → any p l ≡ any q l
  any_agree p q h [] = refl
  any_agree p q h (x ∷ xs) = rw (h x, any_agree p q h xs)

  pub any_none : (p : A → Bool) → ((x : A) → p x ≡ false) → (l : List A) → any p l ≡ false
  any_none p h [] = refl
  any_none p h (x ∷ xs) = rw (h x) (any_none p h xs)

  pub any_true : (p : A → Bool) (l : List A) → any p l ≡ true → (x : A) × (p x ≡ true)
  any_true p [] h = not_both false h refl
  any_true p (x ∷ xs) h = go (outcome (p x)) (any_true p xs)
    where
      go : Outcome (p x) → (any p xs ≡ true → (y : A) × (p y ≡ true)) → (y : A) × (p y ≡ true)
      go (holds t) later = (x, t)
      go (fails t) later = later (rw t at h)

  -- ---- sums
  -- n numbers that are at most m
  pub total_most : (f : A → ℕ) (m : ℕ) (l : List A) → Each (λ x. f x ≤ m) l → total f l ≤ length l * m
  total_most f m [] h = omega arith
  total_most f m (x ∷ xs) h = omega (arith, h.0, total_most f m xs h.1)

  -- a part from the front adds up to no more than a longer one
  pub total_take : (f : A → ℕ) (i j : ℕ) (l : List A) → i ≤ j → total f (take i l) ≤ total f (take j l)
  total_take f zero j l h = omega arith
  total_take f (suc i) zero l h = absurd (not-suc-le-zero h)
  total_take f (suc i) (suc j) [] h = omega arith
  total_take f (suc i) (suc j) (x ∷ xs) h = omega (arith, total_take f i j xs (le_of_suc-le-suc h))

  -- the part up to an element, and the element, add up to the part with it
  pub total_next : (f : A → ℕ) (i : ℕ) (l : List A) (d : A) → i < length l → total f (take (suc i) l) ≡ total f (take i l) + f (get_or l i d)
  total_next f i [] d h = absurd (not-suc-le-zero h)
  total_next f zero (x ∷ xs) d h = omega arith
  total_next f (suc i) (x ∷ xs) d h = omega (arith, total_next f i xs d (le_of_suc-le-suc h))

  -- ---- one element of a list that is to be sound
  module _ (ok : A → Bool) (like : A → A → Bool) (x : A) (xs : List A) where
    pub sound_more : ok x ≡ true → any (like x) xs ≡ false → sound ok like (x ∷ xs) ≡ sound ok like xs
    sound_more p q = rw (p, q)

    pub sound_fails : ok x ≡ false → sound ok like (x ∷ xs) ≡ false
    sound_fails p = rw p

    pub sound_alike : any (like x) xs ≡ true → sound ok like (x ∷ xs) ≡ false
    sound_alike q = rw q (and-false (ok x && all ok xs))
