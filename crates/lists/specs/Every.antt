-- Tests that every element passes, or some: of a list that changes, of two lists, of two tests that agree.
-- Assumes nothing.
use Rattle.std.specs.Prelude.{◌≡◌, refl, Bool, true, false, not, ◌&&◌, ◌||◌, List, [], ◌∷◌, ◌++◌, ℕ, zero, suc, ◌<◌, length, take, drop, get_or, set}
use Rattle.std.proofs.Common.{◌∙◌, suc-le-suc, not-suc-le-zero, le_of_suc-le-suc, arith}
use Rattle.std.proofs.lemmas.Bool.{not-true}
use Rattle.lists.specs.Tests.{not_both, and_left, and_right, or_left, or_right, or-true, and-false}
use Rattle.lists.specs.Folds.{all, any, Each}

module _ {A : Type 0} where
  pub any_front : (p : A → Bool) (xs ys : List A) → any p xs ≡ true → any p (xs ++ ys) ≡ true
  any_front p [] ys h = not_both false h refl
  any_front p (x ∷ xs) ys h = go (p x) h (any_front p xs ys)
    where
      go : (b : Bool) → (b || any p xs) ≡ true → (any p xs ≡ true → any p (xs ++ ys) ≡ true) → (b || any p (xs ++ ys)) ≡ true
      go true e f = refl
      go false e f = f e

  pub any_behind : (p : A → Bool) (xs ys : List A) → any p ys ≡ true → any p (xs ++ ys) ≡ true
  any_behind p [] ys h = h
  any_behind p (x ∷ xs) ys h = rw (any_behind p xs ys h) (or-true (p x))

  -- where each fails a test, none passes it
  pub none_any : (p : A → Bool) (l : List A) → all (λ x. not (p x)) l ≡ true → any p l ≡ false
  none_any p [] h = refl
  none_any p (x ∷ l) h = rw (not-true (p x) (and_left (not (p x)) (all (λ y. not (p y)) l) h)) (none_any p l (and_right (not (p x)) (all (λ y. not (p y)) l) h))

  pub any_there : (p : A → Bool) (l : List A) (d : A) (i : ℕ) → i < length l → p (get_or l i d) ≡ true → any p l ≡ true
  any_there p [] d i k h = absurd (not-suc-le-zero k)
  any_there p (x ∷ l) d zero k h = rw h
  any_there p (x ∷ l) d (suc i) k h = rw (any_there p l d i (le_of_suc-le-suc k) h) (or-true (p x))

  -- ---- every element, of a list that changes
  pub all_implies : (p q : A → Bool) → ((x : A) → p x ≡ true → q x ≡ true) → (xs : List A) → all p xs ≡ true → all q xs ≡ true
  all_implies p q f [] h = refl
  all_implies p q f (x ∷ xs) h = rw (f x (and_left (p x) (all p xs) h), all_implies p q f xs (and_right (p x) (all p xs) h))

  pub all_set : (p : A → Bool) (xs : List A) (i : ℕ) (x : A) → all p xs ≡ true → p x ≡ true → all p (set xs i x) ≡ true
  all_set p [] i x h k = refl
  all_set p (y ∷ ys) zero x h k = rw (k, and_right (p y) (all p ys) h)
  all_set p (y ∷ ys) (suc i) x h k = rw (and_left (p y) (all p ys) h, all_set p ys i x (and_right (p y) (all p ys) h) k)

  -- the default passes too
  pub all_get_d : (p : A → Bool) (xs : List A) (i : ℕ) (d : A) → all p xs ≡ true → p d ≡ true → p (get_or xs i d) ≡ true
  all_get_d p [] i d h k = k
  all_get_d p (y ∷ ys) zero d h k = and_left (p y) (all p ys) h
  all_get_d p (y ∷ ys) (suc i) d h k = all_get_d p ys i d (and_right (p y) (all p ys) h) k

  pub all_index : (p : A → Bool) (d : A) (xs : List A) → ((i : ℕ) → i < length xs → p (get_or xs i d) ≡ true) → all p xs ≡ true
  all_index p d [] h = refl
  all_index p d (x ∷ xs) h = rw (h zero (omega arith), all_index p d xs (λ i b. h (suc i) (suc-le-suc b)))

  -- ---- a property of each element
  module _ (P : A → Type 0) where
    pub each_parts : (n : ℕ) (l : List A) → Each P (take n l) → Each P (drop n l) → Each P l
    each_parts zero l h k = k
    each_parts (suc n) [] h k = tt
    each_parts (suc n) (x ∷ l) h k = (h.0, each_parts n l h.1 k)

    pub each_later : (n : ℕ) (l : List A) → Each P (drop n l) → Each P (drop (suc n) l)
    each_later zero [] h = tt
    each_later zero (x ∷ l) h = h.1
    each_later (suc n) [] h = tt
    each_later (suc n) (x ∷ l) h = each_later n l h

-- ---- some of a list, for tests that agree on it
pub any_each : {A : Type 0} (p r : A → Bool) (l : List A) → Each (λ x. p x ≡ r x) l → any p l ≡ any r l
any_each p r [] h = refl
any_each p r (x ∷ l) h = rw (h.0, any_each p r l h.1)

pub each_with : {A : Type 0} (P Q : A → Type 0) → ((x : A) → P x → Q x) → (l : List A) → Each P l → Each Q l
each_with P Q f [] h = tt
each_with P Q f (x ∷ l) h = (f x h.0, each_with P Q f l h.1)

pub each_fails : {A : Type 0} (p : A → Bool) (l : List A) → any p l ≡ false → Each (λ x. p x ≡ false) l
each_fails p [] h = tt
each_fails p (x ∷ l) h = (or_left (p x) (any p l) h, each_fails p l (or_right (p x) (any p l) h))

-- some of one list with some of another
module _ {A : Type 0} where
  pub any_or : (p r : A → Bool) (l : List A) → any (λ x. p x || r x) l ≡ (any p l || any r l)
  any_or p r [] = refl
  any_or p r (x ∷ l) = rw (any_or p r l) (go (p x) (r x) (any p l) (any r l))
    where
      go : (a b c e : Bool) → (a || b || (c || e)) ≡ (a || c || (b || e))
      go true b c e = refl
      go false true true e = refl
      go false true false e = refl
      go false false c e = refl

  any_and : (b : Bool) (p : A → Bool) (l : List A) → any (λ x. b && p x) l ≡ (b && any p l)
  any_and true p l = refl
  any_and false p [] = refl
  any_and false p (x ∷ l) = any_and false p l

  pub any_never : (p : A → Bool) (l : List A) → any (λ x. p x && false) l ≡ false
  any_never p [] = refl
  any_never p (x ∷ l) = rw (and-false (p x)) (any_never p l)

  pub any_swap : {B : Type 0} (p : A → Bool) (r : B → Bool) (t : B → A → Bool) (xs : List A) (ys : List B)
      → any (λ x. p x && any (λ y. r y && t y x) ys) xs ≡ any (λ y. r y && any (λ x. p x && t y x) xs) ys
  any_swap p r t xs [] = any_never p xs
  any_swap p r t xs (y ∷ ys) =
      any_each (λ x. p x && (r y && t y x || any (λ y. r y && t y x) ys)) (λ x. r y && (p x && t y x) || p x && any (λ y. r y && t y x) ys) xs (each xs)
      ∙ any_or (λ x. r y && (p x && t y x)) (λ x. p x && any (λ y. r y && t y x) ys) xs
      ∙ rw (any_and (r y) (λ x. p x && t y x) xs, any_swap p r t xs ys)
    where
      spread : (a b c e : Bool) → (a && (b && c || e)) ≡ (b && (a && c) || a && e)
      spread true true c e = refl
      spread true false c e = refl
      spread false true c e = refl
      spread false false c e = refl

      each : (xs : List A) → Each (λ x. (p x && (r y && t y x || any (λ y. r y && t y x) ys)) ≡ (r y && (p x && t y x) || p x && any (λ y. r y && t y x) ys)) xs
      each [] = tt
      each (x ∷ xs) = (spread (p x) (r y) (t y x) (any (λ y. r y && t y x) ys), each xs)
