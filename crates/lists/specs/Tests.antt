-- Tests: a choice by a test, a number between two, and what `&&`, `||` and `not` say of their parts.
-- Assumes nothing.
use Rattle.std.specs.Prelude.{◌≡◌, refl, Bool, true, false, not, ◌&&◌, ◌||◌, ℕ, suc, ◌+◌, ◌≤◌, ◌<◌, List, [], ◌∷◌, T, leb, ltb, eqb, length, drop, get_or}
use Rattle.std.proofs.Common.{sym, ap, add-one, arith, drop_of_length-le, drop-cons, le-leb, leb-true, leb-false, le-ltb, lt-ltb, eqb-true, eq-eqb}
-- `cond b x y` is x where b holds, else y
pub use Rattle.std.specs.Prelude.{cond}
pub use Rattle.std.proofs.Math.Bool.{and-false, or-true}
use Rattle.std.proofs.Math.Dec.{eqb_refl}
use Rattle.std.proofs.lemmas.Bool.{lt-leb}

-- at least the first number and at most the second
abbrev pub within : ℕ → ℕ → ℕ → Bool
within lo hi n = leb lo n && leb n hi

-- no test is both true and false
pub not_both : {A : Type 0} (b : Bool) → b ≡ true → b ≡ false → A
not_both b p q = absurd (let z : ◌≡◌ {A = ℕ} 0 1 = cc in omega arith)

-- a test with its outcome, for a proof that goes on by cases
pub data Outcome (b : Bool) : Type 0 where
  holds : b ≡ true → Outcome b
  fails : b ≡ false → Outcome b

pub outcome : (b : Bool) → Outcome b
outcome true = holds refl
outcome false = fails refl

pub and_left : (a b : Bool) → (a && b) ≡ true → a ≡ true
and_left true b h = refl
and_left false b h = h

pub and_right : (a b : Bool) → (a && b) ≡ true → b ≡ true
and_right true b h = h
and_right false b h = not_both false h refl

pub or_left : (a b : Bool) → (a || b) ≡ false → a ≡ false
or_left true b h = h
or_left false b h = refl

pub or_right : (a b : Bool) → (a || b) ≡ false → b ≡ false
or_right true b h = not_both true refl h
or_right false b h = h

-- ---- between two numbers
module _ (lo hi n : ℕ) where
  pub within_inside : lo ≤ n → n ≤ hi → within lo hi n ≡ true
  within_inside p q = rw (le-leb lo n p, le-leb n hi q)

  pub within_below : n < lo → within lo hi n ≡ false
  within_below p = rw (lt-leb lo n p)

  pub within_above : hi < n → within lo hi n ≡ false
  within_above p = rw (lt-leb n hi p) (and-false (leb lo n))

  pub within_least : within lo hi n ≡ true → lo ≤ n
  within_least h = leb-true lo n (and_left (leb lo n) (leb n hi) h)

  pub within_most : within lo hi n ≡ true → n ≤ hi
  within_most h = leb-true n hi (and_right (leb lo n) (leb n hi) h)

-- less is not at least
pub less_is : (m n : ℕ) → ltb m n ≡ not (leb n m)
less_is m n = go (outcome (leb n m))
  where
    go : Outcome (leb n m) → ltb m n ≡ not (leb n m)
    go (holds t) = rw (t, le-ltb m n (leb-true n m t))
    go (fails t) = rw (t, lt-ltb m n (leb-false n m t))

-- ---- equal numbers, equal lists of numbers
pub eqb_self : (n : ℕ) → eqb n n ≡ true
eqb_self n = go (eqb n n) (eqb_refl n)
  where
    go : (b : Bool) → T b → b ≡ true
    go true h = refl
    go false h = absurd h

pub eqb_sym : (m n : ℕ) → eqb m n ≡ false → eqb n m ≡ false
eqb_sym m n h = go (eqb n m) refl
  where
    go : (b : Bool) → eqb n m ≡ b → b ≡ false
    go true e = absurd (not_both (eqb m n) (rw (eqb-true n m e) (eqb_self m)) h)
    go false e = refl

-- two lists of numbers are the same
abbrev pub eqbs : List ℕ → List ℕ → Bool
eqbs [] [] = true
eqbs [] (y ∷ ys) = false
eqbs (x ∷ xs) [] = false
eqbs (x ∷ xs) (y ∷ ys) = eqb x y && eqbs xs ys

pub eqbs_self : (xs : List ℕ) → eqbs xs xs ≡ true
eqbs_self [] = refl
eqbs_self (x ∷ xs) = rw (eqb_self x) (eqbs_self xs)

pub eqbs_true : (xs ys : List ℕ) → eqbs xs ys ≡ true → xs ≡ ys
eqbs_true [] [] h = refl
eqbs_true [] (y ∷ ys) h = not_both false h refl
eqbs_true (x ∷ xs) [] h = not_both false h refl
eqbs_true (x ∷ xs) (y ∷ ys) h =
    let first = eqb-true x y (and_left (eqb x y) (eqbs xs ys) h) in
    let rest = eqbs_true xs ys (and_right (eqb x y) (eqbs xs ys) h) in
    cc

pub eqbs_lengths : (xs ys : List ℕ) → (length xs ≡ length ys → ⊥) → eqbs xs ys ≡ false
eqbs_lengths [] [] h = absurd (h refl)
eqbs_lengths [] (y ∷ ys) h = refl
eqbs_lengths (x ∷ xs) [] h = refl
eqbs_lengths (x ∷ xs) (y ∷ ys) h = rw (eqbs_lengths xs ys (λ e. h (ap suc e))) (and-false (eqb x y))

-- what is left to compare at an index, and past the end
pub eqbs_next : (xs ys : List ℕ) (i : ℕ) → i < length xs → i < length ys → eqbs (drop i xs) (drop i ys) ≡ (eqb (get_or xs i 0) (get_or ys i 0) && eqbs (drop (i + 1) xs) (drop (i + 1) ys))
eqbs_next xs ys i h k = rw (add-one i, drop-cons xs i 0 h, drop-cons ys i 0 k)

pub eqbs_none : (xs ys : List ℕ) (i : ℕ) → length xs ≤ i → length ys ≤ i → eqbs (drop i xs) (drop i ys) ≡ true
eqbs_none xs ys i h k = rw (drop_of_length-le xs h, drop_of_length-le ys k)

-- ---- either way round
-- two tests that hold together
pub both_ways : (a b : Bool) → (a ≡ true → b ≡ true) → (b ≡ true → a ≡ true) → a ≡ b
both_ways true b f g = sym (f refl)
both_ways false true f g = g refl
both_ways false false f g = refl

pub eqb_comm : (m n : ℕ) → eqb m n ≡ eqb n m
eqb_comm m n = both_ways (eqb m n) (eqb n m) (λ h. eq-eqb n m (sym (eqb-true m n h))) (λ h. eq-eqb m n (sym (eqb-true n m h)))

pub eqbs_comm : (a b : List ℕ) → eqbs a b ≡ eqbs b a
eqbs_comm [] [] = refl
eqbs_comm [] (y ∷ ys) = refl
eqbs_comm (x ∷ xs) [] = refl
eqbs_comm (x ∷ xs) (y ∷ ys) = rw (eqb_comm x y, eqbs_comm xs ys)
