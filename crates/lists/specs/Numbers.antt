-- The numbers from one to another.
-- Assumes nothing.
use Rattle.std.specs.Prelude.{◌≡◌, refl, Bool, true, List, [], ◌∷◌, map, ℕ, zero, suc, ◌+◌, ◌-◌, ◌≤◌, ◌<◌, eqb, get_or}
use Rattle.std.proofs.Common.{sym, ap, ◌∙◌, not-suc-le-zero, le_of_suc-le-suc, add-zero, zero-add, arith}
use Rattle.std.proofs.lemmas.Bool.{eqb-false}
use Rattle.lists.specs.Tests.{Outcome, holds, fails, outcome}
use Rattle.lists.specs.Folds.{all, any, Each}

-- n numbers, from k up
abbrev pub numbers : ℕ → ℕ → List ℕ
numbers zero k = []
numbers (suc n) k = k ∷ numbers n (k + 1)

-- those from k on that are less than an end
pub before_more : (k end : ℕ) → k < end → numbers (end - k) k ≡ k ∷ numbers (end - (k + 1)) (k + 1)
before_more k end h = let e : end - k ≡ suc (end - (k + 1)) = omega arith in rw e

pub before_none : (k end : ℕ) → end ≤ k → numbers (end - k) k ≡ []
before_none k end h = let e : end - k ≡ zero = omega arith in rw e

-- the numbers from k to n, both counted
abbrev pub from_to : ℕ → ℕ → List ℕ
from_to k n = numbers (n + 1 - k) k

pub from_to_more : (k n : ℕ) → k ≤ n → from_to k n ≡ k ∷ from_to (k + 1) n
from_to_more k n h = before_more k (n + 1) (omega arith)

pub from_to_none : (k n : ℕ) → n < k → from_to k n ≡ []
from_to_none k n h = before_none k (n + 1) (omega arith)

-- a property of each of them
pub each_number : (P : ℕ → Type 0) (n k : ℕ) → ((m : ℕ) → k ≤ m → m < k + n → P m) → Each P (numbers n k)
each_number P zero k h = tt
each_number P (suc n) k h = (h k (omega arith) (omega arith), each_number P n (k + 1) (λ m a b. h m (omega arith) (omega arith)))

-- ---- numbers in a row
pub in_numbers : (n k m : ℕ) → k ≤ m → m < k + n → any (eqb m) (numbers n k) ≡ true
in_numbers zero k m a b = absurd (omega arith)
in_numbers (suc n) k m a b = go (outcome (eqb m k)) (λ h. in_numbers n (k + 1) m h (omega arith))
  where
    go : Outcome (eqb m k) → (k + 1 ≤ m → any (eqb m) (numbers n (k + 1)) ≡ true) → any (eqb m) (numbers (suc n) k) ≡ true
    go (holds e) later = rw e
    go (fails e) later = rw e (later (omega (arith, eqb-false m k e)))

pub all_numbers : (p : ℕ → Bool) (n k : ℕ) → ((m : ℕ) → k ≤ m → m < k + n → p m ≡ true) → all p (numbers n k) ≡ true
all_numbers p zero k h = refl
all_numbers p (suc n) k h = rw (h k (omega arith) (omega arith)) (all_numbers p n (k + 1) (λ m a b. h m (omega arith) (omega arith)))

-- what a function makes of numbers in a row
pub at_number : {B : Type 0} (f : ℕ → B) (n k i : ℕ) (d : B) → i < n → get_or (map f (numbers n k)) i d ≡ f (k + i)
at_number f zero k i d h = absurd (not-suc-le-zero h)
at_number f (suc n) k zero d h = rw (add-zero k)
at_number f (suc n) k (suc i) d h = at_number f n (k + 1) i d (le_of_suc-le-suc h) ∙ ap f (omega arith)

-- functions that make the same of all numbers below n, which one check of both rows shows, make the same of each
pub same_below : {B : Type 0} (f g : ℕ → B) (n : ℕ) → map f (numbers n 0) ≡ map g (numbers n 0) → (m : ℕ) → m < n → f m ≡ g m
same_below f g n e m h = rw (zero-add m) at (sym (at_number f n 0 m (f 0) h) ∙ ap (λ row. get_or row m (f 0)) e ∙ at_number g n 0 m (f 0) h)
