-- The place of the first element of a list that passes a test.
-- Assumes nothing.
use Rattle.std.specs.Prelude.{ℕ, zero, suc, ◌+◌, ◌-◌, ◌≤◌, ◌<◌, ◌≡◌, Bool, true, false, List, [], ◌∷◌, length, get_or, Option, Some, None}
use Rattle.std.proofs.Common.{le_of_suc-le-suc, arith}
use Rattle.lists.specs.Tests.{cond, Outcome, holds, fails, outcome}

module _ {A : Type 0} (test : A → Bool) where
  -- in a list that begins at the place i
  abbrev pub first_place : List A → ℕ → Option ℕ
  first_place [] i = None
  first_place (x ∷ xs) i = cond (test x) (Some i) (first_place xs (i + 1))

  -- a place that is found is the list's, and what is there passes the test
  abbrev Sought : A → List A → ℕ → ℕ → Type 0
  Sought d l i j = (i ≤ j) × (j < i + length l) × (test (get_or l (j - i) d) ≡ true)

  pub first_found : (d : A) (l : List A) (i j : ℕ) → first_place l i ≡ Some j → Sought d l i j
  first_found d [] i j e = absurd (let z : ◌≡◌ {A = ℕ} 0 1 = cc in omega arith)
  first_found d (x ∷ xs) i j e = go (outcome (test x)) (first_found d xs (i + 1) j)
    where
      go : Outcome (test x) → (first_place xs (i + 1) ≡ Some j → Sought d xs (i + 1) j) → Sought d (x ∷ xs) i j
      go (holds t) later =
          let here : i ≡ j = cc (rw t at e) in
          let z : j - i ≡ 0 = omega arith in
          (omega arith, omega arith, rw z t)
      go (fails t) later =
          let r = later (rw t at e) in
          let z : j - i ≡ suc (j - (i + 1)) = omega (arith, r.0) in
          (omega (arith, r.0), omega (arith, r.1), rw z r.2)

  -- where none is found, nothing in the list passes
  pub first_none : (d : A) (l : List A) (i k : ℕ) → first_place l i ≡ None → k < length l → test (get_or l k d) ≡ false
  first_none d [] i k e h = absurd (omega arith)
  first_none d (x ∷ xs) i k e h = go (outcome (test x)) k h (first_none d xs (i + 1))
    where
      go : Outcome (test x) → (k : ℕ) → k < suc (length xs) → ((k : ℕ) → first_place xs (i + 1) ≡ None → k < length xs → test (get_or xs k d) ≡ false) → test (get_or (x ∷ xs) k d) ≡ false
      go (holds t) k h later = absurd (let z : ◌≡◌ {A = ℕ} 0 1 = cc (rw t at e) in omega arith)
      go (fails t) zero h later = t
      go (fails t) (suc k) h later = later k (rw t at e) (le_of_suc-le-suc h)
