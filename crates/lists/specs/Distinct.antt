-- No two alike in a list of two parts; and how many numbers that differ there are.
-- Assumes nothing.
use Rattle.std.specs.Prelude.{ℕ, zero, suc, ◌≤◌, ◌≡◌, refl, Bool, true, false, not, ◌&&◌, ◌||◌, List, [], ◌∷◌, ◌++◌, eqb, length}
use Rattle.std.proofs.Common.{arith, ◌∙◌, eqb-true}
use Rattle.std.proofs.Math.Bool.{and-true, or-false}
use Rattle.std.proofs.lemmas.Bool.{eqb-false, not-true, not-false}
use Rattle.lists.specs.Tests.{not_both, Outcome, holds, fails, outcome, and_left, and_right, and-false, within, within_inside, within_least, within_most, eqb_comm}
use Rattle.lists.specs.Folds.{any, all, distinct, any_append, any_agree}
use Rattle.lists.specs.Sift.{sift, sift_rest, all_left, distinct_sift}

-- not (a or b), d, and not c, in another order
regroup : (a b c d : Bool) → (not (a || b) && (d && not c)) ≡ ((not a && d) && not (b || c))
regroup true b c d = refl
regroup false true c true = refl
regroup false true c false = refl
regroup false false c d = refl

module _ {A : Type 0} where
  -- one more at the end
  pub distinct_last : (like : A → A → Bool) (xs : List A) (y : A) → distinct like (xs ++ y ∷ []) ≡ (distinct like xs && not (any (λ x. like x y) xs))
  distinct_last like [] y = refl
  distinct_last like (x ∷ xs) y =
      rw (any_append (like x) xs (y ∷ []), or-false (like x y), distinct_last like xs y) (regroup (any (like x) xs) (like x y) (any (λ z. like z y) xs) (distinct like xs))

  -- two alike in the front are two alike in the whole
  pub distinct_front : (like : A → A → Bool) (xs ys : List A) → distinct like xs ≡ false → distinct like (xs ++ ys) ≡ false
  distinct_front like [] ys h = not_both true refl h
  distinct_front like (x ∷ xs) ys h = go (outcome (distinct like xs)) (distinct_front like xs ys)
    where
      go : Outcome (distinct like xs) → (distinct like xs ≡ false → distinct like (xs ++ ys) ≡ false) → distinct like (x ∷ xs ++ ys) ≡ false
      go (fails e) f = rw (f e) (and-false (not (any (like x) (xs ++ ys))))
      go (holds e) f =
          let found : any (like x) xs ≡ true = not-false (any (like x) xs) (rw (e, and-true (not (any (like x) xs))) at h) in
          rw (any_append (like x) xs ys, found)

-- ---- numbers that differ
-- one at most is the given one
length_without : (m : ℕ) (xs : List ℕ) → distinct eqb xs ≡ true → length xs ≤ suc (length (sift (λ x. not (eqb x m)) xs))
length_without m [] d = omega arith
length_without m (x ∷ xs) d = go (outcome (eqb x m)) (length_without m xs (and_right (not (any (eqb x) xs)) (distinct eqb xs) d))
  where
    go : Outcome (eqb x m) → length xs ≤ suc (length (sift (λ y. not (eqb y m)) xs)) → length (x ∷ xs) ≤ suc (length (sift (λ y. not (eqb y m)) (x ∷ xs)))
    go (holds t) i =
        let alone : any (eqb x) xs ≡ false = not-true (any (eqb x) xs) (and_left (not (any (eqb x) xs)) (distinct eqb xs) d) in
        let others : any (λ y. eqb y m) xs ≡ false = any_agree (λ y. eqb y m) (eqb m) (λ y. eqb_comm y m) xs ∙ rw (eqb-true x m t) at alone in
        rw (t, sift_rest (λ y. eqb y m) xs others) (omega arith)
    go (fails t) i = rw t (omega (arith, i))

-- of 1 to m there are at most m
pub different_few : (m : ℕ) (xs : List ℕ) → all (within 1 m) xs ≡ true → distinct eqb xs ≡ true → length xs ≤ m
different_few zero [] h d = omega arith
different_few zero (x ∷ xs) h d =
    let inside : within 1 0 x ≡ true = and_left (within 1 0 x) (all (within 1 0) xs) h in
    absurd (omega (arith, within_least 1 0 x inside, within_most 1 0 x inside))
different_few (suc m) xs h d =
    let rest : List ℕ = sift (λ x. not (eqb x (suc m))) xs in
    let few : length rest ≤ m = different_few m rest (all_left (within 1 (suc m)) (λ x. not (eqb x (suc m))) (within 1 m) lower xs h) (distinct_sift eqb (λ x. not (eqb x (suc m))) xs d) in
    omega (arith, few, length_without (suc m) xs d)
  where
    lower : (x : ℕ) → within 1 (suc m) x ≡ true → not (eqb x (suc m)) ≡ true → within 1 m x ≡ true
    lower x inside n =
        let apart : x ≡ suc m → ⊥ = eqb-false x (suc m) (not-true (eqb x (suc m)) n) in
        within_inside 1 m x (within_least 1 (suc m) x inside) (omega (arith, within_most 1 (suc m) x inside, apart))
