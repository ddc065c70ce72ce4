-- Lists of numbers below a bound: whether a number comes twice, seen by one flag for each number; and how many different ones there can be.
-- Assumes nothing.
use Rattle.std.specs.Prelude.{ℕ, zero, suc, ◌+◌, ◌≤◌, ◌<◌, ◌≡◌, refl, Bool, true, false, not, ◌&&◌, ◌||◌, List, [], ◌∷◌, eqb, length, get_or, set, replicate}
use Rattle.std.proofs.Common.{not-suc-le-zero, le_of_suc-le-suc, arith, sym, ap, ◌∙◌, length-set, get_or-set_same, get_or-set_other, eqb-true}
use Rattle.std.proofs.lemmas.List.{length-replicate}
use Rattle.std.proofs.lemmas.Bool.{eqb-false}
use Rattle.lists.specs.Tests.{cond, Outcome, holds, fails, outcome, or_left, or_right}
use Rattle.lists.specs.Folds.{any, total, distinct, Each}

-- whether a number comes whose flag is up, where each number that comes puts its flag up
abbrev pub repeats : List Bool → List ℕ → Bool
repeats seen [] = false
repeats seen (k ∷ ks) = get_or seen k false || repeats (set seen k true) ks

abbrev pub no_flag : ℕ → List Bool
no_flag n = replicate n false

abbrev up : List Bool → ℕ → Bool
up seen k = get_or seen k false

-- ---- with no flag up at first, that is whether two numbers are the same
module _ (seen : List Bool) (k : ℕ) (h : k < length seen) where
  up_set : (j : ℕ) → up (set seen k true) j ≡ (eqb k j || up seen j)
  up_set j = go (outcome (eqb k j))
    where
      go : Outcome (eqb k j) → up (set seen k true) j ≡ (eqb k j || up seen j)
      go (holds e) = rw (e, ← (eqb-true k j e)) (get_or-set_same seen k true false h)
      go (fails e) = rw e (get_or-set_other seen k j true false (λ q. eqb-false k j e (sym q)))

  any_set : (ks : List ℕ) → any (up (set seen k true)) ks ≡ (any (eqb k) ks || any (up seen) ks)
  any_set [] = refl
  any_set (j ∷ js) = rw (up_set j, any_set js) (regroup (eqb k j) (up seen j) (any (eqb k) js) (any (up seen) js))
    where
      regroup : (a b c d : Bool) → ((a || b) || (c || d)) ≡ ((a || c) || (b || d))
      regroup true b c d = refl
      regroup false true true d = refl
      regroup false true false d = refl
      regroup false false c d = refl

pub repeats_any : (n : ℕ) (seen : List Bool) → length seen ≡ n → (ks : List ℕ) → Each (λ k. k < n) ks → repeats seen ks ≡ (any (up seen) ks || not (distinct eqb ks))
repeats_any n seen s [] h = refl
repeats_any n seen s (k ∷ ks) h =
    let inside : k < length seen = omega (arith, h.0) in
    rw (repeats_any n (set seen k true) (length-set seen k true ∙ s) ks h.1, any_set seen k inside ks)
    (regroup (up seen k) (any (eqb k) ks) (any (up seen) ks) (distinct eqb ks))
  where
    regroup : (a b c d : Bool) → (a || ((b || c) || not d)) ≡ ((a || c) || not (not b && d))
    regroup true b c d = refl
    regroup false true true d = refl
    regroup false true false d = refl
    regroup false false true d = refl
    regroup false false false d = refl

down : (n k : ℕ) → up (no_flag n) k ≡ false
down zero k = refl
down (suc n) zero = refl
down (suc n) (suc k) = down n k

none_up : (n : ℕ) (ks : List ℕ) → any (up (no_flag n)) ks ≡ false
none_up n [] = refl
none_up n (k ∷ ks) = rw (down n k) (none_up n ks)

pub repeats_twice : (n : ℕ) (ks : List ℕ) → Each (λ k. k < n) ks → repeats (no_flag n) ks ≡ not (distinct eqb ks)
repeats_twice n ks h = rw (repeats_any n (no_flag n) (length-replicate n false) ks h, none_up n ks)

-- ---- different numbers below n are at most n: each takes a flag that is down
abbrev downs : List Bool → ℕ
downs seen = total (λ b. cond b 0 1) seen

downs_set : (seen : List Bool) (k : ℕ) → k < length seen → up seen k ≡ false → downs (set seen k true) + 1 ≡ downs seen
downs_set [] k h e = absurd (not-suc-le-zero h)
downs_set (b ∷ bs) zero h e = rw e (omega arith)
downs_set (b ∷ bs) (suc k) h e = omega (arith, downs_set bs k (le_of_suc-le-suc h) e)

repeats_most : (n : ℕ) (seen : List Bool) → length seen ≡ n → (ks : List ℕ) → Each (λ k. k < n) ks → repeats seen ks ≡ false → length ks ≤ downs seen
repeats_most n seen s [] h e = omega arith
repeats_most n seen s (k ∷ ks) h e =
    let inside : k < length seen = omega (arith, h.0) in
    let free = or_left (up seen k) (repeats (set seen k true) ks) e in
    let rest = or_right (up seen k) (repeats (set seen k true) ks) e in
    omega (arith, downs_set seen k inside free, repeats_most n (set seen k true) (length-set seen k true ∙ s) ks h.1 rest)

downs_all : (n : ℕ) → downs (no_flag n) ≡ n
downs_all zero = refl
downs_all (suc n) = omega (arith, downs_all n)

pub distinct_most : (n : ℕ) (ks : List ℕ) → Each (λ k. k < n) ks → distinct eqb ks ≡ true → length ks ≤ n
distinct_most n ks h d =
    let e = repeats_twice n ks h ∙ ap not d in
    omega (arith, repeats_most n (no_flag n) (length-replicate n false) ks h e, downs_all n)
