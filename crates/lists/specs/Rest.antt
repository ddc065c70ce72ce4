-- What a loop over the first n elements of a list has left at i: `drop i (take n l)`. Its invariant speaks of that; `rest_more` is one turn,
-- `rest_none` the end. A loop that writes a list from its front has `take i new ++ drop i old`.
-- Assumes nothing.
use Rattle.std.specs.Prelude.{◌≡◌, refl, Bool, true, false, List, [], ◌∷◌, ◌++◌, ℕ, zero, suc, ◌+◌, ◌-◌, ◌≤◌, ◌<◌, min, length, take, drop, get_or, set, replicate}
use Rattle.std.proofs.Common.{ap, append-nil, not-suc-le-zero, le_of_suc-le-suc, add-one, arith, length-take, length-drop, drop_of_length-le, drop-cons, get_or-take, length-take-le, take_all}
use Rattle.std.proofs.Math.Seq.{take-nil}
use Rattle.lists.specs.Folds.{all}

module _ {A : Type 0} where
  pub rest_more : (n : ℕ) (l : List A) (i : ℕ) (d : A) → i < n → n ≤ length l → drop i (take n l) ≡ get_or l i d ∷ drop (i + 1) (take n l)
  rest_more n l i d h k =
      let e : length (take n l) ≡ n = length-take-le n l k in
      let m : i < length (take n l) = omega arith in
      rw (add-one i, ← (get_or-take n l i d h)) (drop-cons (take n l) i d m)

  pub rest_none : (n : ℕ) (l : List A) (i : ℕ) → n ≤ i → drop i (take n l) ≡ []
  rest_none n l i h =
      let m : length (take n l) ≤ i = omega (arith, length-take n l) in
      drop_of_length-le (take n l) m

  -- the part `&s[a..]` of a slice, which ends where the slice does
  pub part_to_end : (a : ℕ) (l : List A) → take (length l - a) (drop a l) ≡ drop a l
  part_to_end a l = take_all (length l - a) (drop a l) (omega (arith, length-drop a l))

  -- the first k of the first n
  pub take_min : (k n : ℕ) (l : List A) → take k (take n l) ≡ take (min k n) l
  take_min zero n l = let e : min zero n ≡ zero = omega arith in rw e
  take_min (suc k) zero l = let e : min (suc k) zero ≡ zero = omega arith in rw e
  take_min (suc k) (suc n) [] = rw (take-nil (min (suc k) (suc n)))
  take_min (suc k) (suc n) (x ∷ xs) =
      let e : min (suc k) (suc n) ≡ suc (min k n) = omega arith in
      rw e (ap (λ (t : List A). x ∷ t) (take_min k n xs))

  pub empty : (l : List A) → length l ≤ 0 → l ≡ []
  empty [] h = refl
  empty (x ∷ xs) h = absurd (not-suc-le-zero h)

  pub take_replicate : (m n : ℕ) (x : A) → m ≤ n → take m (replicate n x) ≡ replicate m x
  take_replicate zero n x h = refl
  take_replicate (suc m) zero x h = absurd (not-suc-le-zero h)
  take_replicate (suc m) (suc n) x h = ap (λ (l : List A). x ∷ l) (take_replicate m n x (le_of_suc-le-suc h))

  -- ---- one turn of a loop over a whole list
  pub drop_more : (l : List A) (i : ℕ) (d : A) → i < length l → drop i l ≡ get_or l i d ∷ drop (i + 1) l
  drop_more l i d h = rw (add-one i) (drop-cons l i d h)

  -- within a list no default is read
  pub read_within : (l : List A) (i : ℕ) (d e : A) → i < length l → get_or l i d ≡ get_or l i e
  read_within l i d e h =
      let p = drop_more l i d h in
      let q = drop_more l i e h in
      cc

  -- ---- one turn of a loop that writes `new` over `old` from the front
  write_suc : (new old : List A) (i : ℕ) (d : A) → i < length new → i < length old → set (take i new ++ drop i old) i (get_or new i d) ≡ take (suc i) new ++ drop (suc i) old
  write_suc [] old i d h k = absurd (not-suc-le-zero h)
  write_suc (x ∷ xs) [] i d h k = absurd (not-suc-le-zero k)
  write_suc (x ∷ xs) (y ∷ ys) zero d h k = refl
  write_suc (x ∷ xs) (y ∷ ys) (suc i) d h k = ap (λ (l : List A). x ∷ l) (write_suc xs ys i d (le_of_suc-le-suc h) (le_of_suc-le-suc k))

  pub write_more : (new old : List A) (i : ℕ) (d : A) → i < length new → i < length old → set (take i new ++ drop i old) i (get_or new i d) ≡ take (i + 1) new ++ drop (i + 1) old
  write_more new old i d h k = rw (add-one i) (write_suc new old i d h k)

  -- and its end, where both are of one length
  pub write_all : (new old : List A) (i : ℕ) → length new ≤ i → length old ≤ i → take i new ++ drop i old ≡ new
  write_all new old i h k = rw (take_all i new h, drop_of_length-le old k) (append-nil new)

-- ---- a loop that tests each element: one turn, and its two ends
module _ {A : Type 0} (p : A → Bool) (l : List A) (i : ℕ) (d : A) where
  pub all_more : i < length l → p (get_or l i d) ≡ true → all p (drop i l) ≡ all p (drop (i + 1) l)
  all_more h t = rw (drop_more l i d h, t)

  pub all_fails : i < length l → p (get_or l i d) ≡ false → all p (drop i l) ≡ false
  all_fails h t = rw (drop_more l i d h, t)

  pub all_passed : length l ≤ i → all p (drop i l) ≡ true
  all_passed h = rw (drop_of_length-le l h)

-- the same of a loop over the first n elements
module _ {A : Type 0} (p : A → Bool) (n : ℕ) (l : List A) (i : ℕ) where
  pub first_more : (d : A) → i < n → n ≤ length l → p (get_or l i d) ≡ true → all p (drop i (take n l)) ≡ all p (drop (i + 1) (take n l))
  first_more d h k t = rw (rest_more n l i d h k, t)

  pub first_fails : (d : A) → i < n → n ≤ length l → p (get_or l i d) ≡ false → all p (drop i (take n l)) ≡ false
  first_fails d h k t = rw (rest_more n l i d h k, t)

  pub first_passed : n ≤ i → all p (drop i (take n l)) ≡ true
  first_passed h = rw (rest_none n l i h)
