-- What lies in a row: a part and its element end before any later part, and within the whole.
-- Assumes nothing.
use Rattle.std.specs.Prelude.{ℕ, suc, ◌+◌, ◌≤◌, ◌<◌, ◌≡◌, List, length, take, get_or}
use Rattle.std.proofs.Common.{arith, ap, ◌∙◌, get_or-take, length-take-le, take_all}
use Rattle.lists.specs.Folds.{total, total_take, total_next}

module _ {A : Type 0} (size : A → ℕ) (n : ℕ) (l : List A) (d : A) (fits : n ≤ length l) where
  pub row_next : (k : ℕ) → k < n → total size (take (suc k) (take n l)) ≡ total size (take k (take n l)) + size (get_or l k d)
  row_next k h =
      let m : k < length (take n l) = omega (arith, length-take-le n l fits) in
      total_next size k (take n l) d m ∙ ap (λ x. total size (take k (take n l)) + size x) (get_or-take n l k d h)

  pub row_before : (k j : ℕ) → k < n → k < j → total size (take k (take n l)) + size (get_or l k d) ≤ total size (take j (take n l))
  row_before k j h b = omega (arith, row_next k h, total_take size (suc k) j (take n l) b)

  pub row_within : (k : ℕ) → k < n → total size (take k (take n l)) + size (get_or l k d) ≤ total size (take n l)
  row_within k h =
      omega (arith, row_before k n h h, ap (total size) (take_all n (take n l) (omega (arith, length-take-le n l fits))))
