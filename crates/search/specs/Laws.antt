-- Laws of what is found in a file's part: the lowest record from an ISN on, and a value elsewhere.
-- Assumes nothing.
use Rattle.std.specs.Prelude.{ℕ, zero, suc, ◌+◌, ◌-◌, ◌≤◌, ◌<◌, ◌≡◌, Bool, not, ◌&&◌, List, eqb, ltb, leb, length, Some, None}
use Rattle.std.proofs.Common.{arith, ◌∙◌}
use Rattle.std.proofs.Math.Path.{ap}
use Rattle.std.proofs.Math.Bool.{true, false}
use borrow.Author.Tests.{ltb-true, ltb-false, leb-true, leb-false, lt-ltb, eqb-false, ne_eqb, not-true}
use Rattle.lists.specs.Tests.{within_above, within_most, Outcome, holds, fails, outcome, not_both, and_left, and_right, or_left, or_right, eqbs, eqbs_true, eqbs_self}
use Rattle.lists.specs.Folds.{any, any_true}
use Rattle.definition.specs.Table.{field_count}
use Rattle.definition.specs.declared.File.{File}
use Rattle.lists.specs.Numbers.{numbers}
use Rattle.search.specs.Search.{first_of, has_value, lowest, elsewhere}
use Rattle.store.specs.Store.{slot_count, isns_from, has_record, record_of, get, field_value}
use Rattle.store.specs.Slots.{slot_fits_is, has_record_is}
use Rattle.store.proofs.Laws.{has_fits, fits_most, fits_least, get_some, some_has, some_record}

-- ---- the first of some numbers that passes
module _ (p : ℕ → Bool) where
  -- it passes, and none between does
  abbrev First : ℕ → ℕ → Type 0
  First k n = (k ≤ n) × (p n ≡ true) × ((m : ℕ) → k ≤ m → m < n → p m ≡ false)

  first_found : (c k n : ℕ) → first_of p (numbers c k) ≡ Some n → First k n
  first_found zero k n e = absurd (let z : ◌≡◌ {A = ℕ} 0 1 = cc in omega arith)
  first_found (suc c) k n e = go (outcome (p k)) (first_found c (k + 1) n)
    where
      go : Outcome (p k) → (first_of p (numbers c (k + 1)) ≡ Some n → First (k + 1) n) → First k n
      go (holds h) later =
          let here : k ≡ n = cc (rw h at e) in
          (omega arith, rw (← here) h, λ m a b. absurd (omega arith))
      go (fails h) later =
          let r = later (rw h at e) in
          (omega (arith, r.0), r.1, λ m a b. between m a (r.2 m) b)
        where
          between : (m : ℕ) → k ≤ m → (k + 1 ≤ m → m < n → p m ≡ false) → m < n → p m ≡ false
          between m a up b = step (outcome (ltb k m))
            where
              step : Outcome (ltb k m) → p m ≡ false
              step (holds t) = up (omega (arith, ltb-true k m t)) b
              step (fails t) = let same : m ≡ k = omega (arith, ltb-false k m t) in rw same h

  first_none : (c k : ℕ) → first_of p (numbers c k) ≡ None → (m : ℕ) → k ≤ m → m < k + c → p m ≡ false
  first_none zero k e m a b = absurd (omega arith)
  first_none (suc c) k e m a b = go (outcome (p k)) (outcome (ltb k m)) (first_none c (k + 1))
    where
      go : Outcome (p k) → Outcome (ltb k m) → (first_of p (numbers c (k + 1)) ≡ None → (m : ℕ) → k + 1 ≤ m → m < k + 1 + c → p m ≡ false) → p m ≡ false
      go (holds h) t later = absurd (let z : ◌≡◌ {A = ℕ} 0 1 = cc (rw h at e) in omega arith)
      go (fails h) (holds t) later = later (rw h at e) m (omega (arith, ltb-true k m t)) (omega arith)
      go (fails h) (fails t) later = let same : m ≡ k = omega (arith, ltb-false k m t) in rw same h

  any_number : (c k : ℕ) → any p (numbers c k) ≡ false → (m : ℕ) → k ≤ m → m < k + c → p m ≡ false
  any_number zero k e m a b = absurd (omega arith)
  any_number (suc c) k e m a b = go (outcome (ltb k m)) (any_number c (k + 1) (or_right (p k) (any p (numbers c (k + 1))) e) m)
    where
      go : Outcome (ltb k m) → (k + 1 ≤ m → m < k + 1 + c → p m ≡ false) → p m ≡ false
      go (holds t) later = later (omega (arith, ltb-true k m t)) (omega arith)
      go (fails t) later = let same : m ≡ k = omega (arith, ltb-false k m t) in rw same (or_left (p k) (any p (numbers c (k + 1))) e)

-- ---- option `I`
-- an ISN that `lowest` gives: at or above the given one, one of the file's, with a record, and none between has one
pub record Lowest (f : File) (part : List ℕ) (from n : ℕ) : Type 0 where
  pub above : from ≤ n
  pub least : 1 ≤ n
  pub most : n ≤ f.max_isn
  pub there : has_record f part n ≡ true
  pub between : (m : ℕ) → from ≤ m → m < n → has_record f part m ≡ false

module _ (f : File) (part : List ℕ) (from : ℕ) where
  pub lowest_found : (n : ℕ) → lowest f part from ≡ Some n → Lowest f part from n
  unfolding lowest
  lowest_found n e =
      let r = first_found (has_record f part) (slot_count f (length part) + 1 - from) from n e in
      let fits = has_fits f part n r.1 in
      record { above = r.0; least = fits_least f part n fits; most = fits_most f part n fits; there = r.1; between = r.2 }

  pub lowest_none : lowest f part from ≡ None → (m : ℕ) → from ≤ m → has_record f part m ≡ false
  unfolding lowest
  lowest_none e m a = go (outcome (leb m (slot_count f (length part))))
    where
      go : Outcome (leb m (slot_count f (length part))) → has_record f part m ≡ false
      go (holds t) = first_none (has_record f part) (slot_count f (length part) + 1 - from) from e m a (omega (arith, leb-true m (slot_count f (length part)) t))
      go (fails t) = rw (has_record_is f part, within_above 1 (slot_count f (length part)) m (leb-false m (slot_count f (length part)) t))

-- ---- a value elsewhere
-- another ISN, and its record, which has the value
pub record Elsewhere (f : File) (part : List ℕ) (k isn : ℕ) (value : List ℕ) : Type 0 where
  pub other : ℕ
  pub bytes : List ℕ
  pub apart : other ≡ isn → ⊥
  pub there : get f part other ≡ Some bytes
  pub has : field_value f k bytes ≡ value

module _ (f : File) (part : List ℕ) (k isn : ℕ) (value : List ℕ) where
  pub elsewhere_true : elsewhere f part k isn value ≡ true → (k < field_count f) × Elsewhere f part k isn value
  unfolding elsewhere
  elsewhere_true h =
      let found = any_true (has_value f part k isn value) (isns_from f part 1) (and_right (ltb k (field_count f)) (any (has_value f part k isn value) (isns_from f part 1)) h) in
      (ltb-true k (field_count f) (and_left (ltb k (field_count f)) (any (has_value f part k isn value) (isns_from f part 1)) h), witness found.0 found.1)
    where
      witness : (n : ℕ) → has_value f part k isn value n ≡ true → Elsewhere f part k isn value
      witness n t =
          let both = and_right (not (eqb n isn)) (has_record f part n && eqbs (field_value f k (record_of f part n)) value) t in
          record {
            other = n;
            bytes = record_of f part n;
            apart = eqb-false n isn (not-true (eqb n isn) (and_left (not (eqb n isn)) (has_record f part n && eqbs (field_value f k (record_of f part n)) value) t));
            there = get_some f part n (and_left (has_record f part n) (eqbs (field_value f k (record_of f part n)) value) both);
            has = eqbs_true (field_value f k (record_of f part n)) value (and_right (has_record f part n) (eqbs (field_value f k (record_of f part n)) value) both);
          }

  pub elsewhere_false : elsewhere f part k isn value ≡ false → k < field_count f → Elsewhere f part k isn value → ⊥
  unfolding elsewhere
  elsewhere_false h in_use w =
      let n = w.other in
      let has = some_has f part n w.bytes w.there in
      let fits = has_fits f part n has in
      let none : any (has_value f part k isn value) (isns_from f part 1) ≡ false = rw (lt-ltb k (field_count f) in_use) at h in
      let no = any_number (has_value f part k isn value) (slot_count f (length part) + 1 - 1) 1 none n (fits_least f part n fits) (omega (arith, within_most 1 (slot_count f (length part)) n (rw (slot_fits_is f part n) at fits))) in
      let value_there : field_value f k (record_of f part n) ≡ value = ap (field_value f k) (some_record f part n w.bytes w.there) ∙ w.has in
      let yes : has_value f part k isn value n ≡ true = rw (ne_eqb n isn w.apart, has, value_there) (eqbs_self value) in
      not_both (has_value f part k isn value n) yes no
