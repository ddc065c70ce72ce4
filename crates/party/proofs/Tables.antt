-- The items of a table, read one after another.
-- Assumes nothing.
use Rattle.std.specs.Prelude.{Option, None, Some, IfSome, min, ltb, eqb}
use Rattle.std.proofs.Common.{◌≡◌, ℕ, ◌+◌, ◌-◌, ◌≤◌, ◌<◌, refl, List, [], ◌++◌, arith, length, take, drop, get_or, sym, ap, ◌∙◌, subst, length-drop, take-add, drop-drop, ltb-true, ltb-false, eqb-true}
use Rattle.std.proofs.lemmas.Bool.{eqb-false}
use Rattle.reading.specs.Grammar.{read_table}
use Rattle.house.specs.House.{rest_of_item}
use Rattle.lists.specs.Tests.{Outcome, holds, fails, outcome}
use Rattle.party.proofs.Passing.{Passes, passes_start, passes_item, passes_end, passes_none, passes_full}
use Rattle.party.specs.Serving.{ItemRead, NoItem, TableRead, TableFound}

-- what holds of what was found holds of it
pub item_there : {A : Type 0} (P : A → Type 0) (r : Option A) (x : A) → r ≡ Some x → IfSome r P → P x
item_there P r x e p = let q : IfSome (Some x) P = subst (λ r. IfSome r P) e p in q

-- ---- kinds
bytes_same : (n m : ℕ) → Some n ≡ Some m → n ≡ m
bytes_same n m q = cc

no_bytes : {P : Type 0} (n : ℕ) → None ≡ Some n → P
no_bytes n q = absurd (let z : ◌≡◌ {A = ℕ} 0 1 = cc in omega arith)

kind_zero : (k : ℕ) → rest_of_item k ≡ Some 0 → k ≡ 0
unfolding rest_of_item
kind_zero k = go (outcome (eqb k 0)) (outcome (eqb k 1)) (outcome (eqb k 2))
  where
    go : Outcome (eqb k 0) → Outcome (eqb k 1) → Outcome (eqb k 2) → rest_of_item k ≡ Some 0 → k ≡ 0
    go (holds a) b c q = eqb-true k 0 a
    go (fails a) (holds b) c q = let long : Some 3 ≡ Some 0 = sym (rw (a, b) refl) ∙ q in absurd (omega (arith, bytes_same 3 0 long))
    go (fails a) (fails b) (holds c) q = let long : Some 5 ≡ Some 0 = sym (rw (a, b, c) refl) ∙ q in absurd (omega (arith, bytes_same 5 0 long))
    go (fails a) (fails b) (fails c) q = let bad : None ≡ Some 0 = sym (rw (a, b, c) refl) ∙ q in no_bytes 0 bad

-- so far a table lies where it was read to, and a reading of it goes by there
abbrev pub Passed : List ℕ → Option (List ℕ) → ℕ → List ℕ → Type 0
Passed xs left at table = Passes xs at × (at ≤ length xs) × (take at table ≡ take at xs) × (left ≡ Some (drop at xs))

pub passed_start : (r : Option (List ℕ)) (table : List ℕ) → IfSome r (λ xs. Passed xs r 0 table)
passed_start None table = tt
passed_start (Some xs) table = (passes_start xs, omega arith, refl, refl)

-- ---- an item more
module _ (xs : List ℕ) (r left : Option (List ℕ)) (at next : ℕ) (old new : List ℕ) (p : Passed xs r at old) (i : ItemRead (drop at xs) left at next old new) where
  there : at + (1 + i.0) ≡ next
  there = omega (arith, i.2)

  lies : take next new ≡ take next xs
  lies = i.4 ∙ ap (λ l. l ++ take (1 + i.0) (drop at xs)) p.2 ∙ sym (take-add at (1 + i.0) xs) ∙ ap (λ n. take n xs) there

  behind : left ≡ Some (drop next xs)
  behind = i.5 ∙ ap Some (drop-drop (1 + i.0) at xs) ∙ ap (λ n. Some (drop n xs)) there

  goes_on : (next ≡ at + 1 → ⊥) → Passed xs left next new
  goes_on no_end =
      let some_body : 1 ≤ i.0 = omega arith in
      let here : at + 1 + i.0 ≡ next = sym i.2 in
      (subst (Passes xs) here (passes_item xs at i.0 i.1 some_body p.0), omega (arith, i.2, i.3, length-drop at xs, p.1), lies, behind)

  ends : next ≡ at + 1 → TableRead xs left next new
  ends last = (lies, (λ e q. passes_end xs at zero_kind p.0 e q ∙ sym last), behind)
    where
      none_behind : i.0 ≡ 0
      none_behind = omega (arith, i.2, last)

      zero_kind : get_or (drop at xs) 0 0 ≡ 0
      zero_kind = kind_zero (get_or (drop at xs) 0 0) (i.1 ∙ ap Some none_behind)

pub passed_item : (r₀ r left : Option (List ℕ)) (at next : ℕ) (old new : List ℕ) → IfSome r₀ (λ xs. Passed xs r at old) → IfSome r (λ ys. ItemRead ys left at next old new)
    → (next ≡ at + 1 → ⊥) → IfSome r₀ (λ xs. Passed xs left next new)
passed_item None r left at next old new p i h = tt
passed_item (Some xs) r left at next old new p i h = goes_on xs r left at next old new p (subst (λ r. IfSome r (λ ys. ItemRead ys left at next old new)) p.3 i) h

pub passed_end : (r₀ r left : Option (List ℕ)) (at next : ℕ) (old new : List ℕ) → IfSome r₀ (λ xs. Passed xs r at old) → IfSome r (λ ys. ItemRead ys left at next old new)
    → next ≡ at + 1 → IfSome r₀ (λ xs. TableRead xs left next new)
passed_end None r left at next old new p i h = tt
passed_end (Some xs) r left at next old new p i h = ends xs r left at next old new p (subst (λ r. IfSome r (λ ys. ItemRead ys left at next old new)) p.3 i) h

-- ---- no item more
module _ (xs : List ℕ) (at : ℕ) (p : Passes xs at) where
  stuck : (room : ℕ) → 1601 ≤ at + room → NoItem (drop at xs) room → (e : ℕ) → (read_table xs).end ≡ Some e → ⊥
  stuck room long none = go (rest_of_item (get_or (drop at xs) 0 0)) refl
    where
      cut : (n : ℕ) → rest_of_item (get_or (drop at xs) 0 0) ≡ Some n → Outcome (ltb (length xs - at) (1 + n)) → (e : ℕ) → (read_table xs).end ≡ Some e → ⊥
      cut n k (holds h) = passes_none xs at (λ m k'. omega (arith, bytes_same m n (sym k' ∙ k), ltb-true (length xs - at) (1 + n) h)) p
      cut n k (fails h) = full (outcome (eqb n 0))
        where
          over : 1601 < at + 1 + n
          over = omega (arith, none n k, length-drop at xs, ltb-false (length xs - at) (1 + n) h, long)

          full : Outcome (eqb n 0) → (e : ℕ) → (read_table xs).end ≡ Some e → ⊥
          full (holds z) = passes_full xs at (omega (arith, over, eqb-true n 0 z)) p
          full (fails z) = passes_full xs (at + 1 + n) (omega (arith, over)) (passes_item xs at n k (omega (arith, eqb-false n 0 z)) p)

      go : (w : Option ℕ) → rest_of_item (get_or (drop at xs) 0 0) ≡ w → (e : ℕ) → (read_table xs).end ≡ Some e → ⊥
      go (Some n) k = cut n k (outcome (ltb (length xs - at) (1 + n)))
      go None k = passes_none xs at (λ n k'. no_bytes n (sym k ∙ k')) p

pub passed_none : (r₀ r left : Option (List ℕ)) (at room : ℕ) (old new : List ℕ) → IfSome r₀ (λ xs. Passed xs r at old) → IfSome r (λ ys. NoItem ys room) → 1601 ≤ at + room
    → IfSome r₀ (λ xs. TableFound xs left None new)
passed_none None r left at room old new p i h = tt
passed_none (Some xs) r left at room old new p i h = stuck xs at p.0 room h (subst (λ r. IfSome r (λ ys. NoItem ys room)) p.3 i)

pub passed_full : (r₀ r left : Option (List ℕ)) (at : ℕ) (old new : List ℕ) → IfSome r₀ (λ xs. Passed xs r at old) → 1601 ≤ at → IfSome r₀ (λ xs. TableFound xs left None new)
passed_full None r left at old new p h = tt
passed_full (Some xs) r left at old new p h = passes_full xs at h p.0
