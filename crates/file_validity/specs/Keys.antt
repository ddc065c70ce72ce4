-- No two alike, judged by a number that each element has: those passed are kept as a list of their numbers.
-- Assumes nothing.
use Rattle.std.specs.Prelude.{ℕ, ◌+◌, ◌*◌, ◌≤◌, ◌<◌, ◌≡◌, Bool, true, false, List, [], ◌∷◌, ◌++◌, map, eqb, length, take, drop, get_or, set}
use Rattle.std.proofs.Common.{add-one, arith, ◌∙◌, take-append-drop, get_or-take, length-take-le, take-suc, take-suc-set, eqb-true, eq-eqb}
use Rattle.std.proofs.lemmas.List.{map-append}
use Rattle.lists.specs.Tests.{not_both, Outcome, holds, fails, outcome, and_left, and_right, and-false, both_ways}
use Rattle.lists.specs.Folds.{Each, all, any, distinct, sound, all_at, all_append}
use Rattle.lists.specs.Every.{any_each}
use Rattle.lists.specs.Maps.{any_over}
use Rattle.lists.specs.Distinct.{distinct_last, distinct_front}
use Rattle.definition.specs.Table.{same_name}
use Rattle.definition.specs.declared.Name.{Name}

-- a name as one number
abbrev pub name_number : Name → ℕ
name_number n = n.first * 256 + n.second

-- names of bytes are the same where their numbers are
pub same_number : (m n : Name) → m.first < 256 → m.second < 256 → n.first < 256 → n.second < 256 → eqb (name_number n) (name_number m) ≡ same_name m n
same_number m n a b p q =
    both_ways (eqb (name_number n) (name_number m)) (same_name m n)
    (λ h.
    let e = eqb-true (name_number n) (name_number m) h in
    rw (eq-eqb m.first n.first (omega (arith, e)), eq-eqb m.second n.second (omega (arith, e))))
    (λ h.
    let first = eqb-true m.first n.first (and_left _ _ h) in
    let second = eqb-true m.second n.second (and_right (eqb m.first n.first) _ h) in
    eq-eqb (name_number n) (name_number m) (omega (arith, first, second)))

-- ---- one turn of a loop over the first n elements of a list, those before the i-th passed
module _ {A : Type 0} (ok : A → Bool) (like : A → A → Bool) (n : ℕ) (l : List A) (d : A) (fits : n ≤ length l) (i : ℕ) (more : i < n) where
  passed : take (i + 1) (take n l) ≡ take i (take n l) ++ get_or l i d ∷ []
  passed =
      let m : i < length (take n l) = omega (arith, length-take-le n l fits) in
      rw (add-one i, ← (get_or-take n l i d more)) (take-suc (take n l) i d m)

  pub sound_so_far : sound ok like (take i (take n l)) ≡ true → ok (get_or l i d) ≡ true → any (λ x. like x (get_or l i d)) (take i (take n l)) ≡ false → sound ok like (take (i + 1) (take n l)) ≡ true
  sound_so_far s o h =
      let xs = take i (take n l) in
      rw (
        passed,
        all_append ok xs (get_or l i d ∷ []),
        distinct_last like xs (get_or l i d),
        and_left (all ok xs) (distinct like xs) s,
        and_right (all ok xs) (distinct like xs) s,
        o,
        h,
      )

  pub unsound_here : ok (get_or l i d) ≡ false → sound ok like (take n l) ≡ false
  unsound_here o = go (outcome (sound ok like (take n l)))
    where
      go : Outcome (sound ok like (take n l)) → sound ok like (take n l) ≡ false
      go (fails e) = e
      go (holds e) =
          let each = and_left (all ok (take n l)) (distinct like (take n l)) e in
          let m : i < length (take n l) = omega (arith, length-take-le n l fits) in
          not_both (ok (get_or l i d)) (rw (get_or-take n l i d more) at (all_at ok (take n l) d each i m)) o

  pub alike_here : any (λ x. like x (get_or l i d)) (take i (take n l)) ≡ true → sound ok like (take n l) ≡ false
  alike_here h =
      let xs = take i (take n l) in
      let two : distinct like (take (i + 1) (take n l)) ≡ false = rw (passed, distinct_last like xs (get_or l i d), h) (and-false (distinct like xs)) in
      let whole : distinct like (take n l) ≡ false = rw (take-append-drop (i + 1) (take n l)) at (distinct_front like (take (i + 1) (take n l)) (drop (i + 1) (take n l)) two) in
      rw whole (and-false (all ok (take n l)))

  -- ---- the numbers of those passed
  module _ (key : A → ℕ) (keys : List ℕ) (kept : take i keys ≡ map key (take i (take n l))) where
    pub alike_by_key : Each (λ x. eqb (key (get_or l i d)) (key x) ≡ like x (get_or l i d)) (take i (take n l)) → any (eqb (key (get_or l i d))) (take i keys) ≡ any (λ x. like x (get_or l i d)) (take i (take n l))
    alike_by_key agree =
        let y = get_or l i d in
        rw kept (any_over key (eqb (key y)) (take i (take n l)) ∙ any_each (λ x. eqb (key y) (key x)) (λ x. like x y) (take i (take n l)) agree)

    pub kept_more : i < length keys → take (i + 1) (set keys i (key (get_or l i d))) ≡ map key (take (i + 1) (take n l))
    kept_more m =
        rw (passed, map-append key (take i (take n l)) (get_or l i d ∷ []), ← kept, add-one i) (take-suc-set keys i (key (get_or l i d)) m)
