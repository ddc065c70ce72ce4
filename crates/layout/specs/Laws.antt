-- Laws of the layout: slots of different files and ISNs do not overlap, and end where the store ends; what `place` finds.
-- Assumes nothing.
use Rattle.std.specs.Prelude.{ℕ, zero, suc, ◌+◌, ◌-◌, ◌*◌, ◌≤◌, ◌<◌, ◌≡◌, List, [], ◌∷◌, ◌⊎◌, eqb, ltb, get_or, Some, None}
use Rattle.std.proofs.Common.{le_of_suc-le-suc, add-one, sym, ◌∙◌, inl, inr, get_or-take, ltb-true, ltb-false, eqb-true, eq-eqb}
use native.Mathlib.Omega.{arith}
use Rattle.std.proofs.Math.Path.{ap}
use Rattle.std.proofs.Math.ListN.{length}
use Rattle.std.proofs.Math.Seq.{length-take-le}
use Rattle.lists.specs.Tests.{Outcome, holds, fails, outcome}
use Rattle.definition.specs.Table.{beyond, file_at, file_count, files_of}
use Rattle.definition.specs.Shape.{DefinitionShape}
use Rattle.records.specs.Records.{slot_length, file_size}
use Rattle.layout.specs.Layout.{file_offset, slot_start, store_size, seek, place}
use Rattle.definition.specs.declared.File.{File}
use Rattle.definition.specs.declared.Definition.{Definition}
use Rattle.records.specs.Laws.{slot_before, slot_within}
use Rattle.lists.specs.Folds.{total_most, each_index}
use Rattle.lists.specs.Rows.{row_next, row_before, row_within}

-- ---- files of the store, and slots of different files and ISNs
module _ (d : Definition) (s : DefinitionShape d) where
  places_files : file_count d ≤ length d.files
  places_files = omega (arith, s.places)

  pub file_before : (i j : ℕ) → i < file_count d → i < j → file_offset d i + file_size (file_at d i) ≤ file_offset d j
  unfolding file_offset
  file_before i j h b = row_before file_size (file_count d) d.files beyond places_files i j h b

  -- a file's part of the store ends where the next one begins
  pub file_follows : (i : ℕ) → i < file_count d → file_offset d (i + 1) ≡ file_offset d i + file_size (file_at d i)
  unfolding file_offset
  file_follows i h = rw (add-one i) (row_next file_size (file_count d) d.files beyond places_files i h)

  pub file_within : (i : ℕ) → i < file_count d → file_offset d i + file_size (file_at d i) ≤ store_size d
  unfolding file_offset store_size
  file_within i h = row_within file_size (file_count d) d.files beyond places_files i h

  -- where no file has more bytes than a bound, the store has no more than all of them with as many
  pub store_size_most : (bound : ℕ) → ((i : ℕ) → i < file_count d → file_size (file_at d i) ≤ bound) → store_size d ≤ file_count d * bound
  unfolding store_size
  store_size_most bound each =
      let many : length (files_of d) ≡ file_count d = length-take-le (file_count d) d.files places_files in
      rw many at (total_most file_size bound (files_of d) (each_index (λ f. file_size f ≤ bound) beyond (files_of d)
      (λ i k. let h : i < file_count d = omega (arith, many) in rw (get_or-take (file_count d) d.files i beyond h) (each i h))))

  -- an ISN of the i-th file of the table
  pub record Slot (i n : ℕ) : Type 0 where
    pub file : i < file_count d
    pub least : 1 ≤ n
    pub most : n ≤ (file_at d i).max_isn

  pub slot_inside : (i n : ℕ) → Slot i n → slot_start d i n + slot_length (file_at d i) ≤ store_size d
  slot_inside i n h = omega (arith, slot_within (file_at d i) n h.least h.most, file_within i h.file)

  -- the slot of one ends before the slot of the other begins
  pub Before : ℕ → ℕ → ℕ → ℕ → Type 0
  Before i n j m = slot_start d i n + slot_length (file_at d i) ≤ slot_start d j m

  file_apart : (i n j m : ℕ) → Slot i n → i < j → Before i n j m
  unfolding Before
  file_apart i n j m h b = omega (arith, slot_within (file_at d i) n h.least h.most, file_before i j h.file b)

  isn_apart : (i n m : ℕ) → Slot i n → n < m → Before i n i m
  unfolding Before
  isn_apart i n m h b = omega (arith, slot_before (file_at d i) n m h.least b)

  pub slots_apart : (i n j m : ℕ) → Slot i n → Slot j m → (i ≡ j → n ≡ m → ⊥) → Before i n j m ⊎ Before j m i n
  slots_apart i n j m h k other = go (outcome (ltb i j)) (outcome (ltb j i)) (outcome (ltb n m)) (outcome (ltb m n))
    where
      go : Outcome (ltb i j) → Outcome (ltb j i) → Outcome (ltb n m) → Outcome (ltb m n) → Before i n j m ⊎ Before j m i n
      go (holds a) b c e = inl (file_apart i n j m h (ltb-true i j a))
      go (fails a) (holds b) c e = inr (file_apart j m i n k (ltb-true j i b))
      go (fails a) (fails b) (holds c) e =
          let same : j ≡ i = omega (arith, ltb-false i j a, ltb-false j i b) in
          inl (rw same (isn_apart i n m h (ltb-true n m c)))
      go (fails a) (fails b) (fails c) (holds e) =
          let same : j ≡ i = omega (arith, ltb-false i j a, ltb-false j i b) in
          inr (rw same (isn_apart i m n (rw same at k) (ltb-true m n e)))
      go (fails a) (fails b) (fails c) (fails e) =
          absurd (other (omega (arith, ltb-false i j a, ltb-false j i b)) (omega (arith, ltb-false n m c, ltb-false m n e)))

-- ---- a file by its number
-- what is sought from the i-th file on is found at a file that has the number
abbrev Sought : ℕ → List File → ℕ → ℕ → Type 0
Sought n fs i j = (i ≤ j) × (j < i + length fs) × ((get_or fs (j - i) beyond).number ≡ n)

seek_found : (n : ℕ) (fs : List File) (i j : ℕ) → seek n fs i ≡ Some j → Sought n fs i j
seek_found n [] i j e = absurd (let z : ◌≡◌ {A = ℕ} 0 1 = cc in omega arith)
seek_found n (f ∷ fs) i j e = go (outcome (eqb f.number n)) (seek_found n fs (i + 1) j)
  where
    go : Outcome (eqb f.number n) → (seek n fs (i + 1) ≡ Some j → Sought n fs (i + 1) j) → Sought n (f ∷ fs) i j
    go (holds t) later =
        let here : i ≡ j = cc (rw t at e) in
        let z : j - i ≡ 0 = omega arith in
        (omega arith, omega arith, rw z (eqb-true f.number n t))
    go (fails t) later =
        let r = later (rw t at e) in
        let z : j - i ≡ suc (j - (i + 1)) = omega (arith, r.0) in
        (omega (arith, r.0), omega (arith, r.1), rw z r.2)

seek_none : (n : ℕ) (fs : List File) (i k : ℕ) → seek n fs i ≡ None → k < length fs → (get_or fs k beyond).number ≡ n → ⊥
seek_none n [] i k e h q = omega arith
seek_none n (f ∷ fs) i zero e h q =
    let t = eq-eqb f.number n q in
    let z : ◌≡◌ {A = ℕ} 0 1 = cc (rw t at e) in
    omega arith
seek_none n (f ∷ fs) i (suc k) e h q = go (outcome (eqb f.number n)) (λ e'. seek_none n fs (i + 1) k e' (le_of_suc-le-suc h) q)
  where
    go : Outcome (eqb f.number n) → (seek n fs (i + 1) ≡ None → ⊥) → ⊥
    go (holds t) later = let z : ◌≡◌ {A = ℕ} 0 1 = cc (rw t at e) in omega arith
    go (fails t) later = later (rw t at e)

module _ (d : Definition) (s : DefinitionShape d) where
  pub place_found : (n i : ℕ) → place d n ≡ Some i → (i < file_count d) × ((file_at d i).number ≡ n)
  unfolding place
  place_found n i e =
      let r = seek_found n (files_of d) 0 i e in
      let m : i < file_count d = omega (arith, r.1, length-take-le (file_count d) d.files (places_files d s)) in
      let z : i - 0 ≡ i = omega arith in
      (m, ap (λ (f : File). f.number) (sym (get_or-take (file_count d) d.files i beyond m)) ∙ rw z at r.2)

  pub place_nowhere : (n i : ℕ) → place d n ≡ None → i < file_count d → (file_at d i).number ≡ n → ⊥
  unfolding place
  place_nowhere n i e h q =
      seek_none n (files_of d) 0 i e (omega (arith, length-take-le (file_count d) d.files (places_files d s)))
      (ap (λ (f : File). f.number) (get_or-take (file_count d) d.files i beyond h) ∙ q)
