-- What a valid definition has, for callers: its files are valid, their numbers differ, and its sizes.
-- Assumes nothing.
use Rattle.std.specs.Prelude.{ℕ, ◌≤◌, ◌<◌, ◌≡◌, refl, true, ltb, length, Option, Some, None}
use Rattle.std.proofs.Common.{mul-le-mul, arith, sym, ap, get_or-take, length-take-le, ltb-true, ltb-false}
use Rattle.std.proofs.lemmas.Bool.{eqb-false}
use Rattle.lists.specs.Tests.{Outcome, holds, fails, outcome, within, within_least, and_left, and_right}
use Rattle.lists.specs.Folds.{all, distinct, sound, all_at, distinct_at}
use Rattle.definition.specs.Table.{max_files, beyond, file_at, file_count, files_of, numbered_alike}
use Rattle.definition.specs.Shape.{DefinitionShape}
use Rattle.definition.specs.declared.Definition.{Definition}
use Rattle.records.specs.Records.{slot_length, file_size}
use Rattle.layout.specs.Layout.{store_size, place}
use Rattle.layout.specs.Laws.{store_size_most, place_found, place_nowhere}
use Rattle.file_validity.specs.FileValidity.{file_valid}
use Rattle.file_validity.proofs.Laws.{ValidFile, valid_file}
use Rattle.validity.specs.Validity.{valid}

-- ---- a valid definition
module _ (d : Definition) (s : DefinitionShape d) (v : valid d ≡ true) where
  places : file_count d ≤ length d.files
  places = omega (arith, s.places)

  count : within 1 max_files d.count ≡ true
  unfolding valid
  count = and_left (within 1 max_files d.count) (sound file_valid numbered_alike (files_of d)) v

  pub count_least : 1 ≤ file_count d
  count_least = omega (arith, within_least 1 max_files d.count count)

  files_sound : sound file_valid numbered_alike (files_of d) ≡ true
  unfolding valid
  files_sound = and_right (within 1 max_files d.count) (sound file_valid numbered_alike (files_of d)) v

  pub valid_at : (i : ℕ) → i < file_count d → ValidFile (file_at d i)
  valid_at i h =
      let each = and_left (all file_valid (files_of d)) (distinct numbered_alike (files_of d)) files_sound in
      let here = all_at file_valid (files_of d) beyond each i (omega (arith, length-take-le (file_count d) d.files places)) in
      valid_file (file_at d i) (rw (get_or-take (file_count d) d.files i beyond h) at here)

  -- no two files have one number
  pub numbers_apart : (i j : ℕ) → i < j → j < file_count d → (file_at d i).number ≡ (file_at d j).number → ⊥
  numbers_apart i j b h =
      let m : i < file_count d = omega arith in
      let apart = and_right (all file_valid (files_of d)) (distinct numbered_alike (files_of d)) files_sound in
      let unlike = distinct_at numbered_alike (files_of d) beyond apart i j b (omega (arith, length-take-le (file_count d) d.files places)) in
      eqb-false _ _ (rw (get_or-take (file_count d) d.files i beyond m, get_or-take (file_count d) d.files j beyond h) at unlike)

  -- so a file's number leads to its place
  pub place_own : (i : ℕ) → i < file_count d → place d (file_at d i).number ≡ Some i
  place_own i h = go (place d (file_at d i).number) refl
    where
      go : (r : Option ℕ) → place d (file_at d i).number ≡ r → r ≡ Some i
      go (Some j) e =
          let p = place_found d s (file_at d i).number j e in
          ap Some (same j p.0 p.1 (outcome (ltb i j)) (outcome (ltb j i)))
        where
          same : (j : ℕ) → j < file_count d → (file_at d j).number ≡ (file_at d i).number → Outcome (ltb i j) → Outcome (ltb j i) → j ≡ i
          same j k q (holds a) b = absurd (numbers_apart i j (ltb-true i j a) k (sym q))
          same j k q (fails a) (holds b) = absurd (numbers_apart j i (ltb-true j i b) h q)
          same j k q (fails a) (fails b) = omega (arith, ltb-false i j a, ltb-false j i b)
      go None e = absurd (place_nowhere d s (file_at d i).number i e h refl)

  -- ---- sizes
  pub file_size_valid : (i : ℕ) → i < file_count d → file_size (file_at d i) ≤ 2100735
  file_size_valid i h =
      let f = valid_at i h in
      let w : slot_length (file_at d i) ≤ 513 = omega (arith, f.length_most) in
      mul-le-mul f.isn_most w

  pub store_size_valid : store_size d ≤ 33611760
  store_size_valid = omega (arith, store_size_most d s 2100735 file_size_valid)
