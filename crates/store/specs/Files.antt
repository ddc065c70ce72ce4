-- Laws of the whole store: a file's part after its own, or another's, was replaced. Nothing past the store's size is touched.
-- Assumes nothing.
use Rattle.std.specs.Prelude.{ℕ, ◌+◌, ◌-◌, ◌≤◌, ◌<◌, ◌≡◌, List, ltb, length, drop}
use Rattle.std.proofs.Common.{arith, inl, inr, ltb-true, ltb-false}
use Rattle.std.proofs.Math.Path.{refl}
use Rattle.lists.specs.Tests.{Outcome, holds, fails, outcome}
use Rattle.definition.specs.Table.{file_at, file_count}
use Rattle.definition.specs.Shape.{DefinitionShape}
use Rattle.definition.specs.declared.Definition.{Definition}
use Rattle.records.specs.Records.{file_size}
use Rattle.layout.specs.Layout.{file_offset, store_size}
use Rattle.layout.specs.Laws.{file_before, file_within}
use Rattle.lists.specs.Parts.{length_piece, Apart}
use Rattle.lists.specs.Pieces.{piece, patch, length_patch, patch_own, patch_same, patch_other, patch_behind}
use Rattle.store.specs.Store.{file_part, with_part}

-- where a file's part lies
module _ (d : Definition) (i : ℕ) (store : List ℕ) where
  pub file_part_is : file_part d i store ≡ piece (file_offset d i) (file_size (file_at d i)) store
  unfolding file_part
  file_part_is = refl

  pub with_part_is : (part : List ℕ) → with_part d i store part ≡ patch (file_offset d i) (file_size (file_at d i)) store part
  unfolding with_part
  with_part_is part = refl

  -- its own part put back
  pub part_own : with_part d i store (file_part d i store) ≡ store
  unfolding file_part with_part
  part_own = patch_own (file_offset d i) (file_size (file_at d i)) store

module _ (d : Definition) (s : DefinitionShape d) (store : List ℕ) (room : store_size d ≤ length store) where
  inside : (i : ℕ) → i < file_count d → file_offset d i + file_size (file_at d i) ≤ length store
  inside i h = omega (arith, file_within d s i h)

  pub file_part_length : (i : ℕ) → i < file_count d → length (file_part d i store) ≡ file_size (file_at d i)
  unfolding file_part
  file_part_length i h = length_piece (file_offset d i) (file_size (file_at d i)) store (inside i h)

  -- files lie apart
  apart : (i j : ℕ) → i < file_count d → j < file_count d → (j ≡ i → ⊥) → Apart (file_offset d i) (file_size (file_at d i)) (file_offset d j) (file_size (file_at d j))
  apart i j h k other = go (outcome (ltb i j)) (outcome (ltb j i))
    where
      go : Outcome (ltb i j) → Outcome (ltb j i) → Apart (file_offset d i) (file_size (file_at d i)) (file_offset d j) (file_size (file_at d j))
      go (holds a) b = inl (file_before d s i j h (ltb-true i j a))
      go (fails a) (holds b) = inr (file_before d s j i k (ltb-true j i b))
      go (fails a) (fails b) = absurd (other (omega (arith, ltb-false i j a, ltb-false j i b)))

  module _ (i : ℕ) (in_use : i < file_count d) (part : List ℕ) (whole : length part ≡ file_size (file_at d i)) where
    pub with_part_length : length (with_part d i store part) ≡ length store
    unfolding with_part
    with_part_length = length_patch (file_offset d i) (file_size (file_at d i)) store part (inside i in_use) whole

    pub part_same : file_part d i (with_part d i store part) ≡ part
    unfolding file_part with_part
    part_same = patch_same (file_offset d i) (file_size (file_at d i)) store part (inside i in_use) whole

    pub part_other : (j : ℕ) → j < file_count d → (j ≡ i → ⊥) → file_part d j (with_part d i store part) ≡ file_part d j store
    unfolding file_part with_part
    part_other j k other =
        patch_other (file_offset d i) (file_size (file_at d i)) store part (inside i in_use) whole (file_offset d j) (file_size (file_at d j))
        (apart i j in_use k other)

    -- "Bytes and entries past these sizes are never touched"
    pub part_past : drop (store_size d) (with_part d i store part) ≡ drop (store_size d) store
    unfolding with_part
    part_past =
        let end = file_offset d i + file_size (file_at d i) in
        let e : end + (store_size d - end) ≡ store_size d = omega (arith, file_within d s i in_use) in
        rw e at (patch_behind (file_offset d i) (file_size (file_at d i)) store part (inside i in_use) whole (store_size d - end))
