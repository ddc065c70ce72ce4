-- Where a file's part of the store ends: within a store that is as long as the table asks, and no store is too large for a number.
-- Assumes nothing.
use Rattle.std.specs.Prelude.{ℕ, ◌+◌, ◌*◌, ◌≤◌, ◌<◌, ◌≡◌, Some}
use Rattle.std.proofs.Common.{arith}
use Rattle.definition.specs.Table.{file_at, file_count}
use Rattle.definition.specs.Shape.{DefinitionShape, file_shape_at}
use Rattle.definition.specs.declared.Definition.{Definition}
use Rattle.records.specs.Records.{file_size}
use Rattle.records.specs.Bounds.{file_size_most}
use Rattle.layout.specs.Layout.{file_offset, store_size, place}
use Rattle.layout.specs.Laws.{place_found, file_within, store_size_most}

module _ (d : Definition) (shape : DefinitionShape d) where
  pub store_size_bounded : store_size d ≤ 16 * 267448335
  store_size_bounded = omega (arith, store_size_most d shape 267448335 (λ i h. file_size_most (file_at d i) (file_shape_at d shape i (omega arith))))

  module _ (number i : ℕ) (there : place d number ≡ Some i) where
    pub found_inside : i < file_count d
    found_inside = (place_found d shape number i there).0

    pub part_ends : file_offset d i + file_size (file_at d i) ≤ store_size d
    part_ends = file_within d shape i found_inside
