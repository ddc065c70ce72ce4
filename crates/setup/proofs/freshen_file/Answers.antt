-- `freshen_file` meets its contract: the file's part of the store lies where `file_part` has it. Assumes nothing.
use native.Mathlib.Omega.{arith}
use mathlib.Core.Path.{◌≡◌}
use Prim.Native.Nat.{◌+◌, ◌-◌, ◌≤◌}
use lib.ListN.{length}
use Rattle.definition.specs.Table.{file_at}
use Rattle.definition.specs.Shape.{DefinitionShape}
use Rattle.definition.proofs.Known.{definition_known}
use Rattle.records.specs.Records.{file_size}
use Rattle.layout.specs.Laws.{file_follows, file_within}
use Rattle.store.specs.Files.{file_part_is, with_part_is}
use Rattle.setup.proofs.freshen_file.Goals as goal
use Rattle.setup.proofs.freshen_file.Goals.{After-file_offset-end}

-- the part begins at the file's offset, has the file's size and ends within the store
ends : (c : After-file_offset-end)
    → (c.file_offset-end.result ≡ c.file_offset-start.result + file_size (file_at c.args.d c.args.i)) × (c.file_offset-end.result ≤ length c.args.store.now)
ends c =
    let shape : DefinitionShape c.args.d = definition_known _ _ c.well_formed.0 in
    let next = file_follows c.args.d shape c.args.i c.requires.i_bound in (
      omega (arith, next, c.file_offset-end.ensures, c.file_offset-start.ensures),
      omega (arith, next, c.file_offset-end.ensures, file_within c.args.d shape c.args.i c.requires.i_bound, c.requires.d_in_bounds),
    )

pub slice_bounds-fresh-count : goal.slice_bounds-fresh-count
slice_bounds-fresh-count c = omega (arith, ends (goal.at.slice_bounds-fresh-count c).After-file_offset-end)

pub slice_bounds-fresh-start : goal.slice_bounds-fresh-start
slice_bounds-fresh-start c = omega (arith, ends (goal.at.slice_bounds-fresh-start c).After-file_offset-end)

pub slice_bounds-fresh-end : goal.slice_bounds-fresh-end
slice_bounds-fresh-end c = omega (arith, ends (goal.at.slice_bounds-fresh-end c).After-file_offset-end)

pub returns : goal.returns
returns c =
    let size : c.file_offset-end.result - c.file_offset-start.result ≡ file_size (file_at c.args.d c.args.i) = omega (arith, ends (goal.at.returns c).After-file_offset-end) in
    rw (
      file_part_is c.args.d c.args.i c.args.store.now,
      with_part_is c.args.d c.args.i c.args.store.now,
      ← size,
      ← c.file_offset-start.ensures,
      c.fresh.ensures,
    )
