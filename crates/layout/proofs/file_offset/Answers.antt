-- `file_offset` meets its contract, as `field_offset` does.
-- Assumes nothing.
use Rattle.std.proofs.Common.{ℕ, min, ◌≡◌, ◌<◌, ◌≤◌, ap, ◌∙◌, arith, length, take, length-take, get_or, get_or-take, drop_of_length-le}
use Rattle.lists.specs.Folds.{total}
use Rattle.lists.specs.Rest.{drop_more, take_min}
use Rattle.definition.specs.Table.{beyond, file_count}
use Rattle.definition.specs.declared.Definition.{Definition}
use Rattle.records.specs.Records.{file_size}
use Rattle.layout.specs.Layout.{file_offset}
use Rattle.definition.specs.Shape.{DefinitionShape, file_shape_at}
use Rattle.records.specs.Bounds.{file_size_most}
use Rattle.definition.proofs.Known.{definition_known}
use Rattle.layout.proofs.file_offset.Goals as goal

-- the file that the loop is at
most : (d : Definition) → DefinitionShape d → (n i : ℕ) → i < length (take n d.files) → file_size (get_or (take n d.files) i beyond) ≤ 267448335
most d s n i h =
    let taken = length-take n d.files in
    rw (get_or-take n d.files i beyond (omega arith)) (file_size_most _ (file_shape_at d s i (omega (arith, s.places))))

pub overflow_add-sum : goal.overflow_add-sum
overflow_add-sum c =
    let s = definition_known _ _ c.well_formed.0 in
    omega (arith, s.places, length-take c.min-n.result c.args.d.files, most c.args.d s c.min-n.result c.loop-f.f-index c.loop-f-test.true)

pub loop-f-preserved : goal.loop-f-preserved
loop-f-preserved c =
    let d = c.args.d in
    let e = ap (total file_size) (drop_more (take c.min-n.result d.files) c.loop-f.f-index beyond c.loop-f-test.true) in
    omega (arith, e, c.file_size-sum.ensures, most d (definition_known _ _ c.well_formed.0) c.min-n.result c.loop-f.f-index c.loop-f-test.true)

pub returns : goal.returns
unfolding file_offset
returns c =
    let a = c.args in
    let n = c.min-n.result in
    let none = ap (total file_size) (drop_of_length-le (take n a.d.files) c.loop-f-test.false) in
    let whole : c.loop-f.sum ≡ total file_size (take n a.d.files) = omega (arith, none) in
    let count : n ≡ min a.i (file_count a.d) = rw (← c.file_count.ensures) c.min-n.ensures in
    whole ∙ rw (count, ← (take_min a.i (file_count a.d) a.d.files))
