-- `field_offset` meets its contract. The loop's invariant: the sum so far and the lengths that are left add up to the whole.
-- Assumes nothing.
use Prim.Native.Nat.{min, ◌+◌, ◌≤◌}
use mathlib.Core.Path.{◌≡◌, ap, ◌∙◌}
use native.Mathlib.Omega.{arith}
use lib.ListN.{take}
use Rattle.lists.specs.Folds.{total}
use Rattle.lists.specs.Rest.{rest_none, take_min}
use Rattle.definition.specs.Table.{field_at, field_count}
use Rattle.records.specs.Records.{field_length, field_offset}
use Rattle.records.specs.Bounds.{field_length_most}
use Rattle.definition.specs.Shape.{FileShape, field_turn}
use Rattle.definition.proofs.Known.{file_known}
use Rattle.records.proofs.field_offset.Goals as goal
use Rattle.records.proofs.field_offset.Goals.{In-loop-i, else-i-n, then-i-n}

-- a field's length is a byte
short : (c : In-loop-i) → field_length (field_at c.args.f c.loop-i.i) ≤ 255
short c =
    field_length_most c.args.f (file_known _ _ c.well_formed.0) c.loop-i.i

pub overflow_add-sum : goal.overflow_add-sum
overflow_add-sum c = omega (arith, short (goal.at.overflow_add-sum c).In-loop-i)

pub loop-i-preserved : goal.loop-i-preserved
loop-i-preserved c =
    let f = c.args.f in
    let s : FileShape f = file_known _ _ c.well_formed.0 in
    let n = c.min-n.result in
    elim c.if-i-n.branch [ then-i-n w ↦ omega (arith, ap (total field_length) (field_turn f s n c.loop-i.i w.if-i-n.true (omega arith)), short (goal.at.loop-i-preserved c).In-loop-i) | else-i-n w ↦ omega (arith, ap (total field_length) (rest_none n f.fields c.loop-i.i w.if-i-n.false), ap (total field_length) (rest_none n f.fields (c.loop-i.i + 1) (omega arith))) ]

pub returns : goal.returns
unfolding field_offset
returns c =
    let a = c.args in
    let n = c.min-n.result in
    let none = ap (total field_length) (rest_none n a.f.fields c.loop-i.i (omega arith)) in
    let whole : c.loop-i.sum ≡ total field_length (take n a.f.fields) = omega (arith, none) in
    let count : n ≡ min a.k (field_count a.f) = rw (← c.field_count.ensures) c.min-n.ensures in
    whole ∙ rw (count, ← (take_min a.k (field_count a.f) a.f.fields))
