-- `put_nulls` meets its contract. The loop's invariant: the nulls of the fields that are left, stored from here on, make the whole.
-- Assumes nothing.
use Prim.Native.Nat.{◌+◌, ◌≤◌, ◌<◌}
use native.Mathlib.Omega.{arith}
use mathlib.Core.Path.{◌≡◌, refl, sym, ◌∙◌}
use lib.ListN.{length, drop}
use lib.Seq.{sets}
use borrow.Author.Tests.{le-leb, lt-leb}
use Rattle.lists.specs.Parts.{sets_append}
use Rattle.definition.specs.Table.{field_at, field_count, fields_of}
use Rattle.definition.specs.Shape.{FileShape, field_next, no_field_left}
use Rattle.definition.proofs.Known.{file_known}
use Rattle.records.specs.Records.{field_length, field_offset, record_length}
use Rattle.records.specs.Laws.{field_offset_is, field_follows, field_within}
use Rattle.values.specs.Values.{null_value}
use Rattle.values.specs.Laws.{null_length}
use Rattle.nulls.specs.Nulls.{nulls, null_record}
use Rattle.nulls.proofs.put_nulls.Goals as goal
use Rattle.nulls.proofs.put_nulls.Goals.{In-loop-k}

shape : (c : In-loop-k) → FileShape c.args.f
shape c = file_known _ _ c.well_formed.0

-- the field at k is in use, so it lies in the record
in_use : (c : In-loop-k) → c.loop-k.k < field_count c.args.f
in_use c = omega (arith, c.field_count-k-end.ensures, c.loop-k-test.true)

room : (c : In-loop-k) → field_offset c.args.f c.loop-k.k + field_length (field_at c.args.f c.loop-k.k) ≤ length c.loop-k.content
room c =
    omega (arith, field_within c.args.f (shape c) c.loop-k.k (in_use c), c.loop-k.invariant.0, c.record_length.ensures, c.if-content-record_length.false)

pub returns-then-content-record_length : goal.returns-then-content-record_length
unfolding null_record
returns-then-content-record_length c = rw (lt-leb (record_length c.args.f) (length c.args.content.now) (omega (arith, c.record_length.ensures, c.if-content-record_length.true)))

pub loop-k-init : goal.loop-k-init
loop-k-init c = (refl, rw (field_offset_is _ 0))

pub null_at-requires : goal.null_at-requires
null_at-requires c = rw (c.field_offset.ensures, c.from.ensures, c.field_at-g.ensures) (room (goal.at.null_at-requires c).In-loop-k)

pub loop-k-preserved : goal.loop-k-preserved
loop-k-preserved c =
    let f = c.args.f in
    let k = c.loop-k.k in
    let g = field_at f k in
    let v = null_value g.format (field_length g) in
    let rest = nulls (drop (k + 1) (fields_of f)) in
    let next = field_next f (shape (goal.at.loop-k-preserved c).In-loop-k) k (in_use (goal.at.loop-k-preserved c).In-loop-k) in
    let now : c.null_at.new.content ≡ sets c.loop-k.content (field_offset f k) v = rw (c.field_offset.ensures, c.from.ensures, c.field_at-g.ensures) at c.null_at.ensures in
    let turn : sets c.loop-k.content (field_offset f k) (nulls (drop k (fields_of f))) ≡ sets (sets c.loop-k.content (field_offset f k) v) (field_offset f k + field_length g) rest = rw (next, sets_append c.loop-k.content (field_offset f k) v rest, null_length g.format (field_length g)) refl in
    (omega (arith, c.null_at.auto.content, c.loop-k.invariant.0), rw (now, field_follows f (shape (goal.at.loop-k-preserved c).In-loop-k) k (in_use (goal.at.loop-k-preserved c).In-loop-k)) (sym turn ∙ c.loop-k.invariant.1))

pub shape_of-content : goal.shape_of-content
shape_of-content c = c.loop-k.invariant.0

pub returns : goal.returns
unfolding null_record
returns c =
    let f = c.args.f in
    let fits : record_length f ≤ length c.args.content.now = omega (arith, c.record_length.ensures, c.if-content-record_length.false) in
    let none = no_field_left f c.loop-k.k (omega (arith, c.field_count-k-end.ensures, c.loop-k-test.false)) in
    rw (le-leb (record_length f) (length c.args.content.now) fits) (rw none at c.loop-k.invariant.1)
