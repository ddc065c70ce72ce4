-- `amend` meets its contract: the first byte of the slot says already that there is a record, and the bytes behind it keep their number.
-- Assumes nothing.
use Prim.Native.Nat.{◌+◌, ◌-◌, ◌≤◌}
use native.Mathlib.Omega.{arith}
use mathlib.Core.Path.{◌≡◌, refl, sym, ◌∙◌}
use mathlib.Core.Bool.{true}
use lib.ListN.{length}
use Rattle.lists.specs.Parts.{part, part_take}
use Rattle.records.specs.Records.{record_length}
use Rattle.store.specs.Store.{has_record, record_of}
use Rattle.store.proofs.Laws.{record_inside, record_of_length, put_over}
use Rattle.fields.specs.Fields.{write_fields}
use Rattle.fields.specs.Laws.{write_fields_length}
use Rattle.amendment.specs.Amendment.{amended}
use Rattle.amendment.proofs.amend.Goals as goal
use Rattle.amendment.proofs.amend.Goals.{After-slot_offset-start}

there : (c : After-slot_offset-start) → has_record c.args.f c.args.part.now c.args.isn ≡ true
there c = sym c.has_record.ensures ∙ c.if-not-has_record.false

room : (c : After-slot_offset-start) → c.slot_offset-start.result + 1 + record_length c.args.f ≤ length c.args.part.now
room c =
    let a = c.args in
    rw c.slot_offset-start.ensures (record_inside a.f a.part.now a.isn (there c))

pub returns-then-not-has_record : goal.returns-then-not-has_record
unfolding amended
returns-then-not-has_record c = rw (sym c.has_record.ensures ∙ c.if-not-has_record.true)

pub overflow_add-start : goal.overflow_add-start
overflow_add-start c = omega (arith, room (goal.at.overflow_add-start c).After-slot_offset-start)

pub overflow_add-end : goal.overflow_add-end
overflow_add-end c = omega (arith, room (goal.at.overflow_add-end c).After-slot_offset-start)

pub slice_bounds-write_fields-end : goal.slice_bounds-write_fields-end
slice_bounds-write_fields-end c = omega (arith, room (goal.at.slice_bounds-write_fields-end c).After-slot_offset-start)

pub returns : goal.returns
unfolding amended
returns c =
    let a = c.args in
    let start = c.slot_offset-start.result + 1 in
    let r = write_fields a.f a.format.now a.values.now (record_of a.f a.part.now a.isn) in
    let lent : part start c.record_length.result a.part.now ≡ record_of a.f a.part.now a.isn = part_take start c.record_length.result a.part.now ∙ rw (c.slot_offset-start.ensures, c.record_length.ensures) refl in
    let written : c.write_fields.new.content ≡ r = rw lent at c.write_fields.ensures in
    let size : start + c.record_length.result - start ≡ record_length a.f = omega (arith, c.record_length.ensures) in
    let long : length r ≡ record_length a.f = write_fields_length a.f a.format.now a.values.now (record_of a.f a.part.now a.isn) ∙ record_of_length a.f a.part.now a.isn (there (goal.at.returns c).After-slot_offset-start) in
    rw (written, size, c.slot_offset-start.ensures, there (goal.at.returns c).After-slot_offset-start) (put_over a.f a.part.now a.isn r (there (goal.at.returns c).After-slot_offset-start) long)
