-- `read` meets its contract. The loop's invariant: reading goes on from here to the same end.
-- Assumes nothing.
use Rattle.std.specs.Prelude.{Some}
use mathlib.Core.Path.{sym, ap, ◌∙◌}
use native.Mathlib.Omega.{arith}
use borrow.Author.Tests.{lt-ltb, le-ltb}
use Rattle.lists.specs.Rest.{part_to_end}
use Rattle.items.specs.Items.{item_of}
use Rattle.reading.proofs.Unread.{start, past, at_broken, at_end, file_full, file_more, file_inside, field_full, field_more, field_inside}
use Rattle.reading.proofs.read.Goals as goal

pub loop-at-init : goal.loop-at-init
loop-at-init c = rw c.no_definition-d.ensures (start _)

pub returns-then-from-ge-MAX_FILES : goal.returns-then-from-ge-MAX_FILES
returns-then-from-ge-MAX_FILES c =
    let h = c.loop-at-test.true in
    let i = sym (c.first_item.ensures ∙ ap item_of (part_to_end c.loop-at.at c.args.bytes.now)) ∙ c.in-Some.is ∙ ap Some c.in-File.is in
    c.broken-then-from-ge-MAX_FILES.ensures ∙ file_full _ _ _ c.loop-at.invariant h _ _ i (le-ltb c.loop-at.d.count 16 (omega arith))

pub add_file-d-requires : goal.add_file-d-requires
add_file-d-requires c = lt-ltb c.loop-at.d.count 16 (omega arith)

pub overflow_add-at : goal.overflow_add-at
overflow_add-at c =
    let h = c.loop-at-test.true in
    let i = sym (c.first_item.ensures ∙ ap item_of (part_to_end c.loop-at.at c.args.bytes.now)) ∙ c.in-Some.is ∙ ap Some c.in-File.is in
    omega (arith, file_inside _ _ _ c.loop-at.invariant h _ _ i)

pub loop-at-preserved-in-File : goal.loop-at-preserved-in-File
loop-at-preserved-in-File c =
    let h = c.loop-at-test.true in
    let i = sym (c.first_item.ensures ∙ ap item_of (part_to_end c.loop-at.at c.args.bytes.now)) ∙ c.in-Some.is ∙ ap Some c.in-File.is in
    rw c.add_file-d.ensures (file_more _ _ _ c.loop-at.invariant h _ _ i (lt-ltb c.loop-at.d.count 16 (omega arith)))

pub returns-then-not-room_for_field : goal.returns-then-not-room_for_field
returns-then-not-room_for_field c =
    let h = c.loop-at-test.true in
    let i = sym (c.first_item.ensures ∙ ap item_of (part_to_end c.loop-at.at c.args.bytes.now)) ∙ c.in-Some.is ∙ ap Some c.in-Field.is in
    c.broken-then-not-room_for_field.ensures ∙ field_full _ _ _ c.loop-at.invariant h _ i (sym c.room_for_field.ensures ∙ c.if-not-room_for_field.true)

pub add_field-d-requires : goal.add_field-d-requires
add_field-d-requires c = sym c.room_for_field.ensures ∙ c.if-not-room_for_field.false

pub overflow_add-at-in-Field : goal.overflow_add-at-in-Field
overflow_add-at-in-Field c =
    let h = c.loop-at-test.true in
    let i = sym (c.first_item.ensures ∙ ap item_of (part_to_end c.loop-at.at c.args.bytes.now)) ∙ c.in-Some.is ∙ ap Some c.in-Field.is in
    omega (arith, field_inside _ _ _ c.loop-at.invariant h _ i)

pub loop-at-preserved : goal.loop-at-preserved
loop-at-preserved c =
    let h = c.loop-at-test.true in
    let i = sym (c.first_item.ensures ∙ ap item_of (part_to_end c.loop-at.at c.args.bytes.now)) ∙ c.in-Some.is ∙ ap Some c.in-Field.is in
    rw c.add_field-d.ensures (field_more _ _ _ c.loop-at.invariant h _ i (sym c.room_for_field.ensures ∙ c.if-not-room_for_field.false))

pub returns-then-not-valid : goal.returns-then-not-valid
returns-then-not-valid c =
    let h = c.loop-at-test.true in
    let i = sym (c.first_item.ensures ∙ ap item_of (part_to_end c.loop-at.at c.args.bytes.now)) ∙ c.in-Some.is ∙ ap Some c.in-End.is in
    let no = sym c.valid.ensures ∙ c.if-not-valid.true in
    c.broken-then-not-valid.ensures ∙ rw no at (at_end _ _ _ c.loop-at.invariant h i)

pub returns-in-End : goal.returns-in-End
returns-in-End c =
    let h = c.loop-at-test.true in
    let i = sym (c.first_item.ensures ∙ ap item_of (part_to_end c.loop-at.at c.args.bytes.now)) ∙ c.in-Some.is ∙ ap Some c.in-End.is in
    let yes = sym c.valid.ensures ∙ c.if-not-valid.false in
    rw yes at (at_end _ _ _ c.loop-at.invariant h i)

pub returns-in_default : goal.returns-in_default
returns-in_default c =
    let h = c.loop-at-test.true in
    let i = sym (c.first_item.ensures ∙ ap item_of (part_to_end c.loop-at.at c.args.bytes.now)) ∙ c.in_default.is in
    c.broken.ensures ∙ at_broken _ _ _ c.loop-at.invariant h i

pub returns : goal.returns
returns c = c.broken-2.ensures ∙ past _ _ _ c.loop-at.invariant c.loop-at-test.false
