-- `add_at` meets its contract: the rows 47, 70 and 198, and then the record, its entry and the image.
-- Assumes nothing.
use Rattle.std.specs.Prelude.{Some, None}
use Prim.Native.Nat.{◌≤◌}
use mathlib.Core.Path.{◌≡◌, refl, sym, ◌∙◌}
use mathlib.Core.Bool.{false}
use lib.ListN.{length, take}
use lib.Seq.{length-take-le}
use native.Mathlib.Omega.{arith}
use Rattle.nucleus.specs.Rows.{first_cause}
use Rattle.shares.specs.Causes.{verdict_refused, verdict_passed}
use Rattle.shares.specs.Chains.{rows_room, added, taken}
use Rattle.new_records.specs.Laws.{new_length_most, new_is_added}
use Rattle.adding.specs.Laws.{no_room_left, room_left}
use Rattle.adding.proofs.add_at.Goals as goal
use Rattle.adding.proofs.add_at.Goals.{After-new_record-n, After-taken, In-Err, In_default}

no_room : (c : In-Err) → let a = c.args in first_cause (rows_room a.call a.share a.queue.now a.most a.isn) ≡ Some c.in-Err.cause
no_room c = verdict_refused _ _ (sym c.room.ensures ∙ c.in-Err.is)

has_room : (c : In_default) → let a = c.args in first_cause (rows_room a.call a.share a.queue.now a.most a.isn) ≡ None
has_room c = verdict_passed _ (sym c.room.ensures ∙ c.in_default.is)

-- what the scratch begins with
made_is : (c : After-taken) → let a = c.args in take c.new_record-n.result c.new_record-n.new.scratch ≡ added a.f a.part.now a.format.now a.buffer.now a.isn
made_is c =
    let a = c.args in
    new_is_added a.f a.part.now a.isn a.format.now a.buffer.now _ _ _ c.new_record-n.ensures.value c.new_record-n.ensures.scratch_after c.requires

made_within : (c : After-new_record-n) → c.new_record-n.result ≤ length c.new_record-n.new.scratch
made_within c =
    let a = c.args in
    omega (arith, c.new_record-n.ensures.value, c.new_record-n.auto.scratch, new_length_most a.f a.part.now a.isn 512)

-- what is judged of the new record
judged : (c : After-taken) → let a = c.args in
    c.taken.result ≡ taken a.f a.part.now a.call a.share a.queue.now a.images.now a.width false a.format.now a.isn (added a.f a.part.now a.format.now a.buffer.now a.isn)
judged c = rw (← (made_is c)) c.taken.ensures

pub returns-in-Err : goal.returns-in-Err
returns-in-Err c =
    let a = c.args in
    let e = no_room_left a.f a.part.now a.call a.share a.queue.now a.images.now a.width a.most a.format.now a.buffer.now a.isn _ (no_room (goal.at.returns-in-Err c).In-Err) in
    rw e (record { value = c.refused.ensures; part_after = refl; queue_after = refl; images_after = refl })

pub slice_bounds-made-end : goal.slice_bounds-made-end
slice_bounds-made-end c = sym (length-take-le _ _ (made_within (goal.at.slice_bounds-made-end c).After-new_record-n))

pub returns-then-taken : goal.returns-then-taken
returns-then-taken c =
    let a = c.args in
    let e = room_left a.f a.part.now a.call a.share a.queue.now a.images.now a.width a.most a.format.now a.buffer.now a.isn (has_room (goal.at.returns-then-taken c).In_default) in
    rw (e, sym (judged (goal.at.returns-then-taken c).After-taken) ∙ c.if-taken.true) (record { value = c.refused-then-taken.ensures; part_after = refl; queue_after = refl; images_after = refl })

pub returns : goal.returns
returns c =
    let a = c.args in
    let e = room_left a.f a.part.now a.call a.share a.queue.now a.images.now a.width a.most a.format.now a.buffer.now a.isn (has_room (goal.at.returns c).In_default) in
    rw (e, sym (judged (goal.at.returns c).After-taken) ∙ c.if-taken.false) (record { value = rw (← c.keep_record-held.ensures.value) c.good.ensures; part_after = rw (← (made_is (goal.at.returns c).After-taken)) c.put_record.ensures; queue_after = c.keep_record-held.ensures.queue_after; images_after = c.keep_record-held.ensures.images_after })
