-- `repeated` meets its contract. The loop's invariant: the entries passed are marked, and no two of them are alike.
-- Assumes nothing.
use Rattle.std.specs.Prelude.{◌≡◌, ◌<◌, min, refl, length}
use Rattle.std.proofs.Common.{sym, ap, arith, ◌∙◌, length-take, get_or-take}
use Rattle.entries.specs.Laws.{entries_are, entries_all}
use Rattle.repeats.specs.Marks.{key, key_small, set_mark}
use Rattle.repeats.specs.Passed.{repeated_here, distinct_so_far, marked_so_far}
use Rattle.repeats.specs.Repeats.{repeated}
use Rattle.repeats.proofs.repeated.Goals as goal

pub loop-i-init : goal.loop-i-init
loop-i-init c = (refl, rw (entries_are _ 0), rw (entries_are _ 0))

pub returns-then-held_before : goal.returns-then-held_before
returns-then-held_before c =
    let a = c.args in
    let more : c.loop-i.i < min a.count (length a.queue.now) = omega (arith, length-take c.min-n.result a.queue.now) in
    let e = c.unpack-e.ensures ∙ rw (get_or-take c.min-n.result a.queue.now c.loop-i.i 0 (omega arith)) in
    sym (repeated_here a.queue.now a.count c.loop-i.i c.unpack-e.result e more (sym c.held_before.ensures ∙ c.if-held_before.true))

pub set_mark-requires : goal.set_mark-requires
set_mark-requires c = omega (arith, key_small c.unpack-e.result, c.key.ensures)

pub loop-i-preserved : goal.loop-i-preserved
loop-i-preserved c =
    let a = c.args in
    let more : c.loop-i.i < min a.count (length a.queue.now) = omega (arith, length-take c.min-n.result a.queue.now) in
    let e = c.unpack-e.ensures ∙ rw (get_or-take c.min-n.result a.queue.now c.loop-i.i 0 (omega arith)) in
    let new : c.set_mark.new.table ≡ set_mark c.loop-i.table (key c.unpack-e.result) = c.set_mark.ensures ∙ ap (set_mark c.loop-i.table) c.key.ensures in (
      c.set_mark.array_long,
      rw new (marked_so_far a.queue.now a.count c.loop-i.i c.unpack-e.result e more c.loop-i.table c.loop-i.invariant.0 c.loop-i.invariant.1),
      distinct_so_far a.queue.now a.count c.loop-i.i c.unpack-e.result e more c.loop-i.invariant.2 (sym c.held_before.ensures ∙ c.if-held_before.false),
    )

pub returns : goal.returns
unfolding repeated
returns c =
    let a = c.args in
    let end : c.loop-i.i ≡ min a.count (length a.queue.now) = omega (arith, length-take c.min-n.result a.queue.now) in
    rw (← (entries_all a.queue.now a.count), ← end, c.loop-i.invariant.2)
