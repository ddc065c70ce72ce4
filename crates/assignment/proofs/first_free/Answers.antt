-- `first_free` meets its contract. The loop's invariant: what is sought from the start is sought from here on.
-- Assumes nothing.
use Rattle.std.specs.Prelude.{Some}
use Prim.Native.Nat.{◌+◌, ◌-◌}
use native.Mathlib.Omega.{arith}
use mathlib.Core.Path.{◌≡◌, refl, sym, ◌∙◌}
use Rattle.lists.specs.Tests.{cond}
use Rattle.lists.specs.Numbers.{numbers, before_more, before_none}
use Rattle.entries.specs.Entries.{entries}
use Rattle.store.specs.Slots.{slot_next}
use Rattle.search.specs.Search.{first_of}
use Rattle.assignment.specs.Assignment.{free_at}
use Rattle.assignment.specs.Laws.{offset_most, free_here}
use Rattle.assignment.proofs.first_free.Goals as goal
use Rattle.assignment.proofs.first_free.Goals.{After-is_free}

-- what is sought from here on: this ISN if it is free, or one behind it
turn : (c : After-is_free) → let a = c.args in
    first_of (free_at a.room a.size a.part.now a.file (entries a.queue.now a.count)) (numbers (a.end - a.from) a.from)
    ≡ cond c.is_free.result (Some c.loop-isn.isn) (first_of (free_at a.room a.size a.part.now a.file (entries a.queue.now a.count)) (numbers (a.end - (c.loop-isn.isn + 1)) (c.loop-isn.isn + 1)))
turn c =
    let a = c.args in
    c.loop-isn.invariant.2 ∙ rw (before_more c.loop-isn.isn a.end c.loop-isn-test.true, free_here a.room a.size a.part.now a.file (entries a.queue.now a.count) c.loop-isn.isn c.loop-isn.at c.loop-isn.invariant.0 c.loop-isn.invariant.1, ← c.is_free.ensures)

pub overflow_mul-at : goal.overflow_mul-at
overflow_mul-at c = omega (arith, offset_most c.args.from c.args.size c.requires.from_bound c.requires.size_bound)

pub loop-isn-init : goal.loop-isn-init
loop-isn-init c = (omega arith, refl, refl)

pub overflow_add-next : goal.overflow_add-next
overflow_add-next c = omega (arith, c.loop-isn.invariant.1, c.requires.size_bound, offset_most c.loop-isn.isn c.args.size (omega arith) c.requires.size_bound)

pub is_free-requires : goal.is_free-requires
is_free-requires c = record { room_in_bounds = omega arith; at_lt_next = omega arith; isn_bound = omega arith }

pub returns-then-is_free : goal.returns-then-is_free
returns-then-is_free c = sym (turn (goal.at.returns-then-is_free c).After-is_free ∙ rw c.if-is_free.true)

pub loop-isn-preserved : goal.loop-isn-preserved
loop-isn-preserved c =
    let a = c.args in
    (omega arith, rw c.loop-isn.invariant.1 (slot_next a.size c.loop-isn.isn c.loop-isn.invariant.0), turn (goal.at.loop-isn-preserved c).After-is_free ∙ rw c.if-is_free.false)

pub returns : goal.returns
returns c =
    let a = c.args in
    sym (c.loop-isn.invariant.2 ∙ rw (before_none c.loop-isn.isn a.end c.loop-isn-test.false))
