-- `needed_within` meets its contract. The loop's invariant: the sum is within the room, and with what is left to come it is the whole.
-- Assumes nothing.
use Rattle.std.specs.Prelude.{◌≡◌, ◌+◌}
use Rattle.std.proofs.Common.{ap, arith, ◌∙◌}
use Rattle.std.proofs.lemmas.Bool.{le-leb, lt-leb}
use Rattle.elements.specs.Elements.{length_of, length_needed, needed_within}
use Rattle.elements.proofs.Steps.{needed_step, needed_end}
use Rattle.elements.proofs.needed_within.Goals as goal

pub returns-then-room-sum : goal.returns-then-room-sum
unfolding needed_within
returns-then-room-sum c =
    let a = c.args in
    let next = needed_step a.f a.format.now c.loop-i.i in
    let length = c.length_of-length.ensures ∙ ap (length_of a.f) c.element.ensures in
    rw (lt-leb (length_needed a.f a.format.now) a.room (omega (arith, next, length, c.loop-i.invariant.0, c.loop-i.invariant.1, c.if-room-sum.true)))

pub loop-i-preserved : goal.loop-i-preserved
loop-i-preserved c =
    let a = c.args in
    let next = needed_step a.f a.format.now c.loop-i.i in
    let length = c.length_of-length.ensures ∙ ap (length_of a.f) c.element.ensures in
    omega (arith, next, length, c.loop-i.invariant.0, c.loop-i.invariant.1)

pub returns : goal.returns
unfolding needed_within
returns c =
    let a = c.args in
    let whole : c.loop-i.sum ≡ length_needed a.f a.format.now = omega (arith, c.loop-i.invariant.1, needed_end a.f a.format.now c.loop-i.i c.loop-i-test.false) in
    rw (← whole, le-leb _ _ c.loop-i.invariant.0)

-- the last element
pub returns-else-room-sum : goal.returns-else-room-sum
unfolding needed_within
returns-else-room-sum c =
    let a = c.args in
    let next = needed_step a.f a.format.now c.loop-i.i in
    let length = c.length_of-length.ensures ∙ ap (length_of a.f) c.element.ensures in
    let whole : c.loop-i.sum + c.length_of-length.result ≡ length_needed a.f a.format.now = omega (arith, next, length, c.loop-i.invariant.1, needed_end a.f a.format.now (c.loop-i.i + 3) (omega arith)) in
    rw (← whole, le-leb (c.loop-i.sum + c.length_of-length.result) a.room (omega arith))
