-- `first_record` meets its contract. The loop's invariant: what is sought from the start is sought from here on.
-- Assumes nothing.
use Rattle.std.proofs.Common.{refl, ◌∙◌, arith, ne_eqb}
use Rattle.lists.specs.Numbers.{from_to_more}
use Rattle.store.specs.Slots.{recorded_here}
use Rattle.search.proofs.first_record.Goals as goal

pub loop-isn-preserved : goal.loop-isn-preserved
loop-isn-preserved c =
    let isn = c.loop-isn.isn in
    let last = c.args.last in
    let here = recorded_here last c.args.size c.args.part.now isn _ (omega (arith, c.requires.le_from)) c.loop-isn-test.true refl in
    c.loop-isn.invariant ∙ rw (from_to_more isn last c.loop-isn-test.true, here, ne_eqb _ _ c.if-part-isn-eq1.false)
