-- `hand_over` meets its contract. The loop's invariant: the entries from here on are handed over to the same end as all of them from the start.
-- Assumes nothing.
use Rattle.handing.proofs.Turns.{start, all_done, none_waits, turn}
use Rattle.handing.proofs.hand_over.Goals as goal

pub loop-word-init : goal.loop-word-init
loop-word-init c = start

pub returns-then-after-eq0 : goal.returns-then-after-eq0
returns-then-after-eq0 c = none_waits c.loop-word.invariant c.if-after-eq0.true

pub loop-word-preserved : goal.loop-word-preserved
loop-word-preserved c = turn c.loop-word.invariant c.min-last.ensures c.loop-word-test.true _ _ _ c.unpack-e.ensures c.hand_on-after.auto.queue c.hand_on-after.ensures

pub returns : goal.returns
returns c = all_done c.loop-word.invariant c.min-last.ensures c.loop-word-test.false
