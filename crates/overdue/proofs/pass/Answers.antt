-- `pass` meets its contract. The loop's invariant: the users from here on are backed out to the same end as all of them from the start.
-- Assumes nothing.
use native.Mathlib.Omega.{arith}
use mathlib.Core.Path.{refl, sym, ◌∙◌}
use Rattle.overdue.proofs.Turns.{start, all_done, turn_early, turn_due}
use Rattle.overdue.proofs.pass.Goals as goal

pub loop-at-init : goal.loop-at-init
loop-at-init c = start

pub loop-at-preserved : goal.loop-at-preserved
loop-at-preserved c = turn_due c.loop-at.invariant (omega arith) _ refl (sym c.is_due.ensures ∙ c.if-not-is_due.false) _ _ _ _ c.time_out-after.ensures c.time_out-after.auto.store c.time_out-after.auto.queue c.time_out-after.auto.images

pub loop-at-preserved-then-not-is_due : goal.loop-at-preserved-then-not-is_due
loop-at-preserved-then-not-is_due c = turn_early c.loop-at.invariant (omega arith) _ refl (sym c.is_due.ensures ∙ c.if-not-is_due.true)

pub returns : goal.returns
returns c = all_done c.loop-at.invariant (omega arith)
