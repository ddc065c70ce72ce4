-- `held_by` meets its contract. The loop's invariant: the sum so far and the entries that are left add up to the whole.
-- Assumes nothing.
use Rattle.std.proofs.Common.{ap, sym, ◌∙◌, arith, eq-eqb, ne_eqb}
use Rattle.lists.specs.Folds.{total}
use Rattle.entries.specs.Entries.{bit}
use Rattle.entries.proofs.Chains.{entry_taken, none_taken_left}
use Rattle.queue.specs.Queue.{one_of, held_by}
use Rattle.queue.proofs.held_by.Goals as goal
use Rattle.queue.proofs.held_by.Goals.{then-unpack-user, else-unpack-user}

pub loop-word-preserved : goal.loop-word-preserved
loop-word-preserved c =
    let a = c.args in
    let next = ap (total (one_of a.user)) (entry_taken a.queue.now a.count c.min-n.result c.min-n.ensures c.loop-word.word-index c.loop-word-test.true) in
    let one = sym (ap (one_of a.user) c.unpack.ensures) in
    elim c.if-unpack-user.branch [ then-unpack-user w ↦ (omega arith, omega (arith, next, one ∙ ap bit (eq-eqb _ _ w.if-unpack-user.true))) | else-unpack-user w ↦ (omega arith, omega (arith, next, one ∙ ap bit (ne_eqb _ _ w.if-unpack-user.false))) ]

pub returns : goal.returns
unfolding held_by
returns c = omega (arith, ap (total (one_of c.args.user)) (none_taken_left c.args.queue.now c.args.count c.min-n.result c.min-n.ensures c.loop-word.word-index c.loop-word-test.false))
