-- `holder` meets its contract. The loop's invariant: what is sought in the whole queue is sought from here on.
-- Assumes nothing.
use Rattle.std.proofs.Common.{refl, sym, ◌∙◌}
use Rattle.entries.proofs.Chains.{entry_taken, none_taken_left}
use Rattle.queue.specs.Queue.{holder}
use Rattle.queue.proofs.holder.Goals as goal

pub loop-i-init : goal.loop-i-init
loop-i-init c = refl

pub returns-then-is_of : goal.returns-then-is_of
unfolding holder
returns-then-is_of c =
    let next = entry_taken c.args.queue.now c.args.count c.min-n.result c.min-n.ensures c.loop-i.i c.loop-i-test.true in
    sym (c.loop-i.invariant ∙ rw (next, ← c.unpack-e.ensures, ← c.is_of.ensures, c.if-is_of.true))

pub loop-i-preserved : goal.loop-i-preserved
loop-i-preserved c =
    let next = entry_taken c.args.queue.now c.args.count c.min-n.result c.min-n.ensures c.loop-i.i c.loop-i-test.true in
    c.loop-i.invariant ∙ rw (next, ← c.unpack-e.ensures, ← c.is_of.ensures, c.if-is_of.false)

pub returns : goal.returns
unfolding holder
returns c = sym (c.loop-i.invariant ∙ rw (none_taken_left c.args.queue.now c.args.count c.min-n.result c.min-n.ensures c.loop-i.i c.loop-i-test.false))
