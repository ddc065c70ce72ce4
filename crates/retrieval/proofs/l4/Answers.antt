-- `l4` meets its contract: the hold is that of the ISN which it found, where a record is.
-- Assumes nothing.
use mathlib.Core.Path.{sym, ◌∙◌}
use Rattle.shares.specs.Causes.{verdict_passed}
use Rattle.retrieval.specs.Laws.{target_sought}
use Rattle.retrieval.proofs.Causes.{l4_left, held_there}
use Rattle.retrieval.proofs.l4.Goals as goal

pub returns-clause-queue_after : goal.returns-clause-queue_after
returns-clause-queue_after c =
    let a = c.args in
    let target = sym c.read_target.ensures ∙ c.in-Ok.is in
    let passed = verdict_passed _ (sym c.holdable.ensures ∙ c.in_default.is) in
    let left = l4_left a.call a.f a.part.now a.share a.queue.now a.format.now a.buffer.now a.most _ target in
    let there = held_there a.call a.f a.part.now a.share a.queue.now a.format.now a.buffer.now a.most _ passed in
    rw (left ∙ passed, target_sought a.call a.f a.part.now a.format.now a.buffer.now _ target, there) c.hold-held.ensures.queue_after
