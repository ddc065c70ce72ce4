-- `serve_lined` meets its contract: the words that were noted are of the entries that the command lets go, and the line is seen to after it.
-- Assumes nothing.
use mathlib.Core.Path.{refl}
use lib.ListN.{replicate}
use Rattle.nucleus.specs.Nucleus.{nucleus, max_capacity}
use Rattle.calls.specs.StepLaws.{lined_through}
use Rattle.calls.proofs.serve_lined.Goals as goal

pub returns : goal.returns
returns c =
    let a = c.args in
    let o = c.serve-outcome.result in
    lined_through a.capacity a.command a.call a.format.now a.buffer.now (nucleus a.state a.store.now a.queue.now a.images.now) o.answer o.state _ _ _ _ c.serve-outcome.ensures
    (replicate max_capacity 0) refl _ _ c.let_go-n.ensures.out_after c.let_go-n.ensures.value c.settle-left.result _ (c.settle-left.ensures o.state.et_data o.state.last_assigned _)
