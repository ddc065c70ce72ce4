-- `hand_on` meets its contract.
-- Assumes nothing.
use mathlib.Core.Path.{sym, ◌∙◌}
use Rattle.handing.specs.Laws.{first_gets}
use Rattle.handing.proofs.hand_on.Goals as goal

pub returns-then-standing-queue : goal.returns-then-standing-queue
returns-then-standing-queue c kept assigned images =
    let a = c.args in
    first_gets a.d a.clock a.standing kept assigned a.store.now a.queue.now images a.file a.isn _ _ (sym c.first_in_line.ensures ∙ c.in-Some.is) c.if-standing-queue.true
    ∙ c.take_hold.ensures kept assigned images
