-- `admit` meets its contract: the line, then the clock, and then the caller.
-- Assumes nothing.
use mathlib.Core.Path.{sym, ap, ◌∙◌}
use Rattle.nucleus.specs.Clock.{clocked}
use Rattle.nucleus.specs.Step.{admitted_user}
use Rattle.handing.specs.Parts.{parts}
use Rattle.overdue.specs.Laws.{clocked_to}
use Rattle.admission.proofs.admit.Goals as goal

pub returns : goal.returns
returns c kept assigned =
    let a = c.args in
    ap (λ line. admitted_user a.command a.call (clocked a.call.clock (parts a.d a.clock a.standing.users kept assigned a.standing.count line a.store.now a.queue.now a.images.now)))
    (sym c.leave_by-standing.ensures)
    ∙ ap (admitted_user a.command a.call)
    (clocked_to a.d a.clock a.call.clock c.max-now.result (record { users = a.standing.users; count = a.standing.count; wait_queue = c.leave_by-standing.result }) kept assigned a.store.now a.queue.now
    a.images.now _ c.max-now.ensures (c.pass-passed.ensures kept assigned))
    ∙ c.admit_user-entered.ensures kept assigned
