-- `serve` meets its contract: the share that the command is handed is the caller's, and what it leaves goes back to its place. Assumes nothing.
use native.Mathlib.Omega.{arith}
use mathlib.Core.Path.{ap, ◌∙◌}
use Prim.Native.Nat.{◌-◌}
use Rattle.nucleus.specs.Users.{fresh_user}
use Rattle.nucleus.specs.Nucleus.{beyond_data}
use Rattle.nucleus.specs.Target.{assigned_in}
use Rattle.lists.specs.Rest.{read_within}
use Rattle.shares.specs.Shares.{assigned_with}
use Rattle.usability.proofs.Known.{state_known}
use Rattle.calls.specs.StepLaws.{served}
use Rattle.calls.proofs.serve.Goals as goal

pub returns : goal.returns
returns c =
    let a = c.args in
    let found = c.place-found.ensures in
    let known = state_known a.state _ c.well_formed.1.0 in
    rw c.from-at.ensures
    (served a.capacity a.call a.format.now a.buffer.now a.state a.store.now a.queue.now a.images.now a.command c.requires.definition_in_bounds.1 known.definition c.requires.definition_value _ _ _ _
    (read_within a.state.users (a.call.user - 1) _ fresh_user (omega (arith, c.requires.le_user, known.users)))
    (read_within a.state.et_data (a.call.user - 1) _ beyond_data (omega (arith, c.requires.le_user, known.held)))
    (c.assigned_in.ensures ∙ ap (assigned_in a.state.last_assigned) found) c.in_line.ensures _ _ _ _ _ (rw c.from-at.ensures at c.perform-done.ensures) _
    (c.assigned_with-state.ensures ∙ ap (λ at. assigned_with a.state.last_assigned at c.perform-done.result.share.last_assigned) found))
