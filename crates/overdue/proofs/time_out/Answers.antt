-- `time_out` meets its contract.
-- Assumes nothing.
use Prim.Native.Nat.{◌-◌}
use mathlib.Core.Path.{ap, ◌∙◌}
use mathlib.Core.Bool.{true}
use lib.ListN.{set}
use Rattle.nucleus.specs.Users.{with_overdue}
use Rattle.nucleus.specs.Nucleus.{change_user}
use Rattle.overdue.specs.Laws.{changed}
use Rattle.overdue.proofs.time_out.Goals as goal

pub returns : goal.returns
returns c kept assigned =
    let a = c.args in
    let left = c.force_out-left.result in
    ap (change_user a.user (with_overdue true)) (c.force_out-left.ensures kept assigned)
    ∙ changed a.d a.clock left kept assigned _ _ _ a.user (with_overdue true) _
    (c.with_user-left.ensures ∙ ap (set left.users (a.user - 1)) (c.with_overdue-marked.ensures ∙ ap (with_overdue true) c.user_at.ensures))
