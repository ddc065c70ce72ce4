-- `admit_user` meets its contract: each way out is a law of the caller.
-- Assumes nothing.
use Prim.Native.Nat.{◌-◌}
use mathlib.Core.Path.{sym, ap, ◌∙◌}
use lib.ListN.{set}
use Rattle.nucleus.specs.Step.{turned_away}
use Rattle.nucleus.specs.declared.Response.TheVariants.{BackedOut}
use Rattle.shares.specs.Shares.{verdict}
use Rattle.access.specs.Access.{session_cause}
use Rattle.access.specs.Laws.{marked, session_refused, judged}
use Rattle.access.proofs.admit_user.Goals as goal

pub returns-then-user : goal.returns-then-user
returns-then-user c kept assigned =
    let a = c.args in
    marked a.command a.call a.d a.clock a.standing kept assigned a.store.now a.queue.now a.images.now c.user_at-user.result c.user_at-user.ensures _ c.if-user.true
    (c.with_user-standing.ensures ∙ ap (set a.standing.users (a.call.user - 1)) c.with_overdue-cleared.ensures)

pub returns-then-session_in_transaction : goal.returns-then-session_in_transaction
returns-then-session_in_transaction c kept assigned =
    let a = c.args in
    session_refused a.command a.call a.d a.clock a.standing kept assigned a.store.now a.queue.now a.images.now c.user_at-user.result c.user_at-user.ensures c.if-user.false
    (sym c.session_in_transaction.ensures ∙ c.if-session_in_transaction.true)
    ∙ ap (turned_away BackedOut) (c.force_out-out.ensures kept assigned)

pub returns : goal.returns
returns c kept assigned =
    let a = c.args in
    judged a.command a.call a.d a.clock a.standing kept assigned a.store.now a.queue.now a.images.now c.user_at-user.result c.user_at-user.ensures c.if-user.false _ _
    (sym c.session_in_transaction.ensures ∙ c.if-session_in_transaction.false)
    (c.judge-verdict.ensures ∙ ap (λ x. verdict (session_cause a.command x)) c.opened-session.ensures)
    (c.with_user-standing-2.ensures ∙ ap (set a.standing.users (a.call.user - 1)) c.opened-session.ensures)
