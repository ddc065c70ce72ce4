-- `judge` meets its contract: each way out names the tests that led there.
-- Assumes nothing.
use mathlib.Core.Path.{sym, ◌∙◌}
use Rattle.access.specs.Access.{session_cause}
use Rattle.access.proofs.judge.Goals as goal

pub returns-then-ready_refused : goal.returns-then-ready_refused
unfolding session_cause
returns-then-ready_refused c = rw (sym c.ready_refused.ensures ∙ c.if-ready_refused.true)

pub returns-then-access_refused : goal.returns-then-access_refused
unfolding session_cause
returns-then-access_refused c = rw (sym c.ready_refused.ensures ∙ c.if-ready_refused.false, sym c.access_refused.ensures ∙ c.if-access_refused.true)

pub returns-then-transaction_missing : goal.returns-then-transaction_missing
unfolding session_cause
returns-then-transaction_missing c = rw (sym c.ready_refused.ensures ∙ c.if-ready_refused.false, sym c.access_refused.ensures ∙ c.if-access_refused.false, sym c.transaction_missing.ensures ∙ c.if-transaction_missing.true)

pub returns : goal.returns
unfolding session_cause
returns c = rw (sym c.ready_refused.ensures ∙ c.if-ready_refused.false, sym c.access_refused.ensures ∙ c.if-access_refused.false, sym c.transaction_missing.ensures ∙ c.if-transaction_missing.false)
