-- Where the items end, or that they end nowhere. Assumes nothing.
use Rattle.std.proofs.Common.{ap, arith}
use Rattle.std.specs.Prelude.{is_some}
use Rattle.party.proofs.Tables.{passed_start, passed_item, passed_end, passed_none, passed_full, item_there}
use Rattle.party.proofs.read_table.Goals as goal

pub loop-at-init : goal.loop-at-init
loop-at-init g c = passed_start _ c.args.table.now

pub returns-in_default-clause-found : goal.returns-in_default-clause-found
returns-in_default-clause-found g c = λ h.
    passed_none _ _ (g.R.Read.remaining c.read_item.new.input) _ _ _ c.read_item.new.table c.loop-at.invariant (c.in_ok-next.ensures.none (ap is_some c.in_default.is)) (omega (arith, h, c.loop-at.auto.table))

pub returns-then-next-at-clause-found : goal.returns-then-next-at-clause-found
returns-then-next-at-clause-found g c = λ h.
    passed_end _ _ _ _ _ _ _ c.loop-at.invariant (item_there _ _ _ c.in-Some.is c.in_ok-next.ensures.item) c.if-next-at.true

pub loop-at-preserved : goal.loop-at-preserved
loop-at-preserved g c = passed_item _ _ _ _ _ _ _ c.loop-at.invariant (item_there _ _ _ c.in-Some.is c.in_ok-next.ensures.item) c.if-next-at.false

pub returns-clause-found : goal.returns-clause-found
returns-clause-found g c = λ h. passed_full _ _ (g.R.Read.remaining c.loop-at.input) _ _ c.loop-at.table c.loop-at.invariant (omega (arith, h, c.loop-at.auto.table, c.loop-at-test.false))
