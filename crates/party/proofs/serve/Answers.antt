-- A call more, and the end. Assumes nothing.
use Rattle.std.proofs.Common.{arith}
use Rattle.party.proofs.Serves.{going_start, going_out, served_on, served_last}
use Rattle.party.proofs.serve.Goals as goal

pub loop-init : goal.loop-init
loop-init g c = going_start _ _ _

pub loop-preserved : goal.loop-preserved
loop-preserved g c = served_on _ _ _ _ _ _ _ _ _ _ _ _ _ c.loop.invariant c.in_ok-next.ensures _ c.in-Some.is

pub returns-in-None : goal.returns-in-None
returns-in-None g c = served_last _ _ _ _ _ _ _ _ _ _ _ _ _ c.loop.invariant c.in_ok-next.ensures c.in-None.is

pub returns : goal.returns
returns g c = going_out _ _ _ _ _ _ _ (omega arith) c.loop.invariant
