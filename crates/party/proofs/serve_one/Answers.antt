-- The three ways that the next call goes: there is none, it is bad, or it is served. Assumes nothing.
use Rattle.std.proofs.Common.{arith, refl}
use Rattle.house.specs.House.{sent_as}
use Rattle.party.proofs.Served.{served_none, served_bad, served}
use Rattle.party.proofs.serve_one.Goals as goal

pub returns-then-n-eq0 : goal.returns-then-n-eq0
returns-then-n-eq0 g c = served_none _ _ _ _ _ _ c.read_full.auto.buffer c.in_ok-n.ensures.bytes c.if-n-eq0.true

pub returns-in_default : goal.returns-in_default
returns-in_default g c =
    served_bad _ _ _ _ _ _ _ c.read_full.auto.buffer c.in_ok-n.ensures.bytes c.if-n-eq0.false c.in_default.ensures.result_value c.in_ok-print_bad.ensures

pub returns : goal.returns
returns g c =
    served _ _ _ _ _ _ _ _ (sent_as c.in-Some.sent) c.read_full.auto.buffer c.in_ok-n.ensures.bytes c.if-n-eq0.false c.in-Some.ensures.result_value
    (rw c.copy_from_slice.ensures.after at c.in_ok-next.ensures)
