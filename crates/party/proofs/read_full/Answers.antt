-- What lies in the buffer is what was taken off the input. Assumes nothing.
use Rattle.std.proofs.Common.{arith, rules}
use Rattle.std.proofs.KnownBytes.{Consumes-nil}
use Rattle.lines.specs.Laws.{at_front}
use Rattle.party.proofs.KnownBytes.{more, filled, ended}
use Rattle.party.proofs.read_full.Goals as goal

pub loop-done-init : goal.loop-done-init
loop-done-init g c = (omega arith, Consumes-nil _)

pub loop-done-preserved : goal.loop-done-preserved
loop-done-preserved g c =
    (search rules, more _ _ _ _ _ _ _ _ c.loop-done.invariant.0 c.in_ok-n.ensures.bound.0 c.loop-done.invariant.1 c.in_ok-n.ensures.bytes.0)

pub returns-after-loop-done-clause-within : goal.returns-after-loop-done-clause-within
returns-after-loop-done-clause-within g c = at_front _ _ c.loop-done.invariant.0

pub returns-after-loop-done-clause-bytes : goal.returns-after-loop-done-clause-bytes
returns-after-loop-done-clause-bytes g c = filled _ _ _ _ c.loop-done.invariant.0 c.loop-done.invariant.1 (λ h. absurd (omega arith))

pub returns-then-n-eq0-clause-bytes : goal.returns-then-n-eq0-clause-bytes
returns-then-n-eq0-clause-bytes g c =
    let e = c.in_ok-n.ensures.bytes in
    ended _ _ _ _ _ _ _ c.loop-done-test.true c.if-n-eq0.true c.read.auto.buf c.loop-done.invariant.1 e.0 e.1
