-- `place` meets its contract. The loop's invariant: what is sought among all is sought from here on.
-- Assumes nothing.
use mathlib.Core.Path.{sym, ◌∙◌}
use native.Mathlib.Omega.{arith}
use borrow.Author.Tests.{eq-eqb, ne_eqb}
use lib.ListN.{drop_of_length-le}
use Rattle.lists.specs.Rest.{drop_more}
use Rattle.hold.proofs.place.Goals as goal

pub returns-then-other-number : goal.returns-then-other-number
returns-then-other-number c =
    let a = c.args in
    sym (c.loop-i.invariant ∙ rw (drop_more a.numbers.now c.loop-i.i 0 (omega arith), eq-eqb _ _ c.if-other-number.true))

pub loop-i-preserved : goal.loop-i-preserved
loop-i-preserved c =
    let a = c.args in
    c.loop-i.invariant ∙ rw (drop_more a.numbers.now c.loop-i.i 0 (omega arith), ne_eqb _ _ c.if-other-number.false)

pub returns : goal.returns
returns c =
    let a = c.args in
    sym (c.loop-i.invariant ∙ rw (drop_of_length-le a.numbers.now c.loop-i-test.false))
