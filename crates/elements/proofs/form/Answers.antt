-- `form` meets its contract. The loop's invariant: the whole has the form where what is left has it.
-- Assumes nothing.
use Prim.Native.Nat.{◌-◌, ◌<◌}
use native.Mathlib.Omega.{arith}
use mathlib.Core.Path.{sym, ◌∙◌}
use lib.ListN.{length}
use borrow.Author.Tests.{eq-eqb, ne_eqb}
use Rattle.elements.proofs.Steps.{form_more, form_last, form_short}
use Rattle.elements.proofs.form.Goals as goal

pub returns-then-format-i-ne-COMMA : goal.returns-then-format-i-ne-COMMA
returns-then-format-i-ne-COMMA c =
    let no = ne_eqb _ _ c.if-format-i-ne-COMMA.true in
    sym (c.loop-i.invariant.2 ∙ form_more c.args.format.now c.loop-i.i c.loop-i-test.true ∙ rw no)

pub loop-i-preserved : goal.loop-i-preserved
loop-i-preserved c =
    let yes = eq-eqb _ _ c.if-format-i-ne-COMMA.false in
    (omega arith, omega arith, c.loop-i.invariant.2 ∙ form_more c.args.format.now c.loop-i.i c.loop-i-test.true ∙ rw yes)

pub returns-then-n-i-eq-ELEMENT : goal.returns-then-n-i-eq-ELEMENT
returns-then-n-i-eq-ELEMENT c = sym (c.loop-i.invariant.2 ∙ form_last c.args.format.now c.loop-i.i (omega arith))

pub returns-else-n-i-eq-ELEMENT : goal.returns-else-n-i-eq-ELEMENT
returns-else-n-i-eq-ELEMENT c =
    let few : length c.args.format.now - c.loop-i.i < 3 = omega arith in
    let no = ne_eqb (length c.args.format.now - c.loop-i.i) 3 (omega arith) in
    no ∙ sym (c.loop-i.invariant.2 ∙ form_short c.args.format.now c.loop-i.i few)
