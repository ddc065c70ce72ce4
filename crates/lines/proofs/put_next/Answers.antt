-- `put_next` meets its contract: the blank, and the digits behind it.
-- Assumes nothing.
use native.Mathlib.Numerals.{add-one}
use native.Mathlib.Omega.{arith}
use mathlib.Core.Path.{ap, ◌∙◌}
use lib.ListN.{set, length-set}
use lib.Seq.{sets}
use Rattle.nucleus.specs.Line.{decimal}
use Rattle.lines.specs.Digits.{decimal_most}
use Rattle.lines.proofs.put_next.Goals as goal

pub put_decimal-requires : goal.put_decimal-requires
put_decimal-requires c = simp length-set (omega (arith, decimal_most c.args.n))

pub shape_of-out : goal.shape_of-out
shape_of-out c =
    let a = c.args in
    c.put_decimal.auto.out ∙ length-set a.out.now a.at 32

pub returns : goal.returns
returns c =
    let a = c.args in
    let p = c.put_decimal in
    (omega (arith, p.ensures.0), p.ensures.1 ∙ ap (λ k. sets (set a.out.now a.at 32) k (decimal a.n)) (add-one a.at))
