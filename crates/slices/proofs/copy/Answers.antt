-- `copy` meets its contract. The loop's invariant: up to `i` the new bytes stand, from `i` on the old ones.
-- Assumes nothing.
use Rattle.std.specs.Prelude.{◌≡◌, ◌++◌, min, length, take, drop}
use Rattle.std.proofs.Common.{refl, ap, ◌∙◌, arith, length-set}
use Rattle.lists.specs.Rest.{write_more}
use Rattle.lists.specs.Parts.{take_least, drop_least}
use Rattle.slices.specs.Slices.{copied}
use Rattle.slices.proofs.copy.Goals as goal

pub loop-i-init : goal.loop-i-init
loop-i-init c = (refl, refl)

pub loop-i-preserved : goal.loop-i-preserved
loop-i-preserved c =
    let a = c.args in
    (rw c.loop-i.invariant.0 (write_more a.from.now a.to.now c.loop-i.i 0 (omega arith) (omega arith)), simp length-set c.loop-i.invariant.1)

pub returns : goal.returns
unfolding copied
returns c =
    let from = c.args.from.now in
    let to = c.args.to.now in
    let front : c.loop-i.i ≡ min (length to) (length from) = omega arith in
    let back : c.loop-i.i ≡ min (length from) (length to) = omega arith in
    c.loop-i.invariant.0 ∙ ap (λ k. take k from ++ drop c.loop-i.i to) front ∙ ap (λ k. take (min (length to) (length from)) from ++ drop k to) back ∙ rw (take_least (length to) from, drop_least (length from) to)
