-- `put_numbers` meets its contract: one number after another, each of at most twenty digits.
-- Assumes nothing.
use native.Mathlib.Omega.{arith}
use Prim.Native.Nat.{ℕ}
use mathlib.Core.List.{List, ◌∷◌, ◌++◌}
use Rattle.nucleus.specs.Line.{decimal}
use Rattle.lines.specs.Digits.{decimal_most}
use Rattle.lines.specs.Writing.{put_then}
use Rattle.lines.proofs.put_numbers.Goals as goal

pub put_decimal-first-requires : goal.put_decimal-first-requires
put_decimal-first-requires c = omega (arith, decimal_most c.number.result)

pub put_next-second-requires : goal.put_next-second-requires
put_next-second-requires c = omega (arith, c.put_decimal-first.ensures.0, c.put_decimal-first.auto.out, decimal_most c.number.result)

pub put_next-third-requires : goal.put_next-third-requires
put_next-third-requires c =
    let a = c.args.answer in
    omega (arith, c.put_decimal-first.ensures.0, c.put_next-second.ensures.0, c.put_decimal-first.auto.out, c.put_next-second.auto.out, decimal_most c.number.result, decimal_most a.isn)

pub put_next-requires : goal.put_next-requires
put_next-requires c =
    let a = c.args.answer in
    omega (arith, c.put_decimal-first.ensures.0, c.put_next-second.ensures.0, c.put_next-third.ensures.0, c.put_decimal-first.auto.out, c.put_next-second.auto.out, c.put_next-third.auto.out, decimal_most c.number.result, decimal_most a.isn, decimal_most a.quantity)

pub returns : goal.returns
returns c =
    let a = c.args in
    let response = decimal c.number.result in
    let isn : List ℕ = 32 ∷ decimal a.answer.isn in
    let quantity : List ℕ = 32 ∷ decimal a.answer.quantity in
    let sequence : List ℕ = 32 ∷ decimal a.answer.sequence in
    let two = put_then a.out.now 0 response _ _ isn _ _ c.put_decimal-first.ensures c.put_next-second.ensures in
    let three = put_then a.out.now 0 (response ++ isn) _ _ quantity _ _ two c.put_next-third.ensures in
    let four = put_then a.out.now 0 (response ++ isn ++ quantity) _ _ sequence _ _ three c.put_next.ensures in
    rw (← c.number.ensures) four
