-- `put_decimal` meets its contract: the digits before the last are those of a tenth of the number, which is less.
-- Assumes nothing.
use native.Mathlib.Omega.{arith}
use mathlib.Core.Path.{sym, ap, ◌∙◌}
use mathlib.Core.List.{[], ◌∷◌}
use lib.ListN.{length, set}
use lib.Seq.{sets}
use Rattle.lists.specs.Parts.{sets_append}
use Rattle.nucleus.specs.Line.{digit, decimal}
use Rattle.lines.specs.Digits.{decimal_one, decimal_more, length_one, length_more}
use Prim.Native.Nat.{◌+◌, ◌/◌, ◌%◌}
use Rattle.lines.proofs.+put_decimal.Goals as goal

pub bounds-out-at : goal.bounds-out-at
bounds-out-at t c = omega (arith, length_one c.args.n c.if-n-lt10.true)

pub returns-then-n-lt10 : goal.returns-then-n-lt10
returns-then-n-lt10 t c =
    let a = c.args in
    let one = sym (decimal_one a.n c.if-n-lt10.true) in
    (ap (λ l. a.at + length l) one, ap (set a.out.now a.at) c.digit.ensures ∙ ap (sets a.out.now a.at) one)

pub put_decimal-last-requires : goal.put_decimal-last-requires
put_decimal-last-requires t c = (omega arith, omega (arith, length_more c.args.n c.if-n-lt10.false c.ranges.n.fits))

pub bounds-out-last : goal.bounds-out-last
bounds-out-last t c = omega (arith, c.put_decimal-last.ensures.0, c.put_decimal-last.auto.out, length_more c.args.n c.if-n-lt10.false c.ranges.n.fits)

pub overflow_add-result-2 : goal.overflow_add-result-2
overflow_add-result-2 t c = omega (arith, c.put_decimal-last.ensures.0, length_more c.args.n c.if-n-lt10.false c.ranges.n.fits)

pub returns : goal.returns
returns t c =
    let a = c.args in
    let p = c.put_decimal-last.ensures in
    let ten = c.if-n-lt10.false in
    let fits = c.ranges.n.fits in
    let longer = length_more a.n ten fits in
    let digits = ap (sets a.out.now a.at) (decimal_more a.n ten fits) ∙ sets_append a.out.now a.at (decimal (a.n / 10)) (digit (a.n % 10) ∷ []) in
    (omega (arith, p.0, longer), rw (p.0, p.1, c.digit-2.ensures) (sym digits))
