-- `put_both` meets its contract: the numbers, the blank and the digits are written one behind the other, where there is room for all.
-- Assumes nothing.
use Prim.Native.Nat.{◌+◌, ◌≤◌}
use native.Mathlib.Omega.{arith}
use mathlib.Core.Path.{sym, ◌∙◌}
use mathlib.Core.List.{[], ◌∷◌, ◌++◌}
use lib.ListN.{length, set, drop, length-set}
use lib.Seq.{length-take-le, length_front}
use Rattle.nucleus.specs.Line.{hexadecimal}
use Rattle.lines.specs.Writing.{put_none, put_whole, put_then, put_blank, copied_there, length_both}
use borrow.Author.Rules.{rules}
use Rattle.lines.proofs.put_both.Goals as goal

pub returns-then-out-n : goal.returns-then-out-n
returns-then-out-n c =
    let a = c.args in
    put_none (a.numbers.now ++ 32 ∷ hexadecimal a.bytes.now) a.out.now (omega (arith, length_both a.numbers.now a.bytes.now))

pub returns-then-out-n-2 : goal.returns-then-out-n-2
returns-then-out-n-2 c =
    let a = c.args in
    put_none (a.numbers.now ++ 32 ∷ hexadecimal a.bytes.now) a.out.now (omega (arith, length_both a.numbers.now a.bytes.now))

pub slice_bounds-copy-end-2 : goal.slice_bounds-copy-end-2
slice_bounds-copy-end-2 c = sym (length-take-le _ _ (search rules))

pub put_hexadecimal-requires : goal.put_hexadecimal-requires
put_hexadecimal-requires c =
    let a = c.args in
    simp length-set (omega (arith, length_front a.out.now c.copy.new.to (length a.numbers.now) c.copy.auto.to))

pub shape_of-out : goal.shape_of-out
shape_of-out c =
    let a = c.args in
    c.put_hexadecimal.auto.out ∙ simp length-set (length_front a.out.now c.copy.new.to (length a.numbers.now) c.copy.auto.to)

pub returns : goal.returns
returns c =
    let a = c.args in
    let numbers = a.numbers.now in
    let digits = hexadecimal a.bytes.now in
    let room : length (numbers ++ 32 ∷ digits) ≤ length a.out.now = omega (arith, length_both numbers a.bytes.now) in
    let there = c.copy.new.to ++ drop (length numbers) a.out.now in
    let copied = copied_there numbers a.out.now c.copy.new.to (omega arith) c.copy.ensures in
    let rest = put_then there (length numbers) (32 ∷ []) (length numbers + 1) (set there (length numbers) 32) digits _ _ (put_blank there (length numbers)) c.put_hexadecimal.ensures in
    put_whole (numbers ++ 32 ∷ digits) a.out.now _ _ room (put_then a.out.now 0 numbers _ _ (32 ∷ digits) _ _ copied rest)
