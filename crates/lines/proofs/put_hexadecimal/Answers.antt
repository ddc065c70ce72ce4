-- `put_hexadecimal` meets its contract. The loop's invariant: the digits of the bytes that are left, at this place, make the whole.
-- Assumes nothing.
use Rattle.std.specs.Prelude.{◌≤◌, length}
use Rattle.std.proofs.Common.{arith, refl, sym, ◌∙◌, length-set}
use Rattle.lines.specs.Writing.{length_hexadecimal, byte_more, byte_none}
use Rattle.lines.proofs.put_hexadecimal.Goals as goal

pub loop-byte-init : goal.loop-byte-init
loop-byte-init c = (omega arith, refl, refl)

pub digit-requires : goal.digit-requires
digit-requires c = omega (arith, c.type_inv.bytes c.loop-byte.byte-index)

pub bounds-out-to-in-loop-byte : goal.bounds-out-to-in-loop-byte
bounds-out-to-in-loop-byte c = simp length-set (omega arith)

pub loop-byte-preserved : goal.loop-byte-preserved
loop-byte-preserved c =
    let bytes = c.args.bytes.now in
    (omega arith, simp length-set c.loop-byte.invariant.1, c.loop-byte.invariant.2 ∙ byte_more bytes c.loop-byte.out c.loop-byte.to c.loop-byte.byte-index c.loop-byte-test.true ∙ rw (c.digit.ensures, c.digit-in-loop-byte.ensures))

pub shape_of-out : goal.shape_of-out
shape_of-out c = c.loop-byte.invariant.1

pub returns : goal.returns
returns c =
    let bytes = c.args.bytes.now in
    (omega (arith, length_hexadecimal bytes), sym (c.loop-byte.invariant.2 ∙ byte_none bytes c.loop-byte.out c.loop-byte.to c.loop-byte.byte-index c.loop-byte-test.false))
