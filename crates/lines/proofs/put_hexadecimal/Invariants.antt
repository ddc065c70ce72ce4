-- `put_hexadecimal` meets its contract. The loop's invariant: the digits of the bytes that are left, at this place, make the whole.
-- Assumes nothing.
use Prim.Native.Nat.{◌+◌, ◌*◌, ◌-◌, ◌≤◌}
use mathlib.Core.Path.{◌≡◌}
use lib.ListN.{length, drop}
use lib.Seq.{sets}
use Rattle.nucleus.specs.Line.{hexadecimal}
use Rattle.lines.proofs.put_hexadecimal.Given as goal

abbrev pub invariant-loop-byte : goal.invariant-loop-byte
invariant-loop-byte l =
    (l.to ≡ l.at + 2 * l.byte-index) × (length l.out ≡ length l.initial.out) × (sets l.initial.out l.at (hexadecimal l.bytes) ≡ sets l.out l.to (hexadecimal (drop l.byte-index l.bytes)))
