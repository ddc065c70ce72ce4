-- `needed_within` meets its contract. The loop's invariant: the sum is within the room, and with what is left to come it is the whole.
-- Assumes nothing.
use Prim.Native.Nat.{◌+◌, ◌-◌, ◌≤◌}
use mathlib.Core.Path.{◌≡◌}
use lib.ListN.{length, drop}
use Rattle.elements.specs.Elements.{length_needed}
use Rattle.elements.proofs.needed_within.Given as goal

abbrev pub invariant-loop-i : goal.invariant-loop-i
invariant-loop-i l = (l.sum ≤ l.room) × (l.sum + length_needed l.f (drop l.i l.format) ≡ length_needed l.f l.format)

abbrev pub decreases-loop-i : goal.decreases-loop-i
decreases-loop-i l = length l.format - l.i
