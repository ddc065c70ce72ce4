-- `values_allowed` meets its contract. The loop's invariant: the values are allowed if those that are left are.
-- Assumes nothing.
use Rattle.fields.specs.Fields.{allowed_in}
use Prim.Native.Nat.{◌+◌, ◌-◌}
use mathlib.Core.Path.{◌≡◌}
use lib.ListN.{length, drop}
use Rattle.elements.specs.Elements.{places, length_needed}
use Rattle.fields.proofs.values_allowed.Given as goal

abbrev pub invariant-loop-i : goal.invariant-loop-i
invariant-loop-i l = (l.at + length_needed l.f (drop l.i l.format) ≡ length_needed l.f l.format) × (allowed_in l.f (places l.f l.format) l.values ≡ allowed_in l.f (places l.f (drop l.i l.format)) (drop l.at l.values))

abbrev pub decreases-loop-i : goal.decreases-loop-i
decreases-loop-i l = length l.format - l.i
