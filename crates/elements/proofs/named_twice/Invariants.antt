-- `named_twice` meets its contract. The loop's invariant: a field is named twice where one that is left to come is seen, or comes twice.
-- Assumes nothing.
use Prim.Native.Nat.{◌-◌}
use mathlib.Core.Path.{◌≡◌}
use lib.ListN.{length, drop}
use Rattle.elements.specs.Elements.{places, named_twice}
use Rattle.elements.specs.Lists.{repeats}
use Rattle.elements.proofs.named_twice.Given as goal

abbrev pub invariant-loop-i : goal.invariant-loop-i
invariant-loop-i l = (length l.seen ≡ 16) × (named_twice l.f l.format ≡ repeats l.seen (places l.f (drop l.i l.format)))

abbrev pub decreases-loop-i : goal.decreases-loop-i
decreases-loop-i l = length l.format - l.i
