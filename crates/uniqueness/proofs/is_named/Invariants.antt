-- `is_named` meets its contract. The loop's invariant: the field is named where what is left of the buffer names it.
-- Assumes nothing.
use Prim.Native.Nat.{◌-◌}
use mathlib.Core.Path.{◌≡◌}
use lib.Dec.{eqb}
use lib.ListN.{length, drop}
use Rattle.lists.specs.Folds.{any}
use Rattle.elements.specs.Elements.{places}
use Rattle.uniqueness.proofs.is_named.Given as goal

abbrev pub invariant-loop-i : goal.invariant-loop-i
invariant-loop-i l = any (eqb l.k) (places l.f l.format) ≡ any (eqb l.k) (places l.f (drop l.i l.format))

abbrev pub decreases-loop-i : goal.decreases-loop-i
decreases-loop-i l = length l.format - l.i
