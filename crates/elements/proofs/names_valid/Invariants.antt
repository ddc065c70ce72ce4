-- `names_valid` meets its contract. The loop's invariant: what is left of the buffer has the form, and the names are fields' where those that are
-- left are. Assumes nothing.
use Rattle.std.specs.Prelude.{◌≡◌, ◌-◌, ◌*◌, length, drop}
use Rattle.lists.specs.Folds.{all}
use Rattle.elements.specs.Elements.{names, known}
use Rattle.elements.proofs.names_valid.Given as goal

abbrev pub invariant-loop-i : goal.invariant-loop-i
invariant-loop-i l = (length (names (drop l.i l.format)) * 3 ≡ length (drop l.i l.format)) × (all (known l.f) (names l.format) ≡ all (known l.f) (names (drop l.i l.format)))

abbrev pub decreases-loop-i : goal.decreases-loop-i
decreases-loop-i l = length l.format - l.i
