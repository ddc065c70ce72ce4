-- `write_fields` meets its contract. The loop's invariant: the values that are left, put where the fields that are left lie, make the whole.
-- Assumes nothing.
use Prim.Native.Nat.{◌+◌, ◌-◌}
use mathlib.Core.Path.{◌≡◌}
use lib.ListN.{length, drop}
use Rattle.elements.specs.Elements.{places, length_needed}
use Rattle.fields.specs.Fields.{write_in}
use Rattle.fields.proofs.write_fields.Given as goal

abbrev pub invariant-loop-i : goal.invariant-loop-i
invariant-loop-i l = (l.at + length_needed l.f (drop l.i l.format) ≡ length_needed l.f l.format) × (length l.content ≡ length l.initial.content) × (write_in l.f (places l.f (drop l.i l.format)) (drop l.at l.values) l.content ≡ write_in l.f (places l.f l.format) l.values l.initial.content)

abbrev pub decreases-loop-i : goal.decreases-loop-i
decreases-loop-i l = length l.format - l.i
