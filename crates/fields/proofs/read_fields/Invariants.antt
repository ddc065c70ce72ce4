-- `read_fields` meets its contract. The loop's invariant: the fields that are left, stored from here on, make the whole.
-- Assumes nothing.
use Prim.Native.Nat.{◌+◌, ◌-◌}
use mathlib.Core.Path.{◌≡◌}
use lib.ListN.{length, drop}
use Rattle.elements.specs.Elements.{places, length_needed}
use lib.Seq.{sets}
use Rattle.fields.specs.Fields.{read_out}
use Rattle.fields.proofs.read_fields.Given as goal

abbrev pub invariant-loop-i : goal.invariant-loop-i
invariant-loop-i l = (l.at + length_needed l.f (drop l.i l.format) ≡ length_needed l.f l.format) × (length l.buffer ≡ length l.initial.buffer) × (sets l.buffer l.at (read_out l.f (places l.f (drop l.i l.format)) l.content) ≡ sets l.initial.buffer 0 (read_out l.f (places l.f l.format) l.content))

abbrev pub decreases-loop-i : goal.decreases-loop-i
decreases-loop-i l = length l.format - l.i
