-- `field_offset` meets its contract. The loop's invariant: the sum so far and the lengths that are left add up to the whole.
-- Assumes nothing.
use Prim.Native.Nat.{◌+◌, ◌*◌, ◌≤◌}
use mathlib.Core.Path.{◌≡◌}
use lib.ListN.{take, drop}
use Rattle.lists.specs.Folds.{total}
use Rattle.records.specs.Records.{field_length}
use Rattle.records.proofs.field_offset.Given as goal

abbrev pub invariant-loop-i : goal.invariant-loop-i
invariant-loop-i l = (l.sum ≤ 255 * l.i) × (l.sum + total field_length (drop l.i (take l.n l.f.fields)) ≡ total field_length (take l.n l.f.fields))
