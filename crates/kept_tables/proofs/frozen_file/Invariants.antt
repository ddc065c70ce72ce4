-- `frozen_file` meets its contract. The loop's invariant: up to `i` the new fields stand, from `i` on what was there before.
-- Assumes nothing.
use Rattle.std.specs.Prelude.{◌≡◌, ◌++◌, map, length, take, drop}
use Rattle.kept_tables.specs.KeptTables.{frozen_field}
use Rattle.kept_tables.proofs.frozen_file.Given as goal

abbrev pub invariant-loop-i : goal.invariant-loop-i
invariant-loop-i l = (l.fields ≡ take l.i (map frozen_field l.fn.f.fields) ++ drop l.i l.initial.fields) × (length l.fields ≡ 16) × (length l.initial.fields ≡ 16)
