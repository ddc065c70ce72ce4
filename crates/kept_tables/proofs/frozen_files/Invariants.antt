-- `frozen_files` meets its contract. The loop's invariant: up to `i` the new files stand, from `i` on what was there before.
-- Assumes nothing.
use Rattle.std.specs.Prelude.{◌≡◌, ◌++◌, map, length, take, drop}
use Rattle.kept_tables.specs.KeptTables.{frozen_file}
use Rattle.kept_tables.proofs.frozen_files.Given as goal

abbrev pub invariant-loop-i : goal.invariant-loop-i
invariant-loop-i l = (l.kept ≡ take l.i (map frozen_file l.fn.files) ++ drop l.i l.initial.kept) × (length l.kept ≡ 16) × (length l.initial.kept ≡ 16)
