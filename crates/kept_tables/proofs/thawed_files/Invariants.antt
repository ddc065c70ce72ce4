-- `thawed_files` meets its contract. The loop's invariant: up to `i` the thawed files stand, from `i` on the places are empty.
-- Assumes nothing.
use mathlib.Core.Path.{◌≡◌}
use lib.ListN.{length}
use Rattle.definition.specs.Table.{no_definition}
use Rattle.kept_tables.specs.KeptTables.{mapped, thawed_file}
use Rattle.kept_tables.proofs.thawed_files.Given as goal

abbrev pub invariant-loop-i : goal.invariant-loop-i
invariant-loop-i l = (l.files ≡ mapped thawed_file l.fn.kept no_definition.files l.i) × (length l.files ≡ 16)
