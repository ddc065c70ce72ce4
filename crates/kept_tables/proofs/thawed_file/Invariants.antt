-- `thawed_file` meets its contract. The loop's invariant: up to `i` the thawed fields stand, from `i` on the places are empty.
-- Assumes nothing.
use mathlib.Core.Path.{◌≡◌}
use lib.ListN.{length}
use Rattle.definition.specs.Table.{no_file}
use Rattle.kept_tables.specs.KeptTables.{mapped, thawed_field}
use Rattle.kept_tables.proofs.thawed_file.Given as goal

abbrev pub invariant-loop-i : goal.invariant-loop-i
invariant-loop-i l = (l.fields ≡ mapped thawed_field l.fn.k.fields no_file.fields l.i) × (length l.fields ≡ 16)
