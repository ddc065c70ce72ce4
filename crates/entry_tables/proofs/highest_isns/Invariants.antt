-- `highest_isns` meets its contract. The loop's invariant: the table has the files from here on.
-- Assumes nothing.
use Prim.Native.Nat.{◌≤◌}
use mathlib.Core.Path.{◌≡◌}
use lib.ListN.{drop}
use Rattle.definition.specs.Table.{files_of, file_count}
use Rattle.entry_tables.specs.Tables.{highest_in}
use Rattle.entry_tables.proofs.highest_isns.Given as goal

abbrev pub invariant-loop-i : goal.invariant-loop-i
invariant-loop-i l = (l.i ≤ file_count l.d) × (l.table ≡ highest_in (drop l.i (files_of l.d)))
