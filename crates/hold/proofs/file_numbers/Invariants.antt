-- `file_numbers` meets its contract. The loop's invariant: the front of the table is written.
-- Assumes nothing.
use mathlib.Core.Path.{◌≡◌}
use mathlib.Core.List.{◌++◌, map}
use lib.ListN.{take, drop, replicate}
use Rattle.hold.specs.Tables.{file_number}
use Rattle.hold.proofs.file_numbers.Given as goal

abbrev pub invariant-loop-i : goal.invariant-loop-i
invariant-loop-i l = l.numbers ≡ take l.i (map file_number l.fn.d.files) ++ drop l.i (replicate 16 0)
