-- `place` meets its contract. The loop's invariant: what is sought among all is sought from here on.
-- Assumes nothing.
use mathlib.Core.Path.{◌≡◌}
use lib.ListN.{drop}
use Rattle.hold.specs.Tables.{seek_number}
use Rattle.hold.proofs.place.Given as goal

abbrev pub invariant-loop-i : goal.invariant-loop-i
invariant-loop-i l = seek_number l.number l.numbers 0 ≡ seek_number l.number (drop l.i l.numbers) l.i
