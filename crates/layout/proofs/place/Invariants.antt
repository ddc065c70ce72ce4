-- `place` meets its contract. The loop's invariant: what is sought in the whole table is sought from here on.
-- Assumes nothing.
use mathlib.Core.Path.{◌≡◌}
use lib.ListN.{take, drop}
use Rattle.layout.specs.Layout.{seek}
use Rattle.layout.proofs.place.Given as goal

abbrev pub invariant-loop-i : goal.invariant-loop-i
invariant-loop-i l = seek l.number (take l.n l.fn.d.files) 0 ≡ seek l.number (drop l.i (take l.n l.fn.d.files)) l.i
