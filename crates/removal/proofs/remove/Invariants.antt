-- `remove` meets its contract. The loop's invariant: of the first i entries, those that stay are closed up, with their images.
-- Assumes nothing.
use Rattle.removal.specs.Closing.{set_count, closed}
use mathlib.Core.Path.{◌≡◌}
use Rattle.removal.specs.Turn.{flags}
use Rattle.removal.proofs.remove.Given as goal

abbrev pub invariant-loop-i : goal.invariant-loop-i
invariant-loop-i l = (l.kept ≡ set_count (flags l.which l.initial.queue l.i)) × (l.queue ≡ closed 1 (flags l.which l.initial.queue l.i) l.initial.queue) × (l.images ≡ closed l.width (flags l.which l.initial.queue l.i) l.initial.images)
