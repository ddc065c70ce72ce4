-- `repeated` meets its contract. The loop's invariant: the entries passed are marked, and no two of them are alike.
-- Assumes nothing.
use Rattle.std.specs.Prelude.{◌≡◌, true, length}
use Rattle.lists.specs.Folds.{distinct}
use Rattle.entries.specs.Entries.{entries}
use Rattle.repeats.specs.Repeats.{alike}
use Rattle.repeats.specs.Marks.{all_marked}
use Rattle.repeats.proofs.repeated.Given as goal

abbrev pub invariant-loop-i : goal.invariant-loop-i
invariant-loop-i l = (length l.table ≡ 64) × (all_marked l.table (entries l.queue l.i) ≡ true) × (distinct alike (entries l.queue l.i) ≡ true)
