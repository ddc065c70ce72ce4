-- `first_free` meets its contract. The loop's invariant: what is sought from the start is sought from here on.
-- Assumes nothing.
use Prim.Native.Nat.{◌-◌, ◌*◌, ◌≤◌}
use mathlib.Core.Path.{◌≡◌}
use Rattle.lists.specs.Numbers.{numbers}
use Rattle.entries.specs.Entries.{entries}
use Rattle.search.specs.Search.{first_of}
use Rattle.assignment.specs.Assignment.{free_at}
use Rattle.assignment.proofs.first_free.Given as goal

abbrev pub invariant-loop-isn : goal.invariant-loop-isn
invariant-loop-isn l = (1 ≤ l.isn) × (l.at ≡ (l.isn - 1) * l.size) × (first_of (free_at l.room l.size l.part l.file (entries l.queue l.count)) (numbers (l.end - l.from) l.from) ≡ first_of (free_at l.room l.size l.part l.file (entries l.queue l.count)) (numbers (l.end - l.isn) l.isn))
