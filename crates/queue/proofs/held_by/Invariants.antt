-- `held_by` meets its contract. The loop's invariant: the sum so far and the entries that are left add up to the whole.
-- Assumes nothing.
use Rattle.std.specs.Prelude.{◌≡◌, ◌+◌, ◌≤◌, drop}
use Rattle.entries.specs.Entries.{entries}
use Rattle.lists.specs.Folds.{total}
use Rattle.queue.specs.Queue.{one_of}
use Rattle.queue.proofs.held_by.Given as goal

abbrev pub invariant-loop-word : goal.invariant-loop-word
invariant-loop-word l = (l.sum ≤ l.word-index) × (l.sum + total (one_of l.user) (drop l.word-index (entries l.queue l.count)) ≡ total (one_of l.user) (entries l.queue l.count))
