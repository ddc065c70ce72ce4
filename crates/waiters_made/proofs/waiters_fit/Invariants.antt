-- `waiters_fit` meets its contract. The loop's invariant: what is asked of all who wait is asked from here on.
-- Assumes nothing.
use mathlib.Core.Path.{◌≡◌}
use lib.ListN.{drop}
use Rattle.lists.specs.Folds.{all}
use Rattle.entries.specs.Entries.{entries}
use Rattle.waiters_made.specs.Waiting.{waiter_fits}
use Rattle.waiters_made.proofs.waiters_fit.Given as goal

abbrev pub invariant-loop-word : goal.invariant-loop-word
invariant-loop-word l = all (waiter_fits l.users (entries l.places l.waiting) (entries l.queue l.count)) (entries l.places l.waiting) ≡ all (waiter_fits l.users (entries l.places l.waiting) (entries l.queue l.count)) (drop l.word-index (entries l.places l.waiting))
