-- `entries_fit` meets its contract. The loop's invariant: what is asked of all entries is asked from here on.
-- Assumes nothing.
use mathlib.Core.Path.{◌≡◌}
use lib.ListN.{drop}
use Rattle.lists.specs.Folds.{all}
use Rattle.entries.specs.Entries.{entries}
use Rattle.entry_tables.specs.Tables.{entry_fits}
use Rattle.entry_tables.proofs.entries_fit.Given as goal

abbrev pub invariant-loop-word : goal.invariant-loop-word
invariant-loop-word l = all (entry_fits l.highest l.users) (entries l.queue l.count) ≡ all (entry_fits l.highest l.users) (drop l.word-index (entries l.queue l.count))
