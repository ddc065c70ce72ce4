-- `read_table` ends: each item takes it on. Assumes nothing.
use Rattle.std.proofs.Common.{length, ◌-◌}
use Rattle.std.specs.Prelude.{IfSome}
use Rattle.party.proofs.Tables.{Passed}
use Rattle.party.proofs.read_table.Given as goal

abbrev pub invariant-loop-at : goal.invariant-loop-at
invariant-loop-at g l = IfSome (g.R.Read.remaining l.initial.input) (λ xs. Passed xs (g.R.Read.remaining l.input) l.at l.table)

abbrev pub decreases-loop-at : goal.decreases-loop-at
decreases-loop-at g l = length l.initial.table - l.at
