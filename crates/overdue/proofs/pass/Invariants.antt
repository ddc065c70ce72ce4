-- `pass` meets its contract. The loop's invariant: the users from here on are backed out to the same end as all of them from the start.
-- Assumes nothing.
use Prim.Native.Nat.{◌-◌}
use Rattle.nucleus.specs.Nucleus.{max_users}
use Rattle.overdue.proofs.Turns.{Pending}
use Rattle.overdue.proofs.pass.Given as goal

abbrev pub invariant-loop-at : goal.invariant-loop-at
invariant-loop-at l =
    Pending l.d l.clock l.initial.store l.initial.queue l.initial.images l.initial.after l.store l.queue l.images l.after l.at
