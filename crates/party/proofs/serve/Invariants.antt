-- What is printed so far, and what is to be printed of what is left. Assumes nothing.
use Rattle.nucleus.specs.Nucleus.{nucleus}
use Rattle.party.proofs.Serves.{Going}
use Rattle.party.proofs.serve.Given as goal

abbrev pub invariant-loop : goal.invariant-loop
invariant-loop g l =
    Going (g.R.Read.remaining l.initial.input) (g.W.Write.contents l.initial.out) (nucleus l.initial.state l.initial.store l.initial.queue l.initial.images)
    (g.R.Read.remaining l.input) (g.W.Write.contents l.out) (nucleus l.state l.store l.queue l.images) l.counter
