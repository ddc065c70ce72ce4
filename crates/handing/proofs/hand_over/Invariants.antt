-- `hand_over` meets its contract. The loop's invariant: the entries from here on are handed over to the same end as all of them from the start.
-- Assumes nothing.
use Rattle.handing.proofs.Turns.{Pending}
use Rattle.handing.proofs.hand_over.Given as goal

abbrev pub invariant-loop-word : goal.invariant-loop-word
invariant-loop-word l =
    Pending l.d l.clock l.words l.n l.store l.initial.queue l.initial.after l.queue l.after l.word-index
