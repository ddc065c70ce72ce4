-- `clear` meets its contract. The loop's invariant: the rest of the row, cleared from here on, gives the whole row cleared.
-- Assumes nothing.
use Rattle.std.proofs.Common.{◌≡◌}
use Rattle.lists.specs.Numbers.{from_to}
use Rattle.store.specs.Store.{cleared}
use Rattle.store.proofs.clear.Given as goal

abbrev pub invariant-loop-isn : goal.invariant-loop-isn
invariant-loop-isn l = cleared l.size (from_to l.isn l.last) l.part ≡ cleared l.size (from_to 1 l.last) l.initial.part
