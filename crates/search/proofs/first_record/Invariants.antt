-- `first_record` meets its contract. The loop's invariant: what is sought from the start is sought from here on.
-- Assumes nothing.
use Rattle.std.proofs.Common.{◌≡◌}
use Rattle.lists.specs.Numbers.{from_to}
use Rattle.store.specs.Store.{recorded}
use Rattle.search.specs.Search.{first_of}
use Rattle.search.proofs.first_record.Given as goal

abbrev pub invariant-loop-isn : goal.invariant-loop-isn
invariant-loop-isn l = first_of (recorded l.last l.size l.part) (from_to l.from l.last) ≡ first_of (recorded l.last l.size l.part) (from_to l.isn l.last)
