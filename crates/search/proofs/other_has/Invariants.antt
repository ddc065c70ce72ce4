-- `other_has` meets its contract. The loop's invariant: whether a slot passes is whether one from here on does.
-- Assumes nothing.
use Rattle.std.proofs.Common.{◌≡◌}
use Rattle.lists.specs.Folds.{any}
use Rattle.lists.specs.Numbers.{from_to}
use Rattle.search.specs.Search.{held}
use Rattle.search.proofs.other_has.Given as goal

abbrev pub invariant-loop-other : goal.invariant-loop-other
invariant-loop-other l = any (held l.last l.size l.part l.isn l.offset l.value) (from_to 1 l.last) ≡ any (held l.last l.size l.part l.isn l.offset l.value) (from_to l.other l.last)
