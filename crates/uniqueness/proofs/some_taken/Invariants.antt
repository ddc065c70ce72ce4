-- `some_taken` meets its contract. The loop's invariant: a value is taken where one of a field from here on is.
-- Assumes nothing.
use Prim.Native.Nat.{◌-◌}
use mathlib.Core.Path.{◌≡◌}
use Rattle.lists.specs.Folds.{any}
use Rattle.lists.specs.Numbers.{numbers}
use Rattle.definition.specs.Table.{field_count}
use Rattle.uniqueness.specs.Uniqueness.{field_taken, some_taken}
use Rattle.uniqueness.proofs.some_taken.Given as goal

abbrev pub invariant-loop-k : goal.invariant-loop-k
invariant-loop-k l = some_taken l.f l.part l.queue l.images l.count l.width l.user l.file l.named l.format l.isn l.content ≡ any (field_taken l.f l.part l.queue l.images l.count l.width l.user l.file l.named l.format l.isn l.content) (numbers (field_count l.f - l.k) l.k)
