-- `freshen` meets its contract: what is left to be made empty are the files from `i` on. Assumes nothing.
use mathlib.Core.Path.{◌≡◌}
use Prim.Native.Nat.{◌-◌}
use lib.ListN.{length}
use Rattle.lists.specs.Numbers.{numbers}
use Rattle.definition.specs.Table.{file_count}
use Rattle.nucleus.specs.Step.{freshened}
use Rattle.setup.proofs.freshen.Given as goal

abbrev pub invariant-loop-i : goal.invariant-loop-i
invariant-loop-i l =
    (l.n ≡ file_count l.d) × (length l.store ≡ length l.initial.store)
    × (freshened l.d (numbers (l.n - l.i) l.i) l.store ≡ freshened l.d (numbers (file_count l.d) 0) l.initial.store)
