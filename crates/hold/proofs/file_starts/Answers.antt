-- `file_starts` meets its contract. The loop's invariant: the sum is where the next file begins, and every file before it has its start.
-- Assumes nothing.
use Prim.Native.Nat.{ℕ, ◌+◌, ◌≤◌, ◌<◌}
use mathlib.Core.Path.{◌≡◌, refl, ◌∙◌}
use mathlib.Core.List.{List}
use native.Mathlib.Omega.{arith}
use borrow.Author.Tests.{eqb-true, eqb-false}
use lib.Dec.{eqb}
use lib.ListN.{length, get_or, set, length-set}
use lib.Seq.{get_or-set_same, get_or-set_other}
use Rattle.lists.specs.Tests.{Outcome, holds, fails, outcome}
use Rattle.definition.specs.Shape.{file_shape_at}
use Rattle.definition.proofs.Known.{definition_known}
use Rattle.records.specs.Bounds.{file_size_most}
use Rattle.layout.specs.Layout.{file_offset}
use Rattle.layout.specs.Laws.{file_follows}
use Rattle.hold.proofs.file_starts.Goals as goal
use Rattle.hold.proofs.file_starts.Goals.{After-file_size-sum}

-- one more start
written : (starts : List ℕ) (start : ℕ → ℕ) (i sum : ℕ) → i + 1 < length starts → sum ≡ start (i + 1) → ((k : ℕ) → k ≤ i → get_or starts k 0 ≡ start k) → (k : ℕ) → k ≤ i + 1 → get_or (set starts (i + 1) sum) k 0 ≡ start k
written starts start i sum room here before k h = go (outcome (eqb k (i + 1)))
  where
    go : Outcome (eqb k (i + 1)) → get_or (set starts (i + 1) sum) k 0 ≡ start k
    go (holds t) = rw (eqb-true k (i + 1) t) (get_or-set_same starts (i + 1) sum 0 room ∙ here)
    go (fails t) = get_or-set_other starts (i + 1) k sum 0 (eqb-false k (i + 1) t) ∙ before k (omega (arith, eqb-false k (i + 1) t))

-- the file's size is bounded, and the sum with it
size : (c : After-file_size-sum) → c.file_size-sum.result ≤ 267448335
size c =
    omega (arith, c.file_size-sum.ensures, file_size_most _ (file_shape_at c.args.d (definition_known _ _ c.well_formed.0) c.loop-i.i (omega arith)))

pub loop-i-init : goal.loop-i-init
unfolding file_offset
loop-i-init c = (refl, omega arith, refl, λ k h. let z : k ≡ 0 = omega arith in rw z)

pub overflow_add-sum : goal.overflow_add-sum
overflow_add-sum c = omega (arith, size (goal.at.overflow_add-sum c).After-file_size-sum)

pub loop-i-preserved : goal.loop-i-preserved
loop-i-preserved c =
    let next = file_follows c.args.d (definition_known _ _ c.well_formed.0) c.loop-i.i (omega arith) in (
      length-set c.loop-i.starts (c.loop-i.i + 1) (c.loop-i.sum + c.file_size-sum.result) ∙ c.loop-i.invariant.0,
      omega (arith, size (goal.at.loop-i-preserved c).After-file_size-sum),
      omega (arith, next, c.file_size-sum.ensures),
      written c.loop-i.starts (file_offset c.args.d) c.loop-i.i (c.loop-i.sum + c.file_size-sum.result) (omega arith) (omega (arith, next, c.file_size-sum.ensures)) c.loop-i.invariant.3,
    )

pub returns : goal.returns
returns c = λ k h. c.loop-i.invariant.3 k (omega arith)
