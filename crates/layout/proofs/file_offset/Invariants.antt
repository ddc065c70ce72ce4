-- `file_offset` meets its contract, as `field_offset` does.
-- Assumes nothing.
use Prim.Native.Nat.{◌+◌, ◌*◌, ◌≤◌}
use mathlib.Core.Path.{◌≡◌}
use lib.ListN.{take, drop}
use Rattle.lists.specs.Folds.{total}
use Rattle.records.specs.Records.{file_size}
use Rattle.layout.proofs.file_offset.Given as goal

abbrev pub invariant-loop-f : goal.invariant-loop-f
invariant-loop-f l = (l.sum ≤ 267448335 * l.f-index) × (l.sum + total file_size (drop l.f-index (take l.n l.fn.d.files)) ≡ total file_size (take l.n l.fn.d.files))
