-- `file_size` meets its contract.
-- Assumes nothing.
use native.Mathlib.Omega.{arith}
use Prim.Native.Nat.{◌*◌, ◌≤◌}
use Rattle.records.specs.Bounds.{file_size_most}
use Rattle.definition.proofs.Known.{file_known}
use Rattle.layout.proofs.file_size.Goals as goal

pub overflow_mul-result : goal.overflow_mul-result
overflow_mul-result c =
    let f = c.args.f in
    let m : c.from.result * c.slot_length.result ≤ 267448335 = rw (c.from.ensures, c.slot_length.ensures) (file_size_most f (file_known _ _ c.well_formed.0)) in
    omega arith
