-- `slot_offset` meets its contract.
-- Assumes nothing.
use native.Mathlib.Omega.{arith}
use Prim.Native.Nat.{◌≤◌}
use native.Mathlib.Nat.{mul-le-mul}
use Rattle.records.specs.Bounds.{record_length_most}
use Rattle.definition.proofs.Known.{file_known}
use Rattle.records.proofs.slot_offset.Goals as goal

pub overflow_mul-result : goal.overflow_mul-result
overflow_mul-result c =
    let n : c.from.result ≤ 65535 = omega arith in
    let w : c.slot_length.result ≤ 4081 = omega (arith, record_length_most c.args.f (file_known _ _ c.well_formed.0)) in
    omega (arith, mul-le-mul n w)
