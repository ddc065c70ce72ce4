-- `slot_bytes` meets its contract: an offset past a slot's first byte is a number that fits. Assumes nothing.
use Prim.Native.Nat.{◌-◌, ◌≤◌}
use native.Mathlib.Nat.{mul-le-mul}
use native.Mathlib.Omega.{arith}
use Rattle.definition.proofs.Known.{file_known}
use Rattle.records.specs.Records.{slot_length}
use Rattle.records.specs.Bounds.{record_length_most}
use Rattle.new_records.proofs.slot_bytes.Goals as goal

pub overflow_add-slot_offset : goal.overflow_add-slot_offset
overflow_add-slot_offset c =
    let before : c.args.isn - 1 ≤ 65535 = omega arith in
    let short : slot_length c.args.f ≤ 4081 = omega (arith, record_length_most c.args.f (file_known _ _ c.well_formed.0)) in
    omega (arith, c.slot_offset.ensures, mul-le-mul before short)
