-- `slot_length` meets its contract.
-- Assumes nothing.
use native.Mathlib.Omega.{arith}
use Rattle.records.specs.Bounds.{record_length_most}
use Rattle.definition.proofs.Known.{file_known}
use Rattle.records.proofs.slot_length.Goals as goal

pub overflow_add-result : goal.overflow_add-result
overflow_add-result c = omega (arith, record_length_most c.args.f (file_known _ _ c.well_formed.0))
