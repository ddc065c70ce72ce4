-- `record_length` meets its contract: no file has more than 16 fields.
-- Assumes nothing.
use mathlib.Core.Path.{ap, ◌∙◌}
use native.Mathlib.Omega.{arith}
use lib.ListN.{length-take}
use lib.Seq.{take_all}
use Rattle.lists.specs.Folds.{total}
use Rattle.definition.specs.Table.{fields_of, field_count}
use Rattle.records.specs.Records.{field_length, field_offset, record_length}
use Rattle.records.proofs.record_length.Goals as goal

pub returns : goal.returns
unfolding field_offset record_length
returns c =
    let f = c.args.f in
    c.field_offset.ensures ∙ ap (total field_length) (take_all 16 (fields_of f) (omega (arith, length-take (field_count f) f.fields)))
