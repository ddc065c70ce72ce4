-- `store_size` meets its contract: no table has more than 16 files.
-- Assumes nothing.
use mathlib.Core.Path.{ap, ◌∙◌}
use native.Mathlib.Omega.{arith}
use lib.ListN.{length-take}
use lib.Seq.{take_all}
use Rattle.lists.specs.Folds.{total}
use Rattle.definition.specs.Table.{files_of, file_count}
use Rattle.records.specs.Records.{file_size}
use Rattle.layout.specs.Layout.{file_offset, store_size}
use Rattle.layout.proofs.store_size.Goals as goal

pub returns : goal.returns
unfolding file_offset store_size
returns c =
    let d = c.args.d in
    c.file_offset.ensures ∙ ap (total file_size) (take_all 16 (files_of d) (omega (arith, length-take (file_count d) d.files)))
