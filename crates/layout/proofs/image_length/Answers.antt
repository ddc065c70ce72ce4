-- `image_length` meets its contract. The loop's invariant: the greater of what was found and of what is left is the maximum.
-- Assumes nothing.
use Rattle.std.proofs.Common.{ap, arith, take, drop_of_length-le}
use Rattle.lists.specs.Folds.{maximum}
use Rattle.lists.specs.Rest.{drop_more}
use Rattle.definition.specs.Table.{beyond}
use Rattle.records.specs.Records.{record_length}
use Rattle.layout.specs.Layout.{image_length}
use Rattle.layout.proofs.image_length.Goals as goal

pub loop-file-preserved : goal.loop-file-preserved
loop-file-preserved c =
    let e = ap (maximum record_length) (drop_more (take c.file_count-n.result c.args.d.files) c.loop-file.file-index beyond c.loop-file-test.true) in
    omega (arith, e)

pub returns : goal.returns
unfolding image_length
returns c =
    let files = c.args.d.files in
    let none = ap (maximum record_length) (drop_of_length-le (take c.file_count-n.result files) c.loop-file-test.false) in
    let count = ap (λ n. maximum record_length (take n files)) c.file_count-n.ensures in
    omega (arith, none, count)
