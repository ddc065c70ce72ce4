-- `place` meets its contract. The loop's invariant: what is sought in the whole table is sought from here on.
-- Assumes nothing.
use Rattle.std.proofs.Common.{sym, ◌∙◌, take, drop_of_length-le, eq-eqb, ne_eqb}
use Rattle.lists.specs.Rest.{drop_more}
use Rattle.definition.specs.Table.{beyond}
use Rattle.layout.specs.Layout.{place}
use Rattle.layout.proofs.place.Goals as goal

pub returns-then-file-number : goal.returns-then-file-number
unfolding place
returns-then-file-number c =
    let files = c.args.d.files in
    rw (← c.file_count-n.ensures) (sym (c.loop-i.invariant ∙ rw (drop_more (take c.file_count-n.result files) c.loop-i.i beyond c.loop-i-test.true, eq-eqb _ _ c.if-file-number.true)))

pub loop-i-preserved : goal.loop-i-preserved
loop-i-preserved c = c.loop-i.invariant ∙ rw (drop_more (take c.file_count-n.result c.args.d.files) c.loop-i.i beyond c.loop-i-test.true, ne_eqb _ _ c.if-file-number.false)

pub returns : goal.returns
unfolding place
returns c = rw (← c.file_count-n.ensures) (sym (c.loop-i.invariant ∙ rw (drop_of_length-le (take c.file_count-n.result c.args.d.files) c.loop-i-test.false)))
