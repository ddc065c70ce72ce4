-- `thawed_files` meets its contract. The loop's invariant: up to `i` the thawed files stand, from `i` on the places are empty.
-- Assumes nothing.
use Rattle.std.proofs.Common.{◌≡◌, ap, ◌∙◌, arith, rules, [], length, replicate, length-set, length-take, get_or-take}
use Rattle.definition.specs.Table.{no_definition}
use Rattle.definition.specs.declared.File.{File}
use Rattle.kept_tables.specs.KeptTables.{kept_file_count, mapped, thawed_file, thawed_files}
use Rattle.kept_tables.specs.Laws.{map_more}
use Rattle.kept_tables.specs.declared.KeptFile.{KeptFile}
use Rattle.kept_tables.proofs.thawed_files.Goals as goal

abbrev none : KeptFile
none = record { number = 0; count = 0; max_isn = 0; fields = [] }

pub loop-i-init : goal.loop-i-init
loop-i-init c =
    let blank = ap (λ (f : File). replicate 16 f) c.no_file-files.ensures in
    (blank, ap length blank)

pub loop-i-preserved : goal.loop-i-preserved
loop-i-preserved c =
    let kept = c.args.kept in
    let size : length kept ≡ 16 = search rules in
    let taken = length-take c.in_use-n.result kept in
    let turn = map_more thawed_file kept no_definition.files c.loop-i.i none (omega arith) (omega arith) in
    (rw (c.thawed_file.ensures, get_or-take c.in_use-n.result kept c.loop-i.i none (omega arith), c.loop-i.invariant.0) turn, simp length-set c.loop-i.invariant.1)

pub returns : goal.returns
unfolding thawed_files
returns c =
    let size : length c.args.kept ≡ 16 = search rules in
    let taken = length-take c.in_use-n.result c.args.kept in
    let all_done : c.loop-i.i ≡ kept_file_count c.args.count = omega arith in
    c.loop-i.invariant.0 ∙ ap (mapped thawed_file c.args.kept no_definition.files) all_done
