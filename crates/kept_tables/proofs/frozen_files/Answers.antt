-- `frozen_files` meets its contract. The loop's invariant: up to `i` the new files stand, from `i` on what was there before.
-- Assumes nothing.
use Rattle.std.proofs.Common.{◌≤◌, replicate, length-set, refl, arith, rules, ◌∙◌}
use Rattle.kept_tables.specs.KeptTables.{frozen_file}
use Rattle.kept_tables.specs.Laws.{map_more, map_all}
use Rattle.definition.specs.Table.{beyond}
use Rattle.kept_tables.proofs.frozen_files.Goals as goal

pub loop-i-init : goal.loop-i-init
loop-i-init c = (refl, refl, refl)

pub loop-i-preserved : goal.loop-i-preserved
loop-i-preserved c =
    let turn = map_more frozen_file c.args.files (replicate 16 c.frozen_file-kept.result) c.loop-i.i beyond (search rules) (omega arith) in
    (rw (c.frozen_file.ensures, c.loop-i.invariant.0) turn, simp length-set c.loop-i.invariant.1, refl)

pub returns : goal.returns
returns c =
    let past : 16 ≤ c.loop-i.i = omega arith in
    c.loop-i.invariant.0 ∙ map_all frozen_file c.args.files (replicate 16 c.frozen_file-kept.result) c.loop-i.i (search rules) past
