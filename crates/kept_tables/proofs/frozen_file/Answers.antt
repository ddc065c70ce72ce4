-- `frozen_file` meets its contract. The loop's invariant: up to `i` the new fields stand, from `i` on what was there before.
-- Assumes nothing.
use Rattle.std.proofs.Common.{◌≤◌, replicate, length-set, refl, arith, ◌∙◌}
use Rattle.kept_tables.specs.KeptTables.{frozen_file, frozen_field}
use Rattle.kept_tables.specs.Laws.{map_more, map_all}
use Rattle.definition.specs.Table.{no_field}
use Rattle.definition.proofs.Known.{file_known}
use Rattle.kept_tables.proofs.frozen_file.Goals as goal

pub loop-i-init : goal.loop-i-init
loop-i-init c = (refl, refl, refl)

pub loop-i-preserved : goal.loop-i-preserved
loop-i-preserved c =
    let size = (file_known c.args.f _ c.well_formed.0).places in
    let turn = map_more frozen_field c.args.f.fields (replicate 16 c.frozen_field-fields.result) c.loop-i.i no_field (omega (arith, size)) (omega arith) in
    (rw (c.frozen_field.ensures, c.loop-i.invariant.0) turn, simp length-set c.loop-i.invariant.1, refl)

pub returns : goal.returns
unfolding frozen_file
returns c =
    let size = (file_known c.args.f _ c.well_formed.0).places in
    let past : 16 ≤ c.loop-i.i = omega arith in
    rw (c.loop-i.invariant.0 ∙ map_all frozen_field c.args.f.fields (replicate 16 c.frozen_field-fields.result) c.loop-i.i (omega (arith, size)) past)
