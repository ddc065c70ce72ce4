-- `thawed_file` meets its contract. The loop's invariant: up to `i` the thawed fields stand, from `i` on the places are empty.
-- Assumes nothing.
use Rattle.std.proofs.Common.{◌≡◌, ap, ◌∙◌, arith, length, length-set, length-take, get_or-take}
use Rattle.definition.specs.Table.{no_file}
use Rattle.definition.specs.declared.File.{File}
use Rattle.kept_tables.specs.KeptTables.{kept_field_count, mapped, thawed_file, thawed_field}
use Rattle.kept_tables.specs.Laws.{map_more}
use Rattle.kept_tables.proofs.Known.{places}
use Rattle.kept_tables.specs.declared.KeptField.{KeptField}
use Rattle.kept_tables.proofs.thawed_file.Goals as goal

abbrev nothing : KeptField
nothing = record { first = 0; second = 0; length = 0; format = 0; option = 0 }

pub loop-i-init : goal.loop-i-init
loop-i-init c =
    let blank = ap (λ (f : File). f.fields) c.no_file.ensures in
    (blank, ap length blank)

pub loop-i-preserved : goal.loop-i-preserved
loop-i-preserved c =
    let k = c.args.k in
    let size = places k _ c.well_formed.0 in
    let taken = length-take c.in_use-n.result k.fields in
    let turn = map_more thawed_field k.fields no_file.fields c.loop-i.i nothing (omega (arith, size)) (omega (arith, size)) in
    (rw (c.thawed_field.ensures, get_or-take c.in_use-n.result k.fields c.loop-i.i nothing (omega arith), c.loop-i.invariant.0) turn, simp length-set c.loop-i.invariant.1)

pub returns : goal.returns
unfolding thawed_file
returns c =
    let k = c.args.k in
    let size = places k _ c.well_formed.0 in
    let taken = length-take c.in_use-n.result k.fields in
    let all_done : c.loop-i.i ≡ kept_field_count k = omega arith in
    rw (c.loop-i.invariant.0 ∙ ap (mapped thawed_field k.fields no_file.fields) all_done)
