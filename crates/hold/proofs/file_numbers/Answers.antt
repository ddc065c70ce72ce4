-- `file_numbers` meets its contract. The loop's invariant: the front of the table is written.
-- Assumes nothing.
use mathlib.Core.Path.{◌≡◌, refl, ◌∙◌}
use mathlib.Core.List.{map}
use native.Mathlib.Omega.{arith}
use lib.ListN.{length, replicate, length-map, get_or-map}
use Rattle.lists.specs.Rest.{write_more, write_all}
use Rattle.definition.specs.Table.{beyond}
use Rattle.definition.proofs.Known.{definition_known}
use Rattle.hold.specs.Tables.{file_number}
use Rattle.hold.proofs.file_numbers.Goals as goal
use Rattle.hold.proofs.file_numbers.Goals.{Start}

many : (c : Start) → length (map file_number c.args.d.files) ≡ 16
many c = length-map c.args.d.files file_number ∙ (definition_known c.args.d _ c.well_formed.0).places

pub loop-i-init : goal.loop-i-init
loop-i-init c = refl

pub loop-i-preserved : goal.loop-i-preserved
loop-i-preserved c =
    let i = c.loop-i.i in
    let new = map file_number c.args.d.files in
    let next = get_or-map file_number c.args.d.files i beyond in
    rw (c.loop-i.invariant, ← next) (write_more new (replicate 16 0) i 0 (omega (arith, many (goal.at.loop-i-preserved c).Start)) (omega (arith, many (goal.at.loop-i-preserved c).Start, length-map c.args.d.files file_number)))

pub returns : goal.returns
returns c = c.loop-i.invariant ∙ write_all _ (replicate 16 0) c.loop-i.i (omega (arith, many (goal.at.returns c).Start, length-map c.args.d.files file_number)) (omega (arith, many (goal.at.returns c).Start, length-map c.args.d.files file_number))
