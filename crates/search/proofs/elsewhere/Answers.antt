-- `elsewhere` meets its contract.
-- Assumes nothing.
use native.Mathlib.Omega.{arith}
use mathlib.Core.Path.{sym, ◌∙◌}
use borrow.Author.Tests.{le-ltb}
use lib.ListN.{length}
use Rattle.definition.specs.Table.{field_count}
use Rattle.definition.specs.Shape.{FileShape}
use Rattle.definition.proofs.Known.{file_known}
use Rattle.records.specs.Laws.{field_within}
use Rattle.search.specs.Search.{elsewhere}
use Rattle.store.specs.Slots.{count_room}
use Rattle.search.specs.Slots.{elsewhere_row, elsewhere_misfit}
use Rattle.search.proofs.elsewhere.Goals as goal

pub returns-then-field_count-place : goal.returns-then-field_count-place
unfolding elsewhere
returns-then-field_count-place c = rw (le-ltb c.args.place (field_count c.args.f) (omega (arith, c.field_count.ensures)))

pub returns-then-value-field_length : goal.returns-then-value-field_length
returns-then-value-field_length c =
    sym (elsewhere_misfit c.args.f (file_known _ _ c.well_formed.0) c.args.part.now c.args.place c.args.isn c.args.value.now
    (omega (arith, c.field_count.ensures)) (λ e. c.if-value-field_length.true (e ∙ sym c.field_length.ensures)))

pub other_has-requires : goal.other_has-requires
other_has-requires c =
    let k : FileShape c.args.f = file_known _ _ c.well_formed.0 in
    let within = field_within c.args.f k c.args.place (omega (arith, c.field_count.ensures)) in
    record { last_bound = omega arith; size_in_bounds = rw (c.slot_count-last.ensures, c.slot_length-size.ensures) (count_room c.args.f (length c.args.part.now)); value_bound = omega (arith, within) }

pub returns : goal.returns
returns c =
    let row = elsewhere_row c.args.f (file_known _ _ c.well_formed.0) c.args.part.now c.args.place c.args.isn c.args.value.now
    (omega (arith, c.field_count.ensures)) (c.if-value-field_length.false ∙ c.field_length.ensures) in
    rw (c.other_has.ensures, c.from.ensures, c.slot_count-last.ensures, c.slot_length-size.ensures, c.field_offset-offset.ensures) row
