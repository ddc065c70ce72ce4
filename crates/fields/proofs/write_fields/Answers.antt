-- `write_fields` meets its contract. The loop's invariant: the values that are left, put where the fields that are left lie, make the whole.
-- Assumes nothing.
use Rattle.std.specs.Prelude.{◌≡◌, ◌+◌, ◌≤◌, true, not, length, drop, leb}
use Rattle.std.proofs.Common.{ap, arith, refl, sym, ◌∙◌}
use Rattle.std.proofs.lemmas.Bool.{leb-true, le-leb, lt-leb}
use Rattle.elements.specs.Elements.{places, length_needed}
use Rattle.elements.proofs.Steps.{places_end}
use Rattle.elements.proofs.Laws.{needed_room}
use Rattle.lists.specs.Tests.{and-false}
use Rattle.records.specs.Records.{record_length}
use Rattle.definition.proofs.Known.{file_known}
use Rattle.fields.specs.Fields.{span_written, write_in, fits, write_fields}
use Rattle.fields.specs.Steps.{turn_span, turn_inside, needed_turn, write_turn}
use Rattle.fields.specs.declared.Span.{Span}
use Rattle.fields.proofs.write_fields.Goals as goal
use Rattle.fields.proofs.write_fields.Goals.{After-span_at-s, After-write_span, At-loop-i}

-- the record buffer and the record are long enough
room : (c : At-loop-i) → fits c.args.f c.args.format.now c.args.values.now c.args.content.now ≡ true
unfolding fits
room c =
    let needed = needed_room c.args.f c.args.format.now (length c.args.values.now) c.needed_within.result c.is_none.result c.needed_within.ensures c.is_none.ensures ∙ ap not c.if-is_none.false in
    rw (needed, le-leb (record_length c.args.f) (length c.args.content.now) (omega (arith, c.record_length.ensures, c.if-content-record_length.false)))

-- the span of the element lies in the record, and its value in the record buffer
span_fits : (c : After-span_at-s) → (c.span_at-s.result.start + c.span_at-s.result.length ≤ length c.loop-i.content) × (c.loop-i.at + c.span_at-s.result.length ≤ length c.args.values.now)
span_fits c =
    let f = c.args.f in
    let format = c.args.format.now in
    let needed = needed_room f format (length c.args.values.now) c.needed_within.result c.is_none.result c.needed_within.ensures c.is_none.ensures ∙ ap not c.if-is_none.false in
    let fits = leb-true (length_needed f format) (length c.args.values.now) needed in
    rw c.span_at-s.ensures
    (omega (arith, c.record_length.ensures, c.if-content-record_length.false, c.loop-i.invariant.1, turn_inside f format c.loop-i.i (file_known _ _ c.well_formed.0)), omega (arith, fits, c.loop-i.invariant.0, needed_turn f format c.loop-i.i))

-- one turn
turn : (c : After-write_span) → (c.loop-i.at + c.span_at-s.result.length + length_needed c.args.f (drop (c.loop-i.i + 3) c.args.format.now) ≡ length_needed c.args.f c.args.format.now) × (length c.write_span.new.content ≡ length c.args.content.now) × (write_in c.args.f (places c.args.f (drop (c.loop-i.i + 3) c.args.format.now)) (drop (c.loop-i.at + c.span_at-s.result.length) c.args.values.now) c.write_span.new.content ≡ write_in c.args.f (places c.args.f c.args.format.now) c.args.values.now c.args.content.now)
turn c =
    let f = c.args.f in
    let format = c.args.format.now in
    let i = c.loop-i.i in
    let at = c.loop-i.at in
    let x = turn_span f format i in
    let values = c.args.values.now in
    let long : c.span_at-s.result.length ≡ x.length = ap (λ (p : Span). p.length) c.span_at-s.ensures in
    let now : c.write_span.new.content ≡ span_written x (drop at values) c.loop-i.content = rw c.span_at-s.ensures at c.write_span.ensures in
    let next = write_turn f format i values at c.loop-i.content in
    (omega (arith, needed_turn f format i, long, c.loop-i.invariant.0), omega (arith, c.write_span.auto.content, c.loop-i.invariant.1), rw (now, long) (sym next ∙ c.loop-i.invariant.2))

pub returns-then-is_none : goal.returns-then-is_none
unfolding fits write_fields
returns-then-is_none c =
    let short = needed_room c.args.f c.args.format.now (length c.args.values.now) c.needed_within.result c.is_none.result c.needed_within.ensures c.is_none.ensures ∙ ap not c.if-is_none.true in
    rw short refl

pub returns-then-content-record_length : goal.returns-then-content-record_length
unfolding fits write_fields
returns-then-content-record_length c =
    let f = c.args.f in
    let short = lt-leb (record_length f) (length c.args.content.now) (omega (arith, c.record_length.ensures, c.if-content-record_length.true)) in
    rw (short, and-false (leb (length_needed f c.args.format.now) (length c.args.values.now))) refl

pub loop-i-init : goal.loop-i-init
loop-i-init c = (omega arith, refl, refl)

pub write_span-requires : goal.write_span-requires
write_span-requires c = let all = span_fits (goal.at.write_span-requires c).After-span_at-s in record { length_in_bounds = all.0; length_in_bounds_2 = all.1 }

pub overflow_add-at : goal.overflow_add-at
overflow_add-at c = omega (arith, (span_fits (goal.at.overflow_add-at c).After-span_at-s).1)

pub loop-i-preserved : goal.loop-i-preserved
loop-i-preserved c = turn (goal.at.loop-i-preserved c).After-write_span

pub returns-else-content-record_length : goal.returns-else-content-record_length
unfolding write_fields
returns-else-content-record_length c =
    rw (room (goal.at.returns-else-content-record_length c).At-loop-i) (sym (rw (places_end c.args.f c.args.format.now c.loop-i.i c.loop-i-test.false) at (sym c.loop-i.invariant.2)))

-- the last element
pub returns-else-content-record_length-2 : goal.returns-else-content-record_length-2
unfolding write_fields
returns-else-content-record_length-2 c =
    let past : length c.args.format.now ≤ c.loop-i.i + 3 = omega arith in
    let next = turn (goal.at.returns-else-content-record_length-2 c).After-write_span in
    rw (room (goal.at.returns-else-content-record_length-2 c).At-loop-i) (sym (rw (places_end c.args.f c.args.format.now (c.loop-i.i + 3) past) at (sym next.2)))
