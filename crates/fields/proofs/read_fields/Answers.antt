-- `read_fields` meets its contract. The loop's invariant: the fields that are left, stored from here on, make the whole.
-- Assumes nothing.
use Rattle.std.specs.Prelude.{◌≡◌, ◌+◌, ◌≤◌, true, not, length, drop, leb}
use Rattle.std.proofs.Common.{ap, arith, refl, sym, ◌∙◌}
use Rattle.std.proofs.lemmas.Bool.{leb-true, le-leb, lt-leb}
use Rattle.std.proofs.lemmas.List.Edits.{sets}
use Rattle.std.proofs.Math.Seq.{length-sets}
use Rattle.elements.specs.Elements.{places, length_needed}
use Rattle.elements.proofs.Steps.{places_end, needed_end}
use Rattle.elements.proofs.Laws.{needed_room}
use Rattle.lists.specs.Tests.{and-false}
use Rattle.lists.specs.Parts.{sets_append}
use Rattle.records.specs.Records.{record_length}
use Rattle.definition.proofs.Known.{file_known}
use Rattle.fields.specs.Fields.{span_bytes, read_out, fits, read_fields}
use Rattle.fields.specs.Steps.{turn_span, turn_inside, turn_bytes, needed_turn, read_turn}
use Rattle.fields.specs.declared.Span.{Span}
use Rattle.fields.proofs.read_fields.Goals as goal
use Rattle.fields.proofs.read_fields.Goals.{After-read_span, After-span_at-s, At-loop-i}

-- the record buffer and the record are long enough
room : (c : At-loop-i) → fits c.args.f c.args.format.now c.args.buffer.now c.args.content.now ≡ true
unfolding fits
room c =
    let needed = needed_room c.args.f c.args.format.now (length c.args.buffer.now) c.needed_within.result c.is_none.result c.needed_within.ensures c.is_none.ensures ∙ ap not c.if-is_none.false in
    rw (needed, le-leb (record_length c.args.f) (length c.args.content.now) (omega (arith, c.record_length.ensures, c.if-content-record_length.false)))

-- the span of the element lies in the record, and its value in the record buffer
span_fits : (c : After-span_at-s) → (c.span_at-s.result.start + c.span_at-s.result.length ≤ length c.args.content.now) × (c.loop-i.at + c.span_at-s.result.length ≤ length c.loop-i.buffer)
span_fits c =
    let f = c.args.f in
    let format = c.args.format.now in
    let needed = needed_room f format (length c.args.buffer.now) c.needed_within.result c.is_none.result c.needed_within.ensures c.is_none.ensures ∙ ap not c.if-is_none.false in
    let fits = leb-true (length_needed f format) (length c.args.buffer.now) needed in
    rw c.span_at-s.ensures
    (omega (arith, c.record_length.ensures, c.if-content-record_length.false, turn_inside f format c.loop-i.i (file_known _ _ c.well_formed.0)), omega (arith, fits, c.loop-i.invariant.0, c.loop-i.invariant.1, needed_turn f format c.loop-i.i))

-- one turn
turn : (c : After-read_span) → (c.loop-i.at + c.span_at-s.result.length + length_needed c.args.f (drop (c.loop-i.i + 3) c.args.format.now) ≡ length_needed c.args.f c.args.format.now) × (length c.read_span.new.buffer ≡ length c.args.buffer.now) × (sets c.read_span.new.buffer (c.loop-i.at + c.span_at-s.result.length) (read_out c.args.f (places c.args.f (drop (c.loop-i.i + 3) c.args.format.now)) c.args.content.now) ≡ sets c.args.buffer.now 0 (read_out c.args.f (places c.args.f c.args.format.now) c.args.content.now))
turn c =
    let f = c.args.f in
    let format = c.args.format.now in
    let i = c.loop-i.i in
    let at = c.loop-i.at in
    let x = turn_span f format i in
    let content = c.args.content.now in
    let bytes = span_bytes x content in
    let rest = read_out f (places f (drop (i + 3) format)) content in
    let long : c.span_at-s.result.length ≡ x.length = ap (λ (p : Span). p.length) c.span_at-s.ensures in
    let now : c.read_span.new.buffer ≡ sets c.loop-i.buffer at bytes = rw c.span_at-s.ensures at c.read_span.ensures in
    let record_long : record_length f ≤ length content = omega (arith, c.record_length.ensures, c.if-content-record_length.false) in
    let whole = turn_bytes f format i (file_known _ _ c.well_formed.0) content record_long in
    let next : sets c.loop-i.buffer at (read_out f (places f (drop i format)) content) ≡ sets (sets c.loop-i.buffer at bytes) (at + x.length) rest = rw (read_turn f format i content, sets_append c.loop-i.buffer at bytes rest, whole) refl in
    (omega (arith, needed_turn f format i, long, c.loop-i.invariant.0), ap length now ∙ length-sets c.loop-i.buffer at bytes ∙ c.loop-i.invariant.1, rw (now, long) (sym next ∙ c.loop-i.invariant.2))

pub returns-then-is_none : goal.returns-then-is_none
unfolding fits read_fields
returns-then-is_none c =
    let short = needed_room c.args.f c.args.format.now (length c.args.buffer.now) c.needed_within.result c.is_none.result c.needed_within.ensures c.is_none.ensures ∙ ap not c.if-is_none.true in
    rw short (record { value = refl; buffer_after = refl })

pub returns-then-content-record_length : goal.returns-then-content-record_length
unfolding fits read_fields
returns-then-content-record_length c =
    let f = c.args.f in
    let short = lt-leb (record_length f) (length c.args.content.now) (omega (arith, c.record_length.ensures, c.if-content-record_length.true)) in
    rw (short, and-false (leb (length_needed f c.args.format.now) (length c.args.buffer.now))) (record { value = refl; buffer_after = refl })

pub loop-i-init : goal.loop-i-init
loop-i-init c = (omega arith, refl, refl)

pub read_span-requires : goal.read_span-requires
read_span-requires c = let all = span_fits (goal.at.read_span-requires c).After-span_at-s in record { length_in_bounds = all.0; length_in_bounds_2 = all.1 }

pub overflow_add-at : goal.overflow_add-at
overflow_add-at c = omega (arith, (span_fits (goal.at.overflow_add-at c).After-span_at-s).1)

pub loop-i-preserved : goal.loop-i-preserved
loop-i-preserved c = turn (goal.at.loop-i-preserved c).After-read_span

pub returns-else-content-record_length : goal.returns-else-content-record_length
unfolding read_fields
returns-else-content-record_length c =
    let f = c.args.f in
    let format = c.args.format.now in
    rw (room (goal.at.returns-else-content-record_length c).At-loop-i)
    (record { value = omega (arith, c.loop-i.invariant.0, needed_end f format c.loop-i.i c.loop-i-test.false); buffer_after = rw (places_end f format c.loop-i.i c.loop-i-test.false) at c.loop-i.invariant.2 })

-- the last element
pub returns-else-content-record_length-2 : goal.returns-else-content-record_length-2
unfolding read_fields
returns-else-content-record_length-2 c =
    let f = c.args.f in
    let format = c.args.format.now in
    let past : length format ≤ c.loop-i.i + 3 = omega arith in
    let next = turn (goal.at.returns-else-content-record_length-2 c).After-read_span in
    rw (room (goal.at.returns-else-content-record_length-2 c).At-loop-i)
    (record { value = omega (arith, next.0, needed_end f format (c.loop-i.i + 3) past); buffer_after = rw (places_end f format (c.loop-i.i + 3) past) at next.2 })
