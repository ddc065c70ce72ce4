-- `values_allowed` meets its contract. The loop's invariant: the values are allowed if those that are left are.
-- Assumes nothing.
use Rattle.std.specs.Prelude.{◌≡◌, ◌+◌, ◌≤◌, true, not, length, drop, leb}
use Rattle.std.proofs.Common.{ap, arith, refl, sym, ◌∙◌}
use Rattle.std.proofs.lemmas.Bool.{leb-true}
use Rattle.elements.specs.Elements.{places, length_needed}
use Rattle.elements.proofs.Steps.{places_end}
use Rattle.elements.proofs.Laws.{needed_room}
use Rattle.fields.specs.Fields.{span_allowed, allowed_in, values_allowed}
use Rattle.fields.specs.Steps.{turn_span, needed_turn, allowed_turn}
use Rattle.fields.specs.declared.Span.{Span}
use Rattle.fields.proofs.values_allowed.Goals as goal
use Rattle.fields.proofs.values_allowed.Goals.{After-span_at-s, At-loop-i, Else-not-allowed_span}

-- the record buffer has the values, so it has the one that the element names
room : (c : At-loop-i) → leb (length_needed c.args.f c.args.format.now) (length c.args.values.now) ≡ true
room c = needed_room c.args.f c.args.format.now (length c.args.values.now) c.needed_within.result c.is_none.result c.needed_within.ensures c.is_none.ensures ∙ ap not c.if-is_none.false

value_here : (c : After-span_at-s) → c.loop-i.at + c.span_at-s.result.length ≤ length c.args.values.now
value_here c =
    let whole = needed_room c.args.f c.args.format.now (length c.args.values.now) c.needed_within.result c.is_none.result c.needed_within.ensures c.is_none.ensures ∙ ap not c.if-is_none.false in
    let fits = leb-true (length_needed c.args.f c.args.format.now) (length c.args.values.now) whole in
    rw c.span_at-s.ensures (omega (arith, fits, c.loop-i.invariant.0, needed_turn c.args.f c.args.format.now c.loop-i.i))

-- one turn
turn : (c : Else-not-allowed_span) → (c.loop-i.at + c.span_at-s.result.length + length_needed c.args.f (drop (c.loop-i.i + 3) c.args.format.now) ≡ length_needed c.args.f c.args.format.now) × (allowed_in c.args.f (places c.args.f c.args.format.now) c.args.values.now ≡ allowed_in c.args.f (places c.args.f (drop (c.loop-i.i + 3) c.args.format.now)) (drop (c.loop-i.at + c.span_at-s.result.length) c.args.values.now))
turn c =
    let f = c.args.f in
    let format = c.args.format.now in
    let values = c.args.values.now in
    let long : c.span_at-s.result.length ≡ (turn_span f format c.loop-i.i).length = ap (λ (p : Span). p.length) c.span_at-s.ensures in
    let judged : c.allowed_span.result ≡ span_allowed (turn_span f format c.loop-i.i) (drop c.loop-i.at values) = rw c.span_at-s.ensures at c.allowed_span.ensures in
    let next = rw (sym judged ∙ c.if-not-allowed_span.false) at (allowed_turn f format c.loop-i.i values c.loop-i.at) in
    (omega (arith, needed_turn f format c.loop-i.i, long, c.loop-i.invariant.0), rw long (c.loop-i.invariant.1 ∙ next))

pub returns-then-is_none : goal.returns-then-is_none
unfolding values_allowed
returns-then-is_none c =
    let short = needed_room c.args.f c.args.format.now (length c.args.values.now) c.needed_within.result c.is_none.result c.needed_within.ensures c.is_none.ensures ∙ ap not c.if-is_none.true in
    rw short

pub loop-i-init : goal.loop-i-init
loop-i-init c = (omega arith, refl)

pub allowed_span-requires : goal.allowed_span-requires
allowed_span-requires c = value_here (goal.at.allowed_span-requires c).After-span_at-s

pub returns-then-not-allowed_span : goal.returns-then-not-allowed_span
unfolding values_allowed
returns-then-not-allowed_span c =
    let f = c.args.f in
    let format = c.args.format.now in
    let values = c.args.values.now in
    let judged : c.allowed_span.result ≡ span_allowed (turn_span f format c.loop-i.i) (drop c.loop-i.at values) = rw c.span_at-s.ensures at c.allowed_span.ensures in
    rw (room (goal.at.returns-then-not-allowed_span c).At-loop-i, c.loop-i.invariant.1, allowed_turn f format c.loop-i.i values c.loop-i.at, sym judged ∙ c.if-not-allowed_span.true)

pub overflow_add-at : goal.overflow_add-at
overflow_add-at c = omega (arith, value_here (goal.at.overflow_add-at c).After-span_at-s)

pub loop-i-preserved : goal.loop-i-preserved
loop-i-preserved c = turn (goal.at.loop-i-preserved c).Else-not-allowed_span

pub returns-else-is_none : goal.returns-else-is_none
unfolding values_allowed
returns-else-is_none c = rw (room (goal.at.returns-else-is_none c).At-loop-i, c.loop-i.invariant.1, places_end c.args.f c.args.format.now c.loop-i.i c.loop-i-test.false)

-- the last element
pub returns-else-not-allowed_span : goal.returns-else-not-allowed_span
unfolding values_allowed
returns-else-not-allowed_span c =
    let past : length c.args.format.now ≤ c.loop-i.i + 3 = omega arith in
    let next = turn (goal.at.returns-else-not-allowed_span c).Else-not-allowed_span in
    rw (room (goal.at.returns-else-not-allowed_span c).At-loop-i, next.1, places_end c.args.f c.args.format.now (c.loop-i.i + 3) past)
