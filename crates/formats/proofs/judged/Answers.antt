-- `judged` meets its contract: each `return` says how the rows before it came out, in the table's order.
-- Assumes nothing.
use Rattle.std.specs.Prelude.{◌≡◌, false, not, ◌&&◌, length}
use Rattle.std.proofs.Common.{ap, sym, ◌∙◌}
use Rattle.std.proofs.lemmas.Bool.{lt-ltb, le-ltb, leb-true, leb-false}
use Rattle.elements.specs.Elements.{named_twice, length_needed}
use Rattle.elements.proofs.Laws.{needed_room}
use Rattle.formats.proofs.judged.Goals as goal
use Rattle.formats.proofs.judged.Goals.{After-is_none, else-brings-via-then-brings+else-named_twice, else-brings-via-else-brings, else-brings-2-via-then-brings-2+else-not-values_allowed, else-brings-2-via-else-brings-2}

-- the first two rows
once : (c : After-is_none) → (c.args.brings && named_twice c.args.f c.args.format.now) ≡ false
once c =
    let twice = named_twice c.args.f c.args.format.now in
    elim c.else-brings.branch [
      | else-brings-via-then-brings+else-named_twice w ↦ ap (λ b. b && twice) w.if-brings.true ∙ sym w.named_twice.ensures ∙ w.if-named_twice.false
      | else-brings-via-else-brings w ↦ ap (λ b. b && twice) w.if-brings.false
    ]

pub returns-then-is_none : goal.returns-then-is_none
returns-then-is_none c =
    let a = c.args in
    let needed = length_needed a.f a.format.now in
    let long = leb-false needed (length a.buffer.now) (needed_room a.f a.format.now (length a.buffer.now) c.needed_within.result c.is_none.result c.needed_within.ensures c.is_none.ensures ∙ ap not c.if-is_none.true) in
    rw (sym c.format_valid.ensures ∙ c.if-not-format_valid.false, once (goal.at.returns-then-is_none c).After-is_none, lt-ltb (length a.buffer.now) needed long)

pub returns-then-not-values_allowed : goal.returns-then-not-values_allowed
returns-then-not-values_allowed c =
    let a = c.args in
    let needed = length_needed a.f a.format.now in
    let fits = leb-true needed (length a.buffer.now) (needed_room a.f a.format.now (length a.buffer.now) c.needed_within.result c.is_none.result c.needed_within.ensures c.is_none.ensures ∙ ap not c.if-is_none.false) in
    rw (sym c.format_valid.ensures ∙ c.if-not-format_valid.false, once (goal.at.returns-then-not-values_allowed c).After-is_none, le-ltb (length a.buffer.now) needed fits, c.if-brings-2.true, sym c.values_allowed.ensures ∙ c.if-not-values_allowed.true)

pub returns : goal.returns
returns c =
    let a = c.args in
    let needed = length_needed a.f a.format.now in
    let valid = sym c.format_valid.ensures ∙ c.if-not-format_valid.false in
    let fits = leb-true needed (length a.buffer.now) (needed_room a.f a.format.now (length a.buffer.now) c.needed_within.result c.is_none.result c.needed_within.ensures c.is_none.ensures ∙ ap not c.if-is_none.false) in
    let room = le-ltb (length a.buffer.now) needed fits in
    elim c.else-brings-2.branch [
      | else-brings-2-via-then-brings-2+else-not-values_allowed w ↦ rw (valid, once (goal.at.returns c).After-is_none, room, w.if-brings-2.true, sym w.values_allowed.ensures ∙ w.if-not-values_allowed.false)
      | else-brings-2-via-else-brings-2 w ↦ rw (valid, once (goal.at.returns c).After-is_none, room, w.if-brings-2.false)
    ]
