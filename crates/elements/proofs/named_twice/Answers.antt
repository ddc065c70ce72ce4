-- `named_twice` meets its contract. The loop's invariant: a field is named twice where one that is left to come is seen, or comes twice.
-- Assumes nothing.
use native.Mathlib.Omega.{arith}
use mathlib.Core.Bool.{true}
use mathlib.Core.Path.{sym, ◌∙◌}
use lib.ListN.{length-set}
use borrow.Author.Rules.{rules}
use Rattle.elements.specs.Elements.{places, named_twice}
use Rattle.elements.specs.Lists.{repeats, repeats_twice}
use Rattle.std.specs.Prelude.{◌≡◌, ◌+◌, length, drop}
use Rattle.elements.proofs.Steps.{places_step, places_end}
use Rattle.elements.proofs.Laws.{element_inside, places_below}
use Rattle.elements.proofs.named_twice.Goals as goal
use Rattle.elements.proofs.named_twice.Goals.{Joined-element, in-Some+else-seen-k, in_default}

pub loop-i-init : goal.loop-i-init
unfolding named_twice
loop-i-init c = (search rules, sym (repeats_twice 16 (places c.args.f c.args.format.now) (places_below c.args.f c.args.format.now)))

pub bounds-seen-k : goal.bounds-seen-k
bounds-seen-k c =
    let a = c.args in
    omega (arith, element_inside a.f a.format.now c.loop-i.i c.in-Some.k (sym c.element.ensures ∙ c.in-Some.is))

pub returns-then-seen-k : goal.returns-then-seen-k
returns-then-seen-k c =
    let a = c.args in
    let e = sym c.element.ensures ∙ c.in-Some.is in
    sym (c.loop-i.invariant.1 ∙ rw (places_step a.f a.format.now c.loop-i.i, e, c.if-seen-k.true))

pub bounds-seen-k-in-Some : goal.bounds-seen-k-in-Some
bounds-seen-k-in-Some c =
    let a = c.args in
    omega (arith, element_inside a.f a.format.now c.loop-i.i c.in-Some.k (sym c.element.ensures ∙ c.in-Some.is))

-- one turn
turn : (c : Joined-element) → (length c.match-element.seen ≡ 16) × (named_twice c.args.f c.args.format.now ≡ repeats c.match-element.seen (places c.args.f (drop (c.loop-i.i + 3) c.args.format.now)))
turn c =
    let a = c.args in
    let e = sym c.element.ensures in
    let next = places_step a.f a.format.now c.loop-i.i in
    elim c.match-element.branch [
      | in-Some+else-seen-k w ↦
          (rw w.seen-is (length-set c.loop-i.seen w.in-Some.k true ∙ c.loop-i.invariant.0), c.loop-i.invariant.1 ∙ rw (next, e ∙ w.in-Some.is, w.if-seen-k.false, w.seen-is))
      | in_default w ↦ (rw w.seen-is c.loop-i.invariant.0, c.loop-i.invariant.1 ∙ rw (next, e ∙ w.in_default.is, w.seen-is))
    ]

pub loop-i-preserved : goal.loop-i-preserved
loop-i-preserved c = turn (goal.at.loop-i-preserved c).Joined-element

pub returns : goal.returns
returns c =
    let a = c.args in
    sym (c.loop-i.invariant.1 ∙ rw (places_end a.f a.format.now c.loop-i.i c.loop-i-test.false))

-- the last element
pub returns-after-element : goal.returns-after-element
returns-after-element c =
    let a = c.args in
    sym ((turn (goal.at.returns-after-element c).Joined-element).1 ∙ rw (places_end a.f a.format.now (c.loop-i.i + 3) (omega arith)))
