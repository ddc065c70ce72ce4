-- `names_valid` meets its contract. The loop's invariant: what is left is whole elements, and the names are fields' where those that are left are.
-- Assumes nothing.
use Rattle.std.specs.Prelude.{◌≡◌, ◌≤◌, ◌-◌, ◌+◌, ◌*◌, ◌<◌, ℕ, List, refl, length, drop, not, Option, Some, None, is_some}
use Rattle.std.proofs.Common.{ap, arith, sym, ◌∙◌, length-drop}
use Rattle.elements.specs.Elements.{found, names}
use Rattle.elements.proofs.Laws.{form_whole}
use Rattle.elements.proofs.Steps.{names_more, names_short, element_name}
use Rattle.elements.proofs.names_valid.Goals as goal

found_some : (x : Option ℕ) → found x ≡ is_some x
found_some (Some k) = refl
found_some None = refl

fits : (format : List ℕ) (i : ℕ) → length (names (drop i format)) * 3 ≡ length (drop i format) → i < length format → 3 ≤ length format - i
fits format i w h = omega (arith, w, length-drop i format)

pub returns-then-not-form : goal.returns-then-not-form
returns-then-not-form c = rw (sym c.form.ensures ∙ c.if-not-form.true)

pub loop-i-init : goal.loop-i-init
loop-i-init c = ((form_whole c.args.format.now (sym c.form.ensures ∙ c.if-not-form.false)).1, refl)

pub returns-then-is_none : goal.returns-then-is_none
returns-then-is_none c =
    let a = c.args in
    let more = fits a.format.now c.loop-i.i c.loop-i.invariant.0 c.loop-i-test.true in
    let no = ap found (sym (element_name a.f a.format.now c.loop-i.i more) ∙ sym c.element.ensures) ∙ found_some c.element.result ∙ c.is_none.ensures ∙ ap not c.if-is_none.true in
    sym (rw (sym c.form.ensures ∙ c.if-not-form.false, c.loop-i.invariant.1, names_more a.format.now c.loop-i.i more, no))

pub loop-i-preserved : goal.loop-i-preserved
loop-i-preserved c =
    let a = c.args in
    let more = fits a.format.now c.loop-i.i c.loop-i.invariant.0 c.loop-i-test.true in
    let yes = ap found (sym (element_name a.f a.format.now c.loop-i.i more) ∙ sym c.element.ensures) ∙ found_some c.element.result ∙ c.is_none.ensures ∙ ap not c.if-is_none.false in (
      omega (arith, c.loop-i.invariant.0, ap length (names_more a.format.now c.loop-i.i more), length-drop c.loop-i.i a.format.now, length-drop (c.loop-i.i + 3) a.format.now),
      c.loop-i.invariant.1 ∙ rw (names_more a.format.now c.loop-i.i more, yes),
    )

-- the last element
pub returns-else-is_none : goal.returns-else-is_none
returns-else-is_none c =
    let a = c.args in
    let more = fits a.format.now c.loop-i.i c.loop-i.invariant.0 c.loop-i-test.true in
    let yes = ap found (sym (element_name a.f a.format.now c.loop-i.i more) ∙ sym c.element.ensures) ∙ found_some c.element.result ∙ c.is_none.ensures ∙ ap not c.if-is_none.false in
    let short : length a.format.now - (c.loop-i.i + 3) < 3 = omega arith in
    sym (rw (sym c.form.ensures ∙ c.if-not-form.false, c.loop-i.invariant.1, names_more a.format.now c.loop-i.i more, yes, names_short a.format.now (c.loop-i.i + 3) short))
