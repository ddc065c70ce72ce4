-- `other_has` meets its contract. The loop's invariant: whether a slot passes is whether one from here on does.
-- Assumes nothing.
use Rattle.std.proofs.Common.{◌≡◌, ◌-◌, ◌*◌, not, false, ◌&&◌, eqb, refl, sym, ◌∙◌, arith, eq-eqb, ne_eqb}
use Rattle.lists.specs.Tests.{and-false}
use Rattle.lists.specs.Numbers.{from_to_more}
use Rattle.search.specs.Search.{held, has_field}
use Rattle.search.specs.Slots.{held_here}
use Rattle.search.proofs.other_has.Goals as goal
use Rattle.search.proofs.other_has.Goals.{In-loop-other, else-other-isn-via-then-other-isn+else-has_field, else-other-isn-via-else-other-isn}

-- in a turn the slot's test reads at its place
here : (c : In-loop-other) → held c.args.last c.args.size c.args.part.now c.args.isn c.args.offset c.args.value.now c.loop-other.other
    ≡ (not (eqb c.loop-other.other c.args.isn) && has_field c.args.part.now ((c.loop-other.other - 1) * c.args.size) c.args.offset c.args.value.now)
here c =
    let a = c.args in
    held_here a.last a.size a.part.now c.loop-other.other _ (omega arith) c.loop-other-test.true refl a.isn a.offset a.value.now

pub returns-then-has_field : goal.returns-then-has_field
returns-then-has_field c =
    let test = here (goal.at.returns-then-has_field c).In-loop-other in
    sym (c.loop-other.invariant ∙ rw (from_to_more c.loop-other.other c.args.last c.loop-other-test.true, test, ne_eqb _ _ c.if-other-isn.true, ← c.has_field.ensures, c.if-has_field.true))

pub loop-other-preserved : goal.loop-other-preserved
loop-other-preserved c =
    let a = c.args in
    let no : held a.last a.size a.part.now a.isn a.offset a.value.now c.loop-other.other ≡ false =
    here (goal.at.loop-other-preserved c).In-loop-other
    ∙ elim c.else-other-isn.branch [
      | else-other-isn-via-then-other-isn+else-has_field w ↦ rw (sym w.has_field.ensures ∙ w.if-has_field.false) (and-false (not (eqb c.loop-other.other c.args.isn)))
      | else-other-isn-via-else-other-isn w ↦ rw (eq-eqb _ _ w.if-other-isn.false)
    ] in
    c.loop-other.invariant ∙ rw (from_to_more c.loop-other.other c.args.last c.loop-other-test.true, no)
