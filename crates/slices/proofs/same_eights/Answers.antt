-- `same_eights` meets its contract. The loop's invariant: up to `i` the lists are alike. That bytes are below 256 is known of every slice.
-- Assumes nothing.
use Rattle.std.proofs.Common.{refl, sym, ◌∙◌, ◌-◌, ℕ, List, arith, Fits, w8, length, get_or}
use Rattle.lists.specs.Pieces.{piece}
use Rattle.slices.specs.Eights.{as_number, Bytes, alike_more, alike_all, differ}
use Rattle.slices.proofs.same_eights.Goals as goal

bytes : (l : List ℕ) → ((i : ℕ) → Fits w8 (get_or l i 0)) → Bytes l
bytes l h i = omega (arith, h i)

pub loop-i-init : goal.loop-i-init
loop-i-init c = refl

pub returns-then-eight : goal.returns-then-eight
returns-then-eight c =
    let a = c.args in
    sym (differ a.a.now a.b.now (λ s. as_number (piece c.loop-i.i 8 s)) (λ e. c.if-eight.true (c.eight.ensures ∙ e ∙ sym c.eight-in-loop-i.ensures)))

pub loop-i-preserved : goal.loop-i-preserved
loop-i-preserved c =
    let a = c.args in
    alike_more a.a.now a.b.now (bytes a.a.now c.type_inv.a) (bytes a.b.now c.type_inv.b) c.loop-i.i 8 (omega arith) (omega arith) c.loop-i.invariant (sym c.eight.ensures ∙ c.if-eight.false ∙ c.eight-in-loop-i.ensures)

pub returns : goal.returns
returns c =
    let a = c.args in
    rw (c.eight-2.ensures, c.eight-3.ensures)
    (alike_all a.a.now a.b.now (bytes a.a.now c.type_inv.a) (bytes a.b.now c.type_inv.b) c.loop-i.i (length a.a.now - 8) 8 (omega arith) (omega arith) (omega arith) c.loop-i.invariant)
