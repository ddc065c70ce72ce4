-- `image_has` meets its contract. The loop's invariant: what is sought in the whole queue is sought from here on.
-- Assumes nothing.
use Rattle.std.proofs.Common.{◌≡◌, ◌∷◌, ◌+◌, ◌*◌, sym, ap, ◌∙◌, arith, drop}
use Rattle.entries.specs.Entries.{entries}
use Rattle.entries.proofs.Chains.{entry_taken, none_taken_left}
use Rattle.images.specs.Images.{image_has}
use Rattle.images.specs.Laws.{hold_next}
use Rattle.images.proofs.image_has.Goals as goal

pub loop-i-init : goal.loop-i-init
loop-i-init c =
    let none : 0 * c.args.width ≡ 0 = omega arith in
    rw none

pub returns-then-taken_by : goal.returns-then-taken_by
unfolding image_has
returns-then-taken_by c =
    let a = c.args in
    let es = entries a.queue.now a.count in
    let next = entry_taken a.queue.now a.count c.min-n.result c.min-n.ensures c.loop-i.i c.loop-i-test.true ∙ ap (λ e. e ∷ drop (c.loop-i.i + 1) es) (sym c.unpack.ensures) in
    sym (c.loop-i.invariant ∙ rw (hold_next a.width es a.images.now c.loop-i.i c.unpack.result next, ← c.taken_by.ensures, c.if-taken_by.true))

pub loop-i-preserved : goal.loop-i-preserved
loop-i-preserved c =
    let a = c.args in
    let es = entries a.queue.now a.count in
    let next = entry_taken a.queue.now a.count c.min-n.result c.min-n.ensures c.loop-i.i c.loop-i-test.true ∙ ap (λ e. e ∷ drop (c.loop-i.i + 1) es) (sym c.unpack.ensures) in
    c.loop-i.invariant ∙ rw (hold_next a.width es a.images.now c.loop-i.i c.unpack.result next, ← c.taken_by.ensures, c.if-taken_by.false)

pub returns : goal.returns
unfolding image_has
returns c =
    let a = c.args in
    sym (c.loop-i.invariant ∙ rw (none_taken_left a.queue.now a.count c.min-n.result c.min-n.ensures c.loop-i.i c.loop-i-test.false))
