-- `line` meets its contract: the numbers lie at the front of their array, and are put alone or with the bytes behind them.
-- Assumes nothing.
use Prim.Native.Nat.{◌≤◌}
use native.Mathlib.Omega.{arith}
use mathlib.Core.Path.{◌≡◌, sym, ap, ◌∙◌}
use lib.ListN.{length, take}
use lib.Seq.{length-take-le}
use Rattle.lists.specs.Parts.{take_least}
use Rattle.nucleus.specs.Line.{numbers_part}
use Rattle.lines.specs.Digits.{numbers_most}
use Rattle.lines.specs.Writing.{put_taken, front_within, line_shown, line_plain}
use Rattle.lines.proofs.line.Goals as goal
use Rattle.lines.proofs.line.Goals.{After-put_numbers-n}

-- how long the numbers are, in an array that takes them
within : (c : After-put_numbers-n) → c.put_numbers-n.result ≤ length c.put_numbers-n.new.out
within c = omega (arith, c.put_numbers-n.ensures.0, c.put_numbers-n.auto.out, numbers_most c.args.answer)

numbers : (c : After-put_numbers-n) → take c.put_numbers-n.result c.put_numbers-n.new.out ≡ numbers_part c.args.answer
numbers c = put_taken _ _ _ _ (numbers_most c.args.answer) c.put_numbers-n.ensures

pub slice_bounds-numbers-end : goal.slice_bounds-numbers-end
slice_bounds-numbers-end c = within (goal.at.slice_bounds-numbers-end c).After-put_numbers-n

pub slice_bounds-put_both-end : goal.slice_bounds-put_both-end
slice_bounds-put_both-end c = sym (length-take-le _ _ (within (goal.at.slice_bounds-put_both-end c).After-put_numbers-n))

pub slice_bounds-put_both-end-then-shows : goal.slice_bounds-put_both-end-then-shows
slice_bounds-put_both-end-then-shows c = sym (length-take-le _ _ (omega (arith, c.least-count.ensures)))

pub returns-then-shows : goal.returns-then-shows
returns-then-shows c =
    let a = c.args in
    let shown = line_shown a.call a.answer a.buffer.now (sym c.shows.ensures ∙ c.if-shows.true) in
    let bytes = ap (λ k. take k a.buffer.now) c.least-count.ensures ∙ take_least a.answer.quantity a.buffer.now in
    let there = c.put_both.ensures in
    rw (shown, ← (numbers (goal.at.returns-then-shows c).After-put_numbers-n), ← bytes) (record { value = there.0; out_after = there.1; within = front_within _ a.out.now _ _ there c.put_both.auto.out })

pub slice_bounds-numbers-end-2 : goal.slice_bounds-numbers-end-2
slice_bounds-numbers-end-2 c = within (goal.at.slice_bounds-numbers-end-2 c).After-put_numbers-n

pub slice_bounds-put_front-end : goal.slice_bounds-put_front-end
slice_bounds-put_front-end c = sym (length-take-le _ _ (within (goal.at.slice_bounds-put_front-end c).After-put_numbers-n))

pub returns : goal.returns
returns c =
    let a = c.args in
    let plain = line_plain a.call a.answer a.buffer.now (sym c.shows.ensures ∙ c.if-shows.false) in
    let there = c.put_front.ensures in
    rw (plain, ← (numbers (goal.at.returns c).After-put_numbers-n)) (record { value = there.0; out_after = there.1; within = front_within _ a.out.now _ _ there c.put_front.auto.out })
