-- `put_back_in` meets its contract.
-- Assumes nothing.
use native.Mathlib.Omega.{arith}
use lib.ListN.{length-take}
use Rattle.hold.specs.Hold.{put_back_in}
use Rattle.lists.specs.Parts.{take_least}
use Rattle.hold.proofs.put_back_in.Goals as goal

pub slice_bounds-put_record-end : goal.slice_bounds-put_record-end
slice_bounds-put_record-end c = omega (arith, length-take c.min-n.result c.args.image.now)

pub returns-then-e : goal.returns-then-e
unfolding put_back_in
returns-then-e c =
    let same = take_least c.record_length.result c.args.image.now in
    rw (c.if-e.true, c.put_record.ensures, c.min-n.ensures, same, c.record_length.ensures)

pub returns : goal.returns
unfolding put_back_in
returns c = rw (c.if-e.false, c.empty.ensures)
