-- `data_brought` meets its contract: what is brought lies at the front of the old bytes.
-- Assumes nothing.
use Prim.Native.Nat.{◌≤◌}
use native.Mathlib.Nat.{zero-add}
use native.Mathlib.Omega.{arith}
use mathlib.Core.Path.{sym, ◌∙◌}
use lib.ListN.{length, take}
use lib.Seq.{length-take-le, sets-eq}
use borrow.Author.Tests.{eq-eqb, ne_eqb}
use Rattle.slices.specs.Laws.{copied_whole}
use Rattle.nucleus.proofs.Known.{data_places}
use Rattle.ending.proofs.data_brought.Goals as goal
use Rattle.ending.proofs.data_brought.Goals.{Start}

room : (c : Start) → length c.args.buffer.now ≤ length c.args.held.bytes
room c = omega (arith, c.requires, data_places c.args.held _ c.well_formed.0)

pub returns-then-n-eq0 : goal.returns-then-n-eq0
returns-then-n-eq0 c = rw (eq-eqb _ _ c.if-n-eq0.true)

pub slice_bounds-bytes-end : goal.slice_bounds-bytes-end
slice_bounds-bytes-end c = room (goal.at.slice_bounds-bytes-end c).Start

pub slice_bounds-copy_from_slice-end : goal.slice_bounds-copy_from_slice-end
slice_bounds-copy_from_slice-end c = sym (length-take-le _ _ (room (goal.at.slice_bounds-copy_from_slice-end c).Start))

pub returns : goal.returns
returns c =
    let v = c.args.buffer.now in
    let b = c.args.held.bytes in
    rw (ne_eqb _ _ c.if-n-eq0.false, c.copy_from_slice.ensures.after, sets-eq v b 0 (omega (arith, room (goal.at.returns c).Start)), zero-add)
