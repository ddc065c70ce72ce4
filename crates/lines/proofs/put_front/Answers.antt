-- `put_front` meets its contract.
-- Assumes nothing.
use mathlib.Core.Path.{sym}
use lib.Seq.{length-take-le}
use Rattle.lines.specs.Writing.{put_none, put_whole, copied_there}
use borrow.Author.Rules.{rules}
use Rattle.lines.proofs.put_front.Goals as goal

pub returns-then-out-n : goal.returns-then-out-n
returns-then-out-n c = let a = c.args in put_none a.new.now a.out.now c.if-out-n.true

pub slice_bounds-copy-end-2 : goal.slice_bounds-copy-end-2
slice_bounds-copy-end-2 c = sym (length-take-le _ _ (search rules))

pub returns : goal.returns
returns c =
    let new = c.args.new.now in
    let out = c.args.out.now in
    put_whole new out _ _ c.if-out-n.false (copied_there new out _ c.if-out-n.false c.copy.ensures)
