-- `et` meets its contract.
-- Assumes nothing.
use borrow.Author.Tests.{lt-ltb, le-ltb}
use Rattle.removal.specs.Laws.{remove_count_most}
use Rattle.ending.proofs.et.Goals as goal

pub returns-then-buffer-gt-MAX_ET_DATA : goal.returns-then-buffer-gt-MAX_ET_DATA
returns-then-buffer-gt-MAX_ET_DATA c =
    let long = lt-ltb _ _ c.if-buffer-gt-MAX_ET_DATA.true in
    record { value = rw long c.refused.ensures; queue_after = rw long; images_after = rw long }

pub overflow_sub-gone : goal.overflow_sub-gone
overflow_sub-gone c = rw c.let_go-count.ensures.value (remove_count_most _ _ _ _ _)

pub returns : goal.returns
returns c =
    let short = le-ltb _ _ c.if-buffer-gt-MAX_ET_DATA.false in
    let gone = c.let_go-count.ensures in
    record {
      value = rw short (rw (c.data_brought.ensures, c.ended.ensures, c.counted.ensures, c.next_sequence-sequence.ensures, gone.value) at c.good.ensures);
      queue_after = rw short gone.queue_after;
      images_after = rw short gone.images_after;
    }
