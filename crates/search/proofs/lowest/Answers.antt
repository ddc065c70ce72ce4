-- `lowest` meets its contract: ISN 0 has no slot.
-- Assumes nothing.
use native.Mathlib.Omega.{arith}
use lib.ListN.{length}
use Rattle.lists.specs.Numbers.{from_to_more}
use Rattle.store.specs.Store.{slot_count}
use Rattle.search.specs.Search.{lowest}
use Rattle.store.specs.Slots.{has_record_is, count_room}
use Rattle.search.proofs.lowest.Goals as goal

pub first_record-requires : goal.first_record-requires
first_record-requires c = record { le_size = omega arith; le_from = omega arith; last_bound = omega arith; size_in_bounds = rw (c.slot_count-last.ensures, c.slot_length-size.ensures) (count_room c.args.f (length c.args.part.now)) }

pub returns-then-from-eq0 : goal.returns-then-from-eq0
unfolding lowest
returns-then-from-eq0 c = rw (c.if-from-eq0.true, has_record_is c.args.f c.args.part.now, c.first_record.ensures, from_to_more 0 (slot_count c.args.f (length c.args.part.now)) (omega arith), c.slot_count-last.ensures, c.slot_length-size.ensures)

pub first_record-requires-2 : goal.first_record-requires-2
first_record-requires-2 c = record { le_size = omega arith; le_from = omega arith; last_bound = omega arith; size_in_bounds = rw (c.slot_count-last.ensures, c.slot_length-size.ensures) (count_room c.args.f (length c.args.part.now)) }

pub returns : goal.returns
unfolding lowest
returns c = rw (c.first_record-2.ensures, c.from.ensures, c.slot_count-last.ensures, c.slot_length-size.ensures, has_record_is c.args.f c.args.part.now)
