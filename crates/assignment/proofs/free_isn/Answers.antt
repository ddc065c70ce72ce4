-- `free_isn` meets its contract: the two searches are one through both parts.
-- Assumes nothing.
use Prim.Native.Nat.{◌≤◌, min}
use native.Mathlib.Omega.{arith}
use mathlib.Core.Path.{◌≡◌, sym, ◌∙◌}
use lib.ListN.{length}
use Rattle.definition.proofs.Known.{file_known}
use Rattle.records.specs.Records.{file_size}
use Rattle.records.specs.Bounds.{record_length_most}
use Rattle.assignment.specs.Laws.{free_behind, free_round, found_behind, none_behind}
use Rattle.assignment.proofs.free_isn.Goals as goal
use Rattle.assignment.proofs.free_isn.Goals.{After-first_free-later, After-min-room}

-- the room, and that no slot is long
room : (c : After-first_free-later) → c.min-room.result ≡ min (file_size c.args.f) (length c.args.part.now)
room c = rw c.file_size.ensures at c.min-room.ensures

short : (c : After-min-room) → c.slot_length-size.result ≤ 4081
short c = omega (arith, c.slot_length-size.ensures, record_length_most c.args.f (file_known _ _ c.well_formed.1.1.1.0))

-- what the first search finds
behind : (c : After-first_free-later) → let a = c.args in c.first_free-later.result ≡ free_behind a.f a.part.now a.call a.share a.queue.now
behind c =
    rw (c.slot_length-size.ensures, room c, c.from-mark.ensures, c.from.ensures) at c.first_free-later.ensures

pub first_free-later-requires : goal.first_free-later-requires
first_free-later-requires c = record { room_in_bounds = omega (arith, c.min-room.ensures); le_size = omega (arith, c.slot_length-size.ensures); size_bound = short (goal.at.first_free-later-requires c).After-min-room; le_from = omega arith; from_bound = omega (arith, c.from-mark.ensures); end_bound = omega (arith, c.from-mark.ensures, c.from.ensures) }

pub returns-in-Some : goal.returns-in-Some
returns-in-Some c =
    let a = c.args in
    sym (found_behind a.f a.part.now a.call a.share a.queue.now _ (sym (behind (goal.at.returns-in-Some c).After-first_free-later) ∙ c.in-Some.is))

pub first_free-requires : goal.first_free-requires
first_free-requires c = record { room_in_bounds = omega (arith, c.min-room.ensures); le_size = omega (arith, c.slot_length-size.ensures); size_bound = short (goal.at.first_free-requires c).After-min-room; le_from = omega arith; from_bound = omega (arith, c.from-mark.ensures); end_bound = omega (arith, c.from-mark.ensures, c.from.ensures) }

pub returns : goal.returns
returns c =
    let a = c.args in
    let round : c.first_free.result ≡ free_round a.f a.part.now a.call a.share a.queue.now = rw (c.slot_length-size.ensures, room (goal.at.returns c).After-first_free-later, c.from-mark.ensures) at c.first_free.ensures in
    round ∙ sym (none_behind a.f a.part.now a.call a.share a.queue.now (sym (behind (goal.at.returns c).After-first_free-later) ∙ c.in_default.is))
