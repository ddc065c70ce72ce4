-- `hi` meets its contract: past 20 and 145 the rows of room decide.
-- Assumes nothing.
use Rattle.std.specs.Prelude.{◌≡◌, List, [], ◌∷◌, Some}
use Rattle.std.proofs.Common.{sym, ◌∙◌}
use Rattle.nucleus.specs.Rows.{Row}
use Rattle.shares.specs.Causes.{causes_passed, verdict_refused, verdict_passed}
use Rattle.shares.specs.Chains.{row_waits, row_other, rows_room, hi_cause}
use Rattle.holding.proofs.hi.Goals as goal

pub returns-in-Err-room : goal.returns-in-Err-room
unfolding hi_cause
returns-in-Err-room c =
    let a = c.args in
    let others : List Row = row_waits a.call a.share a.queue.now a.call.isn ∷ row_other a.call a.share a.queue.now a.call.isn ∷ [] in
    let why : hi_cause a.call a.share a.queue.now a.most ≡ Some c.in-Err-room.cause =
    causes_passed others (rows_room a.call a.share a.queue.now a.most a.call.isn) (verdict_passed _ (sym c.others.ensures ∙ c.in_default.is)) ∙ verdict_refused _ _ (sym c.room.ensures ∙ c.in-Err-room.is) in
    record { value = rw why c.refused-in-Err-room.ensures; queue_after = rw why }
