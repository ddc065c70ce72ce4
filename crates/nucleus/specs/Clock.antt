-- Back-out of a user, and the clock that backs out who is overdue (document 01, 'One call': "the nucleus keeps the greatest it was given and uses
-- that. Then each user, rising, whose transaction began more than his time limit ago is backed out and marked overdue").
use Rattle.std.specs.Prelude.{ℕ, zero, suc, ◌+◌, max, true}
use Rattle.lists.specs.Tests.{cond}
use Rattle.removal.specs.Removal.{remove_queue, remove_images, remove_count}
use Rattle.hold.specs.Hold.{restore}
use Rattle.removal.specs.declared.Removal.{Removal}
use Rattle.removal.specs.declared.Removal.TheVariants.{All}
use Rattle.nucleus.specs.Users.{is_due, ended, with_overdue}
use Rattle.nucleus.specs.Nucleus.{Nucleus, max_users, with_clock, with_count, with_state, with_store, width_of, user_of, change_user}
use Rattle.nucleus.specs.Waiters.{left, let_go, handed}

-- entries go, with their images
unfoldable pub removed : Removal → Nucleus → Nucleus
removed which n = record {
  state = with_count (remove_count n.queue n.images n.state.count (width_of n) which) n.state;
  store = n.store;
  queue = remove_queue n.queue n.images n.state.count (width_of n) which;
  images = remove_images n.queue n.images n.state.count (width_of n) which;
}

-- "A back-out puts every changed entry's image back, or makes its ISN empty where no record was, and removes all the user's entries"
abbrev pub with_restored : ℕ → Nucleus → Nucleus
with_restored u n = with_store (restore n.state.definition (width_of n) u n.queue n.images n.state.count n.store) n

unfoldable pub backed_out : ℕ → Nucleus → Nucleus
backed_out u n = change_user u ended (removed (All u) (with_restored u n))

-- one that is not asked for, by the clock, or OP or CL. Document 02, No. 1: "A back-out takes its user from the line. Each back-out, ET or RI hands over
-- after its removals, oldest entry first"
unfoldable pub forced_out : ℕ → Nucleus → Nucleus
forced_out u n = handed (let_go (All u) n) (left u (backed_out u n))

-- one user, where he is due
abbrev pub timed_out : ℕ → Nucleus → Nucleus
timed_out u n = cond (is_due n.state.clock (user_of n u)) (change_user u (with_overdue true) (forced_out u n)) n

-- the users from one on
abbrev pub timed_out_from : ℕ → ℕ → Nucleus → Nucleus
timed_out_from zero u n = n
timed_out_from (suc more) u n = timed_out_from more (u + 1) (timed_out u n)

-- the clock of a call, and all that it does
unfoldable pub clocked : ℕ → Nucleus → Nucleus
clocked clock n = timed_out_from max_users 1 (with_state (with_clock (max n.state.clock clock) n.state) n)
