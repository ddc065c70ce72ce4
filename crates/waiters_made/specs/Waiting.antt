-- Those who wait, judged by the parts of the nucleus that say so: users, line, hold queue. And a nucleus is so judged.
-- Assumes nothing.
use Rattle.std.specs.Prelude.{ℕ, ◌-◌, ◌≤◌, ◌≡◌, refl, Bool, true, false, ◌&&◌, List, eqb, leb, get_or}
use Rattle.lists.specs.Tests.{within, within_inside}
use Rattle.lists.specs.Folds.{all}
use Rattle.entries.specs.declared.Entry.{Entry}
use Rattle.queue.specs.Queue.{holder, held_by}
use Rattle.nucleus.specs.Users.{fresh_user}
use Rattle.nucleus.specs.Nucleus.{Nucleus, max_users, entries_of}
use Rattle.nucleus.specs.Target.{other_holds}
use Rattle.nucleus.specs.Waiters.{waiters_in, waiters_of}
use Rattle.nucleus.specs.WellMade.{waiter_made}
use Rattle.nucleus.specs.declared.User.{User}
use Rattle.nucleus.specs.declared.WaitQueue.{WaitQueue}

-- he has one place, and another holds his record
abbrev pub waits_well : List Entry → List Entry → Entry → Bool
waits_well waiters es w = eqb (held_by waiters w.user) 1 && other_holds w.user (holder es w.file w.isn)

abbrev pub session_of : List User → ℕ → Bool
session_of users u = (get_or users (u - 1) fresh_user).session

unfoldable pub waiter_fits : List User → List Entry → List Entry → Entry → Bool
waiter_fits users waiters es w =
    within 1 max_users w.user
    && session_of users w.user
    && eqb (held_by waiters w.user) 1
    && other_holds w.user (holder es w.file w.isn)

abbrev pub waiters_fit : List User → WaitQueue → List Entry → Bool
waiters_fit users line es = leb line.waiting max_users && all (waiter_fits users (waiters_in line) es) (waiters_in line)

pub waiters_judged : (n : Nucleus) → waiters_fit n.state.users n.state.wait_queue (entries_of n) ≡ (leb n.state.wait_queue.waiting max_users && all (waiter_made n) (waiters_of n))
unfolding waiter_fits
waiters_judged n = refl

-- ---- one waiter, as code judges him: his number, his session, then the rest
module _ (users : List User) (waiters es : List Entry) (w : Entry) where
  pub unfit_number : within 1 max_users w.user ≡ false → waiter_fits users waiters es w ≡ false
  unfolding waiter_fits
  unfit_number e = rw e

  module _ (least : 1 ≤ w.user) (most : w.user ≤ max_users) where
    pub unfit_session : session_of users w.user ≡ false → waiter_fits users waiters es w ≡ false
    unfolding waiter_fits
    unfit_session s = rw (within_inside 1 max_users w.user least most, s)

    pub fit_by_rest : session_of users w.user ≡ true → waiter_fits users waiters es w ≡ waits_well waiters es w
    unfolding waiter_fits
    fit_by_rest s = rw (within_inside 1 max_users w.user least most, s)
