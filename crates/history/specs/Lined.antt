-- Holds and lines: what nucleus and journal have alike of them, and that whoever waits may be handed the hold (document 02, No. 1).
use Rattle.std.specs.Prelude.{ℕ, ◌≤◌, ◌≡◌, Bool, true, not, ◌&&◌, ◌||◌, List, map, eqb, length}
use Rattle.lists.specs.Tests.{within}
use Rattle.lists.specs.Folds.{any, all, distinct}
use Rattle.entries.specs.Entries.{is_of}
use Rattle.entries.specs.declared.Entry.{Entry}
use Rattle.queue.specs.Queue.{holder}
use Rattle.nucleus.specs.Nucleus.{Nucleus, max_users, entries_of}
use Rattle.nucleus.specs.Target.{other_holds}
use Rattle.nucleus.specs.Waiters.{waiters_of}
use Rattle.nucleus.specs.declared.User.{User}
use Rattle.claim.specs.Journal.{Journal, Hold, Waiter}
use Rattle.history.specs.Kept.{one_of_users}

-- ---- an entry as the journal has it, in the hold queue and in the line
abbrev pub hold_seen : Entry → Hold
hold_seen e = record { user = e.user; file = e.file; isn = e.isn; changed = e.changed }

abbrev pub waiter_seen : Entry → Waiter
waiter_seen e = record { user = e.user; file = e.file; isn = e.isn; reads = e.changed }

-- ---- who waits
-- he may be handed a hold: his session is open, and he is neither overdue nor access-only
abbrev pub may_receive : User → Bool
may_receive u = u.session && not u.overdue && not u.access_only

abbrev pub waiter_sound : List User → Entry → Bool
waiter_sound us w = within 1 max_users w.user && may_receive (one_of_users us w.user)

-- another holds his record, or it is among those that are let go
abbrev pub awaited : List Entry → List Entry → Entry → Bool
awaited gone es w = other_holds w.user (holder es w.file w.isn) || any (is_of w.file w.isn) gone

-- ---- all of it, where the records of some entries are still to be handed over: between calls of none
pub record Lined (gone : List Entry) (n : Nucleus) (j : Journal) : Type 0 where
  pub same_holds : map hold_seen (entries_of n) ≡ j.holds
  pub same_line : map waiter_seen (waiters_of n) ≡ j.line
  pub places : length n.state.wait_queue.places ≡ max_users
  pub few : n.state.wait_queue.waiting ≤ max_users
  pub different : distinct eqb (map (λ (w : Entry). w.user) (waiters_of n)) ≡ true
  pub sound : all (waiter_sound n.state.users) (waiters_of n) ≡ true
  pub waited : all (awaited gone (entries_of n)) (waiters_of n) ≡ true
