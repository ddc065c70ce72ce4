-- The line of those who wait for a record that another holds, and the hand-over (document 02, No. 1, 'Holding without trying again').
use Rattle.std.specs.Prelude.{ℕ, ◌+◌, Bool, false, not, ◌&&◌, List, [], ◌∷◌, eqb, ltb, length, take, Option, Some, None}
use Rattle.lists.specs.Tests.{cond}
use Rattle.lists.specs.Folds.{any}
use Rattle.lists.specs.Sift.{sift}
use Rattle.layout.specs.Layout.{place, file_found}
use Rattle.store.specs.Store.{has_record}
use Rattle.entries.specs.Entries.{entries}
use Rattle.entries.specs.declared.Entry.{Entry}
use Rattle.queue.specs.Queue.{holder, append}
use Rattle.removal.specs.Removal.{goes, remove_queue, remove_count}
use Rattle.removal.specs.declared.Removal.{Removal}
use Rattle.removal.specs.declared.Removal.TheVariants.{One, Unchanged, All}
use Rattle.nucleus.specs.Commands.{one_of, may_wait, option_W}
use Rattle.nucleus.specs.Users.{started}
use Rattle.nucleus.specs.Nucleus.{Nucleus, max_users, max_capacity, with_wait_queue, with_count, with_state, entries_of, change_user}
use Rattle.nucleus.specs.Target.{part_in}
use Rattle.nucleus.specs.declared.Call.{Call}
use Rattle.nucleus.specs.declared.Command.{Command}
use Rattle.nucleus.specs.declared.Command.TheVariants.{Ri, L4}
use Rattle.nucleus.specs.declared.WaitQueue.{WaitQueue}

-- ---- the line
-- who waits, oldest first; the line of a record is those who wait for it
abbrev pub waiters_in : WaitQueue → List Entry
waiters_in l = entries l.places l.waiting

abbrev pub waiters_of : Nucleus → List Entry
waiters_of n = waiters_in n.state.wait_queue

abbrev pub is_user : ℕ → Entry → Bool
is_user u e = eqb e.user u

abbrev pub in_line : WaitQueue → ℕ → Bool
in_line l u = any (is_user u) (waiters_in l)

abbrev pub first_in_line : WaitQueue → ℕ → ℕ → Option (ℕ × Entry)
first_in_line l file isn = holder (waiters_in l) file isn

-- the place of who waits by a call
abbrev pub by_l4 : Command → Bool
by_l4 c = one_of (L4 ∷ []) c

abbrev pub waiter_for : Command → Call → Entry
waiter_for c call = record { user = call.user; file = call.file; isn = call.isn; changed = by_l4 c; existed = false }

-- ---- joining
-- whoever is in the line keeps his place; there is one for each user
unfoldable pub joined_line : Command → Call → WaitQueue → WaitQueue
joined_line c call l =
    cond (not (in_line l call.user) && ltb l.waiting max_users)
    (record { places = append l.places l.waiting (waiter_for c call); waiting = l.waiting + 1 })
    l

-- ---- leaving
unfoldable pub left_line : ℕ → WaitQueue → WaitQueue
left_line u l = record { places = remove_queue l.places [] l.waiting 0 (All u); waiting = remove_count l.places [] l.waiting 0 (All u) }

-- "The same command, option, file and ISN again while he waits keeps his place"
abbrev pub same_place : Command → Call → Entry → Bool
same_place c call e = is_user call.user e && eqb e.file call.file && eqb e.isn call.isn && cond (by_l4 c) e.changed (not e.changed)

abbrev pub keeps_place : Command → Call → WaitQueue → Bool
keeps_place c call l = one_of may_wait c && eqb call.option option_W && any (same_place c call) (waiters_in l)

-- "any other call of his past 72's check leaves the line, before the clock's back-outs"
unfoldable pub line_left_by : Command → Call → WaitQueue → WaitQueue
line_left_by c call l = cond (keeps_place c call l) l (left_line call.user l)

abbrev pub change_line : (WaitQueue → WaitQueue) → Nucleus → Nucleus
change_line f n = with_state (with_wait_queue (f n.state.wait_queue) n.state) n

abbrev pub left : ℕ → Nucleus → Nucleus
left u n = change_line (left_line u) n

abbrev pub left_by : Command → Call → Nucleus → Nucleus
left_by c call n = change_line (line_left_by c call) n

-- ---- handing over
-- the entries that are let go, oldest first; a queue has no more than 256
abbrev pub let_go : Removal → Nucleus → List Entry
let_go which n = take max_capacity (sift (goes which) (entries_of n))

-- which those of RI, ET and BT are
abbrev pub lets_go : Command → Call → Removal
lets_go c call = cond (one_of (Ri ∷ []) c) (cond (eqb call.isn 0) (Unchanged call.user) (One call.file call.isn)) (All call.user)

abbrev pub record_there : Nucleus → ℕ → ℕ → Bool
record_there n file isn =
    has_record (file_found n.state.definition (place n.state.definition file))
    (part_in n.state.definition (place n.state.definition file) n.store) isn

-- a new hold, not changed, at the queue's end
abbrev pub with_hold : ℕ → ℕ → ℕ → Nucleus → Nucleus
with_hold u file isn n = record {
  state = with_count (n.state.count + 1) n.state;
  store = n.store;
  queue = append n.queue n.state.count (record { user = u; file = file; isn = isn; changed = false; existed = record_there n file isn });
  images = n.images;
}

-- "A hold handed over opens a transaction then, where none is open"
abbrev pub taking : ℕ → ℕ → ℕ → Nucleus → Nucleus
taking u file isn n = change_user u (started n.state.clock) (with_hold u file isn (left u n))

-- the queue has a place for it, since one was let go
abbrev pub handed_to : Option (ℕ × Entry) → ℕ → ℕ → Nucleus → Nucleus
handed_to (Some (i, w)) file isn n = cond (ltb n.state.count (length n.queue)) (taking w.user file isn n) n
handed_to None file isn n = n

-- "the first in line gets the hold"
unfoldable pub handed_on : ℕ → ℕ → Nucleus → Nucleus
handed_on file isn n = handed_to (first_in_line n.state.wait_queue file isn) file isn n

-- "oldest entry first"
abbrev pub handed : List Entry → Nucleus → Nucleus
handed [] n = n
handed (e ∷ es) n = handed es (handed_on e.file e.isn n)
