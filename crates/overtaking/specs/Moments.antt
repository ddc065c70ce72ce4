-- Who waits for a record, how many are before him, and what happens in calls, moment by moment (document 02, No. 1).
use Rattle.std.specs.Prelude.{ℕ, zero, suc, ◌+◌, ◌-◌, max, Bool, false, ◌&&◌, ◌||◌, List, [], ◌∷◌, ◌++◌, eqb, Option, Some, None}
use Rattle.lists.specs.Tests.{cond}
use Rattle.lists.specs.Folds.{any, total}
use Rattle.lists.specs.Sift.{sift}
use Rattle.entries.specs.Entries.{bit, is_of}
use Rattle.entries.specs.declared.Entry.{Entry}
use Rattle.removal.specs.declared.Removal.TheVariants.{All}
use Rattle.nucleus.specs.Commands.{direct_commands, command_of, one_of, letting_go}
use Rattle.nucleus.specs.Users.{is_due}
use Rattle.nucleus.specs.Responses.{number, waiting_number}
use Rattle.nucleus.specs.Nucleus.{Nucleus, Given, Request, request, max_users, with_clock, with_state, entries_of, user_of}
use Rattle.nucleus.specs.Waiters.{waiters_of, is_user, keeps_place, joined_line, change_line, left, left_by, let_go, lets_go, handed_on}
use Rattle.nucleus.specs.Clock.{backed_out, timed_out, clocked}
use Rattle.nucleus.specs.Rows.{first_cause, rows_usable, rows_understood, is_overdue, session_in_transaction}
use Rattle.nucleus.specs.Step.{Admission, turned_away, let_in, admitted_user, admitted, perform, step}
use Rattle.nucleus.specs.declared.Call.{Call}
use Rattle.nucleus.specs.declared.Command.{Command}
use Rattle.nucleus.specs.declared.Response.{Response}

-- ---- the line of a record
abbrev pub line_of : ℕ → ℕ → Nucleus → List Entry
line_of file isn n = sift (is_of file isn) (waiters_of n)

abbrev pub waits : ℕ → List Entry → Bool
waits u line = any (is_user u) line

-- how many are before him
abbrev pub before : ℕ → List Entry → ℕ
before u [] = 0
before u (w ∷ ws) = cond (is_user u w) 0 (1 + before u ws)

-- ---- what happens
pub data Event : Type 0 where
  -- a user leaves the line by a call that is not "the same command, option, file and ISN again"
  leaves : ℕ → Event
  -- a user is backed out, by the clock, or OP or CL; that takes him from the line
  backs_out : ℕ → Event
  -- the hold of a file and ISN was let go, and is handed on
  hands_on : ℕ → ℕ → Event
  -- anything else
  other : Event

-- with what it leaves
pub record Moment : Type 0 where
  pub event : Event
  pub after : Nucleus

abbrev pub moment : Event → Nucleus → Moment
moment event after = record { event = event; after = after }

-- ---- the moments of a call, each part beside the definition whose name it has (`nucleus`: Waiters, Clock, Step)
abbrev pub moments_handed : List Entry → Nucleus → List Moment
moments_handed [] n = []
moments_handed (e ∷ es) n = let m = handed_on e.file e.isn n in moment (hands_on e.file e.isn) m ∷ moments_handed es m

abbrev pub moments_forced : ℕ → Nucleus → List Moment
moments_forced u n = let m = left u (backed_out u n) in moment (backs_out u) m ∷ moments_handed (let_go (All u) n) m

abbrev pub moments_timed : ℕ → Nucleus → List Moment
moments_timed u n = cond (is_due n.state.clock (user_of n u)) (moments_forced u n ++ moment other (timed_out u n) ∷ []) []

abbrev pub moments_from : ℕ → ℕ → Nucleus → List Moment
moments_from zero u n = []
moments_from (suc more) u n = moments_timed u n ++ moments_from more (u + 1) (timed_out u n)

unfoldable pub moments_clocked : ℕ → Nucleus → List Moment
moments_clocked clock n = let m = with_state (with_clock (max n.state.clock clock) n.state) n in moment other m ∷ moments_from max_users 1 m

-- what is left before a command
abbrev pub left_in : Admission → Nucleus
left_in (turned_away cause n) = n
left_in (let_in c n) = n

module _ (c : Command) (call : Call) (n : Nucleus) where
  abbrev pub leaving : Event
  leaving = cond (keeps_place c call n.state.wait_queue) other (leaves call.user)

  -- OP or CL in a transaction; but a call of a marked user does nothing further
  abbrev pub moments_notified : List Moment
  moments_notified = cond (is_overdue c call n) [] (cond (session_in_transaction c call n) (moments_forced call.user n) [])

  unfoldable pub moments_user : List Moment
  moments_user = moments_notified ++ moment other (left_in (admitted_user c call n)) ∷ []

abbrev pub moments_command : Option Command → Call → Nucleus → List Moment
moments_command None call n = []
moments_command (Some c) call n =
    let m = left_by c call n in
    moment (leaving c call n) m ∷ moments_clocked call.clock m ++ moments_user c call (clocked call.clock m)

-- a call that 12, 11, 22 or 72 refuses changes nothing
abbrev pub moments_unless : Option Response → List Moment → List Moment
moments_unless (Some cause) ms = []
moments_unless None ms = ms

unfoldable pub moments_admitted : ℕ → Call → Nucleus → List Moment
moments_admitted capacity call n =
    moments_unless (first_cause (rows_usable capacity n))
    (moments_unless (first_cause (rows_understood direct_commands call)) (moments_command (command_of direct_commands call.command) call n))

abbrev pub moments_lined : Command → Call → Nucleus → ℕ → Nucleus → List Moment
moments_lined c call m response n =
    cond (eqb response waiting_number) (moment other (change_line (joined_line c call) n) ∷ [])
    (cond (eqb response 0 && one_of letting_go c) (moments_handed (let_go (lets_go c call) m) n) [])

unfoldable pub moments_performed : Request → Nucleus → List Moment
moments_performed r n =
    let x = perform r n in
    moment other x.nucleus ∷ moments_lined r.command r.call n (number x.answer.response) x.nucleus

abbrev pub moments_served : Admission → ℕ → Call → List ℕ → List ℕ → List Moment
moments_served (turned_away cause n) capacity call format buffer = []
moments_served (let_in c n) capacity call format buffer = moments_performed (request capacity c call format buffer) n

unfoldable pub moments : ℕ → Call → List ℕ → List ℕ → Nucleus → List Moment
moments capacity call format buffer n = moments_admitted capacity call n ++ moments_served (admitted direct_commands capacity call n) capacity call format buffer

-- ---- lists of calls, each with its own capacity
pub record Called : Type 0 where
  pub capacity : ℕ
  pub given : Given

abbrev pub stepped : Called → Nucleus → Nucleus
stepped c n = (step c.capacity c.given.call c.given.format c.given.buffer n).nucleus

unfoldable pub run : List Called → Nucleus → Nucleus
run [] n = n
run (c ∷ cs) n = run cs (stepped c n)

unfoldable pub moments_of : List Called → Nucleus → List Moment
moments_of [] n = []
moments_of (c ∷ cs) n = moments c.capacity c.given.call c.given.format c.given.buffer n ++ moments_of cs (stepped c n)

-- ---- of some moments, from a nucleus on
-- where they end
abbrev pub end : Nucleus → List Moment → Nucleus
end n [] = n
end n (m ∷ ms) = end m.after ms

module _ (file isn : ℕ) where
  -- how often the record's hold was let go
  abbrev pub let_go_by : Event → ℕ
  let_go_by (leaves u) = 0
  let_go_by (backs_out u) = 0
  let_go_by (hands_on f i) = bit (eqb f file && eqb i isn)
  let_go_by other = 0

  abbrev pub times_let_go : List Moment → ℕ
  times_let_go ms = total (λ (m : Moment). let_go_by m.event) ms

  -- how many entries of the record went
  abbrev pub holds_of : Nucleus → ℕ
  holds_of n = total (λ e. bit (is_of file isn e)) (entries_of n)

  abbrev pub gone : Nucleus → List Moment → ℕ
  gone n [] = 0
  gone n (m ∷ ms) = (holds_of n - holds_of m.after) + gone m.after ms

-- "has had the hold, or has left, or been backed out"
abbrev pub is_his : ℕ → Event → Bool
is_his u (leaves v) = eqb v u
is_his u (backs_out v) = eqb v u
is_his u (hands_on f i) = false
is_his u other = false

abbrev pub his_hold : ℕ → ℕ → ℕ → Entry → Bool
his_hold u file isn e = is_user u e && is_of file isn e

abbrev pub has_hold : ℕ → ℕ → ℕ → Nucleus → Bool
has_hold u file isn n = any (his_hold u file isn) (entries_of n)

abbrev pub is_out : ℕ → ℕ → ℕ → Moment → Bool
is_out u file isn m = has_hold u file isn m.after || is_his u m.event
