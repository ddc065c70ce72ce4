-- The journal (document 01's book of requirement 3): it has the set-up's table and is fed each call's arguments, response and ISN. Nothing of
-- the nucleus's state comes into it.
use Rattle.std.specs.Prelude.{ℕ, zero, suc, ◌+◌, ◌-◌, max, Bool, true, false, not, ◌&&◌, ◌||◌, List, [], ◌∷◌, ◌++◌, map, eqb, get_or, set, replicate, Option, Some, None}
use Rattle.lists.specs.Tests.{cond, within}
use Rattle.lists.specs.Folds.{any}
use Rattle.lists.specs.Sift.{sift}
use Rattle.definition.specs.Table.{fields_of}
use Rattle.layout.specs.Layout.{place, file_found}
use Rattle.fields.specs.Fields.{write_fields}
use Rattle.nulls.specs.Nulls.{nulls}
use Rattle.definition.specs.declared.Definition.{Definition}
use Rattle.definition.specs.declared.File.{File}
use Rattle.nucleus.specs.Commands.{direct_commands, command_of, one_of, may_wait, on_session, option_W}
use Rattle.nucleus.specs.Users.{default_time_limit, or_default, late}
use Rattle.nucleus.specs.Nucleus.{max_users}
use Rattle.nucleus.specs.declared.Call.{Call}
use Rattle.nucleus.specs.declared.Command.{Command}
use Rattle.nucleus.specs.declared.Command.TheVariants.{Hi, Ri, L1, L4, A1, E1, N1, N2, Et, Bt, Re, Op, Cl, Pe}

-- ---- changes
-- what a call does to one record: A1, E1, and N1 or N2, with the format and record buffer that it brought
pub data Update : Type 0 where
  replace : List ℕ → List ℕ → Update
  erase : Update
  add : List ℕ → List ℕ → Update

-- `uncommitted`: the paper's open change
pub record Change : Type 0 where
  pub user : ℕ
  pub file : ℕ
  pub isn : ℕ
  pub update : Update
  pub uncommitted : Bool

-- "in stored form: A1 sets the named fields of a record there, E1 empties, N1 and N2 add"
unfoldable pub apply : File → Update → Option (List ℕ) → Option (List ℕ)
apply f (replace format values) None = None
apply f (replace format values) (Some r) = Some (write_fields f format values r)
apply f erase x = None
apply f (add format values) x = Some (write_fields f format values (nulls (fields_of f)))

-- ---- the journal: "a clock, first 0, a list of changes and for each user a time limit, first 900, and the start of his transaction, if any", and
-- whether that is ready (document 02, No. 12). A change that is struck is in the list no more. Document 02, No. 1: it "keeps holds and lines by these
-- rules from the calls and answers", both oldest first
pub record Member : Type 0 where
  pub limit : ℕ
  pub start : Option ℕ
  pub ready : Bool

-- who holds which ISN, and whether he has changed it
pub record Hold : Type 0 where
  pub user : ℕ
  pub file : ℕ
  pub isn : ℕ
  pub changed : Bool

-- who waits for which ISN; `reads`: by L4, and not by HI
pub record Waiter : Type 0 where
  pub user : ℕ
  pub file : ℕ
  pub isn : ℕ
  pub reads : Bool

pub record Journal : Type 0 where
  pub clock : ℕ
  pub members : List Member
  pub changes : List Change
  pub holds : List Hold
  pub line : List Waiter

abbrev pub new_member : Member
new_member = record { limit = default_time_limit; start = None; ready = false }

abbrev pub new_journal : Journal
new_journal = record { clock = 0; members = replicate max_users new_member; changes = []; holds = []; line = [] }

abbrev pub member : Journal → ℕ → Member
member j u = get_or j.members (u - 1) new_member

abbrev pub with_member : ℕ → Member → Journal → Journal
with_member u m j = record { clock = j.clock; members = set j.members (u - 1) m; changes = j.changes; holds = j.holds; line = j.line }

abbrev pub has_start : Option ℕ → Bool
has_start None = false
has_start (Some begun) = true

-- "a user whom the book has in a transaction"
abbrev pub in_transaction : Journal → ℕ → Bool
in_transaction j u = within 1 max_users u && has_start (member j u).start

-- ---- what it does
-- "starts its user's transaction at that clock, unless he is in one"
abbrev pub start_at : ℕ → Option ℕ → Option ℕ
start_at clock None = Some clock
start_at clock (Some begun) = Some begun

unfoldable pub log_start : ℕ → Journal → Journal
log_start u j =
    with_member u (record { limit = (member j u).limit; start = start_at j.clock (member j u).start; ready = (member j u).ready }) j

-- "his transaction ends", and with it that it is ready
abbrev pub ended_member : Member → Member
ended_member m = record { limit = m.limit; start = None; ready = false }

-- "his open changes are struck, his transaction ends"
abbrev pub strikes : ℕ → Change → Bool
strikes u c = c.uncommitted && eqb c.user u

unfoldable pub struck_changes : ℕ → Journal → Journal
struck_changes u j = record {
  clock = j.clock;
  members = set j.members (u - 1) (ended_member (member j u));
  changes = sift (λ c. not (strikes u c)) j.changes;
  holds = j.holds;
  line = j.line;
}

-- ---- holds and lines
abbrev pub with_holds : List Hold → List Waiter → Journal → Journal
with_holds holds line j = record { clock = j.clock; members = j.members; changes = j.changes; holds = holds; line = line }

abbrev pub hold_at : ℕ → ℕ → Hold → Bool
hold_at file isn h = eqb h.file file && eqb h.isn isn

-- a hold, unless it is there
abbrev pub with_hold : ℕ → ℕ → ℕ → List Hold → List Hold
with_hold u file isn holds = cond (any (hold_at file isn) holds) holds (holds ++ record { user = u; file = file; isn = isn; changed = false } ∷ [])

abbrev pub mark_changed : ℕ → ℕ → Hold → Hold
mark_changed file isn h = record { user = h.user; file = h.file; isn = h.isn; changed = h.changed || hold_at file isn h }

-- the others wait on
abbrev pub others : ℕ → List Waiter → List Waiter
others u line = sift (λ w. not (eqb w.user u)) line

unfoldable pub log_leave : ℕ → Journal → Journal
log_leave u j = with_holds j.holds (others u j.line) j

-- who is first in the line of a record
abbrev pub next_user : ℕ → ℕ → List Waiter → Option ℕ
next_user file isn [] = None
next_user file isn (w ∷ line) = cond (eqb w.file file && eqb w.isn isn) (Some w.user) (next_user file isn line)

-- "the first in line gets the hold"; it "opens a transaction then, where none is open (in the book of requirement 3 too ..)"
abbrev pub log_handed_to : Option ℕ → ℕ → ℕ → Journal → Journal
log_handed_to None file isn j = j
log_handed_to (Some u) file isn j =
    log_start u (with_holds (j.holds ++ record { user = u; file = file; isn = isn; changed = false } ∷ []) (others u j.line) j)

unfoldable pub log_handed_on : ℕ → ℕ → Journal → Journal
log_handed_on file isn j = log_handed_to (next_user file isn j.line) file isn j

-- "oldest entry first"
abbrev pub log_handed : List Hold → Journal → Journal
log_handed [] j = j
log_handed (h ∷ hs) j = log_handed hs (log_handed_on h.file h.isn j)

-- holds that are let go, by a test: "hands over after its removals"
unfoldable pub log_let_go : (Hold → Bool) → Journal → Journal
log_let_go goes j = log_handed (sift goes j.holds) (with_holds (sift (λ h. not (goes h)) j.holds) j.line j)

abbrev pub hold_of : ℕ → Hold → Bool
hold_of u h = eqb h.user u

-- a back-out: "A back-out takes its user from the line"
unfoldable pub struck : ℕ → Journal → Journal
struck u j = log_let_go (hold_of u) (log_leave u (struck_changes u j))

-- "backs out each user whose transaction began more than his limit ago"; No. 12: "time doesn't back him out (nor in the book of requirement 3, after a
-- PE answered 0)"
abbrev pub began_late : ℕ → ℕ → Option ℕ → Bool
began_late clock limit None = false
began_late clock limit (Some begun) = late clock begun limit

abbrev pub is_late : ℕ → Member → Bool
is_late clock m = not m.ready && began_late clock m.limit m.start

abbrev pub strike_late : ℕ → Journal → Journal
strike_late u j = cond (is_late j.clock (member j u)) (struck u j) j

abbrev pub strike_late_from : ℕ → ℕ → Journal → Journal
strike_late_from zero u j = j
strike_late_from (suc more) u j = strike_late_from more (u + 1) (strike_late u j)

-- "raises the clock to its own, if greater"
unfoldable pub log_clock : ℕ → Journal → Journal
log_clock clock j = strike_late_from max_users 1 (record { clock = max j.clock clock; members = j.members; changes = j.changes; holds = j.holds; line = j.line })

-- "the last four add an open change at the ISN answered"
unfoldable pub log_change : Call → ℕ → Update → Journal → Journal
log_change call isn update j = record {
  clock = j.clock;
  members = j.members;
  changes = j.changes ++ (record { user = call.user; file = call.file; isn = isn; update = update; uncommitted = true } ∷ []);
  holds = j.holds;
  line = j.line;
}

-- "ends his transaction; its changes are open no more"
abbrev pub commits : ℕ → Change → Change
commits u c = record { user = c.user; file = c.file; isn = c.isn; update = c.update; uncommitted = c.uncommitted && not (eqb c.user u) }

unfoldable pub log_end : ℕ → Journal → Journal
log_end u j = record {
  clock = j.clock;
  members = set j.members (u - 1) (ended_member (member j u));
  changes = map (commits u) j.changes;
  holds = j.holds;
  line = j.line;
}

unfoldable pub log_limit : ℕ → ℕ → Journal → Journal
log_limit u limit j = with_member u (record { limit = limit; start = (member j u).start; ready = (member j u).ready }) j

-- No. 12: a PE answered 0
unfoldable pub log_ready : ℕ → Journal → Journal
log_ready u j = with_member u (record { limit = (member j u).limit; start = (member j u).start; ready = true }) j

-- ---- an answer
-- a hold at the ISN answered, and whether that is changed
unfoldable pub log_hold : ℕ → ℕ → ℕ → Journal → Journal
log_hold u file isn j = log_start u (with_holds (with_hold u file isn j.holds) j.line j)

unfoldable pub log_mark : ℕ → ℕ → Journal → Journal
log_mark file isn j = with_holds (map (mark_changed file isn) j.holds) j.line j

abbrev pub log_update : Call → ℕ → Update → Journal → Journal
log_update call isn update j = log_change call isn update (log_mark call.file isn (log_hold call.user call.file isn j))

-- what RI lets go: one, or for ISN 0 all his unchanged
abbrev pub released : Call → Hold → Bool
released call h = cond (eqb call.isn 0) (hold_of call.user h && not h.changed) (hold_at call.file call.isn h)

-- a call of a command that was answered 0
abbrev pub log_accepted : Command → Call → List ℕ → List ℕ → ℕ → Journal → Journal
log_accepted Hi call format buffer isn j = log_hold call.user call.file isn j
log_accepted Ri call format buffer isn j = log_let_go (released call) j
log_accepted L1 call format buffer isn j = j
log_accepted L4 call format buffer isn j = log_hold call.user call.file isn j
log_accepted A1 call format buffer isn j = log_update call isn (replace format buffer) j
log_accepted E1 call format buffer isn j = log_update call isn erase j
log_accepted N1 call format buffer isn j = log_update call isn (add format buffer) j
log_accepted N2 call format buffer isn j = log_update call isn (add format buffer) j
log_accepted Et call format buffer isn j = log_let_go (hold_of call.user) (log_end call.user j)
log_accepted Bt call format buffer isn j = struck call.user j
log_accepted Re call format buffer isn j = j
log_accepted Op call format buffer isn j = log_limit call.user (or_default default_time_limit call.limit) j
log_accepted Cl call format buffer isn j = log_limit call.user default_time_limit j
log_accepted Pe call format buffer isn j = log_ready call.user j

-- "where 145 would be given, the call joins that record's line and answers 20"; who is in it keeps his place
abbrev pub in_line : ℕ → List Waiter → Bool
in_line u line = any (λ w. eqb w.user u) line

abbrev pub reads : Command → Bool
reads c = one_of (L4 ∷ []) c

unfoldable pub log_join : Command → Call → Journal → Journal
log_join c call j =
    with_holds j.holds
    (cond (in_line call.user j.line) j.line (j.line ++ record { user = call.user; file = call.file; isn = call.isn; reads = reads c } ∷ [])) j

-- of a command, and the number that answered it: "OP or CL with 9 backs him out"
abbrev pub log_answered : Option Command → Call → List ℕ → List ℕ → ℕ → ℕ → Journal → Journal
log_answered None call format buffer response isn j = j
log_answered (Some c) call format buffer response isn j =
    cond (eqb response 0) (log_accepted c call format buffer isn j)
    (cond (eqb response 9 && one_of on_session c) (struck call.user j) (cond (eqb response 20) (log_join c call j) j))

-- "A response of 72's row or an earlier one changes nothing in it": 10, 11, 12, 22, 72
abbrev pub is_early : ℕ → Bool
is_early response = any (eqb response) (10 ∷ 11 ∷ 12 ∷ 22 ∷ 72 ∷ [])

-- "The same command, option, file and ISN again while he waits keeps his place; any other call of his past 72's check leaves the line, before the
-- clock's back-outs"
abbrev pub waits_so : Command → Call → Waiter → Bool
waits_so c call w = eqb w.user call.user && eqb w.file call.file && eqb w.isn call.isn && cond (reads c) w.reads (not w.reads)

abbrev pub keeps_place : Option Command → Call → List Waiter → Bool
keeps_place None call line = false
keeps_place (Some c) call line = one_of may_wait c && eqb call.option option_W && any (waits_so c call) line

unfoldable pub log_left_by : Option Command → Call → Journal → Journal
log_left_by c call j = cond (keeps_place c call j.line) j (log_leave call.user j)

-- one call's arguments, its response's number and its ISN
unfoldable pub fed : Call → List ℕ → List ℕ → ℕ → ℕ → Journal → Journal
fed call format buffer response isn j =
    let c = command_of direct_commands call.command in
    cond (is_early response) j (log_answered c call format buffer response isn (log_clock call.clock (log_left_by c call j)))

-- ---- its records: "come from empty files by the changes not struck, in order"
abbrev pub is_at : ℕ → ℕ → Change → Bool
is_at file isn c = eqb c.file file && eqb c.isn isn

abbrev pub replayed : Definition → ℕ → ℕ → Option (List ℕ) → List Change → Option (List ℕ)
replayed d file isn x [] = x
replayed d file isn x (c ∷ cs) = replayed d file isn (cond (is_at file isn c) (apply (file_found d (place d file)) c.update x) x) cs

unfoldable pub record_told : Definition → Journal → ℕ → ℕ → Option (List ℕ)
record_told d j file isn = replayed d file isn None j.changes
