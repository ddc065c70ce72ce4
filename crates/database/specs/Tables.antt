-- No call changes the definition table, whatever the state and the call.
-- Assumes nothing.
use Rattle.std.specs.Prelude.{ℕ, zero, suc, ◌+◌, max, ◌≡◌, Bool, ◌&&◌, List, [], ◌∷◌, eqb, ltb, length, Option, Some, None}
use Rattle.std.proofs.Math.Path.{refl}
use Rattle.std.proofs.Common.{◌∙◌}
use Rattle.std.proofs.Math.Bool.{true, false}
use Rattle.lists.specs.Tests.{cond}
use Rattle.definition.specs.declared.Definition.{Definition}
use Rattle.entries.specs.declared.Entry.{Entry}
use Rattle.removal.specs.declared.Removal.TheVariants.{One, Unchanged, All}
use Rattle.nucleus.specs.Commands.{direct_commands, command_of, one_of, letting_go}
use Rattle.nucleus.specs.Users.{is_due, started, with_overdue}
use Rattle.nucleus.specs.Nucleus.{Nucleus, Request, request, max_users, user_of, change_user, with_clock, with_state}
use Rattle.nucleus.specs.Responses.{number, waiting_number}
use Rattle.nucleus.specs.Waiters.{first_in_line, joined_line, left, left_by, change_line, let_go, lets_go, taking, handed_to, handed_on, handed}
use Rattle.nucleus.specs.Clock.{removed, backed_out, forced_out, timed_out, timed_out_from, clocked}
use Rattle.nucleus.specs.Target.{is_holder, holder_of, file_place}
use Rattle.nucleus.specs.Rows.{first_cause, rows_usable, rows_understood, rows_after_clock, rows_after_session, rows_last, is_overdue}
use Rattle.nucleus.specs.Effects.{with_entry, held, imaged_at, imaged, written, erased, with_last, released, effect_at, effect}
use Rattle.nucleus.specs.Step.{Admission, turned_away, let_in, unless_refused, notified, admitted_session, admitted_user, admitted_command, admitted, refusal, unless, perform, lined, after_line, serve, step}
use Rattle.nucleus.specs.declared.Call.{Call}
use Rattle.nucleus.specs.declared.Command.{Command}
use Rattle.nucleus.specs.declared.Command.TheVariants.{Hi, Ri, L1, L4, A1, E1, N1, N2, Et, Bt, Re, Op, Cl, Pe}
use Rattle.nucleus.specs.declared.Response.{Response}
use Rattle.database.specs.Database.{Database, in_words, direct_call}

abbrev table : Nucleus → Definition
table n = n.state.definition

-- ---- the clock
table_out : (u : ℕ) (n : Nucleus) → table (backed_out u n) ≡ table n
unfolding backed_out removed
table_out u n = refl

-- ---- what is handed over
table_handed_on : (file isn : ℕ) (n : Nucleus) → table (handed_on file isn n) ≡ table n
unfolding handed_on
table_handed_on file isn n = go (first_in_line n.state.wait_queue file isn)
  where
    given : (u : ℕ) (b : Bool) → table (cond b (taking u file isn n) n) ≡ table n
    given u true = refl
    given u false = refl

    go : (l : Option (ℕ × Entry)) → table (handed_to l file isn n) ≡ table n
    go (Some (i, w)) = given w.user (ltb n.state.count (length n.queue))
    go None = refl

table_handed : (es : List Entry) (n : Nucleus) → table (handed es n) ≡ table n
table_handed [] n = refl
table_handed (e ∷ es) n = table_handed es (handed_on e.file e.isn n) ∙ table_handed_on e.file e.isn n

table_forced : (u : ℕ) (n : Nucleus) → table (forced_out u n) ≡ table n
unfolding forced_out
table_forced u n = table_handed (let_go (All u) n) (left u (backed_out u n)) ∙ table_out u n

table_timed : (u : ℕ) (n : Nucleus) → table (timed_out u n) ≡ table n
table_timed u n = go (is_due n.state.clock (user_of n u))
  where
    go : (b : Bool) → table (cond b (change_user u (with_overdue true) (forced_out u n)) n) ≡ table n
    go true = table_forced u n
    go false = refl

table_from : (more u : ℕ) (n : Nucleus) → table (timed_out_from more u n) ≡ table n
table_from zero u n = refl
table_from (suc more) u n = table_from more (u + 1) (timed_out u n) ∙ table_timed u n

table_clocked : (clock : ℕ) (n : Nucleus) → table (clocked clock n) ≡ table n
unfolding clocked
table_clocked clock n = table_from max_users 1 (with_state (with_clock (max n.state.clock clock) n.state) n)

-- ---- before a command
abbrev left_in : Admission → Nucleus
left_in (turned_away cause n) = n
left_in (let_in c n) = n

table_refused : (x : Option Response) (n m : Nucleus) (next : Admission) → table m ≡ table n → table (left_in next) ≡ table n → table (left_in (unless_refused x m next)) ≡ table n
table_refused (Some cause) n m next h g = h
table_refused None n m next h g = g

module _ (c : Command) (call : Call) (n : Nucleus) where
  table_notified : table (notified c call n) ≡ table n
  table_notified = go (is_overdue c call n)
    where
      go : (b : Bool) → table (cond b (change_user call.user (with_overdue false) n) (forced_out call.user n)) ≡ table n
      go true = refl
      go false = table_forced call.user n

table_session : (c : Command) (call : Call) (n : Nucleus) → table (left_in (admitted_session c call n)) ≡ table n
unfolding admitted_session
table_session c call n = table_refused (first_cause (rows_after_session c call n)) n n (let_in c n) refl refl

table_user : (c : Command) (call : Call) (n : Nucleus) → table (left_in (admitted_user c call n)) ≡ table n
unfolding admitted_user
table_user c call n = table_refused (first_cause (rows_after_clock c call n)) n (notified c call n) _ (table_notified c call n) (table_session c call _)

table_command : (x : Option Command) (call : Call) (n : Nucleus) → table (left_in (admitted_command x call n)) ≡ table n
table_command None call n = refl
table_command (Some c) call n = table_user c call (clocked call.clock (left_by c call n)) ∙ table_clocked call.clock (left_by c call n)

table_admitted : (served : List Command) (capacity : ℕ) (call : Call) (n : Nucleus) → table (left_in (admitted served capacity call n)) ≡ table n
unfolding admitted
table_admitted served capacity call n =
    table_refused (first_cause (rows_usable capacity n)) n n _ refl
    (table_refused (first_cause (rows_understood served call)) n n _ refl (table_command (command_of served call.command) call n))

-- ---- a command
module _ (r : Request) (isn : ℕ) (n : Nucleus) where
  table_held : table (held r isn n) ≡ table n
  unfolding held
  table_held = go (is_holder r.call.user (holder_of r n isn))
    where
      go : (b : Bool) → table (cond b n (change_user r.call.user (started n.state.clock) (with_entry r isn n))) ≡ table n
      go true = refl
      go false = refl

  pub table_imaged : table (imaged r isn n) ≡ table n
  unfolding imaged
  table_imaged = go (holder_of r (held r isn n) isn) ∙ table_held
    where
      go : (l : Option (ℕ × Entry)) → table (imaged_at r l isn (held r isn n)) ≡ table (held r isn n)
      go (Some (i, e)) = refl
      go None = refl

  table_written : table (written r isn n) ≡ table n
  unfolding written
  table_written = table_imaged

  table_added : table (with_last r (file_place r n) isn (written r isn n)) ≡ table n
  table_added = go (file_place r n) ∙ table_written
    where
      go : (x : Option ℕ) → table (with_last r x isn (written r isn n)) ≡ table (written r isn n)
      go (Some i) = refl
      go None = refl

  table_erased : table (erased r isn n) ≡ table n
  unfolding erased
  table_erased = table_imaged

  table_released : table (released r n) ≡ table n
  unfolding removed
  table_released = go (eqb r.call.isn 0)
    where
      go : (b : Bool) → table (cond b (removed (Unchanged r.call.user) n) (removed (One r.call.file r.call.isn) n)) ≡ table n
      go true = refl
      go false = refl

  table_effect : (c : Command) → table (effect_at r isn c n).nucleus ≡ table n
  unfolding effect_at removed
  table_effect Hi = table_held
  table_effect Ri = table_released
  table_effect L1 = refl
  table_effect L4 = table_held
  table_effect A1 = table_written
  table_effect E1 = table_erased
  table_effect N1 = table_added
  table_effect N2 = table_written
  table_effect Et = refl
  table_effect Bt = table_out r.call.user n
  table_effect Re = refl
  table_effect Op = refl
  table_effect Cl = refl
  table_effect Pe = refl

table_performed : (r : Request) (n : Nucleus) → table (perform r n).nucleus ≡ table n
unfolding perform
table_performed r n = go (first_cause (rows_last r n))
  where
    go : (x : Option Response) → table (unless x (refusal r.buffer n) (effect r n)).nucleus ≡ table n
    go (Some cause) = refl
    go None = table_effect r _ n r.command

-- the line then
table_lined : (r : Request) (before : Nucleus) (response : ℕ) (n : Nucleus) → table (lined r before response n) ≡ table n
table_lined r before response n = go (eqb response waiting_number) (eqb response 0 && one_of letting_go r.command)
  where
    go : (a b : Bool)
        → table (cond a (change_line (joined_line r.command r.call) n) (cond b (handed (let_go (lets_go r.command r.call) before) n) n)) ≡ table n
    go true b = refl
    go false true = table_handed (let_go (lets_go r.command r.call) before) n
    go false false = refl

table_after : (r : Request) (n : Nucleus) → table (after_line r n (perform r n)).nucleus ≡ table n
unfolding after_line
table_after r n = table_lined r n (number (perform r n).answer.response) (perform r n).nucleus ∙ table_performed r n

table_served : (a : Admission) (capacity : ℕ) (call : Call) (format buffer : List ℕ) → table (serve a capacity call format buffer).nucleus ≡ table (left_in a)
table_served (turned_away cause n) capacity call format buffer = refl
table_served (let_in c n) capacity call format buffer = table_after (request capacity c call format buffer) n

-- ---- a call
table_stepped : (capacity : ℕ) (call : Call) (format buffer : List ℕ) (n : Nucleus) → table (step capacity call format buffer n).nucleus ≡ table n
unfolding step
table_stepped capacity call format buffer n = table_served (admitted direct_commands capacity call n) capacity call format buffer ∙ table_admitted direct_commands capacity call n

pub same_table : (capacity : ℕ) (call : Call) (format buffer : List ℕ) (b : Database) → (direct_call capacity call format buffer b).database.state.definition ≡ b.state.definition
unfolding direct_call
same_table capacity call format buffer b = table_stepped capacity call format buffer (in_words capacity b)
