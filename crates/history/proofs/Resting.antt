-- Between calls nobody is overdue: a call with clock 0 backs nobody out. ET and BT of a user who is in a transaction after the clock answer 0.
-- Assumes nothing.
use Prim.Native.Nat.{ℕ, zero, suc, ◌+◌, ◌-◌, ◌≤◌, max}
use native.Mathlib.Omega.{arith}
use Rattle.std.specs.Prelude.{◌≡◌, true, false, List, length, set, Some}
use Rattle.std.proofs.Math.Path.{refl, ap}
use Rattle.std.proofs.Common.{◌∙◌, le-ltb}
use Rattle.std.proofs.lemmas.List.{set-get_or}
use Rattle.lists.specs.Tests.{cond, within, and_left, and_right, and-false}
use Rattle.nucleus.specs.Commands.{direct_commands, command_of, one_of, on_session, serving_ready, setting_ready, has_option}
use Rattle.nucleus.specs.Users.{fresh_user, opening, opened, is_active, is_ready}
use Rattle.nucleus.specs.Nucleus.{Nucleus, request, max_users, max_et_data, user_of, with_clock, with_state, change_user}
use Rattle.nucleus.specs.Clock.{timed_out_from, clocked}
use Rattle.nucleus.specs.Waiters.{left_by}
use Rattle.nucleus.specs.Rows.{rows_usable, rows_understood, is_overdue, session_in_transaction, ready_refused, access_refused, transaction_missing, file_unknown, isn_invalid, format_refused, field_twice, record_length_refused, value_refused, none_found, waits, held_elsewhere, presence_refused, not_held, release_refused, file_full, limit_reached, queue_full, value_taken}
use Rattle.nucleus.specs.Effects.{effect_at}
use Rattle.nucleus.specs.Step.{Admission, let_in, admitted_session, admitted_user, admitted, perform, after_line, serve, step}
use Rattle.nucleus.specs.declared.Call.{Call}
use Rattle.nucleus.specs.declared.Command.{Command}
use Rattle.nucleus.specs.declared.Command.TheVariants.{Et, Bt}
use Rattle.nucleus.specs.declared.Response.TheVariants.{Good}
use Rattle.nucleus.specs.declared.User.{User}
use Rattle.claim.specs.Journal.{Journal, in_transaction, strike_late_from, log_clock, log_left_by}
use Rattle.claim.specs.Run.{BackOut, bt}
use Rattle.claim.specs.Lent.{Lent}
use Rattle.history.specs.Kept.{active_in}
use Rattle.history.proofs.People.{ActiveSound, active_sound, transaction_is}
use Rattle.history.proofs.Keeping.{user_known}
use Rattle.history.proofs.Passing.{Passed, late_as_due, passed_clock}
use Rattle.history.proofs.Standing.{well_made_kept, long_kept}
use Rattle.history.proofs.Performing.{quiet_user, passed_left_by}

module _ (capacity : ℕ) (lent : Lent ℕ) (n : Nucleus) (j : Journal) (p : Passed capacity lent n j) where
  -- ---- clock 0
  nucleus_from : (more u : ℕ) → timed_out_from more u n ≡ n
  nucleus_from zero u = refl
  nucleus_from (suc more) u = rw (quiet_user n p.rested u) (nucleus_from more (u + 1))

  pub nucleus_rests : clocked 0 n ≡ n
  unfolding clocked
  nucleus_rests =
      let same : max n.state.clock 0 ≡ n.state.clock = omega arith in
      ap (λ c. timed_out_from max_users 1 (with_state (with_clock c n.state) n)) same ∙ nucleus_from max_users 1

  journal_from : (more u : ℕ) → strike_late_from more u j ≡ j
  journal_from zero u = refl
  journal_from (suc more) u = rw (late_as_due capacity lent n j p.kept u, quiet_user n p.rested u) (journal_from more (u + 1))

  pub journal_rests : log_clock 0 j ≡ j
  unfolding log_clock
  journal_rests =
      let same : max j.clock 0 ≡ j.clock = omega arith in
      ap (λ c. strike_late_from max_users 1 (record { clock = c; members = j.members; changes = j.changes; holds = j.holds; line = j.line })) same ∙ journal_from max_users 1

-- ---- a call of a command after the line that is left, and its clock
module _ (capacity : ℕ) (lent : Lent ℕ) (n : Nucleus) (j : Journal) (p : Passed capacity lent n j) (call : Call) (format buffer : List ℕ) (c : Command) where
  abbrev pub past_clock : Nucleus
  past_clock = clocked call.clock (left_by c call n)

  abbrev pub told_then : Journal
  told_then = log_clock call.clock (log_left_by (Some c) call j)

  pub passed_then : Passed capacity lent past_clock told_then
  passed_then =
      let q = passed_left_by capacity lent n j p c call in
      passed_clock capacity lent call.clock (left_by c call n) (log_left_by (Some c) call j) q.kept q.lined

  abbrev m : Nucleus
  m = past_clock

  abbrev x : User
  x = user_of m call.user

  -- ET or BT of a user who is in a transaction then: neither 9 nor 211, 29 or 212
  module _ (active : is_active x ≡ true) (ends : one_of serving_ready c ≡ true) (other : one_of on_session c ≡ false) where
    sound : ActiveSound m.state.clock x
    sound = active_sound m.state.clock x (user_known capacity lent m told_then passed_then.kept call.user) active

    -- his session is open
    opened_same : change_user call.user opened m ≡ m
    opened_same =
        let same : opened x ≡ x = ap (λ b. cond b x opening) sound.session in
        ap (λ us. with_state (record {
          definition = m.state.definition;
          clock = m.state.clock;
          users = us;
          et_data = m.state.et_data;
          last_assigned = m.state.last_assigned;
          count = m.state.count;
          wait_queue = m.state.wait_queue;
        }) m) (ap (set m.state.users (call.user - 1)) same ∙ set-get_or m.state.users (call.user - 1) fresh_user)

    let_in_session : admitted_session c call m ≡ let_in c m
    unfolding admitted_session ready_refused access_refused transaction_missing
    let_in_session = rw (ends, and-false (is_ready x), sound.changing, active, and-false (one_of setting_ready c))

    let_in_user : admitted_user c call m ≡ let_in c m
    unfolding admitted_user is_overdue session_in_transaction
    let_in_user = rw (sound.not_overdue, other) (ap (admitted_session c call) opened_same ∙ let_in_session)

    -- so it is answered as its own rows have it
    pub performed_good : command_of direct_commands call.command ≡ Some c → has_option c call.option ≡ true → within 1 max_users call.user ≡ true
        → (perform (request capacity c call format buffer) m).answer.response ≡ Good → (step capacity call format buffer n).answer.response ≡ Good
    unfolding step admitted rows_usable rows_understood after_line
    performed_good known named inside good =
        rw (p.kept.sized.valid, long_kept capacity lent n j p.kept, well_made_kept capacity lent n j p.kept p.lined, known, named, inside)
        (ap (λ (a : Admission). (serve a capacity call format buffer).answer.response) let_in_user ∙ good)

-- no row refuses BT; of ET's one asks for too much data
module _ (capacity : ℕ) (call : Call) (format buffer : List ℕ) (n : Nucleus) where
  pub bt_performed : (perform (request capacity Bt call format buffer) n).answer.response ≡ Good
  unfolding perform effect_at file_unknown isn_invalid format_refused field_twice record_length_refused value_refused none_found waits held_elsewhere presence_refused not_held release_refused file_full limit_reached queue_full value_taken
  bt_performed = refl

  pub et_performed : length buffer ≤ max_et_data → (perform (request capacity Et call format buffer) n).answer.response ≡ Good
  unfolding perform effect_at file_unknown isn_invalid format_refused field_twice record_length_refused value_refused none_found waits held_elsewhere presence_refused not_held release_refused file_full limit_reached queue_full value_taken
  et_performed h = rw (le-ltb max_et_data (length buffer) h)

-- ---- a BT, clock 0, of a user whom the journal has in a transaction
module _ (capacity : ℕ) (lent : Lent ℕ) (n : Nucleus) (j : Journal) (p : Passed capacity lent n j) (b : BackOut) (t : in_transaction j b.user ≡ true) where
  both_active : active_in n.state.users b.user ≡ true
  both_active = rw (transaction_is n.state.users b.user j p.kept.told.same_members) at t

  pub inside : within 1 max_users b.user ≡ true
  inside = and_left (within 1 max_users b.user) (is_active (user_of n b.user)) both_active

  -- he leaves the line, and his transaction stays as it was
  rests_then : past_clock capacity lent n j p (bt b).call b.format b.buffer Bt ≡ left_by Bt (bt b).call n
  rests_then = nucleus_rests capacity lent _ _ (passed_left_by capacity lent n j p Bt (bt b).call)

  pub bt_good : (step capacity (bt b).call b.format b.buffer n).answer.response ≡ Good
  unfolding command_of has_option
  bt_good =
      let active = and_right (within 1 max_users b.user) (is_active (user_of n b.user)) both_active in
      performed_good capacity lent n j p (bt b).call b.format b.buffer Bt (rw rests_then active) refl refl refl refl inside
      (bt_performed capacity (bt b).call b.format b.buffer (past_clock capacity lent n j p (bt b).call b.format b.buffer Bt))
