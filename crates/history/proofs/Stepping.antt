-- One call, from its first row to its effect: what is kept stays so, nobody is overdue, and the journal is told the same.
-- Assumes nothing.
use Rattle.std.specs.Prelude.{ℕ, ◌-◌, ◌≤◌, ◌≡◌, Bool, true, false, ◌&&◌, ◌||◌, eqb, set, Option, Some, None}
use Rattle.std.proofs.Math.Path.{refl, sym, ap}
use Rattle.std.proofs.Common.{◌∙◌}
use Rattle.std.proofs.Math.Bool.{not}
use mathlib.Core.List.{List, [], ◌∷◌}
use Rattle.std.proofs.lemmas.List.{set-get_or}
use borrow.Author.Tests.{eqb-true, not-true}
use Rattle.lists.specs.Tests.{cond, Outcome, holds, fails, outcome, within, within_least, within_most, not_both, and_left, and_right, and-false}
use Rattle.lists.specs.Folds.{any, all}
use Rattle.lists.specs.Maps.{all_over}
use Rattle.lists.specs.Sift.{sift, sift_all, sift_none}
use Rattle.entries.specs.declared.Entry.{Entry}
use Rattle.nucleus.specs.Commands.{direct_commands, command_of, one_of, reading_values, may_wait, on_session, serving_access_only, has_option, option_W}
use Rattle.nucleus.specs.Users.{opening, opened, with_overdue, is_active, is_due}
use Rattle.nucleus.specs.Responses.{number, waiting_number}
use Rattle.nucleus.specs.Nucleus.{Nucleus, Request, request, Result, max_users, entries_of, user_of, change_user}
use Rattle.nucleus.specs.Clock.{forced_out, clocked}
use Rattle.nucleus.specs.Waiters.{in_line, joined_line, left_by}
use Rattle.nucleus.specs.Target.{other_holds, holder_of, target, target_isn}
use Rattle.nucleus.specs.Rows.{row, first_cause, rows_usable, rows_understood, rows_last, waits, held_elsewhere, understood, is_overdue, session_in_transaction, ready_refused, access_refused, transaction_missing}
use Rattle.nucleus.specs.Effects.{effect}
use Rattle.nucleus.specs.Step.{Admission, unless_refused, admitted_session, admitted_user, admitted_command, admitted, unless, refusal, perform, after_line, serve, step}
use Rattle.nucleus.specs.declared.Command.{Command}
use Rattle.nucleus.specs.declared.Command.TheVariants.{Hi, Ri, L1, L4, A1, E1, N1, N2, Et, Bt, Re, Op, Cl, Pe}
use Rattle.nucleus.specs.declared.Call.{Call}
use Rattle.nucleus.specs.declared.Response.{Response}
use Rattle.nucleus.specs.declared.Response.TheVariants.{TransactionReady, AccessOnly, NoTransaction, BackedOut, CommandUnknown, UserUnknown}
use Rattle.nucleus.specs.declared.User.{User}
use Rattle.lists.specs.Every.{all_implies, none_any}
use Rattle.claim.specs.Journal.{Journal, Change, Hold, new_member, member, ended_member, strikes, struck_changes, struck, is_early, with_holds, hold_of, log_handed, log_join, log_leave, log_left_by, log_let_go, log_clock, fed}
use Rattle.claim.specs.Statements.{unusable}
use Rattle.claim.specs.Lent.{Lent}
use Rattle.history.specs.Kept.{Kept, user_sound, entry_active, change_sound, member_of}
use Rattle.history.specs.Accepted.{accepted, is_cause, first_holds}
use Rattle.history.specs.Lined.{Lined, hold_seen, may_receive}
use Rattle.history.proofs.Lines.{in_line_same, lined_user, lined_joined, log_leave_none}
use Rattle.history.proofs.People.{change_active, active_sound, idle_sound, sound_idle, user_own, member_is}
use Rattle.history.proofs.Keeping.{user_known, kept_like, kept_line, kept_holds}
use Rattle.history.specs.HandLogs.{clock_not_joined, left_by_out}
use Rattle.history.proofs.Letting.{receives}
use Rattle.history.proofs.Passing.{Passed, passed_clock}
use Rattle.history.proofs.Standing.{well_made_kept, long_kept}
use Rattle.history.proofs.Performing.{quiet_user, rested_set, idle_quiet, passed_left_by, passed_forced}
use Rattle.history.proofs.Serving.{plain, first_such, Caller, serving_caller, Served, served_effect}

-- a call that is turned away or let in
abbrev served_by : Request → Admission → Result
served_by r a = serve a r.capacity r.call r.format r.buffer

-- HI and L4 may wait: of these two a test says one thing
of_waiting : (t : Command → Bool) → t Hi ≡ false → t L4 ≡ false → (c : Command) → one_of may_wait c ≡ true → t c ≡ false
of_waiting t hi l4 Hi h = hi
of_waiting t hi l4 Ri h = not_both false h refl
of_waiting t hi l4 L1 h = not_both false h refl
of_waiting t hi l4 L4 h = l4
of_waiting t hi l4 A1 h = not_both false h refl
of_waiting t hi l4 E1 h = not_both false h refl
of_waiting t hi l4 N1 h = not_both false h refl
of_waiting t hi l4 N2 h = not_both false h refl
of_waiting t hi l4 Et h = not_both false h refl
of_waiting t hi l4 Bt h = not_both false h refl
of_waiting t hi l4 Re h = not_both false h refl
of_waiting t hi l4 Op h = not_both false h refl
of_waiting t hi l4 Cl h = not_both false h refl
of_waiting t hi l4 Pe h = not_both false h refl

or_none : (b : Bool) → (b || false) ≡ true → b ≡ true
or_none true h = refl
or_none false h = h

-- ---- the rows of 211 and after, and the effect
module _ (lent : Lent ℕ) (n : Nucleus) (j : Journal) (r : Request) (p : Passed r.capacity lent n j) where
  -- a refusal that is neither 0, 9 nor 20 tells the journal nothing but the line that was left and the clock
  module _ (c : Response) (h : plain c ≡ true) (other : eqb (number c) waiting_number ≡ false) where
    zero : eqb (number c) 0 ≡ false
    zero = not-true _ (search (and_left, and_right))

    nine : eqb (number c) 9 ≡ false
    nine = not-true _ (search (and_left, and_right))

    early : is_early (number c) ≡ false
    early = not-true _ (search (and_left, and_right))

    refused_plain : Served lent r j r.command (refusal r.buffer n c)
    refused_plain = record { passed = rw (zero, nine, other) p; not_early = early }

    refused_after : Served lent r j r.command (after_line r n (refusal r.buffer n c))
    unfolding after_line
    refused_after = record { passed = rw (zero, nine, other) p; not_early = early }

  -- 20: who is refused so has joined the line
  module _ (y : Caller r n) (c : Response) (e : first_cause (rows_last r n) ≡ Some c) (twenty : number c ≡ waiting_number) where
    row_holds : (waits r n || false) ≡ true
    row_holds = first_holds waiting_number (rows_last r n) c e twenty

    abbrev caller : ℕ
    caller = r.call.user

    may : one_of may_wait r.command ≡ true
    unfolding waits
    may = let h = row_holds in search (and_left, and_right, or_none)

    option : eqb r.call.option option_W ≡ true
    unfolding waits
    option = let h = row_holds in search (and_left, and_right, or_none)

    elsewhere : other_holds caller (holder_of r n (target_isn r n)) ≡ true
    unfolding waits held_elsewhere
    elsewhere = let h = row_holds in search (and_left, and_right, or_none)

    target_given : target_isn r n ≡ r.call.isn
    unfolding target
    target_given = rw (of_waiting (one_of (N1 ∷ [])) refl refl r.command may, eqb-true r.call.option option_W option, and-false (one_of reading_values r.command))

    receiving : may_receive (user_of n caller) ≡ true
    receiving =
        let s = serving_caller r n y (of_waiting (one_of serving_access_only) refl refl r.command may) in
        rw (s.session, s.not_overdue, s.changing)

    joined : Served lent r j r.command (after_line r n (refusal r.buffer n c))
    unfolding after_line log_join
    joined = record {
      passed = rw twenty (record {
        kept = kept_line r.capacity lent n (log_join r.command r.call j) (kept_holds r.capacity lent n j p.kept _ _) (joined_line r.command r.call n.state.wait_queue);
        rested = p.rested;
        lined = lined_joined p.lined r.command r.call y.least y.most receiving (rw target_given at elsewhere);
      });
      not_early = rw twenty;
    }

  performed : Caller r n → Served lent r j r.command (after_line r n (perform r n))
  unfolding perform
  performed y = go (first_cause (rows_last r n)) refl
    where
      go : (x : Option Response) → first_cause (rows_last r n) ≡ x → Served lent r j r.command (after_line r n (unless x (refusal r.buffer n) (effect r n)))
      go None e = served_effect lent n j r p y (accepted r n (ap is_cause e)) r.command refl
      go (Some c) e = refused (outcome (eqb (number c) waiting_number))
        where
          refused : Outcome (eqb (number c) waiting_number) → Served lent r j r.command (after_line r n (refusal r.buffer n c))
          refused (holds t) = joined y c e (eqb-true (number c) waiting_number t)
          refused (fails t) = refused_after c (first_such plain (rows_last r n) refl c e) t

  abbrev Session : Type 0
  Session = Served lent r j r.command (served_by r (admitted_session r.command r.call n))

  served_session : (access_refused r.command r.call n ≡ false → transaction_missing r.command r.call n ≡ false → Caller r n) → Session
  unfolding admitted_session
  served_session caller =
      go (outcome (ready_refused r.command r.call n)) (outcome (access_refused r.command r.call n)) (outcome (transaction_missing r.command r.call n))
    where
      go : Outcome (ready_refused r.command r.call n) → Outcome (access_refused r.command r.call n) → Outcome (transaction_missing r.command r.call n) → Session
      go (holds t) a o = rw t (refused_plain TransactionReady refl refl)
      go (fails t) (holds a) o = rw (t, a) (refused_plain AccessOnly refl refl)
      go (fails t) (fails a) (holds o) = rw (t, a, o) (refused_plain NoTransaction refl refl)
      go (fails t) (fails a) (fails o) = rw (t, a, o) (performed (caller a o))

-- ---- a user in no transaction who does not wait has nothing to strike
module _ (capacity : ℕ) (lent : Lent ℕ) (n : Nucleus) (j : Journal) (k : Kept capacity lent n j) (u : ℕ) (idle : is_active (user_of n u) ≡ false) where
  not_struck : (c : Change) → change_sound n.state.users c ≡ true → not (strikes u c) ≡ true
  not_struck c h = go (outcome c.uncommitted) (outcome (eqb c.user u))
    where
      go : Outcome c.uncommitted → Outcome (eqb c.user u) → not (strikes u c) ≡ true
      go (holds o) (holds t) =
          let a = change_active n.state.users c h o in
          not_both (is_active (user_of n u)) (and_right (within 1 max_users u) (is_active (user_of n u)) (rw (eqb-true c.user u t) at a)) idle
      go (holds o) (fails t) = rw (o, t)
      go (fails o) t = rw o

  -- no hold is his
  not_his : (e : Entry) → entry_active n.state.users e ≡ true → not (eqb e.user u) ≡ true
  not_his e h = go (outcome (eqb e.user u))
    where
      go : Outcome (eqb e.user u) → not (eqb e.user u) ≡ true
      go (holds t) = not_both (is_active (user_of n u)) (and_right (within 1 max_users u) (is_active (user_of n u)) (rw (eqb-true e.user u t) at h)) idle
      go (fails t) = rw t

  module _ (l : Lined [] n j) (away : in_line n.state.wait_queue u ≡ false) where
    struck_none : struck_changes u j ≡ j
    unfolding struck_changes
    struck_none = λ i. record { clock = j.clock; members = members i; changes = changes i; holds = j.holds; line = j.line }
      where
        same : ended_member (member j u) ≡ member j u
        same = rw (member_is n.state.users u j k.told.same_members, idle)

        members : set j.members (u - 1) (ended_member (member j u)) ≡ j.members
        members = ap (set j.members (u - 1)) same ∙ set-get_or j.members (u - 1) new_member

        changes : sift (λ c. not (strikes u c)) j.changes ≡ j.changes
        changes = sift_all (λ c. not (strikes u c)) j.changes (all_implies (change_sound n.state.users) (λ c. not (strikes u c)) not_struck j.changes k.told.changes_sound)

    none_his : all (λ (h : Hold). not (hold_of u h)) j.holds ≡ true
    none_his =
        ap (all (λ (h : Hold). not (hold_of u h))) (sym l.same_holds) ∙ all_over hold_seen (λ h. not (hold_of u h)) (entries_of n)
        ∙ all_implies (entry_active n.state.users) (λ e. not (eqb e.user u)) not_his (entries_of n) k.people.entries_active

    let_go_none : log_let_go (hold_of u) j ≡ j
    unfolding log_let_go
    let_go_none =
        let None = sift_none (hold_of u) j.holds (none_any (hold_of u) j.holds none_his) in
        let rest = sift_all (λ (h : Hold). not (hold_of u h)) j.holds none_his in
        ap (λ (hs : List Hold). log_handed hs (with_holds (sift (λ h. not (hold_of u h)) j.holds) j.line j)) None ∙ ap (λ (hs : List Hold). with_holds hs j.line j) rest

    pub struck_idle : struck u j ≡ j
    unfolding struck
    struck_idle = ap (λ i. log_let_go (hold_of u) (log_leave u i)) struck_none ∙ ap (log_let_go (hold_of u)) (log_leave_none u j (in_line_same l u ∙ away)) ∙ let_go_none

-- ---- the rows of 9, and the session that opens
module _ (lent : Lent ℕ) (n : Nucleus) (j : Journal) (r : Request) (p : Passed r.capacity lent n j)
    (least : 1 ≤ r.call.user) (most : r.call.user ≤ max_users) (away : one_of may_wait r.command ≡ false → in_line n.state.wait_queue r.call.user ≡ false) where
  abbrev u : ℕ
  u = r.call.user

  abbrev x : User
  x = user_of n u

  abbrev k : Kept r.capacity lent n j
  k = p.kept

  sound : user_sound n.state.clock x ≡ true
  sound = user_known r.capacity lent n j k u

  -- a user who is overdue is in no transaction
  overdue_idle : x.overdue ≡ true → is_active x ≡ false
  overdue_idle m = go (outcome (is_active x))
    where
      go : Outcome (is_active x) → is_active x ≡ false
      go (holds a) = not_both x.overdue m (active_sound n.state.clock x sound a).not_overdue
      go (fails a) = a

  passed_like : (z : User) → user_sound n.state.clock z ≡ true → is_active z ≡ is_active x → member_of z ≡ member_of x → is_due n.state.clock z ≡ false
      → (in_line n.state.wait_queue u ≡ true → may_receive z ≡ true) → Passed r.capacity lent (change_user u (λ w. z) n) j
  passed_like z s a m q may = record {
    kept = kept_like r.capacity lent n j k u least most z s a m;
    rested = rested_set n p.rested u z q;
    lined = lined_user p.lined u z k.people.user_count least most may;
  }

  -- who waits may be handed a hold
  waits_receives : in_line n.state.wait_queue u ≡ true → may_receive x ≡ true
  waits_receives t = receives [] n j p.lined u t

  -- so whoever is overdue does not wait
  overdue_away : x.overdue ≡ true → in_line n.state.wait_queue u ≡ false
  overdue_away m = go (outcome (in_line n.state.wait_queue u))
    where
      go : Outcome (in_line n.state.wait_queue u) → in_line n.state.wait_queue u ≡ false
      go (holds t) = let h = waits_receives t in not_both x.overdue m (not-true x.overdue (search (and_left, and_right)))
      go (fails t) = t

  -- he is overdue no more; for OP and CL the journal backs out whom it has in no transaction
  served_overdue : x.overdue ≡ true → Served lent r j r.command (refusal r.buffer (change_user u (with_overdue false) n) BackedOut)
  served_overdue m = record { passed = go (one_of on_session r.command); not_early = refl }
    where
      cleared : Passed r.capacity lent (change_user u (with_overdue false) n) j
      cleared =
          passed_like (with_overdue false x) (sound_idle n.state.clock (with_overdue false x) (overdue_idle m) (idle_sound n.state.clock x sound (overdue_idle m))) refl refl (idle_quiet n p.rested (with_overdue false x) (overdue_idle m))
          (λ t. not_both (in_line n.state.wait_queue u) t (overdue_away m))

      go : (b : Bool) → Passed r.capacity lent (change_user u (with_overdue false) n) (cond b (struck u j) j)
      go true = rw (struck_idle r.capacity lent n j k u (overdue_idle m) p.lined (overdue_away m)) cleared
      go false = cleared

  -- OP or CL in a transaction
  served_out : one_of on_session r.command ≡ true → Served lent r j r.command (refusal r.buffer (forced_out u n) BackedOut)
  served_out e = record { passed = rw e (passed_forced r.capacity lent n j p r least most); not_early = refl }

  -- ---- the session
  opened_active : is_active (opened x) ≡ is_active x
  opened_active = go (outcome x.session) (outcome (is_active x))
    where
      go : Outcome x.session → Outcome (is_active x) → is_active (opened x) ≡ is_active x
      go (holds s) a = rw s
      go (fails s) (holds a) = not_both x.session (active_sound n.state.clock x sound a).session s
      go (fails s) (fails a) = rw (s, a)

  opened_member : member_of (opened x) ≡ member_of x
  opened_member = go (outcome x.session) opened_active
    where
      go : Outcome x.session → is_active (opened x) ≡ is_active x → member_of (opened x) ≡ member_of x
      go (holds s) a = rw (s, s)
      go (fails s) a = let idle : false ≡ is_active x = rw s at a in rw (s, ← idle)

  opened_sound : user_sound n.state.clock (opened x) ≡ true
  opened_sound = go (outcome x.session)
    where
      go : Outcome x.session → user_sound n.state.clock (opened x) ≡ true
      go (holds s) = rw s sound
      go (fails s) = rw s

  opened_quiet : is_due n.state.clock (opened x) ≡ false
  opened_quiet = go (outcome x.session)
    where
      go : Outcome x.session → is_due n.state.clock (opened x) ≡ false
      go (holds s) = rw s (quiet_user n p.rested u)
      go (fails s) = rw s

  opened_receives : in_line n.state.wait_queue u ≡ true → may_receive (opened x) ≡ true
  opened_receives t =
      let h = waits_receives t in
      let open_still : x.session ≡ true = search (and_left, and_right) in
      ap (λ b. may_receive (cond b x opening)) open_still ∙ h

  abbrev m : Nucleus
  m = change_user u opened n

  passed_open : Passed r.capacity lent m j
  passed_open = passed_like (opened x) opened_sound opened_active opened_member opened_quiet opened_receives

  opened_own : user_of m u ≡ opened x
  opened_own = user_own n.state.users k.people.user_count u least most (opened x)

  caller_known : x.overdue ≡ false → (one_of on_session r.command ≡ true → is_active x ≡ false) → access_refused r.command r.call m ≡ false
      → transaction_missing r.command r.call m ≡ false → Caller r m
  caller_known not_overdue idle access present = record {
    least = least;
    most = most;
    session = rw opened_own (session_open x.session refl);
    not_overdue = rw opened_own (overdue_clear x.session refl);
    idle = λ e. rw opened_own (opened_active ∙ idle e);
    access = access;
    present = present;
    away = away;
  }
    where
      session_open : (b : Bool) → x.session ≡ b → (opened x).session ≡ true
      session_open true s = rw (s, s)
      session_open false s = rw s

      overdue_clear : (b : Bool) → x.session ≡ b → (opened x).overdue ≡ false
      overdue_clear true s = rw s not_overdue
      overdue_clear false s = rw s

  pub served : Served lent r j r.command (served_by r (admitted_user r.command r.call n))
  unfolding admitted_user is_overdue session_in_transaction
  served = go (outcome x.overdue) (outcome (one_of on_session r.command && is_active x))
    where
      go : Outcome x.overdue → Outcome (one_of on_session r.command && is_active x) → Served lent r j r.command (served_by r (admitted_user r.command r.call n))
      go (holds o) e = rw o (served_overdue o)
      go (fails o) (holds e) = rw (o, e) (served_out (and_left (one_of on_session r.command) (is_active x) e))
      go (fails o) (fails e) = rw (o, e) (served_session lent m j r passed_open (caller_known o (λ ends. rw ends at e)))

-- ---- a call
pub record Stepped (capacity : ℕ) (lent : Lent ℕ) (call : Call) (format buffer : List ℕ) (j : Journal) (x : Result) : Type 0 where
  pub passed : Passed capacity lent x.nucleus (fed call format buffer (number x.answer.response) x.answer.isn j)
  pub usable : unusable (number x.answer.response) ≡ false
  pub user_inside : is_early (number x.answer.response) ≡ false → within 1 max_users call.user ≡ true

first_three : (a b c more : Bool) → (a || (b || (c || more))) ≡ false → (a || (b || (c || false))) ≡ false
first_three true b c more h = h
first_three false true c more h = h
first_three false false true more h = h
first_three false false false more h = refl

early_usable : (response : ℕ) → is_early response ≡ false → unusable response ≡ false
early_usable response h = first_three (eqb response 10) (eqb response 11) (eqb response 12) _ h

module _ (capacity : ℕ) (lent : Lent ℕ) (n : Nucleus) (j : Journal) (p : Passed capacity lent n j) (call : Call) (format buffer : List ℕ) where
  -- 22 and 72: all is as it was
  refused_first : (c : Response) → is_early (number c) ≡ true → unusable (number c) ≡ false → Stepped capacity lent call format buffer j (refusal buffer n c)
  unfolding fed
  refused_first c early of = record { passed = rw early p; usable = of; user_inside = λ late. not_both (is_early (number c)) early late }

  -- past the clock
  served_known : (c : Command) → command_of direct_commands call.command ≡ Some c → within 1 max_users call.user ≡ true
      → Stepped capacity lent call format buffer j (serve (admitted_command (Some c) call n) capacity call format buffer)
  unfolding fed
  served_known c known user =
      let o = left_by c call n in
      let i = log_left_by (Some c) call j in
      let q = passed_left_by capacity lent n j p c call in
      let passed = passed_clock capacity lent call.clock o i q.kept q.lined in
      let s = served lent (clocked call.clock o) (log_clock call.clock i) (request capacity c call format buffer) passed
      (within_least 1 max_users call.user user) (within_most 1 max_users call.user user)
      (λ other. sym (in_line_same passed.lined call.user) ∙ clock_not_joined call.clock call.user i (left_by_out c call j other))
      in
      record {
        passed = rw (s.not_early, known) s.passed;
        usable = early_usable (number (serve (admitted_command (Some c) call n) capacity call format buffer).answer.response) s.not_early;
        user_inside = λ late. user;
      }

  pub stepped : Stepped capacity lent call format buffer j (step capacity call format buffer n)
  unfolding step admitted rows_usable rows_understood
  stepped =
      rw (p.kept.sized.valid, long_kept capacity lent n j p.kept, well_made_kept capacity lent n j p.kept p.lined)
      (go (command_of direct_commands call.command) refl)
    where
      after_first : Option Command → Result
      after_first x =
          serve
          (unless_refused (first_cause (row CommandUnknown (not (understood x call.option)) ∷ row UserUnknown (not (within 1 max_users call.user)) ∷ [])) n
          (admitted_command x call n))
          capacity call format buffer

      go : (x : Option Command) → command_of direct_commands call.command ≡ x → Stepped capacity lent call format buffer j (after_first x)
      go None e = refused_first CommandUnknown refl refl
      go (Some c) e = go_on (outcome (has_option c call.option)) (outcome (within 1 max_users call.user))
        where
          go_on : Outcome (has_option c call.option) → Outcome (within 1 max_users call.user) → Stepped capacity lent call format buffer j (after_first (Some c))
          go_on (fails o) u = rw o (refused_first CommandUnknown refl refl)
          go_on (holds o) (fails u) = rw (o, u) (refused_first UserUnknown refl refl)
          go_on (holds o) (holds u) = rw (o, u) (served_known c e u)
