-- The commands that change no record, where no row of the response table refuses them: what is kept, and that nobody is overdue.
-- Assumes nothing.
use Rattle.std.specs.Prelude.{ℕ, ◌-◌, ◌≤◌, ◌≡◌, Bool, eqb, ltb, length, set, Some}
use Rattle.std.proofs.Common.{arith, ◌∙◌, ltb-false, le-leb}
use Rattle.std.proofs.Math.Path.{refl, sym, ap, subst}
use Rattle.std.proofs.Math.Bool.{true, false, not}
use mathlib.Core.List.{[]}
use Rattle.std.proofs.lemmas.Bool.{not-true}
use Rattle.lists.specs.Tests.{cond, Outcome, holds, fails, outcome, not_both}
use Rattle.lists.specs.Folds.{all}
use Rattle.lists.specs.Sift.{sift}
use Rattle.entries.specs.declared.Entry.{Entry}
use Rattle.removal.specs.Removal.{goes}
use Rattle.removal.specs.declared.Removal.{Removal}
use Rattle.removal.specs.declared.Removal.TheVariants.{All}
use Rattle.nucleus.specs.Users.{default_time_limit, or_default, fresh_user, is_active, is_ready, is_due, started, made_ready, ended, counted, set_session, closed}
use Rattle.nucleus.specs.Nucleus.{Nucleus, Request, max_users, max_et_data, beyond_data, data_at, with_user, with_wait_queue, with_state, entries_of, user_of, change_user}
use Rattle.nucleus.specs.WellMade.{data_made}
use Rattle.nucleus.specs.Clock.{removed, backed_out, forced_out}
use Rattle.nucleus.specs.Waiters.{in_line, line_left_by, left, left_by, let_go, handed}
use Rattle.nucleus.specs.Target.{is_holder, holder_of}
use Rattle.nucleus.specs.Effects.{entry_for, held, data_for, next_sequence, ended_for}
use Rattle.nucleus.specs.declared.Call.{Call}
use Rattle.nucleus.specs.declared.Command.{Command}
use Rattle.nucleus.specs.declared.User.{User}
use Rattle.lists.specs.Every.{all_set, all_get_d}
use Rattle.claim.specs.Journal as journal
use Rattle.claim.specs.Journal.{Journal, Hold, with_member, with_holds, with_hold, others, hold_of, struck, log_start, log_hold, log_leave, log_left_by, log_let_go, log_end, log_limit, log_ready}
use Rattle.claim.specs.Lent.{Lent}
use Rattle.history.specs.Kept.{Kept, Rested, user_sound, member_of}
use Rattle.history.proofs.People.{active_sound, sound_active, idle_sound, sound_idle, started_quiet as still_quiet, member_is}
use Rattle.history.specs.Lined.{Lined, hold_seen, may_receive}
use Rattle.history.proofs.Keeping.{user_known, kept_user, kept_data, kept_line, kept_holds}
use Rattle.history.proofs.Ends.{idle_member, kept_ended}
use Rattle.history.proofs.QueueMoves.{entries_removed}
use Rattle.history.proofs.LineLaws.{left_none}
use Rattle.history.proofs.Lines.{lined_alike, lined_journal, lined_user, lined_left_by, lined_removed, lined_new, with_hold_new, with_hold_there}
use Rattle.history.proofs.HoldMoves.{his_entry, nobodys, held_his, held_new, entries_anew}
use Rattle.history.proofs.Holding.{Serving, Holdable, kept_held}
use Rattle.history.proofs.Handing.{HandedOver}
use Rattle.history.proofs.Letting.{let_go_over, receives, forced_kept, forced_lined, forced_clock, forced_quiet}
use Rattle.history.proofs.Passing.{Passed, rested_all}

-- ---- nobody is overdue, still
module _ (n : Nucleus) (rested : Rested n) where
  abbrev clock : ℕ
  clock = n.state.clock

  pub quiet_user : (u : ℕ) → is_due clock (user_of n u) ≡ false
  quiet_user u = not-true (is_due clock (user_of n u)) (all_get_d (λ x. not (is_due clock x)) n.state.users (u - 1) fresh_user rested refl)

  -- nor by a hand-over
  pub rested_over : (capacity : ℕ) (lent : Lent ℕ) (j : Journal) (m : Nucleus) (i : Journal) → HandedOver capacity lent [] n j m i → Rested m
  rested_over capacity lent j m i h = rested_all m h.kept.people.user_count (λ v least most. rw h.clock (h.quiet v (quiet_user v)))

  pub rested_set : (u : ℕ) (x : User) → is_due clock x ≡ false → all (λ y. not (is_due clock y)) (set n.state.users (u - 1) x) ≡ true
  rested_set u x h = all_set (λ y. not (is_due clock y)) n.state.users (u - 1) x rested (rw h)

  pub idle_quiet : (x : User) → is_active x ≡ false → is_due clock x ≡ false
  idle_quiet x h = rw h

  -- a transaction that begins now
  pub started_quiet : (u : ℕ) → is_due clock (started clock (user_of n u)) ≡ false
  started_quiet u = still_quiet clock (user_of n u) (quiet_user u)

  pub rested_held : (r : Request) (isn : ℕ) → Rested (held r isn n)
  unfolding held
  rested_held r isn = go (Rattle.nucleus.specs.Target.is_holder r.call.user (Rattle.nucleus.specs.Target.holder_of r n isn))
    where
      go : (b : Bool) → Rested (cond b n (change_user r.call.user (started clock) (Rattle.nucleus.specs.Effects.with_entry r isn n)))
      go true = rested
      go false = rested_set r.call.user (started clock (user_of n r.call.user)) (started_quiet r.call.user)

-- what was handed over
pub passed_over : (capacity : ℕ) (lent : Lent ℕ) (n : Nucleus) (j : Journal) → Rested n → (m : Nucleus) (i : Journal) → HandedOver capacity lent [] n j m i → Passed capacity lent m i
passed_over capacity lent n j rested m i h = record { kept = h.kept; rested = rested_over n rested capacity lent j m i h; lined = h.lined }

-- the line that a call leaves before its clock
pub passed_left_by : (capacity : ℕ) (lent : Lent ℕ) (n : Nucleus) (j : Journal) → Passed capacity lent n j → (c : Command) (call : Call)
    → Passed capacity lent (left_by c call n) (log_left_by (Some c) call j)
unfolding log_left_by log_leave
passed_left_by capacity lent n j p c call = record {
  kept = kept_line capacity lent n (log_left_by (Some c) call j) (go (journal.keeps_place (Some c) call j.line)) (line_left_by c call n.state.wait_queue);
  rested = p.rested;
  lined = lined_left_by p.lined c call;
}
  where
    go : (b : Bool) → Kept capacity lent n (cond b j (log_leave call.user j))
    go true = p.kept
    go false = kept_holds capacity lent n j p.kept j.holds (others call.user j.line)

module _ (capacity : ℕ) (lent : Lent ℕ) (n : Nucleus) (j : Journal) (p : Passed capacity lent n j) (r : Request) where
  abbrev u : ℕ
  u = r.call.user

  abbrev k : Kept capacity lent n j
  k = p.kept

  abbrev l : Lined [] n j
  l = p.lined

  abbrev full : length n.state.users ≡ max_users
  full = k.people.user_count

  -- ---- HI, L4
  module _ (isn : ℕ) (s : Serving u n) (h : Holdable capacity r isn n) where
    -- as the journal has it
    abbrev held_told : Journal
    held_told = log_hold u r.call.file isn j

    pub kept_hold : Kept capacity lent (held r isn n) held_told
    unfolding log_hold
    kept_hold =
        let hs = with_hold u r.call.file isn j.holds in
        kept_held capacity lent n (with_holds hs j.line j) (kept_holds capacity lent n j k hs j.line) r isn s h

    -- he may be handed a hold still
    started_receives : may_receive (user_of n u) ≡ true → may_receive (started n.state.clock (user_of n u)) ≡ true
    started_receives may = go (outcome (is_active (user_of n u)))
      where
        go : Outcome (is_active (user_of n u)) → may_receive (started n.state.clock (user_of n u)) ≡ true
        go (holds a) = rw a may
        go (fails a) = rw a may

    pub lined_hold : Lined [] (held r isn n) held_told
    unfolding log_hold log_start
    lined_hold = go (outcome (is_holder u (holder_of r n isn)))
      where
        go : Outcome (is_holder u (holder_of r n isn)) → Lined [] (held r isn n) held_told
        go (holds his) =
            let e = his_entry u (holder_of r n isn) his in
            rw (held_his r isn n his) (lined_journal l (with_hold_there l r.call.file isn u e.at e.entry e.found) refl)
        go (fails new) =
            let free = nobodys u (holder_of r n isn) new h.mine in
            let more = entries_anew n capacity k.sized.made k.sized.shape r isn h.small h.inside (omega (arith, s.most)) h.mine h.room new in
            rw (held_new r isn n new)
            (lined_journal (lined_new l (entry_for r isn n) u (started n.state.clock (user_of n u)) full s.least s.most (λ t. started_receives (receives [] n j l u t)) more refl refl)
            (with_hold_new l r.call.file isn u free) refl)

    pub passed_held : Passed capacity lent (held r isn n) held_told
    passed_held = record { kept = kept_hold; rested = rested_held n p.rested r isn; lined = lined_hold }

  -- ---- RI
  pub passed_released : (which : Removal) (goes_hold : Hold → Bool) → ((e : Entry) → goes which e ≡ goes_hold (hold_seen e)) → Kept capacity lent (removed which n) j
      → Passed capacity lent (handed (let_go which n) (removed which n)) (log_let_go goes_hold j)
  unfolding log_let_go removed
  passed_released which goes_hold same kept =
      let i = with_holds (sift (λ h. not (goes_hold h)) j.holds) j.line j in
      passed_over capacity lent (removed which n) i p.rested _ _
      (let_go_over capacity lent n j k l which (removed which n) i (kept_holds capacity lent (removed which n) j kept i.holds i.line) refl
      (entries_removed n capacity k.sized.made which) goes_hold same (lined_removed l which goes_hold same capacity k.sized.made))

  module _ (least : 1 ≤ u) (most : u ≤ max_users) where
    -- ---- a back-out of OP or CL, and BT of one who has left the line
    pub passed_forced : Passed capacity lent (forced_out u n) (struck u j)
    passed_forced = record {
      kept = forced_kept capacity lent n j k l u least most;
      rested = rested_all (forced_out u n) (forced_kept capacity lent n j k l u least most).people.user_count
          (λ v v_least v_most. rw (forced_clock capacity lent n j k l u least most) (forced_quiet capacity lent n j k l u least most v (quiet_user n p.rested v)));
      lined = forced_lined capacity lent n j k l u least most;
    }

    module _ (away : in_line n.state.wait_queue u ≡ false) where
      left_same : left u (backed_out u n) ≡ backed_out u n
      unfolding backed_out removed
      left_same = ap (λ line. with_state (with_wait_queue line (backed_out u n).state) (backed_out u n)) (left_none u n.state.wait_queue away)

      pub passed_backed_out : Passed capacity lent (handed (let_go (All u) n) (backed_out u n)) (struck u j)
      unfolding forced_out
      passed_backed_out = subst (λ m. Passed capacity lent (handed (let_go (All u) n) m) (struck u j)) left_same passed_forced

    -- ---- ET, with a record buffer that is not too long
    data_fits : ltb max_et_data (length r.buffer) ≡ false → data_made (data_for r (data_at n.state u)) ≡ true
    data_fits h = go (outcome (eqb (length r.buffer) 0))
      where
        go : Outcome (eqb (length r.buffer) 0) → data_made (data_for r (data_at n.state u)) ≡ true
        go (holds t) = rw t (all_get_d data_made n.state.et_data (u - 1) beyond_data k.data_sound refl)
        go (fails t) = rw t (le-leb (length r.buffer) max_et_data (ltb-false max_et_data (length r.buffer) h))

    module _ (h : ltb max_et_data (length r.buffer) ≡ false) where
      abbrev x : User
      x = ended (counted (next_sequence r n) (user_of n u))

      kept_data_ended : Kept capacity lent (ended_for r n) (log_end u j)
      unfolding removed
      kept_data_ended =
          kept_data capacity lent (with_state (with_user u x (removed (All u) n).state) (removed (All u) n)) (log_end u j)
          (kept_ended capacity lent n j k u least most x refl refl (idle_member capacity lent n j k u least most x refl refl refl)) u (data_for r (data_at n.state u)) (data_fits h)

      abbrev i : Journal
      i = with_holds (sift (λ hold. not (hold_of u hold)) j.holds) j.line (log_end u j)

      lined_ended : Lined (sift (goes (All u)) (entries_of n)) (ended_for r n) i
      unfolding removed
      lined_ended =
          lined_alike (lined_user (lined_removed l (All u) (hold_of u) (λ e. refl) capacity k.sized.made) u x full least most (λ t. receives [] n j l u t)) refl refl refl refl refl

      pub passed_ended : Passed capacity lent (handed (let_go (All u) n) (ended_for r n)) (log_let_go (hold_of u) (log_end u j))
      unfolding removed log_let_go log_end
      passed_ended =
          passed_over capacity lent (ended_for r n) i (rested_set n p.rested u x refl) _ _
          (let_go_over capacity lent n j k l (All u) (ended_for r n) i (kept_holds capacity lent (ended_for r n) (log_end u j) kept_data_ended i.holds i.line) refl
          (entries_removed n capacity k.sized.made (All u)) (hold_of u) (λ e. refl) lined_ended)

    -- ---- OP and CL, of a user in no transaction who has left the line
    module _ (idle : is_active (user_of n u) ≡ false) (away : in_line n.state.wait_queue u ≡ false) where
      unready : is_ready (user_of n u) ≡ false
      unready = idle_sound n.state.clock (user_of n u) (user_known capacity lent n j k u) idle

      log_limit_is : (limit : ℕ) (x : User) → is_active x ≡ false → cond x.session x.time_limit default_time_limit ≡ limit → log_limit u limit j ≡ with_member u (member_of x) j
      unfolding log_limit
      log_limit_is limit x out same = ap (λ m. with_member u m j) (rw (member_is n.state.users u j k.told.same_members, idle, out, same))

      passed_session : (limit : ℕ) (x : User) → is_active x ≡ false → is_ready x ≡ is_ready (user_of n u) → cond x.session x.time_limit default_time_limit ≡ limit
          → Passed capacity lent (with_state (with_user u x n.state) n) (log_limit u limit j)
      unfolding log_limit
      passed_session limit x out alike same = record {
        kept = rw (log_limit_is limit x out same) (kept_user capacity lent n j k u least most x (sound_idle n.state.clock x out (alike ∙ unready)) (out ∙ sym idle));
        rested = rested_set n p.rested u x (idle_quiet n p.rested x out);
        lined = lined_journal (lined_user l u x full least most (λ t. not_both _ t away)) refl refl;
      }

      pub passed_opened : (user_of n u).session ≡ true → (holding time : ℕ) (access : Bool)
          → Passed capacity lent (change_user u (set_session holding time access) n) (log_limit u (or_default default_time_limit time) j)
      passed_opened session holding time access = passed_session (or_default default_time_limit time) (set_session holding time access (user_of n u)) idle refl (rw session)

      pub passed_closed : Passed capacity lent (change_user u closed n) (log_limit u default_time_limit j)
      passed_closed = passed_session default_time_limit (closed (user_of n u)) idle refl refl

    -- ---- PE, of a user in a transaction
    module _ (active : is_active (user_of n u) ≡ true) where
      abbrev ready_now : User
      ready_now = made_ready (user_of n u)

      ready_sound : user_sound n.state.clock ready_now ≡ true
      ready_sound =
          let a = active_sound n.state.clock (user_of n u) (user_known capacity lent n j k u) active in
          sound_active n.state.clock ready_now active (record { session = a.session; begun = a.begun; not_overdue = a.not_overdue; changing = a.changing })

      log_ready_is : log_ready u j ≡ with_member u (member_of ready_now) j
      unfolding log_ready
      log_ready_is = ap (λ m. with_member u m j) (rw (member_is n.state.users u j k.told.same_members, active))

      pub passed_ready : Passed capacity lent (change_user u made_ready n) (log_ready u j)
      unfolding log_ready
      passed_ready = record {
        kept = rw log_ready_is (kept_user capacity lent n j k u least most ready_now ready_sound refl);
        rested = rested_set n p.rested u ready_now (rw active);
        lined = lined_journal (lined_user l u ready_now full least most (λ t. receives [] n j l u t)) refl refl;
      }
