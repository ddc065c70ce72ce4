-- What the clock of a call leaves: what was kept, and nobody who is overdue.
-- Assumes nothing.
use Rattle.std.specs.Prelude.{ℕ, zero, suc, ◌+◌, ◌-◌, ◌≤◌, ◌<◌, max, ◌≡◌, true, false, [], eqb, length, get_or}
use Rattle.std.proofs.Common.{arith, sym, ap, ◌∙◌, eqb-true}
use Rattle.std.proofs.Math.Path.{refl}
use Rattle.std.proofs.lemmas.Bool.{eqb-false}
use Rattle.lists.specs.Tests.{Outcome, holds, fails, outcome, not_both}
use Rattle.lists.specs.Every.{all_index}
use Rattle.nucleus.specs.Users.{fresh_user, is_active, is_ready, is_due, ended, with_overdue}
use Rattle.nucleus.specs.Nucleus.{Nucleus, max_users, user_of, with_clock, with_state, change_user}
use Rattle.nucleus.specs.Clock.{forced_out, timed_out, timed_out_from, clocked}
use Rattle.nucleus.specs.declared.User.{User}
use Rattle.claim.specs.Journal.{Journal, member, struck, is_late, strike_late, strike_late_from, log_clock}
use Rattle.claim.specs.Lent.{Lent}
use Rattle.history.specs.Kept.{Kept, Rested, user_sound, member_of}
use Rattle.history.specs.Lined.{Lined}
use Rattle.history.proofs.People.{active_sound, sound_idle, user_own, user_other, member_is}
use Rattle.history.proofs.Keeping.{user_known, kept_like, kept_clock}
use Rattle.history.proofs.Lines.{in_line_same, lined_alike, lined_user}
use Rattle.history.proofs.Letting.{forced_kept, forced_lined, forced_clock, forced_quiet, forced_away, forced_own}

-- nobody is due, of each user: nobody is overdue
pub rested_all : (n : Nucleus) → length n.state.users ≡ max_users → ((v : ℕ) → 1 ≤ v → v ≤ max_users → is_due n.state.clock (user_of n v) ≡ false) → Rested n
rested_all n full q = all_index _ fresh_user n.state.users (λ i h. rw (quiet i h))
  where
    quiet : (i : ℕ) → i < length n.state.users → is_due n.state.clock (get_or n.state.users i fresh_user) ≡ false
    quiet i h = let z : i + 1 - 1 ≡ i = omega arith in rw z at (q (i + 1) (omega arith) (omega (arith, full)))

module _ (capacity : ℕ) (lent : Lent ℕ) where
  module _ (n : Nucleus) (j : Journal) (k : Kept capacity lent n j) where
    -- the journal has him late where the nucleus has him due
    pub late_as_due : (u : ℕ) → is_late j.clock (member j u) ≡ is_due n.state.clock (user_of n u)
    late_as_due u = rw (member_is n.state.users u j k.told.same_members, k.told.same_clock) (go (outcome (is_active (user_of n u))))
      where
        go : Outcome (is_active (user_of n u)) → is_late n.state.clock (member_of (user_of n u)) ≡ is_due n.state.clock (user_of n u)
        go (holds a) = rw (a, (active_sound n.state.clock (user_of n u) (user_known capacity lent n j k u) a).session)
        go (fails a) = rw a

    module _ (l : Lined [] n j) (u : ℕ) (least : 1 ≤ u) (most : u ≤ max_users) where
      abbrev m : Nucleus
      m = forced_out u n

      abbrev x : User
      x = with_overdue true (user_of m u)

      kept_out : Kept capacity lent m (struck u j)
      kept_out = forced_kept capacity lent n j k l u least most

      out_own : user_of m u ≡ ended (user_of n u)
      out_own = forced_own capacity lent n j k l u least most

      out_sound : user_sound m.state.clock x ≡ true
      out_sound = sound_idle m.state.clock x (ap is_active out_own) (ap is_ready out_own)

      kept_marked : Kept capacity lent (change_user u (with_overdue true) m) (struck u j)
      kept_marked = kept_like capacity lent m (struck u j) kept_out u least most x out_sound refl refl

      -- he waits for nothing
      lined_marked : Lined [] (change_user u (with_overdue true) m) (struck u j)
      lined_marked =
          let out = forced_lined capacity lent n j k l u least most in
          lined_user out u x kept_out.people.user_count least most
          (λ t. not_both _ t (sym (in_line_same out u) ∙ forced_away capacity lent n j k l u least most))

      clock_marked : m.state.clock ≡ n.state.clock
      clock_marked = forced_clock capacity lent n j k l u least most

      -- he is due no more, and whoever else was not due is not
      quiet_marked : (v : ℕ) → 1 ≤ v → (eqb v u ≡ false → is_due n.state.clock (user_of n v) ≡ false)
          → is_due n.state.clock (user_of (change_user u (with_overdue true) m) v) ≡ false
      quiet_marked v v_least h = go (outcome (eqb v u))
        where
          go : Outcome (eqb v u) → is_due n.state.clock (user_of (change_user u (with_overdue true) m) v) ≡ false
          go (holds t) = rw (eqb-true v u t, user_own m.state.users kept_out.people.user_count u least most x, out_own)
          go (fails t) =
              rw (user_other m.state.users kept_out.people.user_count u least most x v v_least t)
              (forced_quiet capacity lent n j k l u least most v (h t))

      -- ---- one user of the clock's pass
      record Timed (m : Nucleus) (i : Journal) : Type 0 where
        kept : Kept capacity lent m i
        lined : Lined [] m i
        clock : m.state.clock ≡ n.state.clock
        quiet : (v : ℕ) → 1 ≤ v → (eqb v u ≡ false → is_due n.state.clock (user_of n v) ≡ false) → is_due n.state.clock (user_of m v) ≡ false

      timed : Timed (timed_out u n) (strike_late u j)
      timed = go (outcome (is_due n.state.clock (user_of n u)))
        where
          as_it_was : is_due n.state.clock (user_of n u) ≡ false → (v : ℕ) → 1 ≤ v → (eqb v u ≡ false → is_due n.state.clock (user_of n v) ≡ false)
              → is_due n.state.clock (user_of n v) ≡ false
          as_it_was t v v_least h = still (outcome (eqb v u))
            where
              still : Outcome (eqb v u) → is_due n.state.clock (user_of n v) ≡ false
              still (holds s) = rw (eqb-true v u s) t
              still (fails s) = h s

          go : Outcome (is_due n.state.clock (user_of n u)) → Timed (timed_out u n) (strike_late u j)
          go (holds t) = rw (late_as_due u, t) (record { kept = kept_marked; lined = lined_marked; clock = clock_marked; quiet = quiet_marked })
          go (fails t) = rw (late_as_due u, t) (record { kept = k; lined = l; clock = refl; quiet = as_it_was t })

  -- ---- all users, from one on
  -- those before him are not due
  abbrev Quiet : Nucleus → ℕ → Type 0
  Quiet n u = (v : ℕ) → 1 ≤ v → v < u → is_due n.state.clock (user_of n v) ≡ false

  quiet_next : (n : Nucleus) (j : Journal) (k : Kept capacity lent n j) (l : Lined [] n j) (u : ℕ) (least : 1 ≤ u) (most : u ≤ max_users) → Quiet n u → Quiet (timed_out u n) (u + 1)
  quiet_next n j k l u least most q v v_least b =
      let t = timed n j k l u least most in
      rw t.clock (t.quiet v v_least (λ other. q v v_least (omega (arith, eqb-false v u other))))

  pub record Passed (n : Nucleus) (j : Journal) : Type 0 where
    pub kept : Kept capacity lent n j
    pub rested : Rested n
    pub lined : Lined [] n j

  passed_from : (more u : ℕ) (n : Nucleus) (j : Journal) → Kept capacity lent n j → Lined [] n j → 1 ≤ u → u + more ≡ max_users + 1 → Quiet n u
      → Passed (timed_out_from more u n) (strike_late_from more u j)
  passed_from zero u n j k l least e q = record {
    kept = k;
    rested = rested_all n k.people.user_count (λ v v_least v_most. q v v_least (omega arith));
    lined = l;
  }
  passed_from (suc more) u n j k l least e q =
      let most : u ≤ max_users = omega arith in
      let t = timed n j k l u least most in
      passed_from more (u + 1) (timed_out u n) (strike_late u j) t.kept t.lined (omega arith) (omega arith) (quiet_next n j k l u least most q)

  -- the clock of a call
  abbrev raised_journal : ℕ → Journal → Journal
  raised_journal clock j = record { clock = max j.clock clock; members = j.members; changes = j.changes; holds = j.holds; line = j.line }

  raised : (clock : ℕ) (n : Nucleus) (j : Journal) → Kept capacity lent n j → Kept capacity lent (with_state (with_clock (max n.state.clock clock) n.state) n) (raised_journal clock j)
  raised clock n j k = rw k.told.same_clock (kept_clock capacity lent n j k (max n.state.clock clock) (omega arith))

  pub passed_clock : (clock : ℕ) (n : Nucleus) (j : Journal) → Kept capacity lent n j → Lined [] n j → Passed (clocked clock n) (log_clock clock j)
  unfolding clocked log_clock
  passed_clock clock n j k l =
      passed_from max_users 1 (with_state (with_clock (max n.state.clock clock) n.state) n) (raised_journal clock j)
      (raised clock n j k) (lined_alike l refl refl refl refl refl) (omega arith) refl (λ v least b. absurd (omega arith))
