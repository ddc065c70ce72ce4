-- One user of the list changes: what that does to each user's own soundness, to whose entries and changes stand, and to the journal's members.
-- Assumes nothing.
use Rattle.std.specs.Prelude.{ℕ, ◌-◌, ◌≤◌, ◌≡◌, true, false, not, ◌&&◌, ◌||◌, List, map, eqb, leb, ltb, length, set}
use Rattle.std.proofs.Common.{arith, sym, ap, ◌∙◌, get_or-set_same, get_or-set_other, eqb-true, leb-true, le-leb, le-ltb}
use Rattle.std.proofs.Math.ListN.{get_or-map}
use Rattle.std.proofs.lemmas.Bool.{eqb-false, not-true}
use Rattle.lists.specs.Tests.{within, within_inside, within_least, Outcome, holds, fails, outcome, and_left, and_right}
use Rattle.lists.specs.Maps.{map_set}
use Rattle.ground.specs.Keys.{isn_bound}
use Rattle.nucleus.specs.Users.{fresh_user, is_active, is_ready, is_due, started}
use Rattle.nucleus.specs.Nucleus.{max_users}
use Rattle.nucleus.specs.declared.User.{User}
use Rattle.claim.specs.Journal.{Journal, Member, member, has_start, in_transaction, Change}
use Rattle.history.specs.Kept.{user_sound, one_of_users, active_in, start_of, member_of, change_sound}

-- ---- one user
-- what is asked of a user in a transaction
pub record ActiveSound (clock : ℕ) (u : User) : Type 0 where
  pub session : u.session ≡ true
  pub begun : u.transaction.begun ≤ clock
  pub not_overdue : u.overdue ≡ false
  pub changing : u.access_only ≡ false

pub active_sound : (clock : ℕ) (u : User) → user_sound clock u ≡ true → is_active u ≡ true → ActiveSound clock u
active_sound clock u h a =
    let k : (u.session && leb u.transaction.begun clock && not u.overdue && not u.access_only) ≡ true = rw a at h in
    record {
      session = search (and_left, and_right);
      begun = leb-true u.transaction.begun clock (search (and_left, and_right));
      not_overdue = not-true u.overdue (search (and_left, and_right));
      changing = not-true u.access_only (search (and_left, and_right));
    }

pub sound_active : (clock : ℕ) (u : User) → is_active u ≡ true → ActiveSound clock u → user_sound clock u ≡ true
sound_active clock u active a = rw (active, a.session, le-leb u.transaction.begun clock a.begun, a.not_overdue, a.changing)

-- and of one in none
pub idle_sound : (clock : ℕ) (u : User) → user_sound clock u ≡ true → is_active u ≡ false → is_ready u ≡ false
idle_sound clock u h idle = not-true (is_ready u) (rw idle at h)

pub sound_idle : (clock : ℕ) (u : User) → is_active u ≡ false → is_ready u ≡ false → user_sound clock u ≡ true
sound_idle clock u idle unready = rw (idle, unready)

-- a later clock
pub sound_later : (clock later : ℕ) → clock ≤ later → (u : User) → user_sound clock u ≡ true → user_sound later u ≡ true
sound_later clock later m u h = go (outcome (is_active u))
  where
    go : Outcome (is_active u) → user_sound later u ≡ true
    go (holds a) =
        let k = active_sound clock u h a in
        sound_active later u a (record { session = k.session; begun = omega (arith, k.begun, m); not_overdue = k.not_overdue; changing = k.changing })
    go (fails a) = sound_idle later u a (idle_sound clock u h a)

-- a transaction that begins now
pub started_quiet : (clock : ℕ) (u : User) → is_due clock u ≡ false → is_due clock (started clock u) ≡ false
started_quiet clock u h = go (outcome (is_active u))
  where
    go : Outcome (is_active u) → is_due clock (started clock u) ≡ false
    go (holds a) = rw a (rw a at h)
    go (fails a) = rw a (le-ltb u.time_limit (clock - clock) (omega arith))

-- ---- one change
-- its ISN, and whose it is while it is open
module _ (us : List User) (c : Change) where
  module _ (h : change_sound us c ≡ true) where
    pub change_isn : ltb c.isn isn_bound ≡ true
    change_isn = and_left (ltb c.isn isn_bound) (not c.uncommitted || active_in us c.user) h

    pub change_active : c.uncommitted ≡ true → active_in us c.user ≡ true
    change_active o = rw (change_isn, o) at h

  pub sound_change : ltb c.isn isn_bound ≡ true → (c.uncommitted ≡ true → active_in us c.user ≡ true) → change_sound us c ≡ true
  sound_change small active = go (outcome c.uncommitted)
    where
      go : Outcome c.uncommitted → change_sound us c ≡ true
      go (holds o) = rw (small, o) (active o)
      go (fails o) = rw (small, o)

-- ---- one user of the list becomes another value
module _ (us : List User) (full : length us ≡ max_users) (u : ℕ) (least : 1 ≤ u) (most : u ≤ max_users) (x : User) where
  abbrev us' : List User
  us' = set us (u - 1) x

  pub user_own : one_of_users us' u ≡ x
  user_own = get_or-set_same us (u - 1) x fresh_user (omega (arith, full, least, most))

  pub user_other : (v : ℕ) → 1 ≤ v → eqb v u ≡ false → one_of_users us' v ≡ one_of_users us v
  user_other v l n =
      let apart : v ≡ u → ⊥ = eqb-false v u n in
      get_or-set_other us (u - 1) (v - 1) x fresh_user (λ e. apart (omega (arith, e, l, least)))

  -- who else is active is so still
  pub active_other : (v : ℕ) → eqb v u ≡ false → active_in us' v ≡ active_in us v
  active_other v n = go (outcome (within 1 max_users v))
    where
      go : Outcome (within 1 max_users v) → active_in us' v ≡ active_in us v
      go (holds t) = rw (t, user_other v (within_least 1 max_users v t) n)
      go (fails t) = rw t

  pub active_own : active_in us' u ≡ is_active x
  active_own = rw (within_inside 1 max_users u least most, user_own)

  -- nobody stops being active, where he does not
  pub active_kept : (is_active (one_of_users us u) ≡ true → is_active x ≡ true) → (v : ℕ) → active_in us v ≡ true → active_in us' v ≡ true
  active_kept f v h = go (outcome (eqb v u))
    where
      go : Outcome (eqb v u) → active_in us' v ≡ true
      go (holds t) = rw (eqb-true v u t, active_own) (f (and_right (within 1 max_users u) (is_active (one_of_users us u)) (rw (eqb-true v u t) at h)))
      go (fails t) = rw (active_other v t) h

  pub members_set : map member_of us' ≡ set (map member_of us) (u - 1) (member_of x)
  members_set = map_set member_of us (u - 1) x

-- ---- the journal's member is the user's
pub member_is : (us : List User) (u : ℕ) (j : Journal) → j.members ≡ map member_of us → member j u ≡ member_of (one_of_users us u)
member_is us u j h = rw h (get_or-map member_of us (u - 1) fresh_user)

-- he has a start where the user is in a transaction
start_is : (x : User) → has_start (start_of x) ≡ is_active x
start_is x = go (outcome (is_active x))
  where
    go : Outcome (is_active x) → has_start (start_of x) ≡ is_active x
    go (holds a) = rw a
    go (fails a) = rw a

pub transaction_is : (us : List User) (u : ℕ) (j : Journal) → j.members ≡ map member_of us → in_transaction j u ≡ active_in us u
transaction_is us u j h = ap (λ b. within 1 max_users u && b) (ap (λ (m : Member). has_start m.start) (member_is us u j h) ∙ start_is (one_of_users us u))

-- whoever is ready is in one
pub ready_started : (us : List User) (u : ℕ) (j : Journal) → j.members ≡ map member_of us → (member j u).ready ≡ true → has_start (member j u).start ≡ true
ready_started us u j h ready =
    let x = one_of_users us u in
    let active : is_active x ≡ true = and_left (is_active x) (is_ready x) (sym (ap (λ (m : Member). m.ready) (member_is us u j h)) ∙ ready) in
    ap (λ (m : Member). has_start m.start) (member_is us u j h) ∙ start_is x ∙ active
