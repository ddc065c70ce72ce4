-- What is kept where a call changes a user, ET data, an ISN that N1 last gave, the clock or the line, and neither store, queue nor images.
-- Assumes nothing.
use Rattle.std.specs.Prelude.{ℕ, zero, suc, ◌-◌, ◌≤◌, ◌<◌, ◌≡◌, refl, true, List, [], ◌∷◌, map, leb, length, get_or, set}
use Rattle.std.proofs.Common.{sym, ap, ◌∙◌, length-set, get_or-take, le-leb}
use Rattle.std.proofs.lemmas.List.{set-get_or}
use Rattle.lists.specs.Tests.{and_left, and_right}
use Rattle.definition.specs.Table.{beyond, file_at, file_count, files_of}
use Rattle.definition.specs.declared.File.{File}
use Rattle.entries.specs.declared.Entry.{Entry}
use Rattle.nucleus.specs.Users.{fresh_user, is_active}
use Rattle.nucleus.specs.Nucleus.{Nucleus, max_users, user_of, with_user, with_data, with_last_assigned, with_clock, with_wait_queue, with_state, entries_of}
use Rattle.nucleus.specs.WellMade.{assigned_made, data_made}
use Rattle.nucleus.specs.declared.User.{User}
use Rattle.nucleus.specs.declared.EtData.{EtData}
use Rattle.nucleus.specs.declared.WaitQueue.{WaitQueue}
use Rattle.lists.specs.Every.{all_implies, all_set, all_get_d}
use Rattle.claim.specs.Journal.{Journal, Hold, Waiter, new_member, with_member, with_holds}
use Rattle.claim.specs.Lent.{Lent}
use Rattle.history.specs.Kept.{Kept, People, Told, definition_of, user_sound, active_in, entry_active, change_sound, member_of, one_of_users}
use Rattle.history.proofs.People.{change_isn, change_active, sound_change, sound_later, active_kept, members_set, member_is}

-- ---- the users, where one of them becomes another value
module _ (clock : ℕ) (us : List User) (u : ℕ) (least : 1 ≤ u) (most : u ≤ max_users) (x : User) (full : length us ≡ max_users) where
  abbrev us' : List User
  us' = set us (u - 1) x

  -- he stays in a transaction, where he is in one
  module _ (stays : is_active (one_of_users us u) ≡ true → is_active x ≡ true) where
    still : (v : ℕ) → active_in us v ≡ true → active_in us' v ≡ true
    still = active_kept us full u least most x stays

    pub people_user : (es : List Entry) → People clock us es → user_sound clock x ≡ true → People clock us' es
    people_user es p sound = record {
      user_count = length-set us (u - 1) x ∙ full;
      users_sound = all_set (user_sound clock) us (u - 1) x p.users_sound sound;
      entries_active = all_implies (entry_active us) (entry_active us') (λ e. still e.user) es p.entries_active;
    }

    pub told_user : (j : Journal) → Told clock us j → Told clock us' (with_member u (member_of x) j)
    told_user j t = record {
      same_clock = t.same_clock;
      same_members = ap (λ ms. set ms (u - 1) (member_of x)) t.same_members ∙ sym (members_set us full u least most x);
      changes_sound = all_implies (change_sound us) (change_sound us') (λ c h. sound_change us' c (change_isn us c h) (λ o. still c.user (change_active us c h o))) j.changes t.changes_sound;
    }

-- a member that is set to what it is
pub same_member : (us : List User) (u : ℕ) (j : Journal) → j.members ≡ map member_of us → (x : User) → member_of x ≡ member_of (one_of_users us u) → with_member u (member_of x) j ≡ j
same_member us u j h x like =
    ap (λ ms. record { clock = j.clock; members = ms; changes = j.changes; holds = j.holds; line = j.line })
    (ap (set j.members (u - 1)) (like ∙ sym (member_is us u j h)) ∙ set-get_or j.members (u - 1) new_member)

assigned_set : (isns : List ℕ) (fs : List File) (i isn : ℕ) → assigned_made isns fs ≡ true → isn ≤ (get_or fs i beyond).max_isn → assigned_made (set isns i isn) fs ≡ true
assigned_set isns [] i isn h m = refl
assigned_set [] (f ∷ fs) i isn h m = refl
assigned_set (a ∷ isns) (f ∷ fs) zero isn h m = rw (le-leb isn f.max_isn m) (and_right (leb a f.max_isn) (assigned_made isns fs) h)
assigned_set (a ∷ isns) (f ∷ fs) (suc i) isn h m =
    rw (and_left (leb a f.max_isn) (assigned_made isns fs) h) (assigned_set isns fs i isn (and_right (leb a f.max_isn) (assigned_made isns fs) h) m)

module _ (capacity : ℕ) (lent : Lent ℕ) (n : Nucleus) (j : Journal) (k : Kept capacity lent n j) where
  pub user_known : (u : ℕ) → user_sound n.state.clock (user_of n u) ≡ true
  user_known u = all_get_d (user_sound n.state.clock) n.state.users (u - 1) fresh_user k.people.users_sound refl

  module _ (u : ℕ) (least : 1 ≤ u) (most : u ≤ max_users) (x : User) (sound : user_sound n.state.clock x ≡ true) (same : is_active x ≡ is_active (user_of n u)) where
    -- a user becomes another value; he stays in his transaction, or out of one
    pub kept_user : Kept capacity lent (with_state (with_user u x n.state) n) (with_member u (member_of x) j)
    kept_user = record {
      sized = k.sized;
      people = people_user n.state.clock n.state.users u least most x k.people.user_count (λ a. same ∙ a) (entries_of n) k.people sound;
      assigned_sound = k.assigned_sound;
      data_sound = k.data_sound;
      told = told_user n.state.clock n.state.users u least most x k.people.user_count (λ a. same ∙ a) j k.told;
      invariant = k.invariant;
    }

    -- the journal has the same member
    pub kept_like : member_of x ≡ member_of (user_of n u) → Kept capacity lent (with_state (with_user u x n.state) n) j
    kept_like like = rw (same_member n.state.users u j k.told.same_members x like) at kept_user

  pub kept_data : (u : ℕ) (x : EtData) → data_made x ≡ true → Kept capacity lent (with_state (with_data u x n.state) n) j
  kept_data u x h = record {
    sized = k.sized;
    people = k.people;
    assigned_sound = k.assigned_sound;
    data_sound = all_set data_made n.state.et_data (u - 1) x k.data_sound h;
    told = k.told;
    invariant = k.invariant;
  }

  -- the ISN that N1 last gave, of the file at a place in use
  pub kept_assigned : (i isn : ℕ) → i < file_count (definition_of n) → isn ≤ (file_at (definition_of n) i).max_isn
      → Kept capacity lent (with_state (with_last_assigned i isn n.state) n) j
  kept_assigned i isn used h = record {
    sized = k.sized;
    people = k.people;
    assigned_sound = assigned_set n.state.last_assigned (files_of (definition_of n)) i isn k.assigned_sound
        (rw (get_or-take (file_count (definition_of n)) (definition_of n).files i beyond used) h);
    data_sound = k.data_sound;
    told = k.told;
    invariant = k.invariant;
  }

  -- who waits, and what the journal has of holds and lines
  pub kept_line : (line : WaitQueue) → Kept capacity lent (with_state (with_wait_queue line n.state) n) j
  kept_line line = record {
    sized = k.sized;
    people = k.people;
    assigned_sound = k.assigned_sound;
    data_sound = k.data_sound;
    told = k.told;
    invariant = k.invariant;
  }

  pub kept_holds : (holds : List Hold) (line : List Waiter) → Kept capacity lent n (with_holds holds line j)
  kept_holds holds line = record {
    sized = k.sized;
    people = k.people;
    assigned_sound = k.assigned_sound;
    data_sound = k.data_sound;
    told = record { same_clock = k.told.same_clock; same_members = k.told.same_members; changes_sound = k.told.changes_sound };
    invariant = k.invariant;
  }

  -- a clock that is not earlier
  pub kept_clock : (clock : ℕ) → n.state.clock ≤ clock
      → Kept capacity lent (with_state (with_clock clock n.state) n) (record { clock = clock; members = j.members; changes = j.changes; holds = j.holds; line = j.line })
  kept_clock clock later = record {
    sized = k.sized;
    people = record {
      user_count = k.people.user_count;
      users_sound = all_implies (user_sound n.state.clock) (user_sound clock) (sound_later n.state.clock clock later) n.state.users k.people.users_sound;
      entries_active = k.people.entries_active;
    };
    assigned_sound = k.assigned_sound;
    data_sound = k.data_sound;
    told = record { same_clock = refl; same_members = k.told.same_members; changes_sound = k.told.changes_sound };
    invariant = k.invariant;
  }
