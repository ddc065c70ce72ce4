-- What is kept where a transaction ends: all entries of a user go, his changes stand or are struck, and he is in no transaction.
-- Assumes nothing.
use Rattle.std.specs.Prelude.{ℕ, ◌-◌, ◌≤◌, ◌≡◌, true, false, ◌&&◌, List, map, eqb, length, set}
use Rattle.std.proofs.Math.Path.{refl}
use Rattle.std.proofs.Common.{sym, ap, ◌∙◌, length-set}
use Rattle.std.proofs.Math.Bool.{not}
use Rattle.std.proofs.lemmas.Bool.{not-true}
use Rattle.lists.specs.Tests.{and_left, and_right}
use Rattle.lists.specs.Sift.{sift, all_left}
use Rattle.definition.specs.declared.Definition.{Definition}
use Rattle.removal.specs.Removal.{stays}
use Rattle.removal.specs.declared.Removal.TheVariants.{All}
use Rattle.entries.specs.declared.Entry.{Entry}
use Rattle.transactions.specs.Machine.{Laws, Machine, end, back_out, allowed}
use Rattle.transactions.proofs.Theorems.{kept_act}
use Rattle.lists.specs.Maps.{all_over}
use Rattle.ground.proofs.Ground.{laws}
use Rattle.ground.proofs.Acts.{act_end, act_back_out}
use Rattle.nucleus.specs.Users.{is_active, is_ready, ended}
use Rattle.nucleus.specs.Nucleus.{Nucleus, max_users, user_of, with_user, with_state, entries_of}
use Rattle.nucleus.specs.Clock.{removed, with_restored, backed_out}
use Rattle.nucleus.specs.declared.User.{User}
use Rattle.lists.specs.Every.{all_implies, all_set}
use Rattle.claim.specs.Journal.{Journal, Change, member, ended_member, strikes, commits, struck_changes, log_end}
use Rattle.history.specs.Updates.{updates, logged}
use Rattle.claim.specs.Lent.{Lent}
use Rattle.history.specs.Kept.{Kept, Sized, People, Told, definition_of, ground_of, seen, user_sound, entry_active, change_sound, member_of}
use Rattle.history.proofs.Sizes.{sized_removed, sized_restored}
use Rattle.history.proofs.UpdateLaws.{update_laws}
use Rattle.history.proofs.People.{change_isn, change_active, sound_change, sound_idle, active_other, members_set, member_is}
use Rattle.history.proofs.QueueMoves.{entries_removed}
use Rattle.history.proofs.Logs.{logged_end, logged_back_out}

-- ---- laws of the machine's ground, of a sized nucleus
pub laws_of : (capacity : ℕ) (lent : Lent ℕ) (n : Nucleus) → Sized capacity lent (definition_of n) n.store n.queue n.images n.state.count → Laws (ground_of lent n)
laws_of capacity lent n s = laws (definition_of n) s.shape s.valid (updates (definition_of n)) (update_laws (definition_of n) s.shape s.valid) lent.store

-- ---- the users, where one of them ends his transaction
module _ (clock : ℕ) (us : List User) (u : ℕ) (least : 1 ≤ u) (most : u ≤ max_users) (x : User) (full : length us ≡ max_users) (idle : is_active x ≡ false) where
  abbrev us' : List User
  us' = set us (u - 1) x

  pub people_ended : is_ready x ≡ false → (es : List Entry) → People clock us es → People clock us' (sift (stays (All u)) es)
  people_ended unready es p = record {
    user_count = length-set us (u - 1) x ∙ full;
    users_sound = all_set (user_sound clock) us (u - 1) x p.users_sound (sound_idle clock x idle unready);
    entries_active =
        all_left (entry_active us) (stays (All u)) (entry_active us') (λ e a s. active_other us full u least most x e.user (not-true _ s) ∙ a) es p.entries_active;
  }

  -- a change that is not his, or not open
  other_change : (c : Change) → (c.uncommitted && eqb c.user u) ≡ false → change_sound us c ≡ true → change_sound us' c ≡ true
  other_change c n h = sound_change us' c (change_isn us c h) (λ o. active_other us full u least most x c.user (rw o at n) ∙ change_active us c h o)

  -- a change of his that is open no more
  committed : (c : Change) → change_sound us c ≡ true → change_sound us' (commits u c) ≡ true
  committed c h =
      sound_change us' (commits u c) (change_isn us c h)
      (λ o. active_other us full u least most x c.user (not-true (eqb c.user u) (and_right c.uncommitted (not (eqb c.user u)) o))
      ∙ change_active us c h (and_left c.uncommitted (not (eqb c.user u)) o))

  module _ (j : Journal) (t : Told clock us j) (same : member_of x ≡ ended_member (member j u)) where
    told_members : set j.members (u - 1) (ended_member (member j u)) ≡ map member_of us'
    told_members = ap (set j.members (u - 1)) (sym same) ∙ ap (λ ms. set ms (u - 1) (member_of x)) t.same_members ∙ sym (members_set us full u least most x)

    pub told_struck : Told clock us' (struck_changes u j)
    unfolding struck_changes
    told_struck = record {
      same_clock = t.same_clock;
      same_members = told_members;
      changes_sound = all_left (change_sound us) (λ c. not (strikes u c)) (change_sound us') (λ c h s. other_change c (not-true _ s) h) j.changes t.changes_sound;
    }

    pub told_ended : Told clock us' (log_end u j)
    unfolding log_end
    told_ended = record {
      same_clock = t.same_clock;
      same_members = told_members;
      changes_sound =
          all_over (commits u) (change_sound us') j.changes
          ∙ all_implies (change_sound us) (λ c. change_sound us' (commits u c)) committed j.changes t.changes_sound;
    }

-- ---- of the nucleus
module _ (capacity : ℕ) (lent : Lent ℕ) (n : Nucleus) (j : Journal) (k : Kept capacity lent n j) (u : ℕ) (least : 1 ≤ u) (most : u ≤ max_users) where
  abbrev d : Definition
  d = definition_of n

  end_allowed : (m : Machine (ground_of lent n)) → allowed (ground_of lent n) (end u) m ≡ true
  unfolding allowed
  end_allowed m = refl

  back_out_allowed : (m : Machine (ground_of lent n)) → allowed (ground_of lent n) (back_out u) m ≡ true
  unfolding allowed
  back_out_allowed m = refl

  module _ (x : User) (idle : is_active x ≡ false) (unready : is_ready x ≡ false) (same : member_of x ≡ ended_member (member j u)) where
    -- ET
    pub kept_ended : Kept capacity lent (with_state (with_user u x (removed (All u) n).state) (removed (All u) n)) (log_end u j)
    unfolding removed log_end
    kept_ended = record {
      sized = sized_removed capacity lent d n.store n.queue n.images n.state.count k.sized (All u);
      people = rw (entries_removed n capacity k.sized.made (All u)) (people_ended n.state.clock n.state.users u least most x k.people.user_count idle unready (entries_of n) k.people);
      assigned_sound = k.assigned_sound;
      data_sound = k.data_sound;
      told = told_ended n.state.clock n.state.users u least most x k.people.user_count idle j k.told same;
      invariant =
          rw (act_end d k.sized.shape (updates d) lent.store capacity n.store n.queue n.images n.state.count k.sized.made u, logged_end d lent.store u j.changes) at
          (kept_act (ground_of lent n) (laws_of capacity lent n k.sized) (seen lent n) (logged j.changes) k.invariant (end u) (end_allowed (seen lent n)));
    }

    -- a back-out
    pub kept_out : Kept capacity lent (with_state (with_user u x (removed (All u) (with_restored u n)).state) (removed (All u) (with_restored u n))) (struck_changes u j)
    unfolding removed struck_changes
    kept_out = record {
      sized = sized_removed capacity lent d _ n.queue n.images n.state.count (sized_restored capacity lent d n.store n.queue n.images n.state.count k.sized u) (All u);
      people = rw (entries_removed n capacity k.sized.made (All u)) (people_ended n.state.clock n.state.users u least most x k.people.user_count idle unready (entries_of n) k.people);
      assigned_sound = k.assigned_sound;
      data_sound = k.data_sound;
      told = told_struck n.state.clock n.state.users u least most x k.people.user_count idle j k.told same;
      invariant =
          rw (act_back_out d k.sized.shape (updates d) lent.store capacity n.store n.queue n.images n.state.count k.sized.made u, logged_back_out d lent.store u j.changes) at
          (kept_act (ground_of lent n) (laws_of capacity lent n k.sized) (seen lent n) (logged j.changes) k.invariant (back_out u) (back_out_allowed (seen lent n)));
    }

  -- the journal has no start of him any more, and his limit still
  pub idle_member : (x : User) → is_active x ≡ false → x.session ≡ (user_of n u).session → x.time_limit ≡ (user_of n u).time_limit
      → member_of x ≡ ended_member (member j u)
  idle_member x idle session limit = rw (member_is n.state.users u j k.told.same_members, idle, session, limit)

  -- BT, a forced back-out, and the clock's, but for the line and what is handed over
  pub kept_backed_out : Kept capacity lent (backed_out u n) (struck_changes u j)
  unfolding backed_out removed
  kept_backed_out = kept_out (ended (user_of n u)) refl refl (idle_member (ended (user_of n u)) refl refl refl)
