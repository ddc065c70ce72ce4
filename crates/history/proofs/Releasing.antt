-- What is kept where RI drops entries: nothing was changed under them.
-- Assumes nothing.
use Rattle.std.specs.Prelude.{ℕ, ◌<◌, ◌≡◌, refl, true, false}
use Rattle.queue.specs.Queue.{holder}
use Rattle.removal.specs.declared.Removal.{Removal}
use Rattle.removal.specs.declared.Removal.TheVariants.{One, Unchanged}
use Rattle.transactions.specs.Machine.{Operation, release, release_all, allowed, act, log}
use Rattle.transactions.specs.Theorems.{Invariant}
use Rattle.transactions.proofs.Theorems.{kept_act}
use Rattle.ground.specs.Keys.{isn_bound, key}
use Rattle.nucleus.specs.Nucleus.{Nucleus, entries_of}
use Rattle.nucleus.specs.Clock.{removed}
use Rattle.nucleus.specs.Target.{is_holder, is_changed}
use Rattle.claim.specs.Journal.{Journal}
use Rattle.history.specs.Updates.{FileUpdate, logged}
use Rattle.claim.specs.Lent.{Lent}
use Rattle.history.specs.Kept.{Kept, definition_of, ground_of, seen, entry_active}
use Rattle.history.proofs.Sizes.{sized_removed}
use Rattle.history.proofs.Ends.{laws_of}
use Rattle.history.proofs.QueueMoves.{queue_seen, all_removed, seen_release_all, seen_release}

module _ (capacity : ℕ) (lent : Lent ℕ) (n : Nucleus) (j : Journal) (k : Kept capacity lent n j) where
  -- entries go, and the argument of requirement 3 holds of what is left
  kept_removed : (which : Removal) → Invariant (ground_of lent n) (record { store = n.store; queue = queue_seen (removed which n) }) (logged j.changes) → Kept capacity lent (removed which n) j
  unfolding removed
  kept_removed which i = record {
    sized = sized_removed capacity lent (definition_of n) n.store n.queue n.images n.state.count k.sized which;
    people = record {
      user_count = k.people.user_count;
      users_sound = k.people.users_sound;
      entries_active = all_removed n capacity k.sized.made which (entry_active n.state.users) k.people.entries_active;
    };
    assigned_sound = k.assigned_sound;
    data_sound = k.data_sound;
    told = k.told;
    invariant = i;
  }

  abbrev kept_operation : (o : Operation FileUpdate) → allowed (ground_of lent n) o (seen lent n) ≡ true → Invariant (ground_of lent n) (act (ground_of lent n) o (seen lent n)) (log (ground_of lent n) o (logged j.changes))
  kept_operation o a = kept_act (ground_of lent n) (laws_of capacity lent n k.sized) (seen lent n) (logged j.changes) k.invariant o a

  pub kept_release_all : (u : ℕ) → Kept capacity lent (removed (Unchanged u) n) j
  unfolding allowed act log
  kept_release_all u = kept_removed (Unchanged u) (rw (seen_release_all n capacity k.sized.made u) (kept_operation (release_all u) refl))

  pub kept_release : (u file isn : ℕ) → isn < isn_bound → is_holder u (holder (entries_of n) file isn) ≡ true → is_changed (holder (entries_of n) file isn) ≡ false
      → Kept capacity lent (removed (One file isn) n) j
  unfolding allowed act log
  kept_release u file isn small his new =
      kept_removed (One file isn) (rw (seen_release n capacity k.sized.made u file isn small his new) (kept_operation (release u (key file isn)) refl))
