-- The nucleus's hold queue read as the abstract machine's, and what the removal of entries makes of it: RI's are the `sift`s of the machine's releases.
-- Assumes nothing.
use Rattle.std.specs.Prelude.{ℕ, ◌<◌, ◌≡◌, Bool, ◌&&◌, ◌||◌, List, Option, Some, None}
use Rattle.std.proofs.Math.Path.{refl}
use Rattle.std.proofs.Math.Bool.{true, false, not}
use Rattle.std.proofs.Common.{eqb-true}
use Rattle.lists.specs.Tests.{not_both}
use Rattle.lists.specs.Folds.{all}
use Rattle.lists.specs.Sift.{sift, all_keeps}
use Rattle.queue.specs.Queue.{holder}
use Rattle.entries.specs.declared.Entry.{Entry}
use Rattle.removal.specs.Removal.{stays, fits}
use Rattle.removal.specs.Laws.{entries_remove}
use Rattle.removal.specs.declared.Removal.{Removal}
use Rattle.removal.specs.declared.Removal.TheVariants.{One, Unchanged}
use Rattle.transactions.specs.Machine.{Entry as MachineEntry, of_user, at_key}
use Rattle.ground.specs.Keys.{isn_bound, key}
use Rattle.ground.specs.Queue.{queue_of, Made}
use Rattle.ground.proofs.Entries.{made_fits, queue_release, queue_release_all}
use Rattle.nucleus.specs.Nucleus.{Nucleus, entries_of, width_of}
use Rattle.nucleus.specs.Clock.{removed}
use Rattle.nucleus.specs.Target.{is_holder, is_changed}
use Rattle.history.specs.Kept.{definition_of}

-- ---- what the abstract machine has of a nucleus's queue; a well made one
abbrev pub queue_seen : Nucleus → List MachineEntry
queue_seen n = queue_of (definition_of n) n.queue n.images n.state.count

abbrev pub MadeIn : ℕ → Nucleus → Type 0
MadeIn capacity n = Made (definition_of n) capacity n.store n.queue n.images n.state.count

-- ---- entries go, of a well made nucleus
module _ (n : Nucleus) (capacity : ℕ) (made : MadeIn capacity n) where
  room : fits n.queue n.images n.state.count (width_of n) ≡ true
  room = made_fits (definition_of n) capacity n.store n.queue n.images n.state.count made

  module _ (which : Removal) where
    -- what stays, in order
    pub entries_removed : entries_of (removed which n) ≡ sift (stays which) (entries_of n)
    unfolding removed
    entries_removed = entries_remove n.queue n.images n.state.count (width_of n) which room

    -- a test that all entries pass is passed by those that stay
    pub all_removed : (p : Entry → Bool) → all p (entries_of n) ≡ true → all p (entries_of (removed which n)) ≡ true
    all_removed p h = rw entries_removed (all_keeps p (stays which) (entries_of n) h)

  -- RI of ISN 0: all his unchanged ones
  pub seen_release_all : (u : ℕ) → queue_seen (removed (Unchanged u) n) ≡ sift (λ (e : MachineEntry). e.changed || not (of_user u e)) (queue_seen n)
  unfolding removed
  seen_release_all u = queue_release_all (definition_of n) capacity n.store n.queue n.images n.state.count made u

  -- RI of an ISN: the one that he holds, unchanged
  pub seen_release : (u file isn : ℕ) → isn < isn_bound → is_holder u (holder (entries_of n) file isn) ≡ true → is_changed (holder (entries_of n) file isn) ≡ false
      → queue_seen (removed (One file isn) n) ≡ sift (λ (e : MachineEntry). e.changed || not (of_user u e && at_key (key file isn) e)) (queue_seen n)
  unfolding removed
  seen_release u file isn small his new = go (holder (entries_of n) file isn) refl his new
    where
      go : (found : Option (ℕ × Entry)) → holder (entries_of n) file isn ≡ found → is_holder u found ≡ true → is_changed found ≡ false
          → queue_seen (removed (One file isn) n) ≡ sift (λ (e : MachineEntry). e.changed || not (of_user u e && at_key (key file isn) e)) (queue_seen n)
      go (Some (i, e)) found h c = rw (eqb-true e.user u h) at (queue_release (definition_of n) capacity n.store n.queue n.images n.state.count made file isn i e small found c)
      go None found h c = not_both false h refl
