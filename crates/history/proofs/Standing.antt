-- What is kept makes a state well made and its lent buffers long enough: no call of a list answers 11 or 12.
-- Assumes nothing.
use Rattle.std.specs.Prelude.{ℕ, ◌*◌, ◌<◌, ◌≡◌, true, false, [], length, get_or}
use borrow.Author.Tests.{le-leb, le-ltb}
use Rattle.lists.specs.Tests.{Outcome, holds, fails, outcome}
use Rattle.lists.specs.Folds.{all, all_at, each_at}
use Rattle.definition.specs.declared.Definition.{Definition}
use Rattle.layout.specs.Layout.{store_size, image_length, place, isn_found}
use Rattle.entries.specs.Laws.{no_entry}
use Rattle.entries.specs.declared.Entry.{Entry}
use Rattle.ground.specs.Keys.{isn_bound, key, known}
use Rattle.ground.proofs.Keys.{file_of_key, isn_of_key}
use Rattle.ground.specs.Queue.{entry_known}
use Rattle.ground.proofs.Reading.{entries_small}
use Rattle.nucleus.specs.Users.{is_active}
use Rattle.nucleus.specs.Nucleus.{Nucleus, entries_of}
use Rattle.nucleus.specs.WellMade.{too_short, entry_made, user_made, well_made}
use Rattle.nucleus.specs.declared.User.{User}
use Rattle.lists.specs.Every.{all_implies, all_index}
use Rattle.claim.specs.Journal.{Journal}
use Rattle.claim.specs.Lent.{Lent}
use Rattle.history.specs.Kept.{Kept, definition_of, user_sound, entry_active}
use Rattle.history.specs.Lined.{Lined}
use Rattle.history.proofs.Lines.{lined_few, waiters_made}
use Rattle.history.proofs.People.{active_sound, idle_sound}

-- an entry of the table is within its file
within_of_known : (d : Definition) (file isn : ℕ) → isn < isn_bound → known d (key file isn) ≡ true → isn_found d (place d file) isn ≡ true
unfolding known
within_of_known d file isn small h = rw (file_of_key file isn small, isn_of_key file isn small) at h

made_of_sound : (clock : ℕ) (u : User) → user_sound clock u ≡ true → user_made clock u ≡ true
made_of_sound clock u h = go (outcome (is_active u))
  where
    go : Outcome (is_active u) → user_made clock u ≡ true
    go (holds a) = let s = active_sound clock u h a in rw (a, s.session, le-leb u.transaction.begun clock s.begun)
    go (fails a) = rw (a, idle_sound clock u h a)

module _ (capacity : ℕ) (lent : Lent ℕ) (n : Nucleus) (j : Journal) (k : Kept capacity lent n j) where
  entries_made : all (entry_made n.state) (entries_of n) ≡ true
  entries_made = all_index (entry_made n.state) no_entry (entries_of n) here
    where
      here : (i : ℕ) → i < length (entries_of n) → entry_made n.state (get_or (entries_of n) i no_entry) ≡ true
      here i h =
          let e = get_or (entries_of n) i no_entry in
          let inside = within_of_known (definition_of n) e.file e.isn (each_at (λ (x : Entry). x.isn < isn_bound) (entries_of n) no_entry (entries_small n.queue n.state.count) i h)
          (all_at (entry_known (definition_of n)) (entries_of n) no_entry k.sized.made.each_known i h)
          in
          rw inside (all_at (entry_active n.state.users) (entries_of n) no_entry k.people.entries_active i h)

  -- not 12
  pub well_made_kept : Lined [] n j → well_made capacity n ≡ true
  unfolding well_made
  well_made_kept l = rw (
    k.sized.valid,
    le-leb n.state.count capacity k.sized.made.most,
    k.sized.made.single,
    entries_made,
    all_implies (user_sound n.state.clock) (user_made n.state.clock) (made_of_sound n.state.clock) n.state.users k.people.users_sound,
    k.assigned_sound,
    k.data_sound,
    lined_few l,
    waiters_made l,
  )

  -- not 11
  pub long_kept : too_short (definition_of n) capacity n.store n.queue n.images ≡ false
  unfolding too_short
  long_kept = rw (
    k.sized.capacity_sound,
    le-ltb (length n.queue) capacity k.sized.made.queue_room,
    le-ltb (length n.store) (store_size (definition_of n)) k.sized.made.store_room,
    le-ltb (length n.images) (capacity * image_length (definition_of n)) k.sized.made.image_room,
  )
