-- What an accepted A1, E1, N1 or N2 leaves: the store with the new slot at its key, and the queue of the abstract machine with its entry changed.
-- What `held` does to the queue is asked here (`Holding`).
-- Assumes nothing.
use Rattle.std.specs.Prelude.{ℕ, ◌≤◌, ◌<◌, ◌≡◌, refl, Bool, true, false, cond, List, [], map, length, get_or, Some, None}
use Rattle.std.proofs.Common.{sym, subst, subst₂, ◌∙◌}
use Rattle.std.proofs.Math.Path.{ap}
use Rattle.std.proofs.Math.Seq.{map-set_same}
use Rattle.lists.specs.Folds.{all}
use Rattle.definition.specs.declared.Definition.{Definition}
use Rattle.layout.specs.Layout.{store_size, place}
use Rattle.store.specs.Store.{record_of}
use Rattle.changes.specs.Changes.{as_changed, change, settled, first_change_queue}
use Rattle.entries.specs.Entries.{entries}
use Rattle.entries.specs.Laws.{no_entry}
use Rattle.changes.specs.Laws.{entries_change}
use Rattle.entries.specs.declared.Entry.{Entry}
use Rattle.transactions.specs.Slots.{Slot}
use Rattle.transactions.specs.Machine.{Entry as MachineEntry, with_hold, image_kept}
use Rattle.lists.specs.Maps.{all_over}
use Rattle.ground.specs.Keys.{isn_bound, key}
use Rattle.ground.specs.Store.{get, put_in, put}
use Rattle.ground.proofs.StoreLaws.{put_key}
use Rattle.ground.specs.Queue.{queue_of}
use Rattle.ground.proofs.Reading.{found_inside}
use Rattle.ground.proofs.FirstChange.{queue_first_change}
use Rattle.nucleus.specs.Nucleus.{Nucleus, Request, entries_of}
use Rattle.nucleus.specs.Target.{store_with, file_place, file, part, record_at, holder_of, target_isn, new_record}
use Rattle.nucleus.specs.Effects.{held, imaged_at, imaged, with_part_of, written, erased}
use Rattle.claim.specs.Journal.{Journal, log_mark}
use Rattle.claim.specs.Lent.{Lent}
use Rattle.history.specs.Kept.{Sized, definition_of}
use Rattle.history.specs.Lined.{Lined}
use Rattle.history.proofs.Lines.{lined_like}
use Rattle.history.proofs.LineChanges.{lined_imaged}
use Rattle.history.proofs.Sizes.{sized_put, sized_first_change}
use Rattle.history.proofs.Changes.{Aim, slot_is}

-- ---- what is asked of a hold: the caller's entry is in the queue, and nothing else has changed
pub record HeldHere (capacity : ℕ) (lent : Lent ℕ) (r : Request) (n : Nucleus) (isn : ℕ) : Type 0 where
  pub at : ℕ
  pub entry : Entry
  pub found : holder_of r (held r isn n) isn ≡ Some (at, entry)
  pub definition : definition_of (held r isn n) ≡ definition_of n
  pub store : (held r isn n).store ≡ n.store
  pub queue : queue_of (definition_of (held r isn n)) (held r isn n).queue (held r isn n).images (held r isn n).state.count
      ≡ with_hold r.call.user (key r.call.file isn) (queue_of (definition_of n) n.queue n.images n.state.count)
  pub sized : Sized capacity lent (definition_of (held r isn n)) (held r isn n).store (held r isn n).queue (held r isn n).images (held r isn n).state.count

-- ---- whose an entry is, and of what
abbrev pub whose : Entry → ℕ × ℕ × ℕ
whose e = (e.user, e.file, e.isn)

first_change_same : (words : List ℕ) (count at : ℕ) (existed : Bool) → at < count
    → map whose (entries (first_change_queue words at existed) count) ≡ map whose (entries words count)
unfolding first_change_queue
first_change_same words count at existed inside = go (settled words at)
  where
    go : (b : Bool) → map whose (entries (cond b words (change words at existed)) count) ≡ map whose (entries words count)
    go true = refl
    go false =
        ap (map whose) (entries_change words count at existed inside)
        ∙ map-set_same whose (entries words count) at (as_changed existed (get_or (entries words count) at no_entry)) no_entry refl

-- a test that looks at an entry's user only
pub users_same : (p : ℕ → Bool) (es fs : List Entry) → map whose es ≡ map whose fs → all (λ e. p e.user) es ≡ all (λ e. p e.user) fs
users_same p es fs h = sym (all_over whose (λ t. p t.0) es) ∙ ap (all (λ t. p t.0)) h ∙ all_over whose (λ t. p t.0) fs

-- ---- the image of an entry that is found
module _ (capacity : ℕ) (lent : Lent ℕ) (r : Request) (h : Nucleus) (s : Sized capacity lent (definition_of h) h.store h.queue h.images h.state.count)
    (i isn at : ℕ) (e : Entry) (here : place (definition_of h) r.call.file ≡ Some i) (small : isn < isn_bound) (holder_there : holder_of r h isn ≡ Some (at, e)) where
  abbrev d : Definition
  d = definition_of h

  abbrev with_image : Nucleus
  with_image = imaged_at r (Some (at, e)) isn h

  inside : at < h.state.count
  inside = found_inside d h.queue h.images h.state.count s.made.single r.call.file isn at e holder_there

  queue_imaged : queue_of d with_image.queue with_image.images with_image.state.count
      ≡ map (image_kept (key r.call.file isn) (get d h.store (key r.call.file isn))) (queue_of d h.queue h.images h.state.count)
  queue_imaged =
      queue_first_change d s.shape capacity h.store h.queue h.images h.state.count s.made r.call.file isn at e small holder_there (record_at r h isn)
      (record_of (file r h) (part r h) isn) (slot_is r h i isn here small s.made.store_room)

  sized_imaged : Sized capacity lent d h.store with_image.queue with_image.images with_image.state.count
  sized_imaged = sized_first_change capacity lent d h.store h.queue h.images h.state.count s at (record_at r h isn) (record_of (file r h) (part r h) isn) inside

  whose_imaged : map whose (entries_of with_image) ≡ map whose (entries_of h)
  whose_imaged = first_change_same h.queue h.state.count at (record_at r h isn) inside

-- ---- the nucleus `m` that a change of the target's slot to `x` leaves
pub record Changed (capacity : ℕ) (lent : Lent ℕ) (r : Request) (n : Nucleus) (x : Slot) (m : Nucleus) : Type 0 where
  pub definition : definition_of m ≡ definition_of n
  pub clock : m.state.clock ≡ (held r (target_isn r n) n).state.clock
  pub users : m.state.users ≡ (held r (target_isn r n) n).state.users
  pub data_kept : m.state.et_data ≡ (held r (target_isn r n) n).state.et_data
  pub assigned : m.state.last_assigned ≡ (held r (target_isn r n) n).state.last_assigned
  pub count : m.state.count ≡ (held r (target_isn r n) n).state.count
  pub store : m.store ≡ put (definition_of n) n.store (key r.call.file (target_isn r n)) x
  pub queue : queue_of (definition_of n) m.queue m.images m.state.count
      ≡ map (image_kept (key r.call.file (target_isn r n)) (get (definition_of n) n.store (key r.call.file (target_isn r n))))
      (with_hold r.call.user (key r.call.file (target_isn r n)) (queue_of (definition_of n) n.queue n.images n.state.count))
  pub sized : Sized capacity lent (definition_of n) m.store m.queue m.images m.state.count
  pub holds_same : map whose (entries_of m) ≡ map whose (entries_of (held r (target_isn r n) n))
  -- the journal marks the hold as changed
  pub lined : (i : Journal) → Lined [] (held r (target_isn r n) n) i → Lined [] m (log_mark r.call.file (target_isn r n) i)

module _ (capacity : ℕ) (lent : Lent ℕ) (r : Request) (n : Nucleus) (t : Aim r n) (w : HeldHere capacity lent r n (target_isn r n)) where
  abbrev isn : ℕ
  isn = target_isn r n

  abbrev k : ℕ
  k = key r.call.file isn

  abbrev h : Nucleus
  h = held r isn n

  abbrev image : Nucleus
  image = imaged_at r (Some (w.at, w.entry)) isn h

  image_is : imaged r isn n ≡ image
  unfolding imaged
  image_is = ap (λ l. imaged_at r l isn h) w.found

  here_held : place (definition_of h) r.call.file ≡ Some t.at
  here_held = rw w.definition t.found

  room : store_size (definition_of n) ≤ length n.store
  room = rw (w.definition, w.store) at w.sized.made.store_room

  image_queue : queue_of (definition_of n) image.queue image.images image.state.count
      ≡ map (image_kept k (get (definition_of n) n.store k)) (with_hold r.call.user k (queue_of (definition_of n) n.queue n.images n.state.count))
  image_queue =
      let q : List MachineEntry = with_hold r.call.user k (queue_of (definition_of n) n.queue n.images n.state.count) in
      ap (λ x. queue_of x image.queue image.images image.state.count) (sym w.definition)
      ∙ queue_imaged capacity lent r h w.sized t.at isn w.at w.entry here_held t.small w.found
      ∙ ap (map (image_kept k (get (definition_of h) h.store k))) w.queue
      ∙ ap (λ x. map (image_kept k (get (definition_of h) x k)) q) w.store ∙ ap (λ x. map (image_kept k (get x n.store k)) q) w.definition

  image_sized : Sized capacity lent (definition_of n) n.store image.queue image.images image.state.count
  image_sized =
      subst₂ (λ x y. Sized capacity lent x y image.queue image.images image.state.count) w.definition w.store
      (sized_imaged capacity lent r h w.sized t.at isn w.at w.entry here_held t.small w.found)

  -- the file's part with a slot is the store with it
  part_put : (x : Slot) → store_with (definition_of n) (file_place r n) n.store (put_in (file r n) (part r n) isn x) ≡ put (definition_of n) n.store k x
  part_put x = rw (put_key (definition_of n) n.store room r.call.file isn t.at t.small t.found x, t.found)

  image_put : (x : Slot) → (with_part_of r (put_in (file r n) (part r n) isn x) image).store ≡ put (definition_of n) n.store k x
  image_put x =
      let p : List ℕ = put_in (file r n) (part r n) isn x in
      ap (λ y. store_with y (place y r.call.file) h.store p) w.definition ∙ ap (λ y. store_with (definition_of n) (file_place r n) y p) w.store ∙ part_put x

  changed_image : (x : Slot) → Changed capacity lent r n x (with_part_of r (put_in (file r n) (part r n) isn x) image)
  changed_image x = record {
    definition = w.definition;
    clock = refl;
    users = refl;
    data_kept = refl;
    assigned = refl;
    count = refl;
    store = image_put x;
    queue = image_queue;
    sized = rw (image_put x) (sized_put capacity lent (definition_of n) n.store image.queue image.images image.state.count image_sized k x);
    holds_same = whose_imaged capacity lent r h w.sized t.at isn w.at w.entry here_held t.small w.found;
    lined = λ i l. lined_like (lined_imaged l capacity w.sized.made r isn w.found) refl refl refl;
  }

  changed_slot : (x : Slot) → Changed capacity lent r n x (with_part_of r (put_in (file r n) (part r n) isn x) (imaged r isn n))
  changed_slot x = subst (λ m. Changed capacity lent r n x (with_part_of r (put_in (file r n) (part r n) isn x) m)) (sym image_is) (changed_image x)

  pub written_changed : Changed capacity lent r n (Some (new_record r n isn)) (written r isn n)
  unfolding written
  written_changed = changed_slot (Some (new_record r n isn))

  pub erased_changed : Changed capacity lent r n None (erased r isn n)
  unfolding erased
  erased_changed = changed_slot None
