-- What a new entry and a removal make of the abstract queue: `with_hold`, and the `sift`s of release, end and back-out.
-- Assumes nothing.
use Rattle.std.specs.Prelude.{ℕ, ◌+◌, ◌*◌, ◌<◌, ◌≡◌, refl, Bool, true, false, not, cond, ◌&&◌, ◌||◌, List, [], ◌∷◌, ◌++◌, map, eqb, length, take, drop, Some, None}
use Rattle.std.proofs.Common.{mul-le-mul_right, arith, sym, ◌∙◌, le-leb}
use Rattle.std.proofs.Math.Path.{ap}
use Rattle.std.proofs.lemmas.List.{map-append}
use Rattle.lists.specs.Tests.{Outcome, holds, fails, outcome, eqb_self}
use Rattle.lists.specs.Folds.{Each}
use Rattle.lists.specs.Sift.{sift}
use Rattle.definition.specs.declared.Definition.{Definition}
use Rattle.layout.specs.Layout.{image_length}
use Rattle.entries.specs.Entries.{entries}
use Rattle.queue.specs.Queue.{holder, append}
use Rattle.entries.specs.Laws.{Shape}
use Rattle.queue.specs.Laws.{is_held, entries_append}
use Rattle.entries.specs.declared.Entry.{Entry}
use Rattle.removal.specs.Removal.{stays, fits, remove_queue, remove_images, remove_count}
use Rattle.images.specs.Images.{hold_of, with_images}
use Rattle.images.specs.Laws.{with_images_append}
use Rattle.removal.specs.Laws.{with_images_remove}
use Rattle.removal.specs.declared.Removal.{Removal}
use Rattle.removal.specs.declared.Removal.TheVariants.{One, Unchanged, All}
use Rattle.transactions.specs.Machine.{Entry as MachineEntry, new_entry, of_user, at_key, with_hold, without}
use Rattle.ground.specs.Keys.{isn_bound, key}
use Rattle.ground.proofs.Keys.{key_test}
use Rattle.ground.specs.Queue.{key_of, before, held, holds_of, queue_of, Made}
use Rattle.ground.proofs.Reading.{Small, entries_small, held_key, found_one}
use Rattle.transactions.proofs.Single.{all_at_key, release_one}

-- ---- a new entry
module _ (d : Definition) where
  -- an unchanged entry keeps nothing, whatever lies in its image
  held_new : (e : Entry) (image : List ℕ) → e.changed ≡ false → held d (hold_of e image) ≡ new_entry e.user (key_of e)
  held_new e image h = λ j. record { user = e.user; key = key_of e; changed = h j; image = ap (λ b. cond b (before d e image) None) h j }

  module _ (words images : List ℕ) (count : ℕ) where
    pub queue_append : (e : Entry) → Shape e → e.changed ≡ false → count < length words
        → queue_of d (append words count e) images (count + 1) ≡ queue_of d words images count ++ new_entry e.user (key_of e) ∷ []
    unfolding queue_of
    queue_append e s new room =
        rw (entries_append words count e s room, with_images_append (image_length d) (entries words count) (e ∷ []) images)
        (map-append (held d) (with_images (image_length d) (entries words count) images) _ ∙ ap (λ x. queue_of d words images count ++ x ∷ []) (held_new e _ new))

    -- a hold of a key that nobody holds
    pub queue_hold : (e : Entry) → Shape e → e.changed ≡ false → count < length words → holder (entries words count) e.file e.isn ≡ None
        → queue_of d (append words count e) images (count + 1) ≡ with_hold e.user (key_of e) (queue_of d words images count)
    queue_hold e s new room free = queue_append e s new room ∙ rw (held_key d words images count e.file e.isn s.isn ∙ ap is_held free)

    -- and of one that is held
    pub queue_held : (u file isn i : ℕ) (e : Entry) → isn < isn_bound → holder (entries words count) file isn ≡ Some (i, e)
        → with_hold u (key file isn) (queue_of d words images count) ≡ queue_of d words images count
    queue_held u file isn i e small found = rw (held_key d words images count file isn small ∙ ap is_held found)

-- ---- removal
module _ (d : Definition) where
  -- a test of the machine's entries that says what a test of entries says
  abbrev Says : (MachineEntry → Bool) → (Entry → Bool) → Entry → Type 0
  Says p r e = (image : List ℕ) → p (held d (hold_of e image)) ≡ r e

  sift_held : (p : MachineEntry → Bool) (r : Entry → Bool) (es : List Entry) → Each (Says p r) es → (images : List ℕ)
      → map (held d) (sift (λ h. r h.entry) (with_images (image_length d) es images)) ≡ sift p (holds_of d es images)
  sift_held p r [] h images = refl
  sift_held p r (e ∷ es) h images = go (outcome (r e)) (sift_held p r es h.1 (drop (image_length d) images))
    where
      go : Outcome (r e) → map (held d) (sift (λ h. r h.entry) (with_images (image_length d) es (drop (image_length d) images))) ≡ sift p (holds_of d es (drop (image_length d) images))
          → map (held d) (sift (λ h. r h.entry) (with_images (image_length d) (e ∷ es) images)) ≡ sift p (holds_of d (e ∷ es) images)
      go (holds t) i = rw (h.0 (take (image_length d) images), t) (ap (λ l. held d (hold_of e (take (image_length d) images)) ∷ l) i)
      go (fails t) i = rw (h.0 (take (image_length d) images), t) i

  each_says : (p : MachineEntry → Bool) (r : Entry → Bool) → ((e : Entry) → Says p r e) → (es : List Entry) → Each (Says p r) es
  each_says p r h [] = tt
  each_says p r h (e ∷ es) = (h e, each_says p r h es)

  each_one : (file isn : ℕ) → isn < isn_bound → (es : List Entry) → Small es → Each (Says (λ (e : MachineEntry). not (at_key (key file isn) e)) (stays (One file isn))) es
  each_one file isn small [] h = tt
  each_one file isn small (e ∷ es) h = (λ image. ap not (key_test e.file e.isn file isn h.0 small), each_one file isn small es h.1)

  unchanged_test : (c u : Bool) → (c || not u) ≡ not (u && not c)
  unchanged_test true true = refl
  unchanged_test true false = refl
  unchanged_test false true = refl
  unchanged_test false false = refl

  module _ (capacity : ℕ) (store words images : List ℕ) (count : ℕ) (m : Made d capacity store words images count) where
    abbrev q : List MachineEntry
    q = queue_of d words images count

    -- the queue, read after a removal
    abbrev pub left : Removal → List MachineEntry
    left which = queue_of d (remove_queue words images count (image_length d) which) (remove_images words images count (image_length d) which) (remove_count words images count (image_length d) which)

    pub made_fits : fits words images count (image_length d) ≡ true
    made_fits = rw (
      le-leb count (length words) (omega (arith, m.most, m.queue_room)),
      le-leb (count * image_length d) (length images) (omega (arith, mul-le-mul_right (image_length d) m.most, m.image_room)),
    )

    removed : (which : Removal) (p : MachineEntry → Bool) → Each (Says p (stays which)) (entries words count) → left which ≡ sift p q
    unfolding queue_of
    removed which p h = rw (with_images_remove words images count (image_length d) which made_fits) (sift_held p (stays which) (entries words count) h images)

    -- the entry of a file and ISN
    pub queue_remove_one : (file isn : ℕ) → isn < isn_bound → left (One file isn) ≡ sift (λ (e : MachineEntry). not (at_key (key file isn) e)) q
    queue_remove_one file isn small = removed (One file isn) (λ (e : MachineEntry). not (at_key (key file isn) e)) (each_one file isn small (entries words count) (entries_small words count))

    -- so a release of a user's unchanged entry
    pub queue_release : (file isn i : ℕ) (e : Entry) → isn < isn_bound → holder (entries words count) file isn ≡ Some (i, e) → e.changed ≡ false
        → left (One file isn) ≡ sift (λ (x : MachineEntry). x.changed || not (of_user e.user x && at_key (key file isn) x)) q
    queue_release file isn i e small found new =
        queue_remove_one file isn small
        ∙ release_one (key file isn) e.user q
        (sym (all_at_key (key file isn) (λ (x : MachineEntry). not x.changed && of_user e.user x) q)
        ∙ rw (found_one d words images count m.single file isn i e found, new, eqb_self e.user))

    -- all unchanged entries of a user
    pub queue_release_all : (u : ℕ) → left (Unchanged u) ≡ sift (λ (e : MachineEntry). e.changed || not (of_user u e)) q
    queue_release_all u =
        removed (Unchanged u) (λ (e : MachineEntry). e.changed || not (of_user u e))
        (each_says (λ (e : MachineEntry). e.changed || not (of_user u e)) (stays (Unchanged u)) (λ e image. unchanged_test e.changed (eqb e.user u)) (entries words count))

    -- all of a user: end and back-out
    pub queue_without : (u : ℕ) → left (All u) ≡ without u q
    queue_without u = removed (All u) (λ (e : MachineEntry). not (of_user u e)) (each_says (λ (e : MachineEntry). not (of_user u e)) (stays (All u)) (λ e image. refl) (entries words count))
