-- What store, queue and images keep through each thing that is done to them: a new entry, a removal, a back-out, a first change and a record put
-- leave them well made, as long as they were lent, and past their sizes as they were lent.
-- Assumes nothing.
use Rattle.std.specs.Prelude.{ℕ, suc, ◌+◌, ◌*◌, ◌≤◌, ◌<◌, ◌≡◌, refl, Bool, cond, ◌&&◌, List, [], ◌∷◌, length, set, None}
use Rattle.std.proofs.Math.Nat.{mul-le-mul_right}
use Rattle.std.proofs.Common.{arith, ◌∙◌, length-set, drop-set-lt}
use Rattle.std.proofs.Math.Bool.{true, false}
use Rattle.std.proofs.Math.Dec.{leb}
use Rattle.std.proofs.lemmas.List.{length-map}
use Rattle.std.proofs.lemmas.List.Edits.{sets}
use borrow.Author.Tests.{leb-true}
use Rattle.lists.specs.Tests.{Outcome, holds, fails, outcome, and_left}
use Rattle.definition.specs.declared.Definition.{Definition}
use Rattle.layout.specs.Layout.{store_size, image_length}
use Rattle.entries.specs.Entries.{entries}
use Rattle.entries.specs.Laws.{Shape, length_entries}
use Rattle.entries.specs.declared.Entry.{Entry}
use Rattle.queue.specs.Queue.{holder, append}
use Rattle.changes.specs.Changes.{change, keep_image, settled, first_change_queue, first_change_images}
use Rattle.removal.specs.Closing.{set_count_most, closed, closed_rest, length_closed}
use Rattle.removal.specs.Removal.{stays, staying, remove_queue, remove_images, remove_count}
use Rattle.removal.specs.declared.Removal.{Removal}
use Rattle.hold.specs.Hold.{restore}
use Rattle.transactions.specs.Slots.{Slot}
use Rattle.ground.specs.Keys.{known}
use Rattle.ground.specs.Store.{put}
use Rattle.ground.proofs.StoreLaws.{put_length_same, put_past}
use Rattle.ground.specs.Queue.{key_of, Made}
use Rattle.ground.proofs.Entries.{made_fits}
use Rattle.ground.proofs.Kept.{made_append, made_first_change, made_remove, made_put, made_restore}
use Rattle.ground.proofs.Restore.{restore_length, restore_past}
use Rattle.claim.specs.Lent.{Lent, Alike, Past}
use Rattle.history.specs.Kept.{Sized}

-- ---- alike past a size
pub alike_self : {A : Type 0} (size : ℕ) (l : List A) → Alike size l l
alike_self size l = record { same_length = refl; same_past = refl }

pub alike_then : {A : Type 0} (size : ℕ) (a b c : List A) → Alike size a b → Alike size b c → Alike size a c
alike_then size a b c x y = record { same_length = x.same_length ∙ y.same_length; same_past = x.same_past ∙ y.same_past }

alike_set : (size : ℕ) (l : List ℕ) (i x : ℕ) → i < size → Alike size (set l i x) l
alike_set size l i x inside = record { same_length = length-set l i x; same_past = drop-set-lt size l i x inside }

alike_sets : (size : ℕ) (l : List ℕ) (i : ℕ) (v : List ℕ) → i + length v ≤ size → Alike size (sets l i v) l
alike_sets size l i [] inside = alike_self size l
alike_sets size l i (x ∷ v) inside =
    alike_then size (sets (set l i x) (suc i) v) (set l i x) l (alike_sets size (set l i x) (suc i) v (omega arith)) (alike_set size l i x (omega arith))

-- blocks of `n` closed up, within the size
alike_closed : (n size : ℕ) (bs : List Bool) (l : List ℕ) → length bs * n ≤ length l → length bs * n ≤ size → Alike size (closed n bs l) l
alike_closed n size bs l room inside = record {
  same_length = length_closed n bs l room;
  same_past = closed_rest n bs l room size (omega (arith, mul-le-mul_right n (set_count_most bs)));
}

module _ (capacity : ℕ) (lent : Lent ℕ) (d : Definition) (store queue images : List ℕ) (count : ℕ) (s : Sized capacity lent d store queue images count) where
  abbrev width : ℕ
  width = image_length d

  -- the same table
  sized_as : (store' queue' images' : List ℕ) (count' : ℕ) → Made d capacity store' queue' images' count' → Past capacity d lent store' queue' images'
      → Sized capacity lent d store' queue' images' count'
  sized_as store' queue' images' count' m p = record {
    same_table = s.same_table;
    shape = s.shape;
    valid = s.valid;
    capacity_sound = s.capacity_sound;
    made = m;
    past = p;
  }

  -- another store, or another queue with its images, alike past the sizes
  past_store : (store' : List ℕ) → Alike (store_size d) store' store → Past capacity d lent store' queue images
  past_store store' h = record {
    store_past = alike_then (store_size d) store' store lent.store h s.past.store_past;
    queue_past = s.past.queue_past;
    images_past = s.past.images_past;
  }

  past_queue : (queue' images' : List ℕ) → Alike capacity queue' queue → Alike (capacity * width) images' images → Past capacity d lent store queue' images'
  past_queue queue' images' q i = record {
    store_past = s.past.store_past;
    queue_past = alike_then capacity queue' queue lent.queue q s.past.queue_past;
    images_past = alike_then (capacity * width) images' images lent.images i s.past.images_past;
  }

  -- ---- a new entry
  pub sized_append : (e : Entry) → Shape e → known d (key_of e) ≡ true → holder (entries queue count) e.file e.isn ≡ None → count < capacity
      → Sized capacity lent d store (append queue count e) images (count + 1)
  unfolding append
  sized_append e shape inside free more = sized_as _ _ _ _
      (made_append d capacity store queue images count s.made e shape inside free more)
      (past_queue (append queue count e) images (alike_set capacity queue count _ more) (alike_self (capacity * width) images))

  -- ---- entries go
  module _ (which : Removal) where
    abbrev flags : List Bool
    flags = staying which (entries queue count)

    flags_length : length flags ≤ count
    flags_length = omega (arith, length-map (entries queue count) (stays which), length_entries queue count)

    blocks : (n : ℕ) → length flags * n ≤ capacity * n
    blocks n = mul-le-mul_right n (omega (arith, flags_length, s.made.most))

    queue_left : Alike capacity (remove_queue queue images count width which) queue
    unfolding remove_queue
    queue_left =
        rw (made_fits d capacity store queue images count s.made)
        (alike_closed 1 capacity flags queue (omega (arith, blocks 1, s.made.queue_room)) (omega (arith, blocks 1)))

    images_left : Alike (capacity * width) (remove_images queue images count width which) images
    unfolding remove_images
    images_left =
        rw (made_fits d capacity store queue images count s.made)
        (alike_closed width (capacity * width) flags images (omega (arith, blocks width, s.made.image_room)) (blocks width))

    pub sized_removed : Sized capacity lent d store (remove_queue queue images count width which) (remove_images queue images count width which) (remove_count queue images count width which)
    sized_removed = sized_as _ _ _ _
        (made_remove d capacity store queue images count s.made which)
        (past_queue _ _ queue_left images_left)

  -- ---- a user's images put back
  pub sized_restored : (u : ℕ) → Sized capacity lent d (restore d width u queue images count store) queue images count
  sized_restored u = sized_as _ _ _ _
      (made_restore d capacity store queue images count s.made s.shape u)
      (past_store _ (record {
        same_length = restore_length d s.shape u capacity store queue images count s.made;
        same_past = restore_past d s.shape u capacity store queue images count s.made;
      }))

  -- ---- a record put
  pub sized_put : (k : ℕ) (x : Slot) → Sized capacity lent d (put d store k x) queue images count
  sized_put k x = sized_as _ _ _ _
      (made_put d capacity store queue images count s.made s.shape k x)
      (past_store _ (record {
        same_length = put_length_same d s.shape store k x s.made.store_room;
        same_past = put_past d s.shape store k x s.made.store_room;
      }))

  -- ---- a first change, or a later one
  module _ (at : ℕ) (existed : Bool) (content : List ℕ) (inside : at < count) where
    queue_changed : Alike capacity (first_change_queue queue at existed) queue
    unfolding first_change_queue change
    queue_changed = go (settled queue at)
      where
        go : (b : Bool) → Alike capacity (cond b queue (change queue at existed)) queue
        go true = alike_self capacity queue
        go false = alike_set capacity queue at _ (omega (arith, s.made.most))

    image_kept : Alike (capacity * width) (keep_image images width at content) images
    unfolding keep_image
    image_kept = go (outcome (leb (length content) width && leb ((at + 1) * width) (length images)))
      where
        go : Outcome (leb (length content) width && leb ((at + 1) * width) (length images)) → Alike (capacity * width) (keep_image images width at content) images
        go (holds t) =
            let short = leb-true (length content) width (and_left (leb (length content) width) (leb ((at + 1) * width) (length images)) t) in
            let below : (at + 1) * width ≤ capacity * width = mul-le-mul_right width (omega (arith, s.made.most)) in
            rw t (alike_sets (capacity * width) images (at * width) content (omega arith))
        go (fails t) = rw t (alike_self (capacity * width) images)

    images_changed : Alike (capacity * width) (first_change_images queue images width at existed content) images
    unfolding first_change_images
    images_changed = go (settled queue at) existed
      where
        go : (b e : Bool) → Alike (capacity * width) (cond b images (cond e (keep_image images width at content) images)) images
        go true e = alike_self (capacity * width) images
        go false true = image_kept
        go false false = alike_self (capacity * width) images

    pub sized_first_change : Sized capacity lent d store (first_change_queue queue at existed) (first_change_images queue images width at existed content) count
    sized_first_change = sized_as _ _ _ _
        (made_first_change d capacity store queue images count s.made at existed content inside)
        (past_queue _ _ queue_changed images_changed)
