-- A well made state stays so: after a new entry, a change of an entry, a removal, a record put and a back-out.
-- Assumes nothing.
use Rattle.std.specs.Prelude.{ℕ, ◌+◌, ◌*◌, ◌≤◌, ◌<◌, ◌≡◌, Bool, not, cond, ◌&&◌, List, [], ◌∷◌, eqb, get_or, set, None}
use Rattle.std.proofs.Common.{arith, sym, ap, ◌∙◌}
use Rattle.std.proofs.Math.Path.{refl}
use Rattle.std.proofs.Math.Bool.{true, false}
use Rattle.std.proofs.Math.ListN.{length}
use Rattle.std.proofs.lemmas.List.Edits.{sets}
use Rattle.std.proofs.Math.Seq.{length-sets, map-set_same}
use borrow.Author.Tests.{not-false}
use Rattle.lists.specs.Folds.{all, distinct, all_append}
use Rattle.lists.specs.Sift.{all_keeps, distinct_sift}
use Rattle.definition.specs.Shape.{DefinitionShape}
use Rattle.definition.specs.declared.Definition.{Definition}
use Rattle.layout.specs.Layout.{store_size, image_length}
use Rattle.repeats.specs.Repeats.{alike, repeated}
use Rattle.changes.specs.Changes.{as_changed, change, keep_image, settled, first_change_queue, first_change_images}
use Rattle.queue.specs.Queue.{holder, append}
use Rattle.entries.specs.Entries.{entries}
use Rattle.lists.specs.Distinct.{distinct_last}
use Rattle.entries.specs.Laws.{Shape, no_entry}
use Rattle.queue.specs.Laws.{free_none, entries_append, length_append_entry}
use Rattle.changes.specs.Laws.{entries_change, length_change}
use Rattle.entries.specs.declared.Entry.{Entry}
use Rattle.removal.specs.Removal.{stays, remove_queue, remove_images, remove_count}
use Rattle.removal.specs.Laws.{remove_count_most, length_remove_queue, length_remove_images, entries_remove}
use Rattle.removal.specs.declared.Removal.{Removal}
use Rattle.hold.specs.Hold.{restore}
use Rattle.transactions.specs.Slots.{Slot}
use Rattle.lists.specs.Maps.{all_over, distinct_over}
use Rattle.ground.specs.Keys.{known}
use Rattle.ground.specs.Store.{put}
use Rattle.ground.proofs.StoreLaws.{put_room}
use Rattle.ground.specs.Queue.{key_of, entry_known, Made}
use Rattle.ground.proofs.Entries.{made_fits}
use Rattle.ground.proofs.Restore.{restore_length}

-- ---- the two tests see of an entry its file and ISN only
abbrev file_isn : Entry → ℕ × ℕ
file_isn e = (e.file, e.isn)

abbrev same_pair : ℕ × ℕ → ℕ × ℕ → Bool
same_pair a b = eqb a.0 b.0 && eqb a.1 b.1

changed_known : (d : Definition) (es : List Entry) (i : ℕ) (existed : Bool) → all (entry_known d) (set es i (as_changed existed (get_or es i no_entry))) ≡ all (entry_known d) es
changed_known d es i existed =
    sym (all_over key_of (known d) (set es i (as_changed existed (get_or es i no_entry))))
    ∙ ap (all (known d)) (map-set_same key_of es i (as_changed existed (get_or es i no_entry)) no_entry refl) ∙ all_over key_of (known d) es

changed_single : (es : List Entry) (i : ℕ) (existed : Bool) → repeated (set es i (as_changed existed (get_or es i no_entry))) ≡ repeated es
unfolding repeated
changed_single es i existed =
    ap not (distinct_over file_isn same_pair (set es i (as_changed existed (get_or es i no_entry)))
    ∙ ap (distinct same_pair) (map-set_same file_isn es i (as_changed existed (get_or es i no_entry)) no_entry refl) ∙ sym (distinct_over file_isn same_pair es))

module _ (d : Definition) (capacity : ℕ) (store words images : List ℕ) (count : ℕ) (m : Made d capacity store words images count) where
  pub made_append : (e : Entry) → Shape e → known d (key_of e) ≡ true → holder (entries words count) e.file e.isn ≡ None → count < capacity
      → Made d capacity store (append words count e) images (count + 1)
  unfolding repeated
  made_append e s known_e free more =
      let es = entries_append words count e s (omega (arith, m.queue_room)) in
      record {
        store_room = m.store_room;
        queue_room = rw (length_append_entry words count e) m.queue_room;
        image_room = m.image_room;
        most = omega arith;
        each_known = rw (es, all_append (entry_known d) (entries words count) (e ∷ []), m.each_known, known_e);
        single = rw (es, distinct_last alike (entries words count) e, not-false (distinct alike (entries words count)) m.single, free_none e.file e.isn (entries words count) free);
      }

  -- a first change, or a later one
  pub made_first_change : (at : ℕ) (existed : Bool) (content : List ℕ) → at < count
      → Made d capacity store (first_change_queue words at existed) (first_change_images words images (image_length d) at existed content) count
  unfolding first_change_queue first_change_images keep_image
  made_first_change at existed content inside = go (settled words at)
    where
      long : (b x : Bool) → length (cond x (cond b (sets images (at * image_length d) content) images) images) ≡ length images
      long true true = length-sets images (at * image_length d) content
      long true false = refl
      long false true = refl
      long false false = refl

      go : (b : Bool) → Made d capacity store (cond b words (change words at existed)) (cond b images (cond existed (keep_image images (image_length d) at content) images)) count
      go true = m
      go false = record {
        store_room = m.store_room;
        queue_room = rw (length_change words at existed) m.queue_room;
        image_room = rw (long _ existed) m.image_room;
        most = m.most;
        each_known = rw (entries_change words count at existed inside) (changed_known d (entries words count) at existed ∙ m.each_known);
        single = rw (entries_change words count at existed inside) (changed_single (entries words count) at existed ∙ m.single);
      }

  pub made_remove : (which : Removal) → Made d capacity store (remove_queue words images count (image_length d) which) (remove_images words images count (image_length d) which) (remove_count words images count (image_length d) which)
  unfolding repeated
  made_remove which =
      let f = made_fits d capacity store words images count m in
      let es = entries_remove words images count (image_length d) which f in
      record {
        store_room = m.store_room;
        queue_room = rw (length_remove_queue words images count (image_length d) which f) m.queue_room;
        image_room = rw (length_remove_images words images count (image_length d) which f) m.image_room;
        most = omega (arith, remove_count_most words images count (image_length d) which, m.most);
        each_known = rw es (all_keeps (entry_known d) (stays which) (entries words count) m.each_known);
        single = rw (es, distinct_sift alike (stays which) (entries words count) (not-false (distinct alike (entries words count)) m.single));
      }

  -- another store that is long enough
  pub made_store : (store' : List ℕ) → store_size d ≤ length store' → Made d capacity store' words images count
  made_store store' h = record {
    store_room = h;
    queue_room = m.queue_room;
    image_room = m.image_room;
    most = m.most;
    each_known = m.each_known;
    single = m.single;
  }

  pub made_put : DefinitionShape d → (k : ℕ) (x : Slot) → Made d capacity (put d store k x) words images count
  made_put s k x = made_store (put d store k x) (put_room d s store k x)

  pub made_restore : DefinitionShape d → (user : ℕ) → Made d capacity (restore d (image_length d) user words images count store) words images count
  made_restore s user = made_store _ (omega (arith, restore_length d s user capacity store words images count m, m.store_room))
