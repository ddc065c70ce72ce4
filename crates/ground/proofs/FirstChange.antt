-- What the first change of an entry, and a later one, make of the abstract queue: the entry of the key is changed, with the slot that stands there
-- now as its image.
-- Assumes nothing.
use Rattle.std.specs.Prelude.{ℕ, zero, suc, ◌+◌, ◌*◌, ◌≤◌, ◌<◌, ◌≡◌, refl, Bool, true, false, cond, List, [], ◌∷◌, ◌++◌, map, eqb, length, take, drop, set, Some, None}
use Rattle.std.proofs.Common.{mul-le-mul_right, arith, ◌∙◌, append_assoc, length-append, length-take, length-drop, length-set, take-append-drop, drop-drop, take_all, get_or-take, length-take-le}
use Rattle.std.proofs.Math.Path.{sym, ap}
use Rattle.std.proofs.Math.ListN.{get_or}
use Rattle.std.proofs.lemmas.List.Edits.{sets, sets-eq}
use Rattle.std.proofs.Math.Seq.{paste, take_at, set-set, get_or-set_same}
use Rattle.std.proofs.lemmas.List.{drop-append-le, set-get_or}
use borrow.Author.Tests.{le-leb, lt-leb, eqb-true}
use Rattle.lists.specs.Tests.{Outcome, holds, fails, outcome, and_left, not_both}
use Rattle.lists.specs.Folds.{maximum, all_at}
use Rattle.definition.specs.Table.{beyond, file_at, file_count, files_of}
use Rattle.definition.specs.Shape.{DefinitionShape}
use Rattle.definition.specs.declared.Definition.{Definition}
use Rattle.records.specs.Records.{record_length}
use Rattle.layout.specs.Layout.{image_length}
use Rattle.changes.specs.Changes.{as_changed, change, keep_image, settled, first_change_queue, first_change_images}
use Rattle.queue.specs.Queue.{holder}
use Rattle.entries.specs.Entries.{entries}
use Rattle.lists.specs.Maps.{map_set}
use Rattle.entries.specs.Laws.{no_entry, length_entries}
use Rattle.changes.specs.Laws.{entries_change}
use Rattle.queue.specs.Laws.{Found, held_found}
use Rattle.entries.specs.declared.Entry.{Entry}
use Rattle.images.specs.Images.{hold_of, with_images}
use Rattle.images.specs.Laws.{with_images_set, with_images_image}
use Rattle.transactions.specs.Slots.{Slot}
use Rattle.transactions.specs.Machine.{Entry as MachineEntry, imaged_entry, image_kept}
use Rattle.ground.specs.Keys.{isn_bound, key, file_of, known, Known}
use Rattle.ground.proofs.Keys.{file_of_key, known_found, known_file}
use Rattle.ground.specs.Store.{get}
use Rattle.ground.proofs.StoreLaws.{get_fit, fit_form}
use Rattle.ground.specs.Queue.{key_of, before, held, queue_of, entry_known, Made}
use Rattle.ground.proofs.Reading.{single_at, found_inside, found_word, found_key, found_at, found_long, found_here}
use Rattle.transactions.proofs.Single.{image_kept_set, imaged_changed}

-- ---- an image is as wide as the widest file (`lists`, Folds, and `layout`, Laws)
maximum_at : {A : Type 0} (f : A → ℕ) (l : List A) (z : A) (i : ℕ) → i < length l → f (get_or l i z) ≤ maximum f l
maximum_at f [] z i h = absurd (omega arith)
maximum_at f (x ∷ l) z zero h = omega arith
maximum_at f (x ∷ l) z (suc i) h = omega (arith, maximum_at f l z i (omega arith))

pub image_wide : (d : Definition) → DefinitionShape d → (i : ℕ) → i < file_count d → record_length (file_at d i) ≤ image_length d
unfolding image_length
image_wide d s i h =
    let long : length (files_of d) ≡ file_count d = length-take-le (file_count d) d.files (omega (arith, s.places)) in
    rw (get_or-take (file_count d) d.files i beyond h) at (maximum_at record_length (files_of d) beyond i (omega arith))

-- ---- bytes at the front of a block, as a block written whole
module _ (images content : List ℕ) (start width : ℕ) (fits : length content ≤ width) (room : start + width ≤ length images) where
  abbrev pub block : List ℕ
  block = content ++ drop (length content) (take width (drop start images))

  pub block_width : length block ≡ width
  block_width = simp (length-append, length-drop, length-take) (omega arith)

  pub sets_block : sets images start content ≡ paste images start block width
  sets_block =
      let n = length content in
      let inner : List ℕ = take width (drop start images) in
      let split : drop (start + n) images ≡ drop n inner ++ drop (start + width) images =
      sym (drop-drop n start images) ∙ ap (drop n) (sym (take-append-drop width (drop start images)))
      ∙ drop-append-le n inner (drop width (drop start images)) (simp (length-take, length-drop) (omega arith))
      ∙ ap (λ r. drop n inner ++ r) (drop-drop width start images) in
      rw (sets-eq content images start (omega arith), split, take_all width block (omega (arith, block_width))) (simp append_assoc)

-- ---- one entry
module _ (d : Definition) where
  -- the entry changed, with the slot in its image, is the machine's entry with that image
  held_imaged : (e : Entry) (existed : Bool) (content old new : List ℕ) → e.changed ≡ false → (existed ≡ true → take (record_length (file_of d e.file)) new ≡ content)
      → held d (hold_of (as_changed existed e) new) ≡ imaged_entry (cond existed (Some content) None) (held d (hold_of e old))
  held_imaged e existed content old new h w = λ j. record {
    user = e.user;
    key = key_of e;
    changed = true;
    image = (go existed w ∙ sym (ap (λ b. cond b (cond b (before d e old) None) (cond existed (Some content) None)) h)) j;
  }
    where
      go : (b : Bool) → (b ≡ true → take (record_length (file_of d e.file)) new ≡ content)
          → ◌≡◌ {A = Slot} (cond b (Some (take (record_length (file_of d e.file)) new)) None) (cond b (Some content) None)
      go true t = ap Some (t refl)
      go false t = refl

-- ---- the change, in a well made state, of the entry that `holder` finds, by a slot that has a record (`existed`, with its `content`) or none
module _ (d : Definition) (s : DefinitionShape d) (capacity : ℕ) (store words images : List ℕ) (count : ℕ) (m : Made d capacity store words images count)
    (file isn at : ℕ) (e : Entry) (small : isn < isn_bound) (found : holder (entries words count) file isn ≡ Some (at, e))
    (existed : Bool) (content : List ℕ) (now : get d store (key file isn) ≡ cond existed (Some content) None) where
  abbrev width : ℕ
  width = image_length d

  abbrev k : ℕ
  k = key file isn

  abbrev es : List Entry
  es = entries words count

  abbrev q : List MachineEntry
  q = queue_of d words images count

  abbrev z : MachineEntry
  z = held d (hold_of no_entry [])

  abbrev f : Found es file isn at e
  f = held_found file isn es at e found

  inside : at < count
  inside = found_inside d words images count m.single file isn at e found

  key_is : key_of e ≡ k
  key_is = found_key d words images count m.single file isn at e found

  pub found_known : known d k ≡ true
  found_known = rw (← key_is, ← f.stands) (all_at (entry_known d) es no_entry m.each_known at f.inside)

  file_is : e.file ≡ file
  file_is = eqb-true e.file file (and_left (eqb e.file file) (eqb e.isn isn) f.matches)

  abbrev home : Known d k
  home = known_found d s k found_known

  file_home : file_of d e.file ≡ file_at d home.at
  file_home = ap (file_of d) (file_is ∙ sym (file_of_key file isn small)) ∙ known_file d k home

  content_width : existed ≡ true → length content ≡ record_length (file_at d home.at)
  content_width h =
      let fits = rw (now, h) at (get_fit d s store k found_known) in
      eqb-true (length content) (record_length (file_at d home.at)) (fit_form d s k (Some content) fits home.at home.found)

  settled_is : settled words at ≡ e.changed
  unfolding settled
  settled_is = rw (found_word d words images count m.single file isn at e found, lt-leb (length words) at (omega (arith, inside, m.most, m.queue_room)))

  blocks : count * width ≤ length images
  blocks = omega (arith, mul-le-mul_right width m.most, m.image_room)

  -- the machine changes the entry at its place
  machine_images_kept : map (image_kept k (get d store k)) q ≡ set q at (imaged_entry (get d store k) (held d (hold_of e (take width (drop (at * width) images)))))
  machine_images_kept =
      image_kept_set k z (get d store k) q at (found_long d words images count m.single file isn at e found) (found_here d words images count m.single file isn at e found)
      (single_at d words images count m.single k)
      ∙ ap (λ x. set q at (imaged_entry (get d store k) x)) (found_at d words images count m.single file isn at e found)

  -- a later change
  later : e.changed ≡ true → queue_of d (first_change_queue words at existed) (first_change_images words images width at existed content) count ≡ map (image_kept k (get d store k)) q
  unfolding first_change_queue first_change_images
  later c =
      let stays : imaged_entry (get d store k) (held d (hold_of e (take width (drop (at * width) images)))) ≡ get_or q at z =
      imaged_changed (get d store k) (held d (hold_of e (take width (drop (at * width) images)))) c ∙ sym (found_at d words images count m.single file isn at e found) in
      rw (settled_is, c, machine_images_kept, stays) (sym (set-get_or q at z))

  -- the first one: the entry changed, and a block of which the front is the record
  record First (new : List ℕ) (images' : List ℕ) : Type 0 where
    reads : queue_of d (change words at existed) images' count ≡ set q at (held d (hold_of (as_changed existed e) new))
    front : existed ≡ true → take (record_length (file_of d e.file)) new ≡ content

  first_ends : (new images' : List ℕ) → e.changed ≡ false → First new images' → queue_of d (change words at existed) images' count ≡ map (image_kept k (get d store k)) q
  first_ends new images' c r =
      r.reads ∙ ap (set q at) (held_imaged d e existed content (take width (drop (at * width) images)) new c r.front ∙ ap (λ x. imaged_entry x (held d (hold_of e (take width (drop (at * width) images))))) (sym now))
      ∙ sym machine_images_kept

  abbrev e' : Entry
  e' = as_changed existed e

  entries_after : entries (change words at existed) count ≡ set es at e'
  entries_after = entries_change words count at existed inside ∙ ap (λ x. set es at (as_changed existed x)) f.stands

  none_before : existed ≡ false → First (take width (drop (at * width) images)) images
  unfolding queue_of
  none_before n = record {
    reads = rw (entries_after, with_images_set width es at e' images f.inside) (map_set (held d) (with_images width es images) at (hold_of e' (take width (drop (at * width) images))));
    front = λ y. not_both existed y n;
  }

  module _ (was : existed ≡ true) where
    fits : length content ≤ width
    fits = omega (arith, content_width was, image_wide d s home.at home.in_use)

    block_end : (at + 1) * width ≤ length images
    block_end = let n : at + 1 ≤ count = omega (arith, inside) in omega (arith, mul-le-mul_right width n, blocks)

    room : at * width + width ≤ length images
    room = omega (arith, block_end)

    kept : keep_image images width at content ≡ sets images (at * width) content
    unfolding keep_image
    kept = rw (le-leb (length content) width fits, le-leb ((at + 1) * width) (length images) block_end)

    long : length (set es at e') * width ≤ length images
    long = let n : length es ≤ count = omega (arith, length_entries words count) in rw (length-set es at e') (omega (arith, mul-le-mul_right width n, blocks))

    some_before : First (block images content (at * width) width fits room) (sets images (at * width) content)
    unfolding queue_of
    some_before =
        let new = block images content (at * width) width fits room in
        record {
          reads =
              rw (
                entries_after,
                sets_block images content (at * width) width fits room,
                with_images_image width (set es at e') at no_entry images new (rw (length-set es at e') f.inside) long (block_width images content (at * width) width fits room),
                with_images_set width es at e' images f.inside,
                set-set (with_images width es images) at (hold_of e' (take width (drop (at * width) images))) (hold_of (get_or (set es at e') at no_entry) new),
                get_or-set_same es at e' no_entry f.inside,
              )
              (map_set (held d) (with_images width es images) at (hold_of e' new));
          front = λ y. take_at content _ (record_length (file_of d e.file)) (content_width was ∙ sym (ap record_length file_home));
        }

  pub queue_first_change : queue_of d (first_change_queue words at existed) (first_change_images words images width at existed content) count ≡ map (image_kept k (get d store k)) q
  unfolding first_change_queue first_change_images
  queue_first_change = go (outcome e.changed) (outcome existed)
    where
      written : {b : Bool} → existed ≡ b → queue_of d (change words at existed) (cond existed (keep_image images width at content) images) count
          ≡ queue_of d (change words at existed) (cond b (keep_image images width at content) images) count
      written h = ap (λ b. queue_of d (change words at existed) (cond b (keep_image images width at content) images) count) h

      go : Outcome e.changed → Outcome existed → queue_of d (first_change_queue words at existed) (first_change_images words images width at existed content) count ≡ map (image_kept k (get d store k)) q
      go (holds c) b = later c
      go (fails c) (fails n) = rw (settled_is, c) (written n ∙ first_ends _ images c (none_before n))
      go (fails c) (holds y) = rw (settled_is, c) (written y ∙ ap (λ l. queue_of d (change words at existed) l count) (kept y) ∙ first_ends _ _ c (some_before y))
