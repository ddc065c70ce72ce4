-- Laws of removal: what it leaves of the entries and of their images is what stays of them, in order.
-- Assumes nothing.
use Rattle.std.specs.Prelude.{ℕ, zero, suc, ◌*◌, ◌≤◌, ◌≡◌, refl, Bool, true, false, List, [], ◌∷◌, ◌++◌, map, leb, length, take, drop}
use Rattle.std.proofs.Math.Nat.{mul-one}
use Rattle.std.proofs.Common.{arith, ap, ◌∙◌, append_assoc, length-take, length-drop, take_at, drop_at, leb-true}
use Rattle.std.proofs.Math.ListN.{length-map}
use Rattle.lists.specs.Tests.{cond, Outcome, holds, fails, outcome, and_left, and_right, or_left, or_right}
use Rattle.lists.specs.Folds.{any, all}
use Rattle.entries.specs.Entries.{unpack_of, entries}
use Rattle.entries.specs.Laws.{entries_are, length_entries}
use Rattle.lists.specs.Sift.{sift}
use Rattle.removal.specs.Closing.{set_count, set_count_most, set_count_all, picked, closed, closed_is, closed_front, closed_all, length_closed}
use Rattle.removal.specs.Removal.{goes, stays, staying, fits, remove_queue, remove_images, remove_count}
use Rattle.images.specs.Images.{with_images}
use Rattle.entries.specs.declared.Entry.{Entry}
use Rattle.removal.specs.declared.Removal.{Removal}

-- ---- what stays is closed up with its images
module _ (width : ℕ) where
  pub with_images_sift : (p : Entry → Bool) (es : List Entry) (images rest : List ℕ) → length es * width ≤ length images
      → with_images width (sift p es) (picked width (map p es) images ++ rest) ≡ sift (λ h. p h.entry) (with_images width es images)
  with_images_sift p [] images rest room = refl
  with_images_sift p (e ∷ es) images rest room = go (outcome (p e)) (with_images_sift p es (drop width images) rest (simp length-drop (omega arith)))
    where
      go : Outcome (p e) → with_images width (sift p es) (picked width (map p es) (drop width images) ++ rest) ≡ sift (λ h. p h.entry) (with_images width es (drop width images))
          → with_images width (sift p (e ∷ es)) (picked width (map p (e ∷ es)) images ++ rest) ≡ sift (λ h. p h.entry) (with_images width (e ∷ es) images)
      go (holds t) i =
          let l : length (take width images) ≡ width = simp length-take (omega arith) in
          let more : List ℕ = picked width (map p es) (drop width images) ++ rest in
          rw (t, append_assoc (take width images) (picked width (map p es) (drop width images)) rest, take_at (take width images) more width l, drop_at (take width images) more width l, i)
      go (fails t) i = rw t i

-- the words that stay are the entries that stay
words_sift : (p : Entry → Bool) (count : ℕ) (words : List ℕ) → map unpack_of (picked 1 (map p (map unpack_of (take count words))) words) ≡ sift p (map unpack_of (take count words))
words_sift p zero words = refl
words_sift p (suc count) [] = refl
words_sift p (suc count) (w ∷ words) = go (outcome (p (unpack_of w))) (words_sift p count words)
  where
    go : Outcome (p (unpack_of w)) → map unpack_of (picked 1 (map p (map unpack_of (take count words))) words) ≡ sift p (map unpack_of (take count words))
        → map unpack_of (picked 1 (map p (map unpack_of (take (suc count) (w ∷ words)))) (w ∷ words)) ≡ sift p (map unpack_of (take (suc count) (w ∷ words)))
    go (holds t) i = rw t (ap (λ l. unpack_of w ∷ l) i)
    go (fails t) i = rw t i

-- ---- removal
module _ (words images : List ℕ) (count width : ℕ) (which : Removal) where
  abbrev F : List Bool
  F = staying which (entries words count)

  pub remove_count_most : remove_count words images count width which ≤ count
  unfolding remove_count
  remove_count_most = go (outcome (fits words images count width))
    where
      go : Outcome (fits words images count width) → cond (fits words images count width) (set_count F) count ≤ count
      go (holds t) = rw t (omega (arith, set_count_most F, length-map (entries words count) (stays which), length_entries words count))
      go (fails t) = rw t (omega arith)

  -- nothing changes where something is too short
  module _ (short : fits words images count width ≡ false) where
    pub remove_short_count : remove_count words images count width which ≡ count
    unfolding remove_count
    remove_short_count = rw short

    pub remove_short_queue : remove_queue words images count width which ≡ words
    unfolding remove_queue
    remove_short_queue = rw short

    pub remove_short_images : remove_images words images count width which ≡ images
    unfolding remove_images
    remove_short_images = rw short

  module _ (room : fits words images count width ≡ true) where
    enough : count ≤ length words
    enough = leb-true count (length words) (and_left (leb count (length words)) (leb (count * width) (length images)) room)

    blocks : count * width ≤ length images
    blocks = leb-true (count * width) (length images) (and_right (leb count (length words)) (leb (count * width) (length images)) room)

    size : length F ≡ count
    size = length-map (entries words count) (stays which) ∙ omega (arith, length_entries words count, enough)

    word_room : length F * 1 ≤ length words
    word_room = omega (arith, size, enough)

    image_room : length F * width ≤ length images
    image_room = rw size blocks

    pub length_remove_queue : length (remove_queue words images count width which) ≡ length words
    unfolding remove_queue
    length_remove_queue = rw room (length_closed 1 F words word_room)

    pub length_remove_images : length (remove_images words images count width which) ≡ length images
    unfolding remove_images
    length_remove_images = rw room (length_closed width F images image_room)

    -- the entries that stay, in order
    pub entries_remove : entries (remove_queue words images count width which) (remove_count words images count width which) ≡ sift (stays which) (entries words count)
    unfolding remove_queue remove_count
    entries_remove =
        let k : set_count F * 1 ≡ set_count F = mul-one (set_count F) in
        entries_are (remove_queue words images count width which) (remove_count words images count width which)
        ∙ rw (room, ← k, closed_front 1 F words word_room, entries_are words count) (words_sift (stays which) count words)

    images_are : remove_images words images count width which ≡ picked width F images ++ drop (set_count F * width) images
    unfolding remove_images
    images_are = rw room (closed_is width F images image_room)

    -- each with its image
    pub with_images_remove : with_images width (entries (remove_queue words images count width which) (remove_count words images count width which)) (remove_images words images count width which)
        ≡ sift (λ h. stays which h.entry) (with_images width (entries words count) images)
    with_images_remove =
        let inside : length (entries words count) * width ≤ length images = rw (← (length-map (entries words count) (stays which))) image_room in
        rw (entries_remove, images_are) (with_images_sift width (stays which) (entries words count) images (drop (set_count F * width) images) inside)

-- ---- where none goes, nothing changes
none_goes : (which : Removal) (es : List Entry) → any (goes which) es ≡ false → all (λ b. b) (staying which es) ≡ true
none_goes which [] h = refl
none_goes which (e ∷ es) h = rw (or_left (goes which e) (any (goes which) es) h) (none_goes which es (or_right (goes which e) (any (goes which) es) h))

module _ (words images : List ℕ) (count width : ℕ) (which : Removal) (none : any (goes which) (entries words count) ≡ false) where
  pub remove_none_queue : remove_queue words images count width which ≡ words
  unfolding remove_queue
  remove_none_queue = go (outcome (fits words images count width))
    where
      go : Outcome (fits words images count width) → cond (fits words images count width) (closed 1 (F words images count width which) words) words ≡ words
      go (holds t) = rw t (closed_all 1 (F words images count width which) words (word_room words images count width which t) (none_goes which (entries words count) none))
      go (fails t) = rw t

  pub remove_none_count : remove_count words images count width which ≡ count
  unfolding remove_count
  remove_none_count = go (outcome (fits words images count width))
    where
      go : Outcome (fits words images count width) → cond (fits words images count width) (set_count (F words images count width which)) count ≡ count
      go (holds t) = rw t (set_count_all (F words images count width which) (none_goes which (entries words count) none) ∙ size words images count width which t)
      go (fails t) = rw t
