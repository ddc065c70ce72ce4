-- Unique values that another user's image keeps: `image_has` is what the abstract machine asks of its queue (`taken`).
-- Assumes nothing.
use Rattle.std.specs.Prelude.{ℕ, ◌+◌, ◌<◌, ◌≡◌, Bool, true, false, not, cond, ◌&&◌, ◌||◌, eqb, length, drop, Some, None}
use Rattle.std.proofs.Common.{arith, ◌∙◌, eqb-true}
use Rattle.std.proofs.Math.Path.{refl, sym, ap}
use mathlib.Core.List.{List, [], ◌∷◌}
use Rattle.std.proofs.Math.ListN.{take}
use Rattle.lists.specs.Tests.{eqbs, not_both, eqb_comm, eqbs_comm}
use Rattle.lists.specs.Folds.{any, Each}
use Rattle.definition.specs.Table.{field_at, field_count}
use Rattle.definition.specs.Shape.{FileShape}
use Rattle.definition.specs.declared.File.{File}
use Rattle.definition.specs.declared.Definition.{Definition}
use Rattle.records.specs.Records.{field_length, field_offset, record_length}
use Rattle.layout.specs.Layout.{image_length}
use Rattle.records.specs.Laws.{field_within}
use Rattle.entries.specs.Entries.{entries}
use Rattle.entries.specs.declared.Entry.{Entry}
use Rattle.lists.specs.Numbers.{numbers, each_number}
use Rattle.lists.specs.Pieces.{piece_piece}
use Rattle.lists.specs.Parts.{length_piece}
use Rattle.store.specs.Store.{field_value}
use Rattle.images.specs.Images.{has_at, image_has}
use Rattle.transactions.specs.Slots.{Slot}
use Rattle.transactions.specs.Machine.{Entry as MachineEntry, of_user, at_key, held_by_other, clash}
use Rattle.lists.specs.Every.{any_each, each_with, each_fails, any_never, any_swap}
use Rattle.lists.specs.Sift.{each_sift}
use Rattle.ground.specs.Keys.{key_file, file_of}
use Rattle.ground.proofs.Keys.{file_of_key}
use Rattle.ground.specs.Queue.{holds_of, queue_of}
use Rattle.ground.proofs.Reading.{Small, entries_small}
use Rattle.ground.specs.Ground.{Updates, ground, uniques}

-- the slot has a record with the value in its field at place j
abbrev pub has_value : File → ℕ → List ℕ → Slot → Bool
has_value f j v None = false
has_value f j v (Some b) = eqbs v (field_value f j b)

-- a changed entry of another user, of the file
abbrev pub foreign : ℕ → ℕ → MachineEntry → Bool
foreign u file e = e.changed && not (of_user u e) && eqb file (key_file e.key)

module _ (d : Definition) (file : ℕ) (s : FileShape (file_of d file)) where
  abbrev f : File
  f = file_of d file

  module _ (j : ℕ) (in_use : j < field_count f) (v : List ℕ) (size : length v ≡ field_length (field_at f j)) where
    -- the value stands in the image where it stands in the record
    has_at_is : (image : List ℕ) → has_at (field_offset f j) v image ≡ eqbs v (field_value f j (take (record_length f) image))
    has_at_is image =
        let front = piece_piece (field_offset f j) (field_length (field_at f j)) 0 (record_length f) image (field_within f s j in_use) in
        let z : 0 + field_offset f j ≡ field_offset f j = omega arith in
        rw (size, rw z at front) (eqbs_comm _ v)

    entry_test : (u c g x : Bool) (image : List ℕ) (t : Bool) → (g ≡ true → t ≡ eqbs v (field_value f j image))
        → (not u && (g && (c && x)) && t) ≡ (c && not u && g && has_value f j v (cond c (cond x (Some image) None) None))
    entry_test true true g x image t h = refl
    entry_test true false g x image t h = refl
    entry_test false true true true image t h = h refl
    entry_test false true true false image t h = refl
    entry_test false true false x image t h = refl
    entry_test false false true x image t h = refl
    entry_test false false false x image t h = refl

    pub image_has_is : (es : List Entry) → Small es → (u : ℕ) (images : List ℕ)
        → image_has es images (image_length d) u file (field_offset f j) v ≡ any (λ (e : MachineEntry). foreign u file e && has_value f j v e.image) (holds_of d es images)
    unfolding image_has
    image_has_is [] h u images = refl
    image_has_is (e ∷ es) h u images =
        let image = take (image_length d) images in
        rw (image_has_is es h.1 u (drop (image_length d) images), file_of_key e.file e.isn h.0, eqb_comm file e.file)
        (ap (λ b. b || any (λ (x : MachineEntry). foreign u file x && has_value f j v x.image) (holds_of d es (drop (image_length d) images)))
        (entry_test (eqb e.user u) e.changed (eqb e.file file) e.existed (take (record_length (file_of d e.file)) image) (has_at (field_offset f j) v image)
        (λ g. has_at_is image ∙ ap (λ n. eqbs v (field_value f j (take (record_length (file_of d n)) image))) (sym (eqb-true e.file file g)))))

-- ---- the machine's question about the images, for a record that is new at a key
other_test : (c u a g t : Bool) → (a && not u) ≡ false → (c && not u && (not a && g && t)) ≡ (c && not u && g && t)
other_test true true a g t h = refl
other_test true false true g t h = not_both true refl h
other_test true false false g t h = refl
other_test false u a g t h = refl

pub uniques_in_use : (f : File) → Each (λ j. j < field_count f) (uniques f)
unfolding uniques
uniques_in_use f = each_sift (λ j. j < field_count f) _ (numbers (field_count f) 0) (each_number (λ j. j < field_count f) (field_count f) 0 (λ j a b. omega arith))

pub value_length : (f : File) → FileShape f → (j : ℕ) → j < field_count f → (r : List ℕ) → length r ≡ record_length f → length (field_value f j r) ≡ field_length (field_at f j)
value_length f s j h r e = length_piece (field_offset f j) (field_length (field_at f j)) r (omega (arith, field_within f s j h))

module _ (d : Definition) (U : Updates) (lent : List ℕ) (k : ℕ) (s : FileShape (file_of d (key_file k))) (c : U.Update) (r : List ℕ) (wide : length r ≡ record_length (file_of d (key_file k))) where
  abbrev of_file : File
  of_file = file_of d (key_file k)

  pub clash_is : (x : Slot) → clash (ground d U lent) c (key_file k) r x ≡ any (λ j. U.judges c j && has_value of_file j (field_value of_file j r) x) (uniques of_file)
  unfolding clash
  clash_is None = sym (any_never (U.judges c) (uniques of_file))
  clash_is (Some b) = refl

  module _ (u : ℕ) (words images : List ℕ) (count : ℕ) where
    abbrev q : List MachineEntry
    q = queue_of d words images count

    abbrev asked : MachineEntry → Bool
    asked e = e.changed && not (of_user u e) && (not (eqb k e.key) && eqb (key_file k) (key_file e.key) && clash (ground d U lent) c (key_file k) r e.image)

    abbrev met : MachineEntry → Bool
    met e = foreign u (key_file k) e && any (λ j. U.judges c j && has_value of_file j (field_value of_file j r) e.image) (uniques of_file)

    asked_met : (e : MachineEntry) → (at_key k e && not (of_user u e)) ≡ false → asked e ≡ met e
    asked_met e h =
        rw (clash_is e.image, eqb_comm k e.key)
        (other_test e.changed (of_user u e) (at_key k e) (eqb (key_file k) (key_file e.key)) (any (λ j. U.judges c j && has_value of_file j (field_value of_file j r) e.image) (uniques of_file)) h)

    -- where nobody else holds the key, it is `image_has` of each unique field that the change judges
    pub images_clash : held_by_other u k q ≡ false
        → any asked q ≡ any (λ j. U.judges c j && image_has (entries words count) images (image_length d) u (key_file k) (field_offset of_file j) (field_value of_file j r)) (uniques of_file)
    unfolding queue_of
    images_clash free =
        any_each asked met q (each_with _ _ asked_met q (each_fails _ q free))
        ∙ any_swap (foreign u (key_file k)) (U.judges c) (λ j e. has_value of_file j (field_value of_file j r) e.image) q (uniques of_file)
        ∙ any_each _ _ (uniques of_file) (each_with _ _ field (uniques of_file) (uniques_in_use of_file))
      where
        field : (j : ℕ) → j < field_count of_file
            → (U.judges c j && any (λ (e : MachineEntry). foreign u (key_file k) e && has_value of_file j (field_value of_file j r) e.image) q)
            ≡ (U.judges c j && image_has (entries words count) images (image_length d) u (key_file k) (field_offset of_file j) (field_value of_file j r))
        field j h = ap (λ b. U.judges c j && b)
            (sym (image_has_is d (key_file k) s j h (field_value of_file j r) (value_length of_file s j h r wide) (entries words count) (entries_small words count) u images))
