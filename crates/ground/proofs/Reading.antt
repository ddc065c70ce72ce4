-- What is found in the queue is what the abstract queue has: who holds a key, and that no key is held twice.
-- Assumes nothing.
use Rattle.std.specs.Prelude.{ℕ, zero, suc, ◌+◌, ◌*◌, ◌<◌, ◌≡◌, refl, Bool, true, false, not, ◌&&◌, List, [], ◌∷◌, eqb, length, take, drop, get_or, Option, Some, None}
use Rattle.std.proofs.Common.{le_of_suc-le-suc, not-suc-le-zero, arith, ◌∙◌, drop-drop, eqb-true}
use Rattle.std.proofs.Math.Path.{sym, ap}
use Rattle.std.proofs.Math.Bool.{and-true, or-false}
use Rattle.std.proofs.lemmas.List.{length-map}
use Rattle.std.proofs.lemmas.Bool.{not-true, not-false}
use Rattle.lists.specs.Tests.{Outcome, holds, fails, outcome, and_left, and_right, or_left, or_right, eqb_self, eqb_sym}
use Rattle.lists.specs.Folds.{any, distinct, Each, each_index}
use Rattle.lists.specs.Sift.{sift_none, any_sift}
use Rattle.definition.specs.declared.Definition.{Definition}
use Rattle.layout.specs.Layout.{image_length}
use Rattle.entries.specs.Entries.{unpack_of, is_of, entries}
use Rattle.repeats.specs.Repeats.{alike, repeated}
use Rattle.queue.specs.Queue.{holder}
use Rattle.entries.specs.Laws.{no_entry, unpack_shape, length_entries, entry_at}
use Rattle.queue.specs.Laws.{is_held, held_any, Found, held_found}
use Rattle.entries.specs.declared.Entry.{Entry}
use Rattle.images.specs.Images.{hold_of, with_images}
use Rattle.images.specs.Laws.{length_with_images}
use Rattle.transactions.specs.Machine.{Entry as MachineEntry, of_user, at_key, held_by_other}
use Rattle.transactions.specs.View.{Single, nobody, holder as one, at}
use Rattle.ground.specs.Keys.{isn_bound, key}
use Rattle.ground.proofs.Keys.{key_test}
use Rattle.ground.specs.Queue.{key_of, held, holds_of, queue_of}
use Rattle.transactions.proofs.Single.{at_index}

-- ---- of any list of entries whose ISNs fit their bytes
abbrev pub Small : List Entry → Type 0
Small es = Each (λ e. e.isn < isn_bound) es

module _ (d : Definition) where
  abbrev width : ℕ
  width = image_length d

  -- the entry with its image at a place (`images`, Laws)
  pub hold_at : (es : List Entry) (images : List ℕ) (i : ℕ) → i < length es
      → get_or (holds_of d es images) i (held d (hold_of no_entry [])) ≡ held d (hold_of (get_or es i no_entry) (take width (drop (i * width) images)))
  hold_at [] images i h = absurd (not-suc-le-zero h)
  hold_at (e ∷ es) images zero h = let z : 0 * width ≡ 0 = omega arith in rw z
  hold_at (e ∷ es) images (suc i) h =
      let z : suc i * width ≡ width + i * width = omega arith in
      rw (z, ← (drop-drop (i * width) width images)) (hold_at es (drop width images) i (le_of_suc-le-suc h))

  pub length_holds : (es : List Entry) (images : List ℕ) → length (holds_of d es images) ≡ length es
  length_holds es images = length-map (with_images width es images) (held d) ∙ length_with_images width es images

  module _ (file isn : ℕ) (small : isn < isn_bound) where
    pub any_held : (p : ℕ → Bool) (es : List Entry) (images : List ℕ) → Small es
        → any (λ (e : MachineEntry). at_key (key file isn) e && p e.user) (holds_of d es images) ≡ any (λ e. is_of file isn e && p e.user) es
    any_held p [] images h = refl
    any_held p (e ∷ es) images h = rw (key_test e.file e.isn file isn h.0 small, any_held p es (drop width images) h.1)

  -- an entry's key is not that of a later one
  unlike : (k : ℕ) (e : Entry) → e.isn < isn_bound → eqb (key_of e) k ≡ true → (es : List Entry) (images : List ℕ) → Small es → any (alike e) es ≡ false → any (at_key k) (holds_of d es images) ≡ false
  unlike k e small here [] images h n = refl
  unlike k e small here (f ∷ es) images h n =
      let apart : eqb (key_of e) (key_of f) ≡ false = key_test e.file e.isn f.file f.isn small h.0 ∙ or_left (alike e f) (any (alike e) es) n in
      let other : eqb (key_of f) k ≡ false = rw (← (eqb-true (key_of e) k here)) (eqb_sym (key_of e) (key_of f) apart) in
      rw other (unlike k e small here es (drop width images) h.1 (or_right (alike e f) (any (alike e) es) n))

  pub single_held : (k : ℕ) (es : List Entry) (images : List ℕ) → Small es → distinct alike es ≡ true → Single (at k (holds_of d es images))
  single_held k [] images h u = nobody
  single_held k (e ∷ es) images h u = go (outcome (eqb (key_of e) k)) (single_held k es (drop width images) h.1 (and_right (not (any (alike e) es)) (distinct alike es) u))
    where
      go : Outcome (eqb (key_of e) k) → Single (at k (holds_of d es (drop width images))) → Single (at k (holds_of d (e ∷ es) images))
      go (holds t) r = rw (t, sift_none (at_key k) (holds_of d es (drop width images)) (unlike k e h.0 t es (drop width images) h.1 (not-true _ (and_left (not (any (alike e) es)) (distinct alike es) u)))) (one _)
      go (fails t) r = rw t r

-- ---- of the entries in use
pub entries_small : (words : List ℕ) (count : ℕ) → Small (entries words count)
entries_small words count = each_index (λ e. e.isn < isn_bound) no_entry (entries words count) here
  where
    here : (i : ℕ) → i < length (entries words count) → (get_or (entries words count) i no_entry).isn < isn_bound
    here i h = let m : i < count = omega (arith, length_entries words count) in rw (entry_at words count i m) (unpack_shape (get_or words i 0)).isn

-- the user of an entry that was found passes the test
abbrev pub found_passes : (ℕ → Bool) → Option (ℕ × Entry) → Bool
found_passes p (Some (i, e)) = p e.user
found_passes p None = false

module _ (d : Definition) (words images : List ℕ) (count : ℕ) where
  abbrev q : List MachineEntry
  q = queue_of d words images count

  module _ (file isn : ℕ) (small : isn < isn_bound) where
    -- somebody holds the key: as `holder` says
    pub held_key : any (at_key (key file isn)) q ≡ is_held (holder (entries words count) file isn)
    unfolding queue_of
    held_key =
        simp and-true at (any_held d file isn small (λ u. true) (entries words count) images (entries_small words count))
        ∙ sym (held_any file isn (entries words count))

  module _ (single : repeated (entries words count) ≡ false) where
    -- no key twice
    pub single_at : (k : ℕ) → Single (at k q)
    unfolding queue_of repeated
    single_at k = single_held d k (entries words count) images (entries_small words count) (not-false (distinct alike (entries words count)) single)

    module _ (file isn i : ℕ) (e : Entry) (found : holder (entries words count) file isn ≡ Some (i, e)) where
      abbrev place : Found (entries words count) file isn i e
      place = held_found file isn (entries words count) i e found

      abbrev block : List ℕ
      block = take (image_length d) (drop (i * image_length d) images)

      pub found_inside : i < count
      found_inside = omega (arith, place.inside, length_entries words count)

      pub found_word : unpack_of (get_or words i 0) ≡ e
      found_word = sym (entry_at words count i found_inside) ∙ place.stands

      pub found_key : key_of e ≡ key file isn
      found_key = rw (eqb-true e.file file (and_left (eqb e.file file) (eqb e.isn isn) place.matches), eqb-true e.isn isn (and_right (eqb e.file file) (eqb e.isn isn) place.matches))

      pub found_at : get_or q i (held d (hold_of no_entry [])) ≡ held d (hold_of e block)
      unfolding queue_of
      found_at = hold_at d (entries words count) images i place.inside ∙ ap (λ x. held d (hold_of x block)) place.stands

      pub found_long : i < length q
      unfolding queue_of
      found_long = omega (arith, place.inside, length_holds d (entries words count) images)

      pub found_here : at_key (key file isn) (get_or q i (held d (hold_of no_entry []))) ≡ true
      found_here = rw (found_at, found_key) (eqb_self (key file isn))

      -- the one entry of its key
      pub found_one : at (key file isn) q ≡ held d (hold_of e block) ∷ []
      found_one = at_index (key file isn) (held d (hold_of no_entry [])) q i found_long found_here (single_at (key file isn)) ∙ ap (λ x. x ∷ []) found_at

    -- another user holds the key: as `holder` says (response 145)
    pub other_holds : (file isn : ℕ) → isn < isn_bound → (u : ℕ)
        → held_by_other u (key file isn) q ≡ found_passes (λ v. not (eqb v u)) (holder (entries words count) file isn)
    other_holds file isn small u = go (holder (entries words count) file isn) refl
      where
        go : (r : Option (ℕ × Entry)) → holder (entries words count) file isn ≡ r → held_by_other u (key file isn) q ≡ found_passes (λ v. not (eqb v u)) r
        go (Some (i, e)) found =
            sym (any_sift (at_key (key file isn)) (λ (x : MachineEntry). not (of_user u x)) q)
            ∙ rw (found_one file isn i e found) (or-false (not (eqb e.user u)))
        go None found =
            sym (any_sift (at_key (key file isn)) (λ (x : MachineEntry). not (of_user u x)) q)
            ∙ rw (sift_none (at_key (key file isn)) q (held_key file isn small ∙ ap is_held found))
