-- Laws of picking out: one turn of `pick_out`, its ends, and which entries the words are.
-- Assumes nothing.
use Rattle.std.specs.Prelude.{ℕ, suc, ◌+◌, ◌-◌, ◌≤◌, ◌<◌, min, ◌≡◌, refl, true, false, List, [], ◌∷◌, map, length, take, drop, get_or, set}
use Rattle.std.proofs.Common.{add-one, ◌∙◌, length-take, drop_of_length-le, get_or-take}
use native.Mathlib.Omega.{arith}
use Rattle.std.proofs.Math.Path.{sym, ap}
use Rattle.std.proofs.lemmas.List.{length-map}
use Rattle.std.proofs.lemmas.List.Edits.{sets}
use Rattle.std.proofs.Math.Seq.{take-nil}
use Rattle.lists.specs.Tests.{Outcome, holds, fails, outcome}
use Rattle.lists.specs.Sift.{sift}
use Rattle.lists.specs.Rest.{drop_more}
use Rattle.lists.specs.Parts.{sets_same}
use Rattle.lists.specs.Maps.{take_map}
use Rattle.entries.specs.Entries.{unpack_of, entries}
use Rattle.entries.specs.Laws.{entries_are}
use Rattle.removal.specs.Removal.{goes, going, picked_out}
use Rattle.removal.specs.declared.Removal.{Removal}

-- ---- a loop over the words, which has written some of those that go
module _ (which : Removal) (words : List ℕ) (count places : ℕ) where
  -- what is left to be written
  abbrev pub unpicked : ℕ → ℕ → List ℕ
  unpicked i written = take (places - written) (going which (drop i (take count words)))

  pub unpicked_all : unpicked 0 0 ≡ picked_out words count which places
  unfolding picked_out
  unpicked_all = let e : places - 0 ≡ places = omega arith in rw e

  word_next : (i : ℕ) → i < min count (length words) → drop i (take count words) ≡ get_or words i 0 ∷ drop (i + 1) (take count words)
  word_next i h = drop_more (take count words) i 0 (omega (arith, length-take count words)) ∙ ap (λ w. w ∷ drop (i + 1) (take count words)) (get_or-take count words i 0 (omega arith))

  module _ (i written : ℕ) (more : i < min count (length words)) where
    module _ (room : written < places) (g : goes which (unpack_of (get_or words i 0)) ≡ true) where
      pub unpicked_goes : unpicked i written ≡ get_or words i 0 ∷ unpicked (i + 1) (written + 1)
      unpicked_goes =
          let one : places - written ≡ suc (places - (written + 1)) = omega arith in
          rw (word_next i more, g, one)

      -- it is written, and the others behind it
      pub write_goes : (out : List ℕ) → sets out written (unpicked i written) ≡ sets (set out written (get_or words i 0)) (written + 1) (unpicked (i + 1) (written + 1))
      write_goes out = rw (unpicked_goes, add-one written)

    pub unpicked_stays : goes which (unpack_of (get_or words i 0)) ≡ false → unpicked i written ≡ unpicked (i + 1) written
    unpicked_stays g = rw (word_next i more, g)

  pub unpicked_none : (i written : ℕ) → min count (length words) ≤ i → unpicked i written ≡ []
  unpicked_none i written h = let e : length (take count words) ≤ i = omega (arith, length-take count words) in rw (drop_of_length-le (take count words) e) (take-nil (places - written))

  pub unpicked_full : (i written : ℕ) → places ≤ written → unpicked i written ≡ []
  unpicked_full i written h = let e : places - written ≡ 0 = omega arith in rw e

-- ---- the entries of the words
going_entries : (which : Removal) (words : List ℕ) → map unpack_of (going which words) ≡ sift (goes which) (map unpack_of words)
going_entries which [] = refl
going_entries which (w ∷ words) = go (outcome (goes which (unpack_of w))) (going_entries which words)
  where
    go : Outcome (goes which (unpack_of w)) → map unpack_of (going which words) ≡ sift (goes which) (map unpack_of words)
        → map unpack_of (going which (w ∷ words)) ≡ sift (goes which) (map unpack_of (w ∷ words))
    go (holds t) i = rw t (ap (λ l. unpack_of w ∷ l) i)
    go (fails t) i = rw t i

module _ (words : List ℕ) (count : ℕ) (which : Removal) where
  picked_entries : (places : ℕ) → map unpack_of (picked_out words count which places) ≡ take places (sift (goes which) (entries words count))
  unfolding picked_out
  picked_entries places =
      sym (take_map unpack_of places (going which (take count words))) ∙ ap (take places) (going_entries which (take count words) ∙ ap (sift (goes which)) (sym (entries_are words count)))

  pub length_picked_out : (places : ℕ) → length (picked_out words count which places) ≡ length (take places (sift (goes which) (entries words count)))
  length_picked_out places = sym (length-map (picked_out words count which places) unpack_of) ∙ ap length (picked_entries places)

  pub picked_out_most : (places : ℕ) → length (picked_out words count which places) ≤ places
  picked_out_most places = omega (arith, length_picked_out places, length-take places (sift (goes which) (entries words count)))

  -- what `pick_out` leaves at the front of `out`
  pub entries_picked : (out : List ℕ) → entries (sets out 0 (picked_out words count which (length out))) (length (picked_out words count which (length out)))
      ≡ take (length out) (sift (goes which) (entries words count))
  entries_picked out =
      let v = picked_out words count which (length out) in
      entries_are (sets out 0 v) (length v) ∙ ap (map unpack_of) (sets_same out 0 (length v) v refl (omega (arith, picked_out_most (length out)))) ∙ picked_entries (length out)
