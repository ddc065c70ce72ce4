-- A chain over the words in use looks at the entries in use. `n` is how many words it takes: as many as are in use, or all where there are fewer.
-- Assumes nothing.
use Rattle.std.specs.Prelude.{◌≡◌, Bool, List, [], ◌∷◌, ℕ, ◌+◌, ◌≤◌, ◌<◌, min, map, length, take, drop, get_or}
use Rattle.std.specs.List.{list_all, list_any}
use Rattle.std.proofs.Common.{ap, sym, ◌∙◌, arith, length-take, get_or-take}
use Rattle.std.proofs.lemmas.List.Folds.{list_all-map}
use Rattle.lists.specs.Folds.{all, any}
use Rattle.lists.proofs.Chains.{all_listed, any_listed, any_map}
use Rattle.entries.specs.Entries.{unpack_of, entries}
use Rattle.entries.specs.Laws.{entries_are, entries_all, entry_next, no_entry_left}
use Rattle.entries.specs.declared.Entry.{Entry}

module _ (words : List ℕ) (count n : ℕ) (e : n ≡ min count (length words)) where
  pub entries_taken : map unpack_of (take n words) ≡ entries words count
  entries_taken = sym (entries_are words n) ∙ rw e (entries_all words count)

  -- one turn of a loop over those words, and its end
  pub entry_taken : (i : ℕ) → i < length (take n words) → drop i (entries words count) ≡ unpack_of (get_or (take n words) i 0) ∷ drop (i + 1) (entries words count)
  entry_taken i h =
      let within : i < n = omega (arith, length-take n words) in
      rw (get_or-take n words i 0 within) (entry_next words count i (omega arith))

  pub none_taken_left : (i : ℕ) → length (take n words) ≤ i → drop i (entries words count) ≡ []
  none_taken_left i h = no_entry_left words count i (omega (arith, length-take n words))

  module _ (p : Entry → Bool) where
    pub all_entries : list_all (λ w. p (unpack_of w)) (take n words) ≡ all p (entries words count)
    all_entries = sym (list_all-map p unpack_of (take n words)) ∙ all_listed p (map unpack_of (take n words)) ∙ ap (all p) entries_taken

    pub any_entries : list_any (λ w. p (unpack_of w)) (take n words) ≡ any p (entries words count)
    any_entries = any_listed (λ w. p (unpack_of w)) (take n words) ∙ sym (any_map p unpack_of (take n words)) ∙ ap (any p) entries_taken
