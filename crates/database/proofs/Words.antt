-- Entries and their words are the same queue: the entries in use that the nucleus reads in the words are the list's own, and what a call leaves as
-- entries is, in words again, what it left as words, as far as any entry is read.
-- Assumes nothing.
use Rattle.std.specs.Prelude.{ℕ, ◌≤◌, ◌≡◌, refl, List, [], ◌∷◌, ◌++◌, map, ltb, length, take, drop}
use Rattle.std.proofs.Common.{arith, ap, ◌∙◌, length-append, length-drop, take-append-drop, take_at, drop_at, take-take, le-ltb}
use Rattle.std.proofs.lemmas.List.{length-map}
use Rattle.lists.specs.Tests.{Outcome, holds, fails, outcome}
use Rattle.lists.specs.Folds.{Each, each_take}
use Rattle.lists.specs.Maps.{take_map}
use Rattle.entries.specs.Entries.{pack_of, unpack_of, entries}
use Rattle.entries.specs.Laws.{Shape, unpack_pack, unpack_shape}
use Rattle.entries.specs.declared.Entry.{Entry}
use Rattle.nucleus.specs.Nucleus.{max_capacity, entries_of}
use Rattle.database.proofs.Laws.{fitting_size}
use Rattle.database.specs.Database.{Database, fitting, fitting_in, words, in_words, with_words}

-- ---- how many fit: all of H, or none
pub fitting_all : (capacity size : ℕ) → 1 ≤ fitting capacity size → fitting capacity size ≡ capacity
unfolding fitting
fitting_all capacity size = go (outcome (ltb max_capacity capacity)) (outcome (ltb size capacity))
  where
    go : Outcome (ltb max_capacity capacity) → Outcome (ltb size capacity) → 1 ≤ fitting capacity size → fitting capacity size ≡ capacity
    go (holds a) b = rw a (λ h. absurd (omega arith))
    go (fails a) (holds b) = rw (a, b) (λ h. absurd (omega arith))
    go (fails a) (fails b) = rw (a, b) (λ h. refl)

pub fitting_whole : (capacity size : ℕ) → capacity ≤ max_capacity → capacity ≤ size → fitting capacity size ≡ capacity
unfolding fitting
fitting_whole capacity size h g = rw (le-ltb max_capacity capacity h, le-ltb size capacity g)

-- ---- words of entries of words
repacked : (ws : List ℕ) → map unpack_of (map pack_of (map unpack_of ws)) ≡ map unpack_of ws
repacked [] = refl
repacked (w ∷ ws) = rw (unpack_pack (unpack_of w) (unpack_shape w), repacked ws)

abbrev pub renewed : List ℕ → List ℕ
renewed ws = map pack_of (map unpack_of ws)

pub length_renewed : (ws : List ℕ) → length (renewed ws) ≡ length ws
length_renewed ws = length-map (map unpack_of ws) pack_of ∙ length-map ws unpack_of

-- the entries in use are the same
pub entries_renewed : (ws : List ℕ) (count : ℕ) → entries (renewed ws) count ≡ entries ws count
unfolding entries
entries_renewed ws count =
    ap (map unpack_of) (take_map pack_of count (map unpack_of ws) ∙ ap (map pack_of) (take_map unpack_of count ws))
    ∙ repacked (take count ws)

-- ---- the entries in use of a database are those of its words, where their numbers fit their bytes, as those of every entry in memory do
read_back : (es : List Entry) → Each Shape es → map unpack_of (map pack_of es) ≡ es
read_back [] h = refl
read_back (e ∷ es) h = rw (unpack_pack e h.0, read_back es h.1)

pub same_entries : (capacity : ℕ) (b : Database) → Each Shape (take b.state.count b.queue) → b.state.count ≤ fitting_in capacity b.queue
    → entries_of (in_words capacity b) ≡ take b.state.count b.queue
unfolding entries
same_entries capacity b shapes most =
    ap (map unpack_of)
    (take_map pack_of b.state.count (take (fitting_in capacity b.queue) b.queue)
    ∙ ap (map pack_of) (take-take b.state.count (fitting_in capacity b.queue) b.queue most))
    ∙ read_back (take b.state.count b.queue) shapes

-- words that nothing changed come back as the entries that they were
pub entries_back : (k : ℕ) (queue : List Entry) → Each Shape queue → with_words k (words k queue) queue ≡ queue
entries_back k queue shapes =
    ap (λ (l : List Entry). l ++ drop k queue) (read_back (take k queue) (each_take Shape k queue shapes)) ∙ take-append-drop k queue

-- ---- what a call left, of as many words as it was given
module _ (capacity : ℕ) (queue : List Entry) (ws : List ℕ) (whole : length ws ≡ fitting_in capacity queue) where
  abbrev n : ℕ
  n = fitting_in capacity queue

  entry_count : length (map unpack_of ws) ≡ n
  entry_count = length-map ws unpack_of ∙ whole

  pub same_size : length (with_words n ws queue) ≡ length queue
  same_size = simp (length-append, length-drop, entry_count) (omega (arith, fitting_size capacity (length queue)))

  -- entries past those are as they were
  pub same_behind : drop n (with_words n ws queue) ≡ drop n queue
  same_behind = drop_at (map unpack_of ws) (drop n queue) n entry_count

  pub words_again : words (fitting_in capacity (with_words n ws queue)) (with_words n ws queue) ≡ renewed ws
  words_again =
      let same : fitting_in capacity (with_words n ws queue) ≡ n = ap (fitting capacity) same_size in
      ap (λ k. words k (with_words n ws queue)) same ∙ ap (map pack_of) (take_at (map unpack_of ws) (drop n queue) n entry_count)
