-- Worked examples: how many entries a call works on, and their words. Assumes nothing.
use Rattle.std.specs.Prelude.{◌≡◌, refl, true, false, [], ◌∷◌}
use Rattle.entries.specs.Entries.{pack_of, unpack_of}
use Rattle.entries.specs.declared.Entry.{Entry}
use Rattle.database.specs.Database.{fitting, words, with_words}

-- H, where the queue has so many and H is at most 256; else none
fitting_rows : (fitting 0 3 ∷ fitting 2 3 ∷ fitting 3 3 ∷ fitting 4 3 ∷ fitting 256 300 ∷ fitting 257 300 ∷ []) ≡ 0 ∷ 2 ∷ 3 ∷ 0 ∷ 256 ∷ 0 ∷ []
unfolding fitting
fitting_rows = refl

first : Entry
first = record { user = 1; file = 16; isn = 4095; changed = true; existed = false }

second : Entry
second = record { user = 32; file = 1; isn = 2; changed = false; existed = true }

-- the word of the first alone
one_word : words 1 (first ∷ second ∷ []) ≡ 0x1_0FFF_1001 ∷ []
unfolding first second pack_of
one_word = refl

-- a word of another entry comes back; the entry behind it is as it was
one_back : with_words 1 (0x2_0002_0120 ∷ []) (first ∷ second ∷ []) ≡ second ∷ second ∷ []
unfolding first second unpack_of
one_back = refl
