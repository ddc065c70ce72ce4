-- Worked examples: two entries, the first of them changed already, with images of two bytes. Assumes nothing.
use Rattle.std.specs.Prelude.{ℕ, ◌≡◌, refl, true, false, List, [], ◌∷◌}
use Rattle.entries.specs.Entries.{pack_of, unpack_of, entries}
use Rattle.changes.specs.Changes.{change, keep_image, settled, first_change_images}
use Rattle.entries.specs.declared.Entry.{Entry}

first : Entry
first = record { user = 1; file = 16; isn = 4095; changed = true; existed = false }

second : Entry
second = record { user = 32; file = 1; isn = 4095; changed = false; existed = true }

words : List ℕ
words = pack_of first ∷ pack_of second ∷ []

changed : entries (change words 1 false) 2 ≡ first ∷ record { user = 32; file = 1; isn = 4095; changed = true; existed = false } ∷ []
unfolding first second words pack_of unpack_of entries change
changed = refl

-- the first change keeps the record; a later one keeps the old image, and so does one where no record was
kept : first_change_images words (1 ∷ 2 ∷ 3 ∷ 4 ∷ []) 2 1 true (8 ∷ 9 ∷ []) ≡ 1 ∷ 2 ∷ 8 ∷ 9 ∷ []
unfolding first second words pack_of unpack_of settled keep_image first_change_images
kept = refl

not_renewed : first_change_images words (1 ∷ 2 ∷ 3 ∷ 4 ∷ []) 2 0 true (8 ∷ 9 ∷ []) ≡ 1 ∷ 2 ∷ 3 ∷ 4 ∷ []
unfolding first second words pack_of unpack_of settled keep_image first_change_images
not_renewed = refl

none_there : first_change_images words (1 ∷ 2 ∷ 3 ∷ 4 ∷ []) 2 1 false (8 ∷ 9 ∷ []) ≡ 1 ∷ 2 ∷ 3 ∷ 4 ∷ []
unfolding first second words pack_of unpack_of settled keep_image first_change_images
none_there = refl
