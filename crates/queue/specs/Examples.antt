-- Worked examples: lookups, counts, a new entry and a change, computed by the definitions. Assumes nothing.
use Rattle.std.specs.Prelude.{ℕ, ◌+◌, ◌≡◌, refl, Bool, true, false, ◌&&◌, List, [], ◌∷◌, eqb, Option, Some, None}
use Rattle.lists.specs.Folds.{all}
use Rattle.entries.specs.Entries.{pack_of, unpack_of, entries}
use Rattle.queue.specs.Queue.{holder, held_by, append}
use Rattle.entries.specs.declared.Entry.{Entry}

first : Entry
first = record { user = 1; file = 16; isn = 4095; changed = true; existed = false }

second : Entry
second = record { user = 32; file = 1; isn = 4095; changed = false; existed = true }

words : List ℕ
words = pack_of first ∷ pack_of second ∷ pack_of first ∷ 5 ∷ []

-- ---- a count, a file and an ISN, and the place where they are held, from 1, or 0 for nobody
place : Option (ℕ × Entry) → ℕ
place (Some (i, e)) = i + 1
place None = 0

record Row : Type 0 where
  count : ℕ
  file : ℕ
  isn : ℕ
  at : ℕ

rows : List Row
rows =
    record { count = 2; file = 16; isn = 4095; at = 1 } ∷
    record { count = 2; file = 1; isn = 4095; at = 2 } ∷
    record { count = 1; file = 1; isn = 4095; at = 0 } ∷
    record { count = 2; file = 2; isn = 4095; at = 0 } ∷
    record { count = 2; file = 16; isn = 4094; at = 0 } ∷
    record { count = 9; file = 0; isn = 0; at = 4 } ∷ []

right : Row → Bool
right r = eqb (place (holder (entries words r.count) r.file r.isn)) r.at

rows_right : all right rows ≡ true
unfolding first second words place rows right pack_of unpack_of entries holder
rows_right = refl

-- ---- how many a user has
counts : (eqb (held_by (entries words 3) 1) 2 && (eqb (held_by (entries words 2) 32) 1 && eqb (held_by (entries words 2) 3) 0)) ≡ true
unfolding first second words pack_of unpack_of entries held_by
counts = refl

-- ---- a new entry
added : entries (append words 2 second) 3 ≡ first ∷ second ∷ second ∷ []
unfolding first second words pack_of unpack_of entries append
added = refl
