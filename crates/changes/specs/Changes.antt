-- The first change of an entry, and the image that it keeps (document 01, 'Hold, change, end').
use Rattle.std.specs.Prelude.{ℕ, ◌+◌, ◌*◌, Bool, true, ◌&&◌, ◌||◌, List, leb, length, get_or, set}
use Rattle.std.proofs.lemmas.List.Edits.{sets}
use Rattle.lists.specs.Tests.{cond}
use Rattle.entries.specs.Entries.{pack_of, unpack_of}
use Rattle.entries.specs.declared.Entry.{Entry}

-- ---- the entry at a place; a place past the end changes nothing
-- an entry after a change
abbrev pub as_changed : Bool → Entry → Entry
as_changed existed e = record { user = e.user; file = e.file; isn = e.isn; changed = true; existed = existed }

unfoldable pub change : List ℕ → ℕ → Bool → List ℕ
change words at existed = set words at (pack_of (as_changed existed (unpack_of (get_or words at 0))))

-- ---- "Only the first change of an entry keeps an image": the record's bytes at the front of the image of the entry at a place
unfoldable pub keep_image : List ℕ → ℕ → ℕ → List ℕ → List ℕ
keep_image images width at content = cond (leb (length content) width && leb ((at + 1) * width) (length images)) (sets images (at * width) content) images

-- the entry at a place is changed already, or there is none
unfoldable pub settled : List ℕ → ℕ → Bool
settled queue at = leb (length queue) at || (unpack_of (get_or queue at 0)).changed

-- the first change is noted in the entry; a later one does nothing
unfoldable pub first_change_queue : List ℕ → ℕ → Bool → List ℕ
first_change_queue queue at existed = cond (settled queue at) queue (change queue at existed)

-- and keeps the record as the entry's image where there is one
unfoldable pub first_change_images : List ℕ → List ℕ → ℕ → ℕ → Bool → List ℕ → List ℕ
first_change_images queue images width at existed content = cond (settled queue at) images (cond existed (keep_image images width at content) images)
