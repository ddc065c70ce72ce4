-- A record as ended transactions left it (document 02, No. 8): which version of it that is, where it lies, and its bytes.
use Rattle.std.specs.Prelude.{ℕ, ◌+◌, ◌*◌, Bool, true, false, List, [], leb, length, Option, Some, None}
use Rattle.lists.specs.Tests.{cond}
use Rattle.lists.specs.Pieces.{piece}
use Rattle.definition.specs.declared.File.{File}
use Rattle.records.specs.Records.{record_length, slot_offset}
use Rattle.store.specs.Store.{has_record, shown}
use Rattle.entries.specs.declared.Entry.{Entry}
use Rattle.queue.specs.Queue.{holder}
use Rattle.committed.specs.declared.Version.{Version}
use Rattle.committed.specs.declared.Version.TheVariants.{Stored, Imaged, Absent}
use Rattle.committed.specs.declared.Place.{Place}

-- ---- which version
-- "A changed entry's image is shown, or 113 given where no record was before; otherwise the store": anybody's entry, the caller's too
abbrev pub version_of : Option (ℕ × Entry) → Version
version_of (Some (i, e)) = cond e.changed (cond e.existed (Imaged i) Absent) Stored
version_of None = Stored

-- of the entries in use, for a file and an ISN
unfoldable pub committed_version : List Entry → ℕ → ℕ → Version
committed_version es file isn = version_of (holder es file isn)

-- ---- the record, where a file's part of the store is lent and an image buffer with a block of `width` bytes for each entry
-- an image stands at the front of its block. One that the buffer is too short for is none, as a slot that its part is too short for has no record
abbrev pub image_inside : File → ℕ → ℕ → ℕ → Bool
image_inside f size width i = leb (i * width + record_length f) size

unfoldable pub version_there : File → List ℕ → List ℕ → ℕ → Version → ℕ → Bool
version_there f part images width Stored isn = has_record f part isn
version_there f part images width (Imaged i) isn = image_inside f (length images) width i
version_there f part images width Absent isn = false

-- no bytes where there is no record
unfoldable pub version_bytes : File → List ℕ → List ℕ → ℕ → Version → ℕ → List ℕ
version_bytes f part images width Stored isn = shown f part isn
version_bytes f part images width (Imaged i) isn = cond (image_inside f (length images) width i) (piece (i * width) (record_length f) images) []
version_bytes f part images width Absent isn = []

-- ---- where it lies, in the store or in the image buffer
abbrev pub no_place : Place
no_place = record { imaged = false; start = 0; length = 0 }

abbrev pub in_store : ℕ → ℕ → Place
in_store start size = record { imaged = false; start = start; length = size }

abbrev pub in_images : ℕ → ℕ → Place
in_images start size = record { imaged = true; start = start; length = size }

-- the file's part begins at an offset of the store
unfoldable pub version_place : File → ℕ → List ℕ → List ℕ → ℕ → Version → ℕ → Place
version_place f offset part images width Stored isn =
    cond (has_record f part isn) (in_store (offset + (slot_offset f isn + 1)) (record_length f)) no_place
version_place f offset part images width (Imaged i) isn =
    cond (image_inside f (length images) width i) (in_images (i * width) (record_length f)) no_place
version_place f offset part images width Absent isn = no_place

-- the bytes of a place, as far as the store or the image buffer has them
unfoldable pub bytes_at : Place → List ℕ → List ℕ → List ℕ
bytes_at p store images = piece p.start p.length (cond p.imaged images store)
