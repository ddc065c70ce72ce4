-- The hold queue with its image buffer, read as the queue of the abstract machine: an entry with its image as the machine's entry; and what
-- document 01 calls well made, as far as store, queue and images go.
use Rattle.std.specs.Prelude.{ℕ, ◌*◌, ◌≤◌, ◌≡◌, Bool, true, false, cond, List, map, length, take, Some, None}
use Rattle.lists.specs.Folds.{all}
use Rattle.definition.specs.declared.Definition.{Definition}
use Rattle.records.specs.Records.{record_length}
use Rattle.layout.specs.Layout.{store_size, image_length}
use Rattle.entries.specs.Entries.{entries}
use Rattle.repeats.specs.Repeats.{repeated}
use Rattle.entries.specs.declared.Entry.{Entry}
use Rattle.images.specs.Images.{Hold, with_images}
use Rattle.transactions.specs.Slots.{Slot}
use Rattle.transactions.specs.Machine.{Entry as MachineEntry}
use Rattle.ground.specs.Keys.{key, file_of, known}

abbrev pub key_of : Entry → ℕ
key_of e = key e.file e.isn

-- what a back-out puts back: the record at the front of the image, or none "where no record was"
abbrev pub before : Definition → Entry → List ℕ → Slot
before d e image = cond e.existed (Some (take (record_length (file_of d e.file)) image)) None

-- an image counts in a changed entry only; what lies there for another is free
abbrev pub held : Definition → Hold → MachineEntry
held d h = record {
  user = h.entry.user;
  key = key_of h.entry;
  changed = h.entry.changed;
  image = cond h.entry.changed (before d h.entry h.image) None;
}

abbrev pub holds_of : Definition → List Entry → List ℕ → List MachineEntry
holds_of d es images = map (held d) (with_images (image_length d) es images)

-- the first `count` entries, oldest first
unfoldable pub queue_of : Definition → List ℕ → List ℕ → ℕ → List MachineEntry
queue_of d words images count = holds_of d (entries words count) images

-- ---- "Well made: .. at most H entries, no file and ISN in two, each within its file"; store, queue and image buffer not too short
abbrev pub entry_known : Definition → Entry → Bool
entry_known d e = known d (key_of e)

pub record Made (d : Definition) (capacity : ℕ) (store words images : List ℕ) (count : ℕ) : Type 0 where
  pub store_room : store_size d ≤ length store
  pub queue_room : capacity ≤ length words
  pub image_room : capacity * image_length d ≤ length images
  pub most : count ≤ capacity
  pub each_known : all (entry_known d) (entries words count) ≡ true
  pub single : repeated (entries words count) ≡ false
