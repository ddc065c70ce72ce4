-- Worked examples: a table of two files, its store of 15 bytes and two more, and a queue of three entries, read as the abstract machine's.
-- Assumes nothing.
use Rattle.std.specs.Prelude.{ℕ, ◌≡◌, refl, true, false, List, [], ◌∷◌, map, set, Some, None}
use Rattle.definition.specs.Table.{no_file, no_definition}
use Rattle.definition.specs.declared.File.{File}
use Rattle.definition.specs.declared.Definition.{Definition}
use Rattle.definition.specs.declared.Format.TheVariants.{Alphanumeric}
use Rattle.definition.specs.declared.FieldOption.TheVariants.{Plain, Unique}
use Rattle.records.specs.Records.{record_length}
use Rattle.layout.specs.Layout.{file_offset, store_size, image_length, place}
use Rattle.store.specs.Store.{slot_fits, has_record, get as get_record, put_record, empty, file_part, with_part}
use Rattle.entries.specs.Entries.{pack_of, unpack_of, entries}
use Rattle.hold.specs.Hold.{put_back_in, put_back, restore}
use Rattle.ground.specs.Keys.{key, key_file, key_isn, file_of, keys}
use Rattle.ground.specs.Store.{whole, get, put}
use Rattle.ground.specs.Queue.{queue_of}

-- document 01's example: RC unique, 1 byte; HH, 2 bytes; highest ISN 3
paper : File
paper = record {
  number = 1;
  max_isn = 3;
  count = 2;
  fields = set
      (set no_file.fields 0 (record { name = record { first = 82; second = 67 }; length = 1; format = Alphanumeric; option = Unique }))
      1
      (record { name = record { first = 72; second = 72 }; length = 2; format = Alphanumeric; option = Plain });
}

-- and a file 2 with one field of 2 bytes and one ISN
other : File
other = record {
  number = 2;
  max_isn = 1;
  count = 1;
  fields = set no_file.fields 0 (record { name = record { first = 72; second = 72 }; length = 2; format = Alphanumeric; option = Plain });
}

table : Definition
table = record { count = 2; files = set (set no_definition.files 0 paper) 1 other }

-- records at ISN 1 and 3 of file 1 and at ISN 1 of file 2; two bytes past the store
store : List ℕ
store = 1 ∷ 50 ∷ 65 ∷ 66 ∷ 2 ∷ 51 ∷ 67 ∷ 68 ∷ 1 ∷ 52 ∷ 69 ∷ 70 ∷ 1 ∷ 71 ∷ 72 ∷ 98 ∷ 99 ∷ []

all_keys : keys table ≡ 65537 ∷ 65538 ∷ 65539 ∷ 131073 ∷ []
unfolding table paper other keys key
all_keys = refl

slots : map (get table store) (65537 ∷ 65538 ∷ 65539 ∷ 131073 ∷ 65540 ∷ 196609 ∷ []) ≡ Some (50 ∷ 65 ∷ 66 ∷ []) ∷ None ∷ Some (52 ∷ 69 ∷ 70 ∷ []) ∷ Some (71 ∷ 72 ∷ []) ∷ None ∷ None ∷ []
unfolding table paper other store get get_record has_record file_part whole place key_file key_isn record_length file_offset store_size
slots = refl

-- a record put in file 2, and an ISN of file 1 emptied: nothing else changes
record_put : put table store 131073 (Some (7 ∷ 8 ∷ [])) ≡ 1 ∷ 50 ∷ 65 ∷ 66 ∷ 2 ∷ 51 ∷ 67 ∷ 68 ∷ 1 ∷ 52 ∷ 69 ∷ 70 ∷ 1 ∷ 7 ∷ 8 ∷ 98 ∷ 99 ∷ []
unfolding table paper other store put put_record slot_fits file_part with_part whole place key_file key_isn record_length file_offset store_size
record_put = refl

emptied : put table store 65539 None ≡ 1 ∷ 50 ∷ 65 ∷ 66 ∷ 2 ∷ 51 ∷ 67 ∷ 68 ∷ 0 ∷ 52 ∷ 69 ∷ 70 ∷ 1 ∷ 71 ∷ 72 ∷ 98 ∷ 99 ∷ []
unfolding table paper other store put empty slot_fits file_part with_part whole place key_file key_isn record_length file_offset store_size
emptied = refl

-- user 1 changed ISN 1 of file 2, where 73, 74 stood, and added ISN 3 of file 1; user 2 holds ISN 1 of file 1. Images of 3 bytes each
words : List ℕ
words =
    pack_of (record { user = 1; file = 2; isn = 1; changed = true; existed = true }) ∷
    pack_of (record { user = 2; file = 1; isn = 1; changed = false; existed = true }) ∷
    pack_of (record { user = 1; file = 1; isn = 3; changed = true; existed = false }) ∷ 5 ∷ []

images : List ℕ
images = 73 ∷ 74 ∷ 9 ∷ 10 ∷ 11 ∷ 12 ∷ 13 ∷ 14 ∷ 15 ∷ []

-- of the first image the width of file 2 counts; the others count for nothing
queue_read : queue_of table words images 3
    ≡ record { user = 1; key = 131073; changed = true; image = Some (73 ∷ 74 ∷ []) } ∷
    record { user = 2; key = 65537; changed = false; image = None } ∷
    record { user = 1; key = 65539; changed = true; image = None } ∷ []
unfolding table paper other words images queue_of entries pack_of unpack_of key file_of place record_length image_length
queue_read = refl

-- user 1 backed out
backed_out : restore table 3 1 words images 3 store ≡ 1 ∷ 50 ∷ 65 ∷ 66 ∷ 2 ∷ 51 ∷ 67 ∷ 68 ∷ 0 ∷ 52 ∷ 69 ∷ 70 ∷ 1 ∷ 73 ∷ 74 ∷ 98 ∷ 99 ∷ []
unfolding table paper other store words images restore put_back put_back_in entries pack_of unpack_of put_record empty slot_fits file_part with_part place record_length file_offset store_size
backed_out = refl
