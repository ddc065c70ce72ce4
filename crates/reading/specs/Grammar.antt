-- Reading a definition table from bytes: "a row of items, each one byte of kind and then a body whose length the kind fixes".
use Rattle.std.specs.Prelude.{ℕ, zero, suc, ◌+◌, ◌-◌, Bool, ◌&&◌, List, ltb, length, get_or, drop, set, Some, None, Option}
use Rattle.lists.specs.Tests.{cond, within}
use Rattle.definition.specs.Table.{max_files, max_fields, beyond, no_file, no_definition}
use Rattle.validity.specs.Validity.{valid}
use Rattle.items.specs.Items.{item_of}
use Rattle.definition.specs.declared.Field.{Field}
use Rattle.definition.specs.declared.File.{File}
use Rattle.definition.specs.declared.Definition.{Definition}
use Rattle.items.specs.declared.Item.{Item}
use Rattle.items.specs.declared.Item.TheVariants.{File as item_file, Field as item_field, End as item_end}
use Rattle.reading.specs.declared.Reading.{Reading}

-- a file more has a place left. (A table with more files than places has a number twice)
abbrev pub room_for_file : Definition → Bool
room_for_file d = ltb d.count max_files

abbrev pub add_file : Definition → ℕ → ℕ → Definition
add_file d n m = record { count = d.count + 1; files = set d.files d.count (record { number = n; max_isn = m; count = 0; fields = no_file.fields }) }

-- the last file, to which a field belongs
abbrev pub last_file : Definition → File
last_file d = get_or d.files (d.count - 1) beyond

-- there is a file to belong to, and it has fewer fields than it may
abbrev pub room_for_field : Definition → Bool
room_for_field d = within 1 max_files d.count && ltb (last_file d).count max_fields

abbrev pub with_field : File → Field → File
with_field g f = record { number = g.number; max_isn = g.max_isn; count = g.count + 1; fields = set g.fields g.count f }

abbrev pub add_field : Definition → Field → Definition
add_field d f = record { count = d.count; files = set d.files (d.count - 1) (with_field (last_file d) f) }

abbrev pub broken : Reading
broken = record { end = None; definition = no_definition }

-- a table that ends here is right where it breaks no rule
abbrev pub ended : Definition → ℕ → Reading
ended d end = cond (valid d) (record { end = Some end; definition = d }) broken

-- what an item does to the table before it: the reading goes on after the item, or it ends
abbrev pub proceed : (ℕ → Definition → Reading) → ℕ → Definition → Option Item → Reading
proceed on at d (Some (item_file n m)) = cond (room_for_file d) (on (at + 4) (add_file d n m)) broken
proceed on at d (Some (item_field f)) = cond (room_for_field d) (on (at + 6) (add_field d f)) broken
proceed on at d (Some item_end) = ended d (at + 1)
proceed on at d None = broken

-- the items from `at` on, after those that made d. `fuel` bounds their number: the count of the bytes is enough
unfoldable pub read_from : ℕ → List ℕ → ℕ → Definition → Reading
read_from zero bytes at d = broken
read_from (suc fuel) bytes at d = proceed (read_from fuel bytes) at d (item_of (drop at bytes))

-- a table at the front of any bytes
unfoldable pub read_table : List ℕ → Reading
read_table bytes = read_from (length bytes) bytes 0 no_definition
