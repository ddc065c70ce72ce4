-- One item of a definition table: "one byte of kind and then a body whose length the kind fixes".
use Rattle.std.specs.Prelude.{ℕ, ◌+◌, ◌*◌, List, eqb, ltb, length, get_or, drop, Option, Some, None}
use Rattle.lists.specs.Tests.{cond}
use Rattle.definition.specs.declared.Format.{Format}
use Rattle.definition.specs.declared.Format.TheVariants.{Alphanumeric, Binary, Unpacked, Packed}
use Rattle.definition.specs.declared.FieldOption.{FieldOption}
use Rattle.definition.specs.declared.FieldOption.TheVariants.{Plain, Descriptor, Unique}
use Rattle.items.specs.declared.Item.{Item}
use Rattle.items.specs.declared.Item.TheVariants.{File as item_file, Field as item_field, End as item_end}

-- "Formats ..: `A` bytes ..; `B` binary ..; `U` digits ..; `P` packed"
unfoldable pub format_of : ℕ → Option Format
format_of b =
    cond (eqb b 65) (Some Alphanumeric)
    (cond (eqb b 66) (Some Binary)
    (cond (eqb b 85) (Some Unpacked)
    (cond (eqb b 80) (Some Packed)
    None)))

-- "option (1 byte: blank plain, `D` descriptor, `U` unique descriptor)"
unfoldable pub option_of : ℕ → Option FieldOption
option_of b =
    cond (eqb b 32) (Some Plain)
    (cond (eqb b 68) (Some Descriptor)
    (cond (eqb b 85) (Some Unique)
    None))

-- "Kind 1, a file: number (1 byte ..), highest ISN (2 bytes ..)", "the high byte first"
unfoldable pub file_item : List ℕ → Option Item
file_item body = cond (ltb (length body) 3) None (Some (item_file (get_or body 0 0) (get_or body 1 0 * 256 + get_or body 2 0)))

-- "Kind 2, a field of the last file: name (2 bytes ..), length (1 byte), format (1 byte), option (1 byte ..)"
abbrev pub field_typed : List ℕ → Option Format → Option FieldOption → Option Item
field_typed body None option = None
field_typed body (Some f) None = None
field_typed body (Some f) (Some o) =
    Some (item_field (record { name = record { first = get_or body 0 0; second = get_or body 1 0 }; length = get_or body 2 0; format = f; option = o }))

unfoldable pub field_item : List ℕ → Option Item
field_item body = cond (ltb (length body) 5) None (field_typed body (format_of (get_or body 3 0)) (option_of (get_or body 4 0)))

-- the item that a row of bytes begins with; "Kind 0, the end, no body"
unfoldable pub item_of : List ℕ → Option Item
item_of bytes =
    cond (eqb (length bytes) 0) None
    (cond (eqb (get_or bytes 0 0) 0) (Some item_end)
    (cond (eqb (get_or bytes 0 0) 1) (file_item (drop 1 bytes))
    (cond (eqb (get_or bytes 0 0) 2) (field_item (drop 1 bytes))
    None)))
