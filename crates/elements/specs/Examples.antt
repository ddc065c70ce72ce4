-- Worked examples: the definitions computed on the file of document 01's table, "RC unique, HH", of lengths 1 and 2; checked by one law a table.
-- Assumes nothing.
use Rattle.std.specs.Prelude.{ℕ, ◌≡◌, refl, Bool, true, false, List, [], ◌∷◌, map, set, Some, None}
use Rattle.definition.specs.Table.{no_file}
use Rattle.elements.specs.Elements.{field_named, format_valid, element, places, named_twice, length_needed, needed_within}
use Rattle.definition.specs.declared.Format.TheVariants.{Alphanumeric}
use Rattle.definition.specs.declared.FieldOption.TheVariants.{Plain, Unique}
use Rattle.definition.specs.declared.File.{File}

paper : File
paper = record {
  number = 1;
  max_isn = 3;
  count = 2;
  fields = set
      (set no_file.fields 0 (record { name = record { first = 82; second = 67 }; length = 1; format = Alphanumeric; option = Unique }))
      1
      (record { name = record { first = 72; second = 72 }; length = 2; format = Alphanumeric; option = Plain });
}

-- ---- a buffer, whether it is valid, the places that it names, whether one comes twice, and the bytes of the values
record Row : Type 0 where
  buffer : List ℕ
  valid : Bool
  named : List ℕ
  twice : Bool
  needed : ℕ

rows : List Row
rows =
    -- `RC,HH.` `HH,RC.` `RC.`
    record { buffer = 82 ∷ 67 ∷ 44 ∷ 72 ∷ 72 ∷ 46 ∷ []; valid = true; named = 0 ∷ 1 ∷ []; twice = false; needed = 3 } ∷
    record { buffer = 72 ∷ 72 ∷ 44 ∷ 82 ∷ 67 ∷ 46 ∷ []; valid = true; named = 1 ∷ 0 ∷ []; twice = false; needed = 3 } ∷
    record { buffer = 82 ∷ 67 ∷ 46 ∷ []; valid = true; named = 0 ∷ []; twice = false; needed = 1 } ∷
    -- a field twice: `RC,RC.` `RC,HH,RC.`
    record { buffer = 82 ∷ 67 ∷ 44 ∷ 82 ∷ 67 ∷ 46 ∷ []; valid = true; named = 0 ∷ 0 ∷ []; twice = true; needed = 2 } ∷
    record { buffer = 82 ∷ 67 ∷ 44 ∷ 72 ∷ 72 ∷ 44 ∷ 82 ∷ 67 ∷ 46 ∷ []; valid = true; named = 0 ∷ 1 ∷ 0 ∷ []; twice = true; needed = 4 } ∷
    -- no fields: `.`; no buffer: no byte, `..` `,.` `. ` `RC,.`, another byte alone
    record { buffer = 46 ∷ []; valid = true; named = []; twice = false; needed = 0 } ∷
    record { buffer = []; valid = false; named = []; twice = false; needed = 0 } ∷
    record { buffer = 46 ∷ 46 ∷ []; valid = false; named = []; twice = false; needed = 0 } ∷
    record { buffer = 44 ∷ 46 ∷ []; valid = false; named = []; twice = false; needed = 0 } ∷
    record { buffer = 46 ∷ 32 ∷ []; valid = false; named = []; twice = false; needed = 0 } ∷
    record { buffer = 82 ∷ 67 ∷ 44 ∷ 46 ∷ []; valid = false; named = 0 ∷ []; twice = false; needed = 1 } ∷
    record { buffer = 44 ∷ []; valid = false; named = []; twice = false; needed = 0 } ∷
    -- no period at the end: `RC` `RC,` `RC,HH`
    record { buffer = 82 ∷ 67 ∷ []; valid = false; named = []; twice = false; needed = 0 } ∷
    record { buffer = 82 ∷ 67 ∷ 44 ∷ []; valid = false; named = 0 ∷ []; twice = false; needed = 1 } ∷
    record { buffer = 82 ∷ 67 ∷ 44 ∷ 72 ∷ 72 ∷ []; valid = false; named = 0 ∷ []; twice = false; needed = 1 } ∷
    -- something after a period: `RC.X` `RC,HH.,` `RC.HH.`
    record { buffer = 82 ∷ 67 ∷ 46 ∷ 88 ∷ []; valid = false; named = 0 ∷ []; twice = false; needed = 1 } ∷
    record { buffer = 82 ∷ 67 ∷ 44 ∷ 72 ∷ 72 ∷ 46 ∷ 44 ∷ []; valid = false; named = 0 ∷ 1 ∷ []; twice = false; needed = 3 } ∷
    record { buffer = 82 ∷ 67 ∷ 46 ∷ 72 ∷ 72 ∷ 46 ∷ []; valid = false; named = 0 ∷ 1 ∷ []; twice = false; needed = 3 } ∷
    -- unknown names: `rc.` `XX.` `RC,XX.`
    record { buffer = 114 ∷ 99 ∷ 46 ∷ []; valid = false; named = []; twice = false; needed = 0 } ∷
    record { buffer = 88 ∷ 88 ∷ 46 ∷ []; valid = false; named = []; twice = false; needed = 0 } ∷
    record { buffer = 82 ∷ 67 ∷ 44 ∷ 88 ∷ 88 ∷ 46 ∷ []; valid = false; named = 0 ∷ []; twice = false; needed = 1 } ∷ []

computed : Row → Row
computed r = record {
  buffer = r.buffer;
  valid = format_valid paper r.buffer;
  named = places paper r.buffer;
  twice = named_twice paper r.buffer;
  needed = length_needed paper r.buffer;
}

rows_right : map computed rows ≡ rows
unfolding paper rows computed field_named format_valid places named_twice length_needed
rows_right = refl

-- ---- `RC,HH.`: the field of the element at each byte
rc_hh : List ℕ
rc_hh = 82 ∷ 67 ∷ 44 ∷ 72 ∷ 72 ∷ 46 ∷ []

at_right : map (element paper rc_hh) (0 ∷ 1 ∷ 3 ∷ 4 ∷ 6 ∷ []) ≡ Some 0 ∷ None ∷ Some 1 ∷ None ∷ None ∷ []
unfolding paper rc_hh field_named element
at_right = refl

-- and what it needs of record buffers of 2, 3 and 4 bytes
room_right : map (needed_within paper rc_hh) (2 ∷ 3 ∷ 4 ∷ []) ≡ None ∷ Some 3 ∷ Some 3 ∷ []
unfolding paper rc_hh field_named places length_needed needed_within
room_right = refl
