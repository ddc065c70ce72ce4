-- A format buffer (document 01, 'Hold, change, end'): "It is names divided by commas, ended by a period, nothing after, at least one name:
-- `AA,AB.` The record buffer has the values one after another. Reading may name a field twice." Document 02, No. 5: "The format buffer `.` alone
-- now means no fields".
use Rattle.std.specs.Prelude.{ℕ, Bool, true, false, not, ◌&&◌, ◌||◌, List, [], ◌∷◌, eqb, leb, drop, Option, Some, None}
use Rattle.lists.specs.Tests.{cond, eqbs}
use Rattle.lists.specs.Folds.{all, total, distinct}
use Rattle.definition.specs.Table.{field_at, fields_of, same_name}
use Rattle.records.specs.Records.{field_length}
use Rattle.elements.specs.Search.{first_place}
use Rattle.definition.specs.declared.Name.{Name}
use Rattle.definition.specs.declared.Field.{Field}
use Rattle.definition.specs.declared.File.{File}

-- ---- the bytes of a format buffer
abbrev pub comma : ℕ
comma = 44

abbrev pub period : ℕ
period = 46

-- an element is a name of two bytes and the byte after it. The names of every whole element, whatever bytes divide them
abbrev pub names : List ℕ → List Name
names [] = []
names (a ∷ []) = []
names (a ∷ b ∷ []) = []
names (a ∷ b ∷ mark ∷ rest) = record { first = a; second = b } ∷ names rest

-- "names divided by commas, ended by a period, nothing after, at least one name"
abbrev pub form : List ℕ → Bool
form [] = false
form (a ∷ []) = false
form (a ∷ b ∷ []) = false
form (a ∷ b ∷ mark ∷ []) = eqb mark period
form (a ∷ b ∷ mark ∷ next ∷ rest) = eqb mark comma && form (next ∷ rest)

-- "`.` alone": the whole buffer, not what is left of one behind its names
abbrev pub period_alone : List ℕ → Bool
period_alone format = eqbs format (period ∷ [])

-- ---- the fields that it names
abbrev pub has_name : Name → Field → Bool
has_name n g = same_name g.name n

-- a field by its name, among those in use. (In a valid file no two have one name)
unfoldable pub field_named : File → Name → Option ℕ
field_named f n = first_place (has_name n) (fields_of f) 0

abbrev pub found : Option ℕ → Bool
found (Some k) = true
found None = false

abbrev pub known : File → Name → Bool
known f n = found (field_named f n)

-- names in their form, each of them a field's
abbrev pub names_valid : File → List ℕ → Bool
names_valid f format = form format && all (known f) (names format)

-- the row of response 41, said the other way: "format buffer breaks its form, or unknown name"
unfoldable pub format_valid : File → List ℕ → Bool
format_valid f format = period_alone format || names_valid f format

-- the field of the first of the names
abbrev pub first_named : File → List Name → Option ℕ
first_named f [] = None
first_named f (n ∷ ns) = field_named f n

-- the field that the element at a byte names: nowhere where no whole element begins there
unfoldable pub element : File → List ℕ → ℕ → Option ℕ
element f format at = first_named f (names (drop at format))

-- a place before others, where there is one
abbrev pub before : Option ℕ → List ℕ → List ℕ
before (Some k) ks = k ∷ ks
before None ks = ks

abbrev pub places_of : File → List Name → List ℕ
places_of f [] = []
places_of f (n ∷ ns) = before (field_named f n) (places_of f ns)

-- the places of the fields named, in the buffer's order. A name that is no field's names nothing
unfoldable pub places : File → List ℕ → List ℕ
places f format = places_of f (names format)

-- the row of response 44: "field twice in A1, N1, N2"
unfoldable pub named_twice : File → List ℕ → Bool
named_twice f format = not (distinct eqb (places f format))

-- ---- the bytes of the values, one after another
abbrev pub length_at : File → ℕ → ℕ
length_at f k = field_length (field_at f k)

-- the length of a field that was found, 0 where none was
abbrev pub length_of : File → Option ℕ → ℕ
length_of f (Some k) = length_at f k
length_of f None = 0

-- the lengths of the named fields together, each as often as it is named
unfoldable pub length_needed : File → List ℕ → ℕ
length_needed f format = total (length_at f) (places f format)

-- the row of response 53: "record buffer shorter than the named fields", where `room` is the record buffer's length
unfoldable pub needed_within : File → List ℕ → ℕ → Option ℕ
needed_within f format room = cond (leb (length_needed f format) room) (Some (length_needed f format)) None
