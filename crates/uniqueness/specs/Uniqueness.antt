-- The row of response 198 over numbers and slices: what `taken` is where a call and a share give it the numbers.
use Rattle.std.specs.Prelude.{ℕ, Bool, false, not, ◌&&◌, ◌||◌, List, eqb, Option, Some, None}
use Rattle.lists.specs.Folds.{any}
use Rattle.lists.specs.Numbers.{numbers}
use Rattle.definition.specs.Table.{field_at, field_count, is_unique}
use Rattle.definition.specs.declared.File.{File}
use Rattle.records.specs.Records.{field_offset}
use Rattle.elements.specs.Elements.{places}
use Rattle.entries.specs.Entries.{entries}
use Rattle.store.specs.Store.{field_value}
use Rattle.search.specs.Search.{elsewhere}
use Rattle.images.specs.Images.{image_has}

-- whether a field that was found is the one at a place
abbrev pub is_place : ℕ → Option ℕ → Bool
is_place k (Some j) = eqb k j
is_place k None = false

-- "N1 and N2 judge every unique field, A1 the named ones"
abbrev pub is_judged : File → Bool → List ℕ → ℕ → Bool
is_judged f named format k = is_unique (field_at f k).option && (not named || any (eqb k) (places f format))

module _ (f : File) (part queue images : List ℕ) (count width user file : ℕ) where
  -- the value is another record's, or that of an image that counts
  abbrev pub value_taken : ℕ → ℕ → List ℕ → Bool
  value_taken isn k value =
      elsewhere f part k isn value || image_has (entries queue count) images width user file (field_offset f k) value

  abbrev pub field_taken : Bool → List ℕ → ℕ → List ℕ → ℕ → Bool
  field_taken named format isn content k = is_judged f named format k && value_taken isn k (field_value f k content)

  abbrev pub some_taken : Bool → List ℕ → ℕ → List ℕ → Bool
  some_taken named format isn content = any (field_taken named format isn content) (numbers (field_count f) 0)
