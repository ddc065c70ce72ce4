-- What is sought in the part of the store that belongs to one file.
use Rattle.std.specs.Prelude.{ℕ, ◌+◌, ◌-◌, ◌*◌, Bool, not, ◌&&◌, List, [], ◌∷◌, eqb, ltb, length, get_or, Option, Some, None}
use Rattle.lists.specs.Tests.{cond, eqbs}
use Rattle.lists.specs.Folds.{any}
use Rattle.definition.specs.Table.{field_count}
use Rattle.definition.specs.declared.File.{File}
use Rattle.lists.specs.Pieces.{piece}
use Rattle.store.specs.Store.{recorded, isns_from, has_record, record_of, field_value}

-- the first of the ISNs that passes the test
abbrev pub first_of : (ℕ → Bool) → List ℕ → Option ℕ
first_of p [] = None
first_of p (isn ∷ isns) = cond (p isn) (Some isn) (first_of p isns)

-- whether the slot that begins at a place has a record with the value at an offset
abbrev pub has_field : List ℕ → ℕ → ℕ → List ℕ → Bool
has_field part at offset value = eqb (get_or part at 0) 1 && eqbs (piece (at + 1 + offset) (length value) part) value

-- whether the slot is another than the given one, and has a record with the value at an offset
abbrev pub held : ℕ → ℕ → List ℕ → ℕ → ℕ → List ℕ → ℕ → Bool
held last size part isn offset value other =
    not (eqb other isn) && (recorded last size part other && eqbs (piece ((other - 1) * size + 1 + offset) (length value) part) value)

-- option `I`: "the lowest ISN at or above the given one that has a record"
unfoldable pub lowest : File → List ℕ → ℕ → Option ℕ
lowest f part from = first_of (has_record f part) (isns_from f part from)

-- "another record of the file has it in that field": a record at an ISN other than the given one has the value in the field at place k
abbrev pub has_value : File → List ℕ → ℕ → ℕ → List ℕ → ℕ → Bool
has_value f part k isn value other =
    not (eqb other isn) && (has_record f part other && eqbs (field_value f k (record_of f part other)) value)

unfoldable pub elsewhere : File → List ℕ → ℕ → ℕ → List ℕ → Bool
elsewhere f part k isn value = ltb k (field_count f) && any (has_value f part k isn value) (isns_from f part 1)
