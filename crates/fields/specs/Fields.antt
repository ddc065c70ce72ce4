-- Values between a record and a record buffer, by the names of a format buffer (document 01: "The record buffer has the values one after
-- another"). A place is a field's place in its file.
use Rattle.std.specs.Prelude.{ℕ, Bool, true, ◌&&◌, List, [], ◌∷◌, ◌++◌, leb, length, take, drop, Option, Some, None}
use Rattle.std.proofs.lemmas.List.Edits.{sets}
use Rattle.lists.specs.Tests.{cond}
use Rattle.definition.specs.Table.{field_at}
use Rattle.records.specs.Records.{field_length, field_offset, record_length}
use Rattle.digits.specs.Digits.{allowed}
use Rattle.values.specs.Values.{stored}
use Rattle.elements.specs.Elements.{places, length_needed}
use Rattle.fields.specs.declared.Span.{Span}
use Rattle.definition.specs.declared.Format.TheVariants.{Alphanumeric}
use Rattle.definition.specs.declared.File.{File}

-- ---- one field of a record
abbrev pub field_bytes : File → ℕ → List ℕ → List ℕ
field_bytes f k content = take (field_length (field_at f k)) (drop (field_offset f k) content)

-- the value of a field at the front of some values, and the values behind it
abbrev pub front_value : File → ℕ → List ℕ → List ℕ
front_value f k values = take (field_length (field_at f k)) values

abbrev pub behind : File → ℕ → List ℕ → List ℕ
behind f k values = drop (field_length (field_at f k)) values

-- ---- where a field that was found lies in its record, and what lies there; no bytes, at the front, where none was found
abbrev pub span_of : File → Option ℕ → Span
span_of f (Some k) = record { start = field_offset f k; length = field_length (field_at f k); format = (field_at f k).format }
span_of f None = record { start = 0; length = 0; format = Alphanumeric }

abbrev pub span_bytes : Span → List ℕ → List ℕ
span_bytes s content = take s.length (drop s.start content)

-- the value at the front of some values, put there
abbrev pub span_written : Span → List ℕ → List ℕ → List ℕ
span_written s values content = sets content s.start (stored s.format (take s.length values))

abbrev pub span_allowed : Span → List ℕ → Bool
span_allowed s values = allowed s.format (take s.length values)

-- ---- reading
-- the bytes of the fields at some places of a record, one after another
abbrev pub read_out : File → List ℕ → List ℕ → List ℕ
read_out f [] content = []
read_out f (k ∷ ks) content = field_bytes f k content ++ read_out f ks content

-- a record buffer and a record that the named fields fit into
unfoldable pub fits : File → List ℕ → List ℕ → List ℕ → Bool
fits f format buffer content = leb (length_needed f format) (length buffer) && leb (record_length f) (length content)

-- "Quantity: bytes written, at the front of the record buffer": what lies past it is as it was
unfoldable pub read_fields : File → List ℕ → List ℕ → List ℕ → List ℕ
read_fields f format content buffer = cond (fits f format buffer content) (sets buffer 0 (read_out f (places f format) content)) buffer

-- ---- writing
-- the record with the values, one after another and each in stored form, in the fields at some places
abbrev pub write_in : File → List ℕ → List ℕ → List ℕ → List ℕ
write_in f [] values content = content
write_in f (k ∷ ks) values content = write_in f ks (behind f k values) (sets content (field_offset f k) (stored (field_at f k).format (front_value f k values)))

-- "A1 replaces the named fields"
unfoldable pub write_fields : File → List ℕ → List ℕ → List ℕ → List ℕ
write_fields f format values content = cond (fits f format values content) (write_in f (places f format) values content) content

-- the values, one after another, that belong to the fields at some places are all allowed
abbrev pub allowed_in : File → List ℕ → List ℕ → Bool
allowed_in f [] values = true
allowed_in f (k ∷ ks) values = allowed (field_at f k).format (front_value f k values) && allowed_in f ks (behind f k values)

-- the row of response 55, said the other way: the record buffer has the named values, and each is allowed
unfoldable pub values_allowed : File → List ℕ → List ℕ → Bool
values_allowed f format values = leb (length_needed f format) (length values) && allowed_in f (places f format) values
