-- A definition table: its limits, what is in use of a kept one, and its empty places (document 01, 'Files and their definition').
use Rattle.std.specs.Prelude.{ℕ, min, Bool, true, false, ◌&&◌, List, [], eqb, ltb, get_or, take, replicate}
use Rattle.lists.specs.Tests.{cond}
use Rattle.definition.specs.declared.Format.{Format}
use Rattle.definition.specs.declared.Format.TheVariants.{Alphanumeric, Binary, Unpacked, Packed}
use Rattle.definition.specs.declared.FieldOption.{FieldOption}
use Rattle.definition.specs.declared.FieldOption.TheVariants.{Plain, Descriptor, Unique}
use Rattle.definition.specs.declared.Name.{Name}
use Rattle.definition.specs.declared.Field.{Field}
use Rattle.definition.specs.declared.File.{File}
use Rattle.definition.specs.declared.Definition.{Definition}

-- ---- limits
-- "number (1 byte, 1 to 16), highest ISN (2 bytes, 1 to 4095)"; "a file has 1 to 16 fields .. at most 512 bytes together"
abbrev pub max_files : ℕ
max_files = 16

abbrev pub max_fields : ℕ
max_fields = 16

abbrev pub max_number : ℕ
max_number = 16

abbrev pub max_isn_limit : ℕ
max_isn_limit = 4095

abbrev pub max_record_length : ℕ
max_record_length = 512

-- "Formats and greatest lengths: `A` bytes, 253; `B` binary, 126; `U` digits .., 29; `P` packed, 15"
abbrev pub max_length : Format → ℕ
max_length Alphanumeric = 253
max_length Binary = 126
max_length Unpacked = 29
max_length Packed = 15

-- ---- an empty place
abbrev pub no_field : Field
no_field = record { name = record { first = 0; second = 0 }; length = 0; format = Alphanumeric; option = Plain }

abbrev pub no_file : File
no_file = record { number = 0; max_isn = 0; count = 0; fields = replicate max_fields no_field }

-- what a list of files reads past its end
abbrev pub beyond : File
beyond = record { number = 0; max_isn = 0; count = 0; fields = [] }

-- no file at all: what stands where a table was refused. No rule lets it pass
abbrev pub no_definition : Definition
no_definition = record { count = 0; files = replicate max_files no_file }

-- the place k of a file, and the place i of a definition
abbrev pub field_at : File → ℕ → Field
field_at f k = get_or f.fields k no_field

abbrev pub file_at : Definition → ℕ → File
file_at d i = get_or d.files i beyond

-- a file that every caller can be handed: past the sixteen places an empty one, where `file_at` reads what no value is
abbrev pub file_or_none : Definition → ℕ → File
file_or_none d i = cond (ltb i max_files) (file_at d i) no_file

-- ---- what is in use: the first `count` places, however large a count a kept value has
abbrev pub field_count : File → ℕ
field_count f = min f.count max_fields

abbrev pub fields_of : File → List Field
fields_of f = take (field_count f) f.fields

abbrev pub file_count : Definition → ℕ
file_count d = min d.count max_files

abbrev pub files_of : Definition → List File
files_of d = take (file_count d) d.files

-- ---- "`D` descriptor, `U` unique descriptor"
abbrev pub is_unique : FieldOption → Bool
is_unique Plain = false
is_unique Descriptor = false
is_unique Unique = true

-- ---- alike
abbrev pub same_name : Name → Name → Bool
same_name m n = eqb m.first n.first && eqb m.second n.second

abbrev pub named_alike : Field → Field → Bool
named_alike f g = same_name f.name g.name

abbrev pub numbered_alike : File → File → Bool
numbered_alike f g = eqb f.number g.number
