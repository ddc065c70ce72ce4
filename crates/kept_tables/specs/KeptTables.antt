-- A definition table in plain numbers, as it is kept by a caller in another language: a byte for each format and each option, numbered from 0 in
-- the order of document 01 (`A`, `B`, `U`, `P`; blank, `D`, `U`). `thawed` goes from what is kept to the table, `frozen` back.
use Rattle.std.specs.Prelude.{ℕ, min, Bool, ◌&&◌, List, ◌++◌, map, eqb, ltb, take, drop}
use Rattle.lists.specs.Tests.{cond}
use Rattle.lists.specs.Folds.{all}
use Rattle.definition.specs.Table.{max_files, max_fields, no_file, no_definition}
use Rattle.definition.specs.declared.Format.{Format}
use Rattle.definition.specs.declared.Format.TheVariants.{Alphanumeric, Binary, Unpacked, Packed}
use Rattle.definition.specs.declared.FieldOption.{FieldOption}
use Rattle.definition.specs.declared.FieldOption.TheVariants.{Plain, Descriptor, Unique}
use Rattle.definition.specs.declared.Field.{Field}
use Rattle.definition.specs.declared.File.{File}
use Rattle.kept_tables.specs.declared.KeptField.{KeptField}
use Rattle.kept_tables.specs.declared.KeptFile.{KeptFile}

-- ---- numbers of formats and options
abbrev pub format_number : Format → ℕ
format_number Alphanumeric = 0
format_number Binary = 1
format_number Unpacked = 2
format_number Packed = 3

abbrev pub option_number : FieldOption → ℕ
option_number Plain = 0
option_number Descriptor = 1
option_number Unique = 2

unfoldable pub format_numbered : ℕ → Format
format_numbered n = cond (eqb n 0) Alphanumeric (cond (eqb n 1) Binary (cond (eqb n 2) Unpacked Packed))

unfoldable pub option_numbered : ℕ → FieldOption
option_numbered n = cond (eqb n 0) Plain (cond (eqb n 1) Descriptor Unique)

-- ---- what is in use: the first `count` places, however large a count a kept value has
abbrev pub kept_field_count : KeptFile → ℕ
kept_field_count k = min k.count max_fields

abbrev pub kept_fields_of : KeptFile → List KeptField
kept_fields_of k = take (kept_field_count k) k.fields

abbrev pub kept_file_count : ℕ → ℕ
kept_file_count count = min count max_files

abbrev pub kept_files_of : ℕ → List KeptFile → List KeptFile
kept_files_of count files = take (kept_file_count count) files

-- ---- whether both bytes of a field are such numbers; of each field of a file; of each file of a table
unfoldable pub bytes_known : KeptField → Bool
bytes_known k = ltb k.format 4 && ltb k.option 3

unfoldable pub fields_known : KeptFile → Bool
fields_known k = all bytes_known (kept_fields_of k)

unfoldable pub files_known : ℕ → List KeptFile → Bool
files_known count files = all fields_known (kept_files_of count files)

-- ---- from what is kept. A place behind a count is thawed as an empty one
-- the images of the first n elements, and from there on the elements of another list
abbrev pub mapped : {A B : Type 0} → (A → B) → List A → List B → ℕ → List B
mapped f l rest n = take n (map f l) ++ drop n rest

unfoldable pub thawed_field : KeptField → Field
thawed_field k = record {
  name = record { first = k.first; second = k.second };
  length = k.length;
  format = format_numbered k.format;
  option = option_numbered k.option;
}

unfoldable pub thawed_file : KeptFile → File
thawed_file k = record { number = k.number; max_isn = k.max_isn; count = k.count; fields = mapped thawed_field k.fields no_file.fields (kept_field_count k) }

unfoldable pub thawed_files : ℕ → List KeptFile → List File
thawed_files count files = mapped thawed_file files no_definition.files (kept_file_count count)

-- ---- to what is kept
unfoldable pub frozen_field : Field → KeptField
frozen_field f = record {
  first = f.name.first;
  second = f.name.second;
  length = f.length;
  format = format_number f.format;
  option = option_number f.option;
}

unfoldable pub frozen_file : File → KeptFile
frozen_file f = record { number = f.number; count = f.count; max_isn = f.max_isn; fields = map frozen_field f.fields }
