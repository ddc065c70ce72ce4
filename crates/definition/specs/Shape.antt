-- What every value of the kept types has, whoever made it: arrays of sixteen, and numbers that fit their bytes. Whoever owns a value knows this of it
-- (proofs/Known.antt); a contract need not ask it.
use Rattle.std.specs.Prelude.{ℕ, ◌+◌, ◌≤◌, ◌<◌, ◌≡◌, [], ◌∷◌, length, get_or, take, drop}
use Rattle.std.proofs.Common.{arith, lt-ltb}
use Rattle.lists.specs.Folds.{Each, each_at}
use Rattle.lists.specs.Rest.{rest_more, rest_none}
use Rattle.definition.specs.Table.{max_fields, max_files, no_field, beyond, fields_of, field_count, files_of, file_count, file_at, file_or_none}
use Rattle.definition.specs.declared.Field.{Field}
use Rattle.definition.specs.declared.File.{File}
use Rattle.definition.specs.declared.Definition.{Definition}

pub record FieldShape (f : Field) : Type 0 where
  pub name_first : f.name.first < 256
  pub name_second : f.name.second < 256
  pub small_length : f.length < 256

pub record FileShape (f : File) : Type 0 where
  pub small_number : f.number < 256
  pub small_max_isn : f.max_isn < 65536
  pub small_count : f.count < 256
  pub places : length f.fields ≡ max_fields
  pub each_field : Each FieldShape f.fields

pub record DefinitionShape (d : Definition) : Type 0 where
  pub small_count : d.count < 256
  pub places : length d.files ≡ max_files
  pub each_file : Each FileShape d.files

-- ---- one turn of a loop over the first n places, over the places in use, and its end
pub field_turn : (f : File) → FileShape f → (n i : ℕ) → i < n → n ≤ max_fields → drop i (take n f.fields) ≡ get_or f.fields i no_field ∷ drop (i + 1) (take n f.fields)
field_turn f s n i h k = rest_more n f.fields i no_field h (omega (arith, s.places))

pub file_turn : (d : Definition) → DefinitionShape d → (n i : ℕ) → i < n → n ≤ max_files → drop i (take n d.files) ≡ get_or d.files i beyond ∷ drop (i + 1) (take n d.files)
file_turn d s n i h k = rest_more n d.files i beyond h (omega (arith, s.places))

pub field_next : (f : File) → FileShape f → (i : ℕ) → i < field_count f → drop i (fields_of f) ≡ get_or f.fields i no_field ∷ drop (i + 1) (fields_of f)
field_next f s i h = field_turn f s (field_count f) i h (omega arith)

pub file_next : (d : Definition) → DefinitionShape d → (i : ℕ) → i < file_count d → drop i (files_of d) ≡ get_or d.files i beyond ∷ drop (i + 1) (files_of d)
file_next d s i h = file_turn d s (file_count d) i h (omega arith)

pub no_field_left : (f : File) (i : ℕ) → field_count f ≤ i → drop i (fields_of f) ≡ []
no_field_left f i h = rest_none (field_count f) f.fields i h

pub no_file_left : (d : Definition) (i : ℕ) → file_count d ≤ i → drop i (files_of d) ≡ []
no_file_left d i h = rest_none (file_count d) d.files i h

pub file_shape_at : (d : Definition) → DefinitionShape d → (i : ℕ) → i < max_files → FileShape (get_or d.files i beyond)
file_shape_at d s i h = each_at FileShape d.files beyond s.each_file i (omega (arith, s.places))

-- a file in use is the one that is handed out
pub file_or_none_at : (d : Definition) (i : ℕ) → i < file_count d → file_or_none d i ≡ file_at d i
file_or_none_at d i h = rw (lt-ltb i max_files (omega arith))
