-- Worked examples: fields as they are kept, and bytes that number nothing, in places in use and behind a count. Assumes nothing.
use Rattle.std.specs.Prelude.{ℕ, ◌≡◌, refl, true, false, List, [], ◌∷◌, map, replicate}
use Rattle.definition.specs.Table.{no_field, no_file}
use Rattle.definition.specs.declared.Format.TheVariants.{Packed}
use Rattle.definition.specs.declared.FieldOption.TheVariants.{Unique}
use Rattle.definition.specs.declared.Field.{Field}
use Rattle.definition.specs.declared.File.{File}
use Rattle.kept_tables.specs.KeptTables.{format_numbered, option_numbered, bytes_known, fields_known, files_known, thawed_field, thawed_file, thawed_files, frozen_field}
use Rattle.kept_tables.specs.declared.KeptField.{KeptField}
use Rattle.kept_tables.specs.declared.KeptFile.{KeptFile}

-- the field AB, packed, of 4 bytes, unique
kept : KeptField
kept = record { first = 65; second = 66; length = 4; format = 3; option = 2 }

field : Field
field = record { name = record { first = 65; second = 66 }; length = 4; format = Packed; option = Unique }

from_kept : thawed_field kept ≡ field
unfolding kept field thawed_field format_numbered option_numbered
from_kept = refl

to_kept : frozen_field field ≡ kept
unfolding kept field frozen_field
to_kept = refl

known : bytes_known kept ≡ true
unfolding kept bytes_known
known = refl

no_format : bytes_known (record { first = 65; second = 66; length = 4; format = 4; option = 2 }) ≡ false
unfolding bytes_known
no_format = refl

no_option : bytes_known (record { first = 65; second = 66; length = 4; format = 0; option = 3 }) ≡ false
unfolding bytes_known
no_option = refl

-- ---- a file with the field above and, in its second place, numbers of nothing: one of one field; one of two; and one with a count past its places
spoilt : KeptField
spoilt = record { first = 65; second = 67; length = 4; format = 9; option = 9 }

file : ℕ → KeptFile
file count = record { number = 1; count = count; max_isn = 9; fields = kept ∷ spoilt ∷ [] }

places_known : map (λ count. fields_known (file count)) (0 ∷ 1 ∷ 2 ∷ 255 ∷ []) ≡ true ∷ true ∷ false ∷ false ∷ []
unfolding kept spoilt file fields_known bytes_known
places_known = refl

thawed : File
thawed = record { number = 1; max_isn = 9; count = 1; fields = field ∷ replicate 15 no_field }

behind_empty : thawed_file (file 1) ≡ thawed
unfolding kept field spoilt file thawed thawed_file thawed_field format_numbered option_numbered
behind_empty = refl

-- the same of a table whose second file is spoilt
table : List KeptFile
table = file 1 ∷ file 2 ∷ []

files_too : map (λ count. files_known count table) (0 ∷ 1 ∷ 2 ∷ 255 ∷ []) ≡ true ∷ true ∷ false ∷ false ∷ []
unfolding kept spoilt file table files_known fields_known bytes_known
files_too = refl

no_file_behind : thawed_files 1 table ≡ thawed ∷ replicate 15 no_file
unfolding kept field spoilt file thawed table thawed_files thawed_file thawed_field format_numbered option_numbered
no_file_behind = refl
