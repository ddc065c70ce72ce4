-- Where files lie in the store, and their places by number (document 01, 'Store': "files in table order, ISNs rising").
use Rattle.std.specs.Prelude.{ℕ, ◌+◌, List, [], ◌∷◌, eqb, take, Bool, false, Option, Some, None}
use Rattle.lists.specs.Tests.{cond, within}
use Rattle.lists.specs.Folds.{total, maximum}
use Rattle.definition.specs.Table.{beyond, file_at, files_of}
use Rattle.definition.specs.declared.File.{File}
use Rattle.definition.specs.declared.Definition.{Definition}
use Rattle.records.specs.Records.{record_length, slot_offset, file_size}

-- where the first slot of the i-th file, from 0, begins in the store
unfoldable pub file_offset : Definition → ℕ → ℕ
file_offset d i = total file_size (take i (files_of d))

-- where the slot of an ISN of the i-th file begins in the store
abbrev pub slot_start : Definition → ℕ → ℕ → ℕ
slot_start d i isn = file_offset d i + slot_offset (file_at d i) isn

unfoldable pub store_size : Definition → ℕ
store_size d = total file_size (files_of d)

-- the greatest width: the bytes of an image
unfoldable pub image_length : Definition → ℕ
image_length d = maximum record_length (files_of d)

-- the place in the table of the first file from here on that has the number
abbrev pub seek : ℕ → List File → ℕ → Option ℕ
seek n [] i = None
seek n (f ∷ fs) i = cond (eqb f.number n) (Some i) (seek n fs (i + 1))

-- a file by its number
unfoldable pub place : Definition → ℕ → Option ℕ
place d n = seek n (files_of d) 0

-- the file at the place that was found; one without fields and ISNs where none was
abbrev pub file_found : Definition → Option ℕ → File
file_found d (Some i) = file_at d i
file_found d None = beyond

-- whether an ISN is one of that file's
abbrev pub isn_found : Definition → Option ℕ → ℕ → Bool
isn_found d (Some i) isn = within 1 (file_at d i).max_isn isn
isn_found d None isn = false
