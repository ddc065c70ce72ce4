-- Keys: one number for a file's number and an ISN. The abstract machine of `transactions` knows records by keys only.
use Rattle.std.specs.Prelude.{ℕ, ◌+◌, ◌*◌, ◌/◌, ◌%◌, ◌≤◌, ◌<◌, ◌≡◌, Bool, List, [], ◌∷◌, ◌++◌, map, Some}
use Rattle.definition.specs.Table.{file_at, file_count, files_of}
use Rattle.definition.specs.declared.File.{File}
use Rattle.definition.specs.declared.Definition.{Definition}
use Rattle.layout.specs.Layout.{place, file_found, isn_found}
use Rattle.lists.specs.Numbers.{from_to}

-- the numbers that an ISN of two bytes has
abbrev pub isn_bound : ℕ
isn_bound = 65536

unfoldable pub key : ℕ → ℕ → ℕ
key file isn = file * isn_bound + isn

-- its parts
unfoldable pub key_file : ℕ → ℕ
key_file k = k / isn_bound

unfoldable pub key_isn : ℕ → ℕ
key_isn k = k % isn_bound

-- a file by its number
unfoldable pub file_of : Definition → ℕ → File
file_of d n = file_found d (place d n)

-- the key is one of the table's: its file is in use, and its ISN is 1 to the file's highest
unfoldable pub known : Definition → ℕ → Bool
known d k = isn_found d (place d (key_file k)) (key_isn k)

-- all keys of the table: "files in table order, ISNs rising"
abbrev pub keys_of : List File → List ℕ
keys_of [] = []
keys_of (f ∷ fs) = map (key f.number) (from_to 1 f.max_isn) ++ keys_of fs

unfoldable pub keys : Definition → List ℕ
keys d = keys_of (files_of d)

-- ---- a key of the table
pub record Known (d : Definition) (k : ℕ) : Type 0 where
  pub at : ℕ
  pub found : place d (key_file k) ≡ Some at
  pub in_use : at < file_count d
  pub number : (file_at d at).number ≡ key_file k
  pub least : 1 ≤ key_isn k
  pub most : key_isn k ≤ (file_at d at).max_isn
