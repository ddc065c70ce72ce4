-- Worked examples: the table of two files, and entries of three users judged by it. Assumes nothing.
use Rattle.std.specs.Prelude.{ℕ, ◌≡◌, refl, true, false, List, [], ◌∷◌, map}
use Rattle.definition.specs.declared.File.{File}
use Rattle.entries.specs.declared.Entry.{Entry}
use Rattle.nucleus.specs.Users.{started, opening, fresh_user}
use Rattle.nucleus.specs.declared.User.{User}
use Rattle.entry_tables.specs.Tables.{highest_in, entry_fits}

file : ℕ → ℕ → File
file number highest = record { number = number; max_isn = highest; count = 0; fields = [] }

files : List File
files = file 3 7 ∷ file 16 4095 ∷ []

users : List User
users = started 0 opening ∷ fresh_user ∷ opening ∷ []

highest : highest_in files ≡ 0 ∷ 0 ∷ 0 ∷ 7 ∷ 0 ∷ 0 ∷ 0 ∷ 0 ∷ 0 ∷ 0 ∷ 0 ∷ 0 ∷ 0 ∷ 0 ∷ 0 ∷ 0 ∷ 4095 ∷ []
unfolding file files highest_in
highest = refl

entry : ℕ → ℕ → ℕ → Entry
entry user number isn = record { user = user; file = number; isn = isn; changed = false; existed = false }

-- one that fits; past its file, of a file that is not there, of ISN 0; of a user in no transaction, of user 0
entries : List Entry
entries = entry 1 3 7 ∷ entry 1 3 8 ∷ entry 1 4 1 ∷ entry 1 3 0 ∷ entry 2 3 7 ∷ entry 0 3 7 ∷ []

judged : map (entry_fits (highest_in files) users) entries ≡ true ∷ false ∷ false ∷ false ∷ false ∷ false ∷ []
unfolding file files users entry entries highest_in entry_fits
judged = refl
