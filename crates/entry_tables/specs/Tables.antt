-- A table by which entries of the hold queue are judged: one look-up for each entry in place of a walk through the files.
use Rattle.std.specs.Prelude.{ℕ, ◌-◌, Bool, ◌&&◌, List, [], ◌∷◌, map, eqb, get_or}
use Rattle.lists.specs.Tests.{cond, within}
use Rattle.lists.specs.Numbers.{numbers}
use Rattle.definition.specs.Table.{files_of}
use Rattle.definition.specs.declared.File.{File}
use Rattle.definition.specs.declared.Definition.{Definition}
use Rattle.entries.specs.declared.Entry.{Entry}
use Rattle.nucleus.specs.Users.{is_active, fresh_user}
use Rattle.nucleus.specs.Nucleus.{max_users}
use Rattle.nucleus.specs.declared.User.{User}

-- the highest ISN of the first file that has the number, 0 for none
abbrev pub highest_isn : List File → ℕ → ℕ
highest_isn [] n = 0
highest_isn (f ∷ fs) n = cond (eqb f.number n) f.max_isn (highest_isn fs n)

-- at each number from 0 to 16
unfoldable pub highest_in : List File → List ℕ
highest_in fs = map (highest_isn fs) (numbers 17 0)

abbrev pub highest_isns : Definition → List ℕ
highest_isns d = highest_in (files_of d)

-- "each within its file and of a user in a transaction"
unfoldable pub entry_fits : List ℕ → List User → Entry → Bool
entry_fits highest users e = within 1 (get_or highest e.file 0) e.isn && (within 1 max_users e.user && is_active (get_or users (e.user - 1) fresh_user))
