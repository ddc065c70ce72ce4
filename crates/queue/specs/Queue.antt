-- The hold queue: who holds what, and a new entry.
use Rattle.std.specs.Prelude.{ℕ, ◌+◌, List, [], ◌∷◌, eqb, set, Option, Some, None}
use Rattle.lists.specs.Tests.{cond}
use Rattle.lists.specs.Folds.{total}
use Rattle.entries.specs.Entries.{bit, pack_of, is_of}
use Rattle.entries.specs.declared.Entry.{Entry}

-- ---- who holds what
-- the first entry from here on of the file and ISN, with its place
abbrev pub seek : ℕ → ℕ → List Entry → ℕ → Option (ℕ × Entry)
seek file isn [] i = None
seek file isn (e ∷ es) i = cond (is_of file isn e) (Some (i, e)) (seek file isn es (i + 1))

unfoldable pub holder : List Entry → ℕ → ℕ → Option (ℕ × Entry)
holder es file isn = seek file isn es 0

-- how many entries a user has
abbrev pub one_of : ℕ → Entry → ℕ
one_of user e = bit (eqb e.user user)

unfoldable pub held_by : List Entry → ℕ → ℕ
held_by es user = total (one_of user) es

-- ---- a new entry; a place past the end changes nothing
unfoldable pub append : List ℕ → ℕ → Entry → List ℕ
append words count e = set words count (pack_of e)
