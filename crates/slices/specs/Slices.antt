-- A slice over which another was copied.
use Rattle.std.specs.Prelude.{List, ◌++◌, ℕ, length, take, drop}

-- as many of the first as the second has places, and what is left of the second where the first is shorter
unfoldable pub copied : List ℕ → List ℕ → List ℕ
copied from to = take (length to) from ++ drop (length from) to
