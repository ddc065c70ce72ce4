-- What two letters and a place of the tables of commands say, as code answers it (document 01: "its place in the table of commands HI RI L1 L4 .."; the
-- later commands behind that).
use Rattle.std.specs.Prelude.{ℕ, List, [], ◌∷◌, map, get_or, Option, Some, None}
use Rattle.nucleus.specs.Commands.{later_commands, direct_commands, code}
use Rattle.nucleus.specs.declared.Command.{Command}

-- the code at a place of the later ones, from 0, and of all; zeros past the end
unfoldable pub later_code_at : ℕ → List ℕ
later_code_at place = get_or (map code later_commands) place (0 ∷ 0 ∷ [])

unfoldable pub letters_at : ℕ → List ℕ
letters_at place = get_or (map code direct_commands) place (0 ∷ 0 ∷ [])

-- the command at a place, from 0; past the end none
unfoldable pub command_at : ℕ → Option Command
command_at place = get_or (map Some direct_commands) place None
