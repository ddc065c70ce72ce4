-- Worked examples: letters and places that are known, and some that are not. Assumes nothing.
use Rattle.std.specs.Prelude.{ℕ, ◌≡◌, refl, List, [], ◌∷◌, map, Some, None}
use Rattle.nucleus.specs.Commands.{direct_commands, code_at, command_of}
use Rattle.nucleus.specs.declared.Command.TheVariants.{Hi, Cl, Pe}
use Rattle.codes.specs.Codes.{command_at}

-- `HI`, `CL`, `PE`, `IH` and `hi`
letters : List (List ℕ)
letters = (72 ∷ 73 ∷ []) ∷ (67 ∷ 76 ∷ []) ∷ (80 ∷ 69 ∷ []) ∷ (73 ∷ 72 ∷ []) ∷ (104 ∷ 105 ∷ []) ∷ []

by_letters : map (command_of direct_commands) letters ≡ Some Hi ∷ Some Cl ∷ Some Pe ∷ None ∷ None ∷ []
unfolding letters command_of
by_letters = refl

by_place : map command_at (0 ∷ 12 ∷ 13 ∷ 14 ∷ []) ≡ Some Hi ∷ Some Cl ∷ Some Pe ∷ None ∷ []
unfolding command_at
by_place = refl

-- "`partycall` keeps its thirteen commands": the place behind CL has no code there
thirteenth : map code_at (12 ∷ 13 ∷ []) ≡ (67 ∷ 76 ∷ []) ∷ (0 ∷ 0 ∷ []) ∷ []
unfolding code_at
thirteenth = refl
