-- A group of commands that document 01 names with an option.
use Rattle.std.specs.Prelude.{List, [], ◌∷◌}
use Rattle.nucleus.specs.declared.Command.{Command}
use Rattle.nucleus.specs.declared.Command.TheVariants.{Op}

-- the command for which option `A` is named
abbrev pub opening_only : List Command
opening_only = Op ∷ []
