-- The line after a command, as code has it in hand.
use Rattle.std.specs.Prelude.{ℕ, ◌&&◌, List, [], ◌∷◌, eqb}
use Rattle.lists.specs.Tests.{cond}
use Rattle.entries.specs.declared.Entry.{Entry}
use Rattle.removal.specs.Removal.{picked_out}
use Rattle.nucleus.specs.Commands.{one_of, letting_go}
use Rattle.nucleus.specs.Responses.{waiting_number}
use Rattle.nucleus.specs.Nucleus.{Nucleus}
use Rattle.nucleus.specs.Waiters.{joined_line, change_line, lets_go, handed}
use Rattle.nucleus.specs.declared.Call.{Call}
use Rattle.nucleus.specs.declared.Command.{Command}
use Rattle.nucleus.specs.declared.Command.TheVariants.{Ri}

abbrev pub releasing_only : List Command
releasing_only = Ri ∷ []

-- the words of the entries that a command may let go, as many as there are places for
abbrev pub going_words : Command → Call → List ℕ → ℕ → ℕ → List ℕ
going_words c call queue count places = cond (one_of letting_go c) (picked_out queue count (lets_go c call) places) []

-- who is answered 20 joins the line; what a command that is good let go is handed over
abbrev pub lined_by : List Entry → Command → Call → ℕ → Nucleus → Nucleus
lined_by gone c call response n =
    cond (eqb response waiting_number) (change_line (joined_line c call) n) (cond (eqb response 0 && one_of letting_go c) (handed gone n) n)
