-- What a call is understood as, as code answers it.
use Rattle.std.specs.Prelude.{ℕ, Bool, not, ◌&&◌, List, eqb, Option, Some, None, Result, Ok, Err}
use Rattle.lists.specs.Tests.{within}
use Rattle.nucleus.specs.Commands.{command_of, one_of, at_given_isn, reading_values, option_I}
use Rattle.nucleus.specs.Rows.{first_cause, rows_understood}
use Rattle.nucleus.specs.declared.Call.{Call}
use Rattle.nucleus.specs.declared.Command.{Command}
use Rattle.nucleus.specs.declared.Response.{Response}
use Rattle.nucleus.specs.declared.Response.TheVariants.{CommandUnknown}

-- 22 and 72
abbrev pub understood_by : Option Response → Option Command → Result Command Response
understood_by (Some cause) x = Err cause
understood_by None (Some c) = Ok c
understood_by None None = Err CommandUnknown

unfoldable pub understood_as : List Command → Call → Result Command Response
understood_as served call = understood_by (first_cause (rows_understood served call)) (command_of served call.command)

-- 113, first: the ISN that the call gives is none of the file's
abbrev pub isn_refused : Command → Call → ℕ → Bool
isn_refused c call max_isn =
    not (one_of reading_values c && eqb call.option option_I) && (one_of at_given_isn c && not (within 1 max_isn call.isn))
