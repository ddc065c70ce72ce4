-- What comes before a command, as code answers it.
use Rattle.std.specs.Prelude.{not, ◌&&◌, [], ◌∷◌, Option, Ok, Err}
use Rattle.shares.specs.Shares.{Verdict}
use Rattle.nucleus.specs.Commands.{one_of, serving_ready, setting_ready, serving_access_only}
use Rattle.nucleus.specs.Users.{is_active, is_ready}
use Rattle.nucleus.specs.Nucleus.{Nucleus}
use Rattle.nucleus.specs.Rows.{row, first_cause}
use Rattle.nucleus.specs.Step.{Admission, turned_away, let_in}
use Rattle.nucleus.specs.declared.Command.{Command}
use Rattle.nucleus.specs.declared.Response.{Response}
use Rattle.nucleus.specs.declared.Response.TheVariants.{TransactionReady, AccessOnly, NoTransaction}
use Rattle.nucleus.specs.declared.User.{User}

-- 211, 29 and 212, by the user alone
unfoldable pub session_cause : Command → User → Option Response
session_cause c u =
    first_cause
    (row TransactionReady (is_ready u && not (one_of serving_ready c))
    ∷ row AccessOnly (u.access_only && not (one_of serving_access_only c))
    ∷ row NoTransaction (one_of setting_ready c && not (is_active u))
    ∷ [])

-- let in, or turned away
abbrev pub admission_of : Verdict → Command → Nucleus → Admission
admission_of (Ok tt) c n = let_in c n
admission_of (Err cause) c n = turned_away cause n
