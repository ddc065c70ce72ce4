-- What a call is understood as, by its letters, its option and its user.
-- Assumes nothing.
use Rattle.std.specs.Prelude.{ℕ, ◌≡◌, false, List, Option, Some, None, Ok, Err}
use Rattle.std.proofs.Common.{arith, subst}
use Rattle.std.proofs.Math.Path.{refl}
use Rattle.std.proofs.Math.Bool.{true}
use Rattle.lists.specs.Tests.{within, Outcome, holds, fails, outcome}
use Rattle.nucleus.specs.Commands.{command_of, has_option}
use Rattle.nucleus.specs.Nucleus.{max_users}
use Rattle.nucleus.specs.Rows.{first_cause, rows_understood}
use Rattle.nucleus.specs.declared.Call.{Call}
use Rattle.nucleus.specs.declared.Command.{Command}
use Rattle.nucleus.specs.declared.Response.{Response}
use Rattle.nucleus.specs.declared.Response.TheVariants.{CommandUnknown, UserUnknown}
use Rattle.understanding.specs.Understanding.{understood_as}

module _ (served : List Command) (call : Call) where
  abbrev letters : List ℕ
  letters = call.command

  pub unknown_command : command_of served letters ≡ None → understood_as served call ≡ Err CommandUnknown
  unfolding understood_as rows_understood
  unknown_command e = rw e

  module _ (c : Command) (known : command_of served letters ≡ Some c) where
    pub unnamed_option : has_option c call.option ≡ false → understood_as served call ≡ Err CommandUnknown
    unfolding understood_as rows_understood
    unnamed_option o = rw (known, o)

    pub unknown_user : has_option c call.option ≡ true → within 1 max_users call.user ≡ false → understood_as served call ≡ Err UserUnknown
    unfolding understood_as rows_understood
    unknown_user o u = rw (known, o, u)

    pub known_user : has_option c call.option ≡ true → within 1 max_users call.user ≡ true → understood_as served call ≡ Ok c
    unfolding understood_as rows_understood
    known_user o u = rw (known, o, u)

  -- what a call that is understood has
  pub record Plain (c : Command) : Type 0 where
    pub known : command_of served letters ≡ Some c
    pub option : has_option c call.option ≡ true
    pub user : within 1 max_users call.user ≡ true
    pub passed : first_cause (rows_understood served call) ≡ None

  -- each way that a call is taken, with the causes of it
  data Taken : Type 0 where
    taken : (c : Command) → understood_as served call ≡ Ok c → Plain c → Taken
    left : (cause : Response) → understood_as served call ≡ Err cause → first_cause (rows_understood served call) ≡ Some cause → Taken

  how : Taken
  unfolding rows_understood
  how = by_command (command_of served letters) refl
    where
      by_user : (c : Command) → command_of served letters ≡ Some c → has_option c call.option ≡ true → Outcome (within 1 max_users call.user) → Taken
      by_user c known o (holds u) = taken c (known_user c known o u) (record { known = known; option = o; user = u; passed = rw (known, o, u) })
      by_user c known o (fails u) = left UserUnknown (unknown_user c known o u) (rw (known, o, u))

      by_option : (c : Command) → command_of served letters ≡ Some c → Outcome (has_option c call.option) → Taken
      by_option c known (holds o) = by_user c known o (outcome (within 1 max_users call.user))
      by_option c known (fails o) = left CommandUnknown (unnamed_option c known o) (rw (known, o))

      by_command : (o : Option Command) → command_of served letters ≡ o → Taken
      by_command None e = left CommandUnknown (unknown_command e) (rw e)
      by_command (Some c) e = by_option c e (outcome (has_option c call.option))

  pub understood_plain : (c : Command) → understood_as served call ≡ Ok c → Plain c
  understood_plain c e = go how
    where
      go : Taken → Plain c
      go (taken d f p) = let same : d ≡ c = cc in subst Plain same p
      go (left cause f q) = absurd (let z : ◌≡◌ {A = ℕ} 0 1 = cc in omega arith)

  pub refused_cause : (cause : Response) → understood_as served call ≡ Err cause → first_cause (rows_understood served call) ≡ Some cause
  refused_cause cause e = go how
    where
      go : Taken → first_cause (rows_understood served call) ≡ Some cause
      go (taken d f p) = cc
      go (left other f q) = cc
