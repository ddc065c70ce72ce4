-- `later_code_at` meets its contract: the later table as the code has it is the definition's.
-- Assumes nothing.
use Prim.Native.Nat.{◌<◌, ◌≤◌}
use mathlib.Core.Path.{sym, ◌∙◌}
use mathlib.Core.List.{[], ◌∷◌, map}
use lib.ListN.{get_or-eq_default}
use borrow.Author.Rules.{rules}
use Rattle.nucleus.specs.Commands.{later_commands, code}
use Rattle.nucleus.specs.declared.Command.TheVariants.{Hi}
use Rattle.codes.specs.Codes.{later_code_at}
use Rattle.codes.specs.Laws.{mapped_at, later_code_here}
use Rattle.codes.proofs.later_code_at.Goals as goal

pub returns-then-place-lt-LATER_COMMANDS : goal.returns-then-place-lt-LATER_COMMANDS
returns-then-place-lt-LATER_COMMANDS c =
    let place = c.args.place in
    let inside : place < 1 = search rules in
    mapped_at code later_commands place Hi [] inside ∙ sym (later_code_here place inside)

pub returns : goal.returns
unfolding later_code_at
returns c =
    let past : 1 ≤ c.args.place = search rules in
    sym (get_or-eq_default (map code later_commands) (0 ∷ 0 ∷ []) past)
