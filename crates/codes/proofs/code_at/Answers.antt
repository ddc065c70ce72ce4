-- `code_at` meets its contract: the table as the code has it is the definition's, at each place.
-- Assumes nothing.
use Prim.Native.Nat.{◌<◌, ◌≤◌}
use mathlib.Core.Path.{sym, ◌∙◌}
use mathlib.Core.List.{[], ◌∷◌, map}
use lib.ListN.{get_or-eq_default}
use borrow.Author.Rules.{rules}
use Rattle.nucleus.specs.Commands.{commands, code, code_at}
use Rattle.nucleus.specs.declared.Command.TheVariants.{Hi}
use Rattle.codes.specs.Laws.{mapped_at, code_here}
use Rattle.codes.proofs.code_at.Goals as goal

pub returns-then-place-lt-COMMANDS : goal.returns-then-place-lt-COMMANDS
returns-then-place-lt-COMMANDS c =
    let place = c.args.place in
    let inside : place < 13 = search rules in
    mapped_at code commands place Hi [] inside ∙ sym (code_here place inside)

pub returns : goal.returns
unfolding code_at
returns c =
    let past : 13 ≤ c.args.place = search rules in
    sym (get_or-eq_default (map code commands) (0 ∷ 0 ∷ []) past)
