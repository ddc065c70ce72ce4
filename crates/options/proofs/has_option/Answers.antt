-- `has_option` meets its contract: the option of each arm computes to its test of the command.
-- Assumes nothing.
use mathlib.Core.Path.{◌≡◌, sym, ap, ◌∙◌}
use mathlib.Core.Bool.{or-false}
use mathlib.Core.List.{[], ◌∷◌}
use borrow.Author.Tests.{ne_eqb}
use native.Mathlib.Omega.{arith}
use Rattle.nucleus.specs.Commands.{one_of, reading_values, reading_committed, changing_held, has_option}
use Rattle.nucleus.specs.declared.Command.TheVariants.{Op}
use Rattle.options.proofs.has_option.Goals as goal

pub returns-in-32 : goal.returns-in-32
unfolding has_option
returns-in-32 c = sym (ap (has_option c.args.command) c.in-32.is)

pub returns-in-73 : goal.returns-in-73
unfolding has_option
returns-in-73 c =
    let command = c.args.command in
    let here : has_option command 73 ≡ one_of reading_values command = simp or-false in
    c.reads_values.ensures ∙ sym (ap (has_option command) c.in-73.is ∙ here)

pub returns-in-72 : goal.returns-in-72
unfolding has_option
returns-in-72 c =
    let command = c.args.command in
    let here : has_option command 72 ≡ one_of changing_held command = simp or-false in
    c.changes_held.ensures ∙ sym (ap (has_option command) c.in-72.is ∙ here)

pub returns-in-65 : goal.returns-in-65
unfolding has_option
returns-in-65 c =
    let command = c.args.command in
    let here : has_option command 65 ≡ one_of (Op ∷ []) command = simp or-false in
    c.opens.ensures ∙ sym (ap (has_option command) c.in-65.is ∙ here)

pub returns-in-67 : goal.returns-in-67
unfolding has_option
returns-in-67 c =
    let command = c.args.command in
    let here : has_option command 67 ≡ one_of reading_committed command = simp or-false in
    c.reads_committed.ensures ∙ sym (ap (has_option command) c.in-67.is ∙ here)

pub returns-in-87 : goal.returns-in-87
unfolding has_option
returns-in-87 c = c.may_wait.ensures ∙ sym (ap (has_option c.args.command) c.in-87.is)

pub returns-in_default : goal.returns-in_default
unfolding has_option
returns-in_default c =
    let o = c.args.option in
    rw (ne_eqb o 32 (omega arith), ne_eqb o 73 (omega arith), ne_eqb o 72 (omega arith), ne_eqb o 65 (omega arith), ne_eqb o 67 (omega arith), ne_eqb o 87 (omega arith))
