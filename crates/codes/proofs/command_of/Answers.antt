-- `command_of` meets its contract. The loop's invariant: what is sought in both tables is sought from here on.
-- Assumes nothing.
use Rattle.std.specs.Prelude.{◌≤◌, ℕ, ◌<◌, ◌≡◌, refl, List, Bool}
use Rattle.std.proofs.Common.{arith, sym, ap, ◌∙◌}
use Rattle.lists.specs.Tests.{eqbs}
use Rattle.nucleus.specs.Commands.{direct_commands, code}
use Rattle.codes.specs.Codes.{letters_at}
use Rattle.codes.specs.Laws.{listed, letters_here, command_here, found_here, found_later, found_nowhere}
use Rattle.codes.proofs.command_of.Goals as goal

pub loop-i-init : goal.loop-i-init
loop-i-init c = refl

-- the test of the letters, as the search makes it
tested : (i : ℕ) (found letters : List ℕ) (t : Bool) → i < 14 → found ≡ letters_at i → t ≡ eqbs found letters → eqbs (code (listed i)) letters ≡ t
tested i found letters t h e f = sym (f ∙ ap (λ l. eqbs l letters) (e ∙ letters_here i h))

pub returns-then-eq : goal.returns-then-eq
returns-then-eq c =
    let i = c.loop-i.i in
    let letters = c.args.letters in
    let inside : i < 14 = omega arith in
    let yes = tested i _ letters _ inside c.letters_at.ensures c.eq.ensures ∙ c.if-eq.true in
    c.command_at.ensures ∙ command_here i inside ∙ sym (c.loop-i.invariant ∙ found_here letters direct_commands i inside yes)

pub loop-i-preserved : goal.loop-i-preserved
loop-i-preserved c =
    let i = c.loop-i.i in
    let letters = c.args.letters in
    let inside : i < 14 = omega arith in
    let no = tested i _ letters _ inside c.letters_at.ensures c.eq.ensures ∙ c.if-eq.false in
    c.loop-i.invariant ∙ found_later letters direct_commands i inside no

pub returns : goal.returns
returns c =
    let past : 14 ≤ c.loop-i.i = omega arith in
    sym (c.loop-i.invariant ∙ found_nowhere c.args.letters direct_commands c.loop-i.i past)
