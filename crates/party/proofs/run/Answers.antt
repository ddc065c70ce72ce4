-- The whole run: the output of the input, where both are known. Assumes nothing.
use Rattle.std.proofs.Common.{◌∙◌, arith, sym, ap, lit≤, subst}
use Rattle.std.specs.Prelude.{IfSome}
use Rattle.std.proofs.lemmas.Result.{on_ok_weaker}
use Rattle.party.specs.Serving.{TableFound}
use Rattle.party.proofs.Runs.{run_missing, run_refused, run_served}
use Rattle.party.proofs.run.Goals as goal

pub returns-in_default : goal.returns-in_default
returns-in_default g c =
    on_ok_weaker c.print_bad.result
    (run_missing _ (g.R.Read.remaining c.read_table.new.input) c.read_table.new.table _ _ (subst (λ r. IfSome (g.R.Read.remaining c.args.input.now) (λ xs. TableFound xs (g.R.Read.remaining c.read_table.new.input) r c.read_table.new.table)) c.in_default.is (c.in_ok-length.ensures.found (lit≤ tt))))
    c.print_bad.ensures

pub returns-then-number-ne0 : goal.returns-then-number-ne0
returns-then-number-ne0 g c =
    on_ok_weaker c.print_bad-then-number-ne0.result
    (run_refused _ _ _ _ _ _ _ (subst (λ r. IfSome (g.R.Read.remaining c.args.input.now) (λ xs. TableFound xs (g.R.Read.remaining c.read_table.new.input) r c.read_table.new.table)) c.in-Some.is (c.in_ok-length.ensures.found (lit≤ tt))) c.set_up-nucleus.ensures (λ q. c.if-number-ne0.true (c.number.ensures ∙ q)))
    c.print_bad-then-number-ne0.ensures

pub returns : goal.returns
returns g c =
    on_ok_weaker c.serve.result
    (run_served _ _ _ _ _ _ _ (subst (λ r. IfSome (g.R.Read.remaining c.args.input.now) (λ xs. TableFound xs (g.R.Read.remaining c.read_table.new.input) r c.read_table.new.table)) c.in-Some.is (c.in_ok-length.ensures.found (lit≤ tt))) c.set_up-nucleus.ensures (sym c.number.ensures ∙ c.if-number-ne0.false))
    c.serve.ensures
