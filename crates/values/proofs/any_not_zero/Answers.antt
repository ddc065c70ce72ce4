-- `any_not_zero` meets its contract: a byte is zero where both its half bytes are. Assumes nothing.
use Rattle.std.proofs.Common.{rules, tests, ◌∙◌}
use Rattle.std.proofs.lemmas.Iterator.{YieldsList-from_slice}
use Rattle.std.proofs.lemmas.Iterator.Search.{any_from_yields_List}
use Rattle.values.specs.Values.{not_zero}
use Rattle.values.proofs.Bytes.{any_halves}
use Rattle.values.proofs.any_not_zero.Goals as goal

pub returns : goal.returns
returns c =
    any_from_yields_List not_zero _ _ c.any.result c.any.ensures.ran (YieldsList-from_slice c.args.bytes.now cc) (λ x b q k. search (rules, tests))
    ∙ any_halves c.args.bytes.now
