-- `unpacked_allowed` meets its contract. Assumes nothing.
use Rattle.std.proofs.Common.{rules, tests, ◌∙◌}
use Rattle.std.proofs.lemmas.Iterator.{YieldsList-from_slice}
use Rattle.std.proofs.lemmas.Iterator.Search.{all_from_yields_List}
use Rattle.lists.proofs.Chains.{all_listed}
use Rattle.digits.specs.Digits.{unpacked_digit}
use Rattle.digits.proofs.unpacked_allowed.Goals as goal

pub returns : goal.returns
returns c =
    all_from_yields_List unpacked_digit _ _ c.all.result c.all.ensures.ran (YieldsList-from_slice c.args.value.now cc) (λ x b q k. search (rules, tests))
    ∙ all_listed unpacked_digit c.args.value.now
