-- `data_made` meets its contract: what is asked of each user's ET data, one after another. Assumes nothing.
use Rattle.std.proofs.Common.{rules, tests, ◌∙◌}
use Rattle.std.proofs.lemmas.Iterator.{YieldsList-from_slice}
use Rattle.std.proofs.lemmas.Iterator.Search.{all_from_yields_List}
use Rattle.lists.proofs.Chains.{all_listed}
use Rattle.nucleus.specs.WellMade.{data_made}
use Rattle.well_made.proofs.data_made.Goals as goal

pub returns : goal.returns
returns c = all_from_yields_List data_made _ _ c.all.result c.all.ensures.ran (YieldsList-from_slice c.args.et_data cc) (λ x b q k. search (rules, tests)) ∙ all_listed data_made c.args.et_data
