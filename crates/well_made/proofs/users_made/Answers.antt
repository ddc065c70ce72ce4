-- `users_made` meets its contract: what is asked of the users, one after another. Assumes nothing.
use Rattle.std.proofs.Common.{rules, tests, ◌∙◌}
use Rattle.std.proofs.lemmas.Iterator.{YieldsList-from_slice}
use Rattle.std.proofs.lemmas.Iterator.Search.{all_from_yields_List}
use Rattle.lists.proofs.Chains.{all_listed}
use Rattle.nucleus.specs.WellMade.{user_made}
use Rattle.well_made.proofs.users_made.Goals as goal

pub returns : goal.returns
returns c =
    let made = user_made c.args.clock in
    all_from_yields_List made _ _ c.all.result c.all.ensures.ran (YieldsList-from_slice c.args.users cc) (λ x b q k. search (rules, tests)) ∙ all_listed made c.args.users
