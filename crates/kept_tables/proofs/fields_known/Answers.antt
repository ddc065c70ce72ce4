-- `fields_known` meets its contract: what is asked of the fields in use, one after another. Assumes nothing.
use Rattle.std.proofs.Common.{rules, tests, ◌∙◌, ap, take}
use Rattle.std.proofs.lemmas.Iterator.{YieldsList-from_slice}
use Rattle.std.proofs.lemmas.Iterator.Search.{all_from_yields_List}
use Rattle.lists.specs.Folds.{all}
use Rattle.lists.proofs.Chains.{all_listed}
use Rattle.kept_tables.specs.KeptTables.{bytes_known, fields_known}
use Rattle.kept_tables.proofs.fields_known.Goals as goal

pub returns : goal.returns
unfolding fields_known
returns c =
    let fields = c.args.k.fields in
    let n = c.in_use-n.result in
    all_from_yields_List bytes_known _ _ c.all.result c.all.ensures.ran (YieldsList-from_slice (take n fields) cc) (λ x b q k. search (rules, tests)) ∙ all_listed bytes_known (take n fields) ∙ ap (λ m. all bytes_known (take m fields)) c.in_use-n.ensures
