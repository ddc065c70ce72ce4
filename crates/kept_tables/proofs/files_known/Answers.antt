-- `files_known` meets its contract: what is asked of the files in use, one after another. Assumes nothing.
use Rattle.std.proofs.Common.{rules, tests, ◌∙◌, ap, take}
use Rattle.std.proofs.lemmas.Iterator.{YieldsList-from_slice}
use Rattle.std.proofs.lemmas.Iterator.Search.{all_from_yields_List}
use Rattle.lists.specs.Folds.{all}
use Rattle.lists.proofs.Chains.{all_listed}
use Rattle.kept_tables.specs.KeptTables.{fields_known, files_known}
use Rattle.kept_tables.proofs.files_known.Goals as goal

pub returns : goal.returns
unfolding files_known
returns c =
    let files = c.args.files in
    let n = c.in_use-n.result in
    all_from_yields_List fields_known _ _ c.all.result c.all.ensures.ran (YieldsList-from_slice (take n files) cc) (λ x b q k. search (rules, tests)) ∙ all_listed fields_known (take n files) ∙ ap (λ m. all fields_known (take m files)) c.in_use-n.ensures
