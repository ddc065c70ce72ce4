-- `assigned_made` meets its contract: each file in use beside its mark. Assumes nothing.
use Rattle.std.proofs.Common.{ℕ, ◌≡◌, refl, ap, ◌∙◌, ◌&&◌, List, [], ◌∷◌, take, rules, tests}
use Rattle.std.specs.Prelude.{leb}
use Rattle.std.specs.List.{list_all, zip}
use Rattle.std.proofs.lemmas.Iterator.{YieldsList-from_slice, YieldsList-from_zip}
use Rattle.std.proofs.lemmas.Iterator.Search.{all_from_yields_List}
use Rattle.definition.specs.declared.File.{File}
use Rattle.nucleus.specs.WellMade.{assigned_made}
use Rattle.assigned_isns.proofs.assigned_made.Goals as goal

-- each file beside its mark
side_by_side : (files : List File) (isns : List ℕ) → list_all (λ p. leb p.1 p.0.max_isn) (zip files isns) ≡ assigned_made isns files
side_by_side [] isns = refl
side_by_side (f ∷ files) [] = refl
side_by_side (f ∷ files) (isn ∷ isns) = ap (λ b. leb isn f.max_isn && b) (side_by_side files isns)

pub returns : goal.returns
returns c =
    let files = c.args.d.files in
    let isns = c.args.assigned in
    let n = c.file_count-n.result in
    all_from_yields_List (λ p. leb p.1 p.0.max_isn) c.all.new.self _ c.all.result c.all.ensures.ran (YieldsList-from_zip (YieldsList-from_slice (take n files) cc) (YieldsList-from_slice isns cc)) (λ x b q k. search (rules, tests)) ∙ side_by_side (take n files) isns ∙ ap (λ m. assigned_made isns (take m files)) c.file_count-n.ensures
