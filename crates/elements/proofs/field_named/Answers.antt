-- `field_named` meets its contract: a position that is found is the first place. Assumes nothing.
use Rattle.std.specs.Prelude.{take}
use Rattle.std.proofs.Common.{rules, tests, sym, ◌∙◌}
use Rattle.std.proofs.lemmas.Iterator.{YieldsList-from_slice}
use Rattle.std.proofs.lemmas.Iterator.Search.{position_from_yields_List}
use Rattle.elements.proofs.Steps.{first_position}
use Rattle.elements.specs.Elements.{has_name, field_named}
use Rattle.elements.proofs.field_named.Goals as goal

pub returns : goal.returns
unfolding field_named
returns c =
    let a = c.args in
    position_from_yields_List (has_name a.name) _ _ c.position.result c.position.ensures.ran (YieldsList-from_slice (take c.field_count-n.result a.f.fields) cc) (λ x b q k. search (rules, tests))
    ∙ sym (first_position (has_name a.name) (take c.field_count-n.result a.f.fields)) ∙ rw c.field_count-n.ensures
