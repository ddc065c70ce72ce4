-- `has_place` meets its contract: a chain over the line's words looks at the places in use. Assumes nothing.
use Rattle.std.proofs.Common.{rules, tests, ◌∙◌, take}
use Rattle.std.proofs.lemmas.Iterator.{YieldsList-from_slice}
use Rattle.std.proofs.lemmas.Iterator.Search.{any_from_yields_List}
use Rattle.entries.specs.Entries.{unpack_of}
use Rattle.entries.proofs.Chains.{any_entries}
use Rattle.nucleus.specs.Waiters.{same_place}
use Rattle.waiters.proofs.has_place.Goals as goal

pub returns : goal.returns
returns c =
    let a = c.args in
    let like = same_place a.command a.call in
    any_from_yields_List (λ w. like (unpack_of w)) _ _ c.any.result c.any.ensures.ran (YieldsList-from_slice (take c.min-n.result a.places.now) cc) (λ x b q k. search (rules, tests)) ∙ any_entries a.places.now a.waiting c.min-n.result c.min-n.ensures like
