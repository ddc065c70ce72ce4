-- `record_there` meets its contract: the part that is read is the file's, as far as the store has it.
-- Assumes nothing.
use Rattle.std.specs.Prelude.{Some}
use Prim.Native.Nat.{◌-◌, min}
use mathlib.Core.Path.{◌≡◌, sym, ap, ◌∙◌}
use lib.ListN.{length}
use Rattle.definition.specs.Shape.{file_or_none_at}
use Rattle.definition.proofs.Known.{definition_known}
use Rattle.layout.specs.Layout.{place}
use Rattle.layout.specs.Laws.{place_found}
use Rattle.handing.specs.Laws.{there_nowhere, there_in}
use Rattle.handing.proofs.record_there.Goals as goal

pub returns-in_default : goal.returns-in_default
returns-in_default c =
    let a = c.args in
    sym (there_nowhere a.d a.file a.isn a.store.now (sym c.place.ensures ∙ c.in_default.is))

pub returns : goal.returns
returns c =
    let a = c.args in
    let found : place a.d a.file ≡ Some c.in-Some.i = sym c.place.ensures ∙ c.in-Some.is in
    let inside = (place_found a.d (definition_known _ _ c.well_formed.0) a.file c.in-Some.i found).0 in
    c.has_record.ensures
    ∙ there_in a.d a.file a.isn a.store.now c.in-Some.i c.file_at-f.result c.min-start.result c.min.result found
    (c.file_at-f.ensures ∙ file_or_none_at a.d c.in-Some.i inside) (c.min-start.ensures ∙ ap (λ at. min at (length a.store.now)) c.file_offset.ensures)
    (c.min.ensures ∙ ap (λ n. min n (length a.store.now - c.min-start.result)) c.file_size.ensures)
