-- `kept_set_up` meets its contract. Assumes nothing.
use mathlib.Core.Path.{◌∙◌}
use Rattle.kept_setup.proofs.Laws.{set_up_kept}
use Rattle.kept_setup.proofs.kept_set_up.Goals as goal

pub returns : goal.returns
returns c =
    let a = c.args in
    set_up_kept a.capacity a.store.now a.images.now a.table.now a.entries c.set_up_for-made.result c.set_up_for-made.new.store _ c.set_up_for-made.ensures c.frozen-state.ensures (c.from.ensures ∙ c.number-number.ensures)
