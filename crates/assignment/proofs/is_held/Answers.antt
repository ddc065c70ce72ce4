-- `is_held` meets its contract: a lookup that finds. Assumes nothing.
use Rattle.std.specs.Prelude.{is_some}
use Rattle.std.proofs.Common.{ap, ◌∙◌}
use Rattle.entries.specs.Entries.{entries}
use Rattle.queue.specs.Laws.{held_some}
use Rattle.assignment.proofs.is_held.Goals as goal

pub returns : goal.returns
returns c =
    let a = c.args in
    c.is_some.ensures ∙ ap is_some c.holder.ensures ∙ held_some a.file a.isn (entries a.queue.now a.count)
