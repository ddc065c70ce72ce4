-- `held_before` meets its contract: where the mark is set, the lookup says. Assumes nothing.
use Rattle.std.specs.Prelude.{is_some}
use Rattle.std.proofs.Common.{ap, ◌∙◌}
use Rattle.entries.specs.Entries.{entries}
use Rattle.queue.specs.Laws.{held_some}
use Rattle.repeats.proofs.held_before.Goals as goal

pub returns-then-marked : goal.returns-then-marked
returns-then-marked c =
    let a = c.args in
    c.is_some.ensures ∙ ap is_some c.holder.ensures ∙ held_some a.e.file a.e.isn (entries a.queue.now a.count)
