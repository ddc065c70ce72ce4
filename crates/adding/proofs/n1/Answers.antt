-- `n1` meets its contract: the rows that it begins with refuse it whatever ISN it would find.
-- Assumes nothing.
use mathlib.Core.Path.{refl, sym, ◌∙◌}
use Rattle.shares.specs.Causes.{verdict_refused}
use Rattle.shares.specs.Chains.{free_isn}
use Rattle.adding.specs.Laws.{n1_begins}
use Rattle.adding.proofs.n1.Goals as goal

pub returns-in-Err : goal.returns-in-Err
returns-in-Err c =
    let a = c.args in
    let why = verdict_refused _ _ (sym c.storable.ensures ∙ c.in-Err.is) in
    rw (n1_begins a.f a.part.now a.call a.share a.queue.now a.images.now a.width a.most a.format.now a.buffer.now (free_isn a.f a.part.now a.call a.share a.queue.now) _ why)
    (record { value = c.refused.ensures; part_after = refl; queue_after = refl; images_after = refl })
