-- `n2` meets its contract: the rows that it begins with come before those of its ISN.
-- Assumes nothing.
use mathlib.Core.Path.{refl, sym, ◌∙◌}
use Rattle.shares.specs.Causes.{verdict_refused}
use Rattle.adding.specs.Laws.{n2_begins}
use Rattle.adding.proofs.n2.Goals as goal

pub returns-in-Err : goal.returns-in-Err
returns-in-Err c =
    let a = c.args in
    let why = verdict_refused _ _ (sym c.storable.ensures ∙ c.in-Err.is) in
    rw (n2_begins a.f a.part.now a.call a.share a.queue.now a.images.now a.width a.most a.format.now a.buffer.now _ why)
    (record { value = c.refused.ensures; part_after = refl; queue_after = refl; images_after = refl })
