-- `l1` meets its contract: past its target the version that it reads decides. A version that passed 113 has a record.
-- Assumes nothing.
use mathlib.Core.Path.{◌≡◌, refl, sym, ap, ◌∙◌}
use mathlib.Core.List.{[], ◌∷◌}
use Rattle.committed.specs.Committed.{version_there, version_bytes}
use Rattle.nucleus.specs.Rows.{first_cause}
use Rattle.shares.specs.Chains.{row_shown, version_at, l1_cause}
use Rattle.shares.specs.Outcomes.{version_buffer}
use Rattle.retrieval.specs.Laws.{target_sought}
use Rattle.retrieval.proofs.Causes.{l1_left}
use Rattle.retrieval.proofs.l1.Goals as goal
use Rattle.retrieval.proofs.l1.Goals.{After-version_there, In-Ok}

-- the cause that is left past the target
left : (c : In-Ok) → let a = c.args in
    l1_cause a.call a.f a.part.now a.share a.queue.now a.images.now a.width a.format.now a.buffer.now
    ≡ first_cause (row_shown a.call a.f a.part.now a.share a.queue.now a.images.now a.width c.in-Ok.isn ∷ [])
left c =
    let a = c.args in
    l1_left a.call a.f a.part.now a.share a.queue.now a.format.now a.buffer.now a.images.now a.width _ (sym c.read_target.ensures ∙ c.in-Ok.is)

-- whether the version that is read has a record
shown : (c : After-version_there) → let a = c.args in
    c.version_there.result ≡ version_there a.f a.part.now a.images.now a.width (version_at a.call a.share a.queue.now c.in-Ok.isn) c.in-Ok.isn
shown c =
    let a = c.args in
    c.version_there.ensures ∙ ap (λ v. version_there a.f a.part.now a.images.now a.width v c.in-Ok.isn) c.version_at-version.ensures

pub returns-then-not-version_there : goal.returns-then-not-version_there
returns-then-not-version_there c =
    let g = goal.at.returns-then-not-version_there c in
    rw (left g.In-Ok, sym (shown g.After-version_there) ∙ c.if-not-version_there.true) (record { value = c.refused-then-not-version_there.ensures; buffer_after = refl })

pub returns : goal.returns
unfolding version_buffer
returns c =
    let a = c.args in
    let g = goal.at.returns c in
    let content = c.version_part-content.ensures ∙ ap (λ v. version_bytes a.f a.part.now a.images.now a.width v c.in-Ok.isn) c.version_at-version.ensures in
    let sought = target_sought a.call a.f a.part.now a.format.now a.buffer.now _ (sym c.read_target.ensures ∙ c.in-Ok.is) in
    rw (left g.In-Ok, sym (shown g.After-version_there) ∙ c.if-not-version_there.false, sought, ← c.read-quantity.ensures.value)
    (record { value = c.good.ensures; buffer_after = rw content at c.read-quantity.ensures.buffer_after })
