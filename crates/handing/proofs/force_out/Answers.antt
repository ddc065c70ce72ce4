-- `force_out` meets its contract.
-- Assumes nothing.
use Prim.Native.Nat.{◌-◌}
use mathlib.Core.Path.{refl, sym, ap, ◌∙◌}
use lib.ListN.{set, replicate}
use Rattle.removal.specs.declared.Removal.TheVariants.{All}
use Rattle.nucleus.specs.Nucleus.{max_capacity}
use Rattle.nucleus.specs.Users.{ended}
use Rattle.handing.specs.Laws.{picked_go, forced}
use Rattle.handing.proofs.force_out.Goals as goal

pub slice_bounds-hand_over-end : goal.slice_bounds-hand_over-end
slice_bounds-hand_over-end c = sym c.pick_out-n.auto.out

pub shape_of-store : goal.shape_of-store
shape_of-store c = c.back_out-count.auto.store

pub returns : goal.returns
returns c kept assigned =
    let a = c.args in
    let o = c.back_out-count.ensures in
    forced a.d a.clock a.standing kept assigned a.store.now a.queue.now a.images.now a.user _ c.image_length-width.result _ _ _ _ _ _ _ _
    (c.hand_over.ensures kept assigned c.back_out-count.new.images)
    (picked_go a.queue.now _ (replicate max_capacity 0) a.standing.count _ (All a.user) refl c.pick_out-n.ensures.value c.pick_out-n.ensures.out_after) c.image_length-width.ensures
    o.value o.store_after o.queue_after o.images_after
    (c.with_user.ensures ∙ ap (set a.standing.users (a.user - 1)) (c.ended-out.ensures ∙ ap ended c.user_at.ensures))
    c.leave.ensures
