-- `image_has` meets its contract. The loop's invariant: what is sought in the whole queue is sought from here on.
-- Assumes nothing.
use Rattle.std.proofs.Common.{◌≡◌, ◌*◌, drop}
use Rattle.lists.specs.Folds.{any}
use Rattle.entries.specs.Entries.{entries}
use Rattle.images.specs.Images.{with_images, taken_by}
use Rattle.images.proofs.image_has.Given as goal

abbrev pub invariant-loop-i : goal.invariant-loop-i
invariant-loop-i l = any (taken_by l.user l.file l.offset l.value) (with_images l.width (entries l.queue l.count) l.images) ≡ any (taken_by l.user l.file l.offset l.value) (with_images l.width (drop l.i (entries l.queue l.count)) (drop (l.i * l.width) l.images))
