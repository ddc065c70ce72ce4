-- `move_entry` meets its contract: an image lies behind the place that it comes to. Assumes nothing.
use Prim.Native.Nat.{◌*◌, ◌≤◌}
use mathlib.Core.Path.{sym}
use native.Mathlib.Omega.{arith}
use native.Mathlib.Nat.{mul-le-mul_right}
use lib.Seq.{set-get_or}
use Rattle.lists.specs.Copies.{copy_nothing}
use Rattle.removal.proofs.move_entry.Goals as goal

pub returns-then-from-to : goal.returns-then-from-to
returns-then-from-to c = let a = c.args in record { queue_after = sym (rw c.if-from-to.true (set-get_or a.queue.now a.to 0)); images_after = sym (rw c.if-from-to.true (copy_nothing a.images.now (a.to * a.width) a.width)) }

pub overflow_mul-to : goal.overflow_mul-to
overflow_mul-to c =
    let a = c.args in
    let e : a.to ≤ a.from = omega arith in
    omega (arith, mul-le-mul_right a.width e)
