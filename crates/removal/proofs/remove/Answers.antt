-- `remove` meets its contract. The loop's invariant: of the first i entries, those that stay are closed up, with their images.
-- Assumes nothing.
use lib.Dec.{leb}
use Rattle.entries.specs.Entries.{bit, unpack_of}
use Rattle.entries.specs.Laws.{entries_are}
use Rattle.removal.specs.Closing.{closed, length_closed}
use Rattle.removal.specs.Removal.{stays, remove_queue, remove_images, remove_count}
use Prim.Native.Nat.{ℕ, ◌+◌, ◌*◌, ◌≤◌, ◌<◌}
use mathlib.Core.Path.{◌≡◌, sym, ap, ◌∙◌}
use native.Mathlib.Omega.{arith}
use mathlib.Core.Bool.{Bool, true, false, not}
use mathlib.Core.List.{List}
use native.Mathlib.Nat.{mul-le-mul_right}
use lib.ListN.{length, drop, get_or, set}
use lib.Seq.{paste}
use borrow.Author.Tests.{le-leb, lt-leb, leb-true}
use Rattle.removal.specs.Turn.{flags, length_flags, flags_most, turn_read, turn_count, stay_queue, stay_images, go_on}
use Rattle.removal.proofs.remove.Goals as goal
use Rattle.removal.proofs.remove.Goals.{At-loop-i, else-not-goes, then-not-goes}

-- ---- at the head of the loop: there is room for all entries, and both slices are as long as they were
module _ (c : At-loop-i) where
  abbrev Q : List ℕ
  Q = c.args.queue.now

  abbrev M : List ℕ
  M = c.args.images.now

  abbrev W : ℕ
  W = c.args.width

  abbrev F : List Bool
  F = flags c.args.which Q c.loop-i.i

  passed : length F ≡ c.loop-i.i
  passed = length_flags c.args.which Q c.loop-i.i (omega arith)

  enough : c.args.count * W ≤ length M
  enough = leb-true _ _ (sym c.blocks_fit.ensures ∙ c.if-not-blocks_fit.false)

  room_before : length F * W ≤ length M
  room_before =
      let e : c.loop-i.i ≤ c.args.count = omega arith in
      rw passed (omega (arith, enough, mul-le-mul_right W e))

  kept_most : c.loop-i.kept ≤ c.loop-i.i
  kept_most = omega (arith, flags_most c.args.which Q c.loop-i.i (omega arith), c.loop-i.invariant.0)

  queue_room : length F * 1 ≤ length Q
  queue_room = omega (arith, passed)

  queue_length : length c.loop-i.queue ≡ length Q
  queue_length = ap length c.loop-i.invariant.1 ∙ length_closed 1 F Q queue_room

  images_length : length c.loop-i.images ≡ length M
  images_length = ap length c.loop-i.invariant.2 ∙ length_closed W F M room_before

  room : c.loop-i.i < c.args.count → (c.loop-i.i + 1) * W ≤ length M
  room h =
      let e : c.loop-i.i + 1 ≤ c.args.count = omega arith in
      omega (arith, enough, mul-le-mul_right W e)

pub returns-then-count-queue : goal.returns-then-count-queue
unfolding remove_queue remove_images remove_count
returns-then-count-queue c =
    let a = c.args in
    let no : leb a.count (length a.queue.now) ≡ false = lt-leb a.count (length a.queue.now) c.if-count-queue.true in
    record { value = rw no; queue_after = rw no; images_after = rw no }

pub returns-then-not-blocks_fit : goal.returns-then-not-blocks_fit
unfolding remove_queue remove_images remove_count
returns-then-not-blocks_fit c =
    let a = c.args in
    let yes : leb a.count (length a.queue.now) ≡ true = le-leb a.count (length a.queue.now) c.if-count-queue.false in
    let no : leb (a.count * a.width) (length a.images.now) ≡ false = sym c.blocks_fit.ensures ∙ c.if-not-blocks_fit.true in
    record { value = rw (yes, no); queue_after = rw (yes, no); images_after = rw (yes, no) }

pub loop-i-init : goal.loop-i-init
unfolding closed
loop-i-init c = (rw (entries_are _ 0), rw (entries_are _ 0), rw (entries_are _ 0))

pub bounds-queue-i : goal.bounds-queue-i
bounds-queue-i c = omega (arith, queue_length (goal.at.bounds-queue-i c).At-loop-i)

pub move_entry-requires : goal.move_entry-requires
move_entry-requires c =
    let at = (goal.at.move_entry-requires c).At-loop-i in
    (omega (arith, kept_most at), omega (arith, queue_length at), omega (arith, images_length at, room at c.loop-i-test.true))

pub overflow_add-kept : goal.overflow_add-kept
overflow_add-kept c = omega (arith, kept_most (goal.at.overflow_add-kept c).At-loop-i)

pub loop-i-preserved : goal.loop-i-preserved
loop-i-preserved c =
    let a = c.args in
    let at = (goal.at.loop-i-preserved c).At-loop-i in
    let more = c.loop-i-test.true in
    let inside : c.loop-i.i < length a.queue.now = omega arith in
    let e : c.unpack.result ≡ unpack_of (get_or a.queue.now c.loop-i.i 0) =
    c.unpack.ensures ∙ ap (λ q. unpack_of (get_or q c.loop-i.i 0)) c.loop-i.invariant.1 ∙ ap unpack_of (turn_read a.which a.queue.now a.images.now a.width c.loop-i.i inside (room at more)) in
    let count = turn_count a.which a.queue.now a.images.now a.width c.loop-i.i inside (room at more) c.unpack.result e in
    elim c.if-not-goes.branch [
      | then-not-goes w ↦ let s : stays a.which c.unpack.result ≡ true = ap not (sym c.goes.ensures ∙ w.if-not-goes.true) in
          let word : set c.loop-i.queue c.loop-i.kept (get_or c.loop-i.queue c.loop-i.i 0) ≡ closed 1 (flags a.which a.queue.now (c.loop-i.i + 1)) a.queue.now =
          rw (c.loop-i.invariant.1, c.loop-i.invariant.0) (stay_queue a.which a.queue.now a.images.now a.width c.loop-i.i inside (room at more) c.unpack.result e s) in
          let image : paste c.loop-i.images (c.loop-i.kept * a.width) (drop (c.loop-i.i * a.width) c.loop-i.images) a.width ≡ closed a.width (flags a.which a.queue.now (c.loop-i.i + 1)) a.images.now =
          rw (c.loop-i.invariant.2, c.loop-i.invariant.0) (stay_images a.which a.queue.now a.images.now a.width c.loop-i.i inside (room at more) c.unpack.result e s) in
          (omega (arith, count, ap bit s, w.kept-is, c.loop-i.invariant.0), w.queue-is ∙ w.move_entry.ensures.queue_after ∙ word, w.images-is ∙ w.move_entry.ensures.images_after ∙ image)
      | else-not-goes w ↦ let s : stays a.which c.unpack.result ≡ false = ap not (sym c.goes.ensures ∙ w.if-not-goes.false) in
          let on = go_on a.which a.queue.now a.images.now a.width c.loop-i.i inside (room at more) c.unpack.result e in (
            omega (arith, count, ap bit s, w.kept-is, c.loop-i.invariant.0),
            w.queue-is ∙ c.loop-i.invariant.1 ∙ on 1 a.queue.now (queue_room at) s,
            w.images-is ∙ c.loop-i.invariant.2 ∙ on a.width a.images.now (room_before at) s,
          )
    ]

pub shape_of-queue : goal.shape_of-queue
shape_of-queue c = queue_length (goal.at.shape_of-queue c).At-loop-i

pub shape_of-images : goal.shape_of-images
shape_of-images c = images_length (goal.at.shape_of-images c).At-loop-i

pub returns : goal.returns
unfolding remove_queue remove_images remove_count
returns c =
    let a = c.args in
    let yes : leb a.count (length a.queue.now) ≡ true = le-leb a.count (length a.queue.now) c.if-count-queue.false in
    let also : leb (a.count * a.width) (length a.images.now) ≡ true = sym c.blocks_fit.ensures ∙ c.if-not-blocks_fit.false in
    let end : c.loop-i.i ≡ a.count = omega arith in
    record { value = rw (yes, also, ← end) c.loop-i.invariant.0; queue_after = rw (yes, also, ← end) c.loop-i.invariant.1; images_after = rw (yes, also, ← end) c.loop-i.invariant.2 }
