-- `pick_out` meets its contract. The loop's invariant: what was written and what is left to be written make the whole.
-- Assumes nothing.
use Rattle.std.proofs.Common.{◌≡◌, ◌<◌, sym, ap, ◌∙◌, arith, [], min, length, take, get_or, length-take, get_or-take}
use Rattle.std.proofs.lemmas.List.Edits.{sets}
use Rattle.entries.specs.Entries.{unpack_of}
use Rattle.removal.specs.Removal.{goes, picked_out}
use Rattle.removal.proofs.Picking.{unpicked, unpicked_all, unpicked_goes, unpicked_stays, unpicked_none, unpicked_full, write_goes}
use Rattle.removal.proofs.pick_out.Goals as goal
use Rattle.removal.proofs.pick_out.Goals.{At-loop-word, In-loop-word, then-goes, else-goes}

-- nothing is left to be written
ended : (c : At-loop-word) → unpicked c.args.which c.args.queue.now c.args.count (length c.args.out.now) c.loop-word.word-index c.loop-word.written ≡ []
    → (c.loop-word.written ≡ length (picked_out c.args.queue.now c.args.count c.args.which (length c.args.out.now)))
    × (c.loop-word.out ≡ sets c.args.out.now 0 (picked_out c.args.queue.now c.args.count c.args.which (length c.args.out.now)))
ended c none = (omega (arith, ap length none, c.loop-word.invariant.1), sym (ap (sets c.loop-word.out c.loop-word.written) none) ∙ c.loop-word.invariant.2)

-- the word of a turn is in use, and is the queue's own
within : (c : In-loop-word) → c.loop-word.word-index < min c.args.count (length c.args.queue.now)
within c = omega (arith, length-take c.min-n.result c.args.queue.now)

own : (c : In-loop-word) → get_or (take c.min-n.result c.args.queue.now) c.loop-word.word-index 0 ≡ get_or c.args.queue.now c.loop-word.word-index 0
own c = get_or-take c.min-n.result c.args.queue.now c.loop-word.word-index 0 (omega (arith, within c))

pub loop-word-init : goal.loop-word-init
loop-word-init c =
    let a = c.args in
    let all = unpicked_all a.which a.queue.now a.count (length a.out.now) in
    (omega arith, omega (arith, ap length all), ap (sets a.out.now 0) all)

pub returns-then-written-out : goal.returns-then-written-out
returns-then-written-out c =
    let a = c.args in
    let all = ended (goal.at.returns-then-written-out c).At-loop-word (unpicked_full a.which a.queue.now a.count (length a.out.now) c.loop-word.word-index c.loop-word.written (omega arith)) in
    record { value = all.0; out_after = all.1 }

pub loop-word-preserved : goal.loop-word-preserved
loop-word-preserved c =
    let a = c.args in
    let i = c.loop-word.word-index in
    let turn = (goal.at.loop-word-preserved c).In-loop-word in
    let decided = c.goes.ensures ∙ ap (goes a.which) (c.unpack.ensures ∙ ap unpack_of (own turn)) in
    elim c.if-goes.branch [
      | then-goes w ↦
          let yes = sym decided ∙ w.if-goes.true in
          let more = unpicked_goes a.which a.queue.now a.count (length a.out.now) i c.loop-word.written (within turn) (omega arith) yes in
          let write = write_goes a.which a.queue.now a.count (length a.out.now) i c.loop-word.written (within turn) (omega arith) yes c.loop-word.out in
          (omega (arith, w.written-is), rw w.written-is (omega (arith, ap length more, c.loop-word.invariant.1)), rw (w.written-is, w.out-is, own turn) (sym write ∙ c.loop-word.invariant.2))
      | else-goes w ↦
          let same = unpicked_stays a.which a.queue.now a.count (length a.out.now) i c.loop-word.written (within turn) (sym decided ∙ w.if-goes.false) in
          (omega (arith, w.written-is), rw (w.written-is, ← same) c.loop-word.invariant.1, rw (w.written-is, w.out-is, ← same) c.loop-word.invariant.2)
    ]

pub returns : goal.returns
returns c =
    let a = c.args in
    let all = ended (goal.at.returns c).At-loop-word (unpicked_none a.which a.queue.now a.count (length a.out.now) c.loop-word.word-index c.loop-word.written (omega (arith, length-take c.min-n.result a.queue.now))) in
    record { value = all.0; out_after = all.1 }
