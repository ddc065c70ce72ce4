-- What a state has that 12 and 11 do not refuse: room in the queue and in the line, and nobody waits twice.
-- Assumes nothing.
use Prim.Native.Nat.{ℕ, ◌+◌, ◌*◌, ◌≤◌}
use Rattle.std.proofs.Common.{arith, ap}
use Rattle.std.specs.Prelude.{◌≡◌, refl, not, List, [], ◌∷◌, length, Option, Some, None}
use Rattle.std.proofs.Math.Bool.{Bool, true, false}
use Rattle.std.proofs.Math.Dec.{eqb, leb, ltb}
use borrow.Author.Tests.{eqb-true, leb-true, ltb-false, not-false}
use Rattle.lists.specs.Tests.{within, within_most, not_both, Outcome, holds, fails, outcome, and_left, and_right, or_left, or_right}
use Rattle.lists.specs.Folds.{all, total}
use Rattle.lists.specs.Sift.{sift}
use Rattle.lists.specs.Every.{all_implies}
use Rattle.entries.specs.Entries.{is_of}
use Rattle.entries.specs.declared.Entry.{Entry}
use Rattle.queue.specs.Queue.{held_by}
use Rattle.queue.specs.Queue as queue
use Rattle.validity.specs.Validity.{valid}
use Rattle.nucleus.specs.Nucleus.{Nucleus, max_users, max_capacity, width_of}
use Rattle.nucleus.specs.WellMade.{too_short, waiter_made, well_made}
use Rattle.nucleus.specs.Waiters.{waiters_of, is_user}
use Rattle.nucleus.specs.Rows.{row, first_cause, rows_usable}
use Rattle.nucleus.specs.declared.Response.{Response}
use Rattle.nucleus.specs.declared.Response.TheVariants.{BufferTooShort, StateInvalid}
use Rattle.overtaking.specs.Moments.{waits}
use Rattle.overtaking.proofs.Room.{RoomIn, InLine, only_there, waits_sift}
use Rattle.overtaking.proofs.Passing.{Ready}

-- ---- whoever waits once, and for a record, waits for no other
module _ (u file isn : ℕ) where
  abbrev times : List Entry → ℕ
  times l = total (queue.one_of u) l

  none_his : (l : List Entry) → times l ≡ 0 → all (only_there u file isn) l ≡ true
  none_his [] h = refl
  none_his (w ∷ l) h = go (outcome (is_user u w)) (none_his l)
    where
      go : Outcome (is_user u w) → (times l ≡ 0 → all (only_there u file isn) l ≡ true) → all (only_there u file isn) (w ∷ l) ≡ true
      go (holds t) i = let one : 1 + times l ≡ 0 = rw t at h in absurd (omega arith)
      go (fails t) i = let less : 0 + times l ≡ 0 = rw t at h in rw t (i (omega arith))

  nowhere : (l : List Entry) → times l ≡ 0 → waits u l ≡ false
  nowhere [] h = refl
  nowhere (w ∷ l) h = go (outcome (is_user u w)) (nowhere l)
    where
      go : Outcome (is_user u w) → (times l ≡ 0 → waits u l ≡ false) → waits u (w ∷ l) ≡ false
      go (holds t) i = let one : 1 + times l ≡ 0 = rw t at h in absurd (omega arith)
      go (fails t) i = let less : 0 + times l ≡ 0 = rw t at h in rw t (i (omega arith))

  once : (l : List Entry) → times l ≡ 1 → waits u (sift (is_of file isn) l) ≡ true → all (only_there u file isn) l ≡ true
  once [] h his = refl
  once (w ∷ l) h his = go (outcome (is_user u w)) (outcome (is_of file isn w)) (once l)
    where
      go : Outcome (is_user u w) → Outcome (is_of file isn w) → (times l ≡ 1 → waits u (sift (is_of file isn) l) ≡ true → all (only_there u file isn) l ≡ true)
          → all (only_there u file isn) (w ∷ l) ≡ true
      go (holds t) (holds r) i = let one : 1 + times l ≡ 1 = rw t at h in rw (t, r) (none_his l (omega arith))
      go (holds t) (fails r) i =
          let one : 1 + times l ≡ 1 = rw t at h in
          not_both (waits u l) (waits_sift u file isn (is_of file isn) l (rw r at his)) (nowhere l (omega arith))
      go (fails t) (holds r) i = let same : 0 + times l ≡ 1 = rw t at h in rw t (i (omega arith) (rw (r, t) at his))
      go (fails t) (fails r) i = let same : 0 + times l ≡ 1 = rw t at h in rw t (i (omega arith) (rw r at his))

  -- what holds of every waiter's number holds of his
  of_waiter : (p : ℕ → Bool) (l : List Entry) → all (λ (w : Entry). p w.user) l ≡ true → waits u l ≡ true → p u ≡ true
  of_waiter p [] h his = not_both false his refl
  of_waiter p (w ∷ l) h his = go (outcome (is_user u w)) (of_waiter p l (and_right (p w.user) (all (λ (w : Entry). p w.user) l) h))
    where
      go : Outcome (is_user u w) → (waits u l ≡ true → p u ≡ true) → p u ≡ true
      go (holds t) i = rw (eqb-true w.user u t) at (and_left (p w.user) (all (λ (w : Entry). p w.user) l) h)
      go (fails t) i = i (rw t at his)

-- ---- no row of the first three holds
no_cause : {A : Type 0} (cause : Response) → Some cause ≡ None → A
no_cause cause h = absurd (let z : ◌≡◌ {A = ℕ} 1 0 = ap (λ (x : Option Response). elim x [ None ↦ 0 | Some c ↦ 1 ]) h in omega arith)

module _ (capacity : ℕ) (n : Nucleus) (passes : first_cause (rows_usable capacity n) ≡ None) where
  abbrev short : Bool
  short = too_short n.state.definition capacity n.store n.queue n.images

  judged : (short ≡ false) × (well_made capacity n ≡ true)
  unfolding rows_usable
  judged = go (valid n.state.definition) short (well_made capacity n) passes
    where
      go : (a b c : Bool) → first_cause (row StateInvalid (not a) ∷ row BufferTooShort b ∷ row StateInvalid (not c) ∷ []) ≡ None → (b ≡ false) × (c ≡ true)
      go false b c h = no_cause StateInvalid h
      go true true c h = no_cause BufferTooShort h
      go true false false h = no_cause StateInvalid h
      go true false true h = (refl, refl)

  room : RoomIn capacity 0 n
  unfolding too_short well_made
  room =
      let long : short ≡ false = judged.0 in
      let made : well_made capacity n ≡ true = judged.1 in
      let size : within 1 max_capacity capacity ≡ true = not-false _ (search (or_left, or_right)) in
      let queue : ltb (length n.queue) capacity ≡ false = search (or_left, or_right) in
      let images : ltb (length n.images) (capacity * width_of n) ≡ false = search (or_left, or_right) in
      let few : leb n.state.count capacity ≡ true = search (and_left, and_right) depth 9 in
      record {
        most = within_most 1 max_capacity capacity size;
        few = omega (arith, leb-true n.state.count capacity few);
        queue_long = ltb-false (length n.queue) capacity queue;
        images_long = ltb-false (length n.images) (capacity * width_of n) images;
      }

  -- a line has a place for each user
  module _ (u file isn : ℕ) (places : max_users ≤ length n.state.wait_queue.places) where
    in_line : InLine u file isn n.state.wait_queue
    unfolding well_made held_by
    in_line =
        let made : well_made capacity n ≡ true = judged.1 in
        let few : leb n.state.wait_queue.waiting max_users ≡ true = search (and_left, and_right) in
        let waiters : all (waiter_made n) (waiters_of n) ≡ true = search (and_left, and_right) in
        let one : ℕ → Bool = λ v. eqb (held_by (waiters_of n) v) 1 in
        let each : all (λ (w : Entry). one w.user) (waiters_of n) ≡ true =
        all_implies (waiter_made n) (λ (w : Entry). one w.user) (λ w h. search (and_left, and_right)) (waiters_of n) waiters in
        record {
          places = places;
          inside = omega (arith, leb-true n.state.wait_queue.waiting max_users few);
          sole = λ his.
              let there : waits u (waiters_of n) ≡ true = waits_sift u file isn (is_of file isn) (waiters_of n) his in
              once u file isn (waiters_of n) (eqb-true (held_by (waiters_of n) u) 1 (of_waiter u file isn one (waiters_of n) each there)) his;
        }

    pub ready : Ready u file isn capacity n
    ready = record { room = room; in_line = in_line }
