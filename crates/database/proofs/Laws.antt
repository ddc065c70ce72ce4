-- A call on as many entries as fit is the call with the capacity as it came: where that does not fit both are refused alike, and leave all. So is
-- the place of a record: there is none then.
-- Assumes nothing.
use Rattle.std.specs.Prelude.{ℕ, ◌<◌, ◌≤◌, ◌≡◌, refl, true, false, not, ltb, length}
use Rattle.std.proofs.Common.{arith, sym, ◌∙◌}
use mathlib.Core.List.{List, []}
use borrow.Author.Tests.{ltb-false, ltb-true, lt-ltb}
use Rattle.lists.specs.Tests.{cond, within, within_above, or-true, Outcome, holds, fails, outcome}
use Rattle.definition.specs.declared.Definition.{Definition}
use Rattle.validity.specs.Validity.{valid}
use Rattle.committed.specs.Committed.{no_place}
use Rattle.nucleus.specs.Nucleus.{Nucleus, nucleus, Result, max_capacity}
use Rattle.nucleus.specs.WellMade.{too_short}
use Rattle.nucleus.specs.Rows.{rows_usable}
use Rattle.nucleus.specs.Step.{refusal, admitted, step}
use Rattle.nucleus.specs.Committed.{committed_place}
use Rattle.nucleus.specs.declared.Call.{Call}
use Rattle.nucleus.specs.declared.Response.TheVariants.{BufferTooShort, StateInvalid}
use Rattle.database.specs.Database.{Database, fitting, fitting_in, words, in_words}

-- ---- the capacity that fits
within_size : (size capacity : ℕ) → cond (ltb size capacity) 0 capacity ≤ size
within_size size capacity = go (outcome (ltb size capacity))
  where
    go : Outcome (ltb size capacity) → cond (ltb size capacity) 0 capacity ≤ size
    go (holds t) = rw t (omega arith)
    go (fails t) = rw t (ltb-false size capacity t)

pub fitting_size : (capacity size : ℕ) → fitting capacity size ≤ size
unfolding fitting
fitting_size capacity size = go (outcome (ltb max_capacity capacity))
  where
    go : Outcome (ltb max_capacity capacity) → cond (ltb max_capacity capacity) 0 (cond (ltb size capacity) 0 capacity) ≤ size
    go (holds t) = rw t (omega arith)
    go (fails t) = rw t (within_size size capacity)

pub fitting_most : (capacity size : ℕ) → fitting capacity size ≤ max_capacity
unfolding fitting
fitting_most capacity size = go (outcome (ltb max_capacity capacity)) (outcome (ltb size capacity))
  where
    go : Outcome (ltb max_capacity capacity) → Outcome (ltb size capacity) → cond (ltb max_capacity capacity) 0 (cond (ltb size capacity) 0 capacity) ≤ max_capacity
    go (holds t) s = rw t (omega arith)
    go (fails t) (holds s) = rw (t, s) (omega arith)
    go (fails t) (fails s) = rw (t, s) (ltb-false max_capacity capacity t)

-- ---- a capacity with which every buffer is too short
module _ (call : Call) (format buffer : List ℕ) (n : Nucleus) where
  abbrev d : Definition
  d = n.state.definition

  -- refused for the table where that is invalid, else for the capacity
  abbrev turned_down : Result
  turned_down = refusal buffer n (cond (valid d) BufferTooShort StateInvalid)

  pub short_refused : (capacity : ℕ) → too_short d capacity n.store n.queue n.images ≡ true → step capacity call format buffer n ≡ turned_down
  unfolding step admitted rows_usable
  short_refused capacity short = go (outcome (valid d))
    where
      go : Outcome (valid d) → step capacity call format buffer n ≡ turned_down
      go (holds v) = rw (v, short)
      go (fails v) = rw v

  pub invalid_refused : (capacity : ℕ) → valid d ≡ false → step capacity call format buffer n ≡ refusal buffer n StateInvalid
  unfolding step admitted rows_usable
  invalid_refused capacity v = rw v

over_most : (d : Definition) (capacity : ℕ) (store queue images : List ℕ) → max_capacity < capacity → too_short d capacity store queue images ≡ true
unfolding too_short
over_most d capacity store queue images h = rw (within_above 1 max_capacity capacity h)

no_capacity : (d : Definition) (store queue images : List ℕ) → too_short d 0 store queue images ≡ true
unfolding too_short
no_capacity d store queue images = refl

queue_short : (d : Definition) (capacity : ℕ) (store queue images : List ℕ) → length queue < capacity → too_short d capacity store queue images ≡ true
unfolding too_short
queue_short d capacity store queue images h = rw (lt-ltb (length queue) capacity h, or-true (not (within 1 max_capacity capacity)))

module _ (capacity : ℕ) (call : Call) (format buffer : List ℕ) (b : Database) where
  abbrev size : ℕ
  size = length b.queue

  -- the nucleus on as many words
  abbrev on : ℕ → Nucleus
  on k = nucleus b.state b.store (words k b.queue) b.images

  abbrev alike : ℕ → Type 0
  alike k = step capacity call format buffer (on k) ≡ step k call format buffer (on k)

  none_fit : too_short b.state.definition capacity b.store [] b.images ≡ true → alike 0
  none_fit short = short_refused call format buffer (on 0) capacity short ∙ sym (short_refused call format buffer (on 0) 0 (no_capacity b.state.definition b.store [] b.images))

  pub step_fits : step capacity call format buffer (in_words capacity b) ≡ step (fitting_in capacity b.queue) call format buffer (in_words capacity b)
  unfolding fitting
  step_fits = go (outcome (ltb max_capacity capacity)) (outcome (ltb size capacity))
    where
      go : Outcome (ltb max_capacity capacity) → Outcome (ltb size capacity) → alike (fitting_in capacity b.queue)
      go (holds t) s = rw t (none_fit (over_most b.state.definition capacity b.store [] b.images (ltb-true max_capacity capacity t)))
      go (fails t) (holds s) =
          let h : 0 < capacity = omega (arith, ltb-true size capacity s) in
          rw (t, s) (none_fit (queue_short b.state.definition capacity b.store [] b.images h))
      go (fails t) (fails s) = rw (t, s)

-- ---- the place of a record
module _ (n : Nucleus) (file isn : ℕ) where
  no_record : (capacity : ℕ) → too_short n.state.definition capacity n.store n.queue n.images ≡ true → committed_place n file isn capacity ≡ no_place
  unfolding committed_place rows_usable
  no_record capacity short = go (outcome (valid n.state.definition))
    where
      go : Outcome (valid n.state.definition) → committed_place n file isn capacity ≡ no_place
      go (holds v) = rw (v, short)
      go (fails v) = rw v

module _ (capacity file isn : ℕ) (b : Database) where
  abbrev same_place : ℕ → Type 0
  same_place k = committed_place (nucleus b.state b.store (words k b.queue) b.images) file isn capacity ≡ committed_place (nucleus b.state b.store (words k b.queue) b.images) file isn k

  none_placed : too_short b.state.definition capacity b.store [] b.images ≡ true → same_place 0
  none_placed short =
      let n = nucleus b.state b.store [] b.images in
      no_record n file isn capacity short ∙ sym (no_record n file isn 0 (no_capacity b.state.definition b.store [] b.images))

  pub place_fits : committed_place (in_words capacity b) file isn capacity ≡ committed_place (in_words capacity b) file isn (fitting_in capacity b.queue)
  unfolding fitting
  place_fits = go (outcome (ltb max_capacity capacity)) (outcome (ltb (length b.queue) capacity))
    where
      go : Outcome (ltb max_capacity capacity) → Outcome (ltb (length b.queue) capacity) → same_place (fitting_in capacity b.queue)
      go (holds t) s = rw t (none_placed (over_most b.state.definition capacity b.store [] b.images (ltb-true max_capacity capacity t)))
      go (fails t) (holds s) =
          let h : 0 < capacity = omega (arith, ltb-true (length b.queue) capacity s) in
          rw (t, s) (none_placed (queue_short b.state.definition capacity b.store [] b.images h))
      go (fails t) (fails s) = rw (t, s)
