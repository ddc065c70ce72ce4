-- HI and RI: what `perform` does, over the caller's share.
-- Assumes nothing.
use Rattle.std.specs.Prelude.{ℕ, ◌+◌, ◌≤◌, ◌<◌, ◌≡◌, Bool, true, false, ◌&&◌, eqb, leb, length, Some, None}
use Rattle.std.proofs.Common.{arith}
use Rattle.std.proofs.Math.Path.{ap}
use mathlib.Core.List.{List, [], ◌∷◌, ◌++◌}
use borrow.Author.Tests.{leb-false, lt-ltb}
use Rattle.lists.specs.Tests.{within, Outcome, holds, fails, outcome}
use Rattle.definition.specs.Table.{file_at}
use Rattle.definition.specs.declared.File.{File}
use Rattle.layout.specs.Layout.{place}
use Rattle.store.specs.Store.{has_record, file_part}
use Rattle.removal.specs.declared.Removal.{Removal}
use Rattle.removal.specs.declared.Removal.TheVariants.{One, Unchanged}
use Rattle.nucleus.specs.Responses.{good}
use Rattle.nucleus.specs.Users.{started}
use Rattle.nucleus.specs.Nucleus.{Nucleus, nucleus, Request, request, Result, resulting, width_of}
use Rattle.nucleus.specs.Clock.{removed}
use Rattle.nucleus.specs.Target.{is_holder, target, record_at, holder_of}
use Rattle.nucleus.specs.Rows.{Row, row, first_cause, rows_last, file_unknown, isn_invalid, format_refused, field_twice, record_length_refused, value_refused, none_found, held_elsewhere, waits, presence_refused, not_held, release_refused, file_full, limit_reached, queue_full, value_taken}
use Rattle.nucleus.specs.Effects.{held, effect, effect_at}
use Rattle.nucleus.specs.Step.{perform}
use Rattle.nucleus.specs.declared.Call.{Call}
use Rattle.nucleus.specs.declared.Command.{Command}
use Rattle.nucleus.specs.declared.Response.TheVariants.{HoldLimit, QueueFull}
use Rattle.queue.specs.Queue.{held_by}
use Rattle.nucleus.specs.declared.Command.TheVariants.{Hi, Ri}
use Rattle.shares.specs.Shares.{share_of, share_with_count, with_share, done}
use Rattle.shares.specs.Chains.{in_use, holder_at, is_new, row_waits, row_other, rows_room, held_share, held_queue, hi_cause, ri_cause, left_count, left_queue, left_images, gone, released}
use Rattle.shares.specs.Outcomes.{hi_done, hi_queue, ri_done, ri_queue, ri_images}
use Rattle.shares.proofs.Laws.{result_on, on_state, user_back, count_back, share_kept, last_passed, row_passed, kept_same, performed_as}
use Rattle.shares.specs.declared.Share.{Share}
use Rattle.shares.specs.declared.Done.{Done}

module _ (capacity : ℕ) (call : Call) (format buffer : List ℕ) (n : Nucleus) where
  abbrev x : Share
  x = share_of call n.state

  -- ---- holding
  -- a new entry has its place in the queue
  abbrev pub Room : ℕ → Type 0
  Room isn = is_holder call.user (holder_at call x n.queue isn) ≡ false → n.state.count < length n.queue

  -- so it is where the row of 70 fails
  pub room_left : (isn : ℕ) (before after : List Row) → capacity ≤ length n.queue → first_cause (before ++ (rows_room call x n.queue capacity isn ++ after)) ≡ None → Room isn
  room_left isn before after long e new =
      let limit = row HoldLimit (is_new call x n.queue isn && leb x.user.hold_limit (held_by (in_use call x n.queue) call.user)) in
      let full = row QueueFull (is_new call x n.queue isn && leb capacity n.state.count) in
      let rest = last_passed (limit ∷ []) (full ∷ after) (last_passed before (rows_room call x n.queue capacity isn ++ after) e) in
      let fits : leb capacity n.state.count ≡ false = rw new at (row_passed full after rest) in
      omega (arith, leb-false capacity n.state.count fits)

  -- the nucleus with the share of a hold put back
  abbrev pub held_on : ℕ → Bool → Nucleus
  held_on isn existed =
      nucleus (with_share call (held_share call x n.queue n.state.clock isn) n.state) n.store (held_queue call x n.queue isn existed) n.images

  pub held_is : (c : Command) (isn : ℕ) → Room isn
      → held (request capacity c call format buffer) isn n ≡ held_on isn (record_at (request capacity c call format buffer) n isn)
  unfolding held held_share held_queue
  held_is c isn room = go (outcome (is_holder call.user (holder_of (request capacity c call format buffer) n isn)))
    where
      go : Outcome (is_holder call.user (holder_of (request capacity c call format buffer) n isn))
          → held (request capacity c call format buffer) isn n ≡ held_on isn (record_at (request capacity c call format buffer) n isn)
      go (holds h) = rw h (on_state (share_kept call n.state))
      go (fails h) =
          rw (h, lt-ltb n.state.count (length n.queue) (room h)) (on_state (user_back call n.state (started n.state.clock x.user) (n.state.count + 1)))

  -- ---- RI
  abbrev ri : Request
  ri = request capacity Ri call format buffer

  abbrev released_done : Removal → Done
  released_done which = done (good call.isn (gone x n.queue n.images (width_of n) which) 0) (share_with_count (left_count x n.queue n.images (width_of n) which) x)

  abbrev left_on : Removal → Result
  left_on which = result_on call n (released_done which) n.store (left_queue x n.queue n.images (width_of n) which) (left_images x n.queue n.images (width_of n) which) buffer

  released_is : effect ri n ≡ left_on (released call)
  unfolding effect_at target removed
  released_is = go (outcome (eqb call.isn 0))
    where
      leaves : (which : Removal) → resulting (released_done which).answer (removed which n) buffer ≡ left_on which
      leaves which = ap (λ m. resulting (released_done which).answer m buffer) (on_state (count_back call n.state (left_count x n.queue n.images (width_of n) which)))

      go : Outcome (eqb call.isn 0) → effect ri n ≡ left_on (released call)
      go (holds z) = rw z (leaves (Unchanged call.user))
      go (fails z) = rw z (leaves (One call.file call.isn))

  abbrev RiPerformed : Type 0
  RiPerformed =
      perform ri n ≡ result_on call n (ri_done call x n.queue n.images (width_of n)) n.store (ri_queue call x n.queue n.images (width_of n))
      (ri_images call x n.queue n.images (width_of n)) buffer

  ri_performed : first_cause (rows_last ri n) ≡ ri_cause call x n.queue → RiPerformed
  ri_performed e =
      let c = ri_cause call x n.queue in
      rw (kept_same c n.store, kept_same c buffer) at
      (performed_as call n ri c _ n.store _ _ buffer e (λ passed. released_is))

  -- of ISN 0: any file, defined or not
  pub perform_ri_all : eqb call.isn 0 ≡ true → RiPerformed
  unfolding ri_cause file_unknown isn_invalid format_refused field_twice record_length_refused value_refused none_found held_elsewhere waits presence_refused not_held release_refused file_full limit_reached queue_full value_taken target
  perform_ri_all zero = ri_performed (rw zero)

  module _ (i : ℕ) (there : place n.state.definition call.file ≡ Some i) where
    abbrev f : File
    f = file_at n.state.definition i

    abbrev p : List ℕ
    p = file_part n.state.definition i n.store

    module _ (valid : within 1 f.max_isn call.isn ≡ true) where
      pub perform_ri : eqb call.isn 0 ≡ false → RiPerformed
      unfolding ri_cause file_unknown isn_invalid format_refused field_twice record_length_refused value_refused none_found held_elsewhere waits presence_refused not_held release_refused file_full limit_reached queue_full value_taken target
      perform_ri one = ri_performed (rw (one, there, valid))

      -- ---- HI
      hi_cause_is : first_cause (rows_last (request capacity Hi call format buffer) n) ≡ hi_cause call x n.queue capacity
      unfolding hi_cause file_unknown isn_invalid format_refused field_twice record_length_refused value_refused none_found held_elsewhere waits presence_refused not_held release_refused file_full limit_reached queue_full value_taken target
      hi_cause_is = rw (there, valid)

      hi_effect : capacity ≤ length n.queue → hi_cause call x n.queue capacity ≡ None
          → effect (request capacity Hi call format buffer) n
          ≡ result_on call n (done (good call.isn 0 0) (held_share call x n.queue n.state.clock call.isn)) n.store
          (held_queue call x n.queue call.isn (has_record f p call.isn)) n.images buffer
      unfolding hi_cause effect_at target
      hi_effect long passed = rw (held_is Hi call.isn (room_left call.isn (row_waits call x n.queue call.isn ∷ row_other call x n.queue call.isn ∷ []) [] long passed), there)

      pub perform_hi : capacity ≤ length n.queue
          → perform (request capacity Hi call format buffer) n
          ≡ result_on call n (hi_done call x n.queue capacity n.state.clock) n.store (hi_queue call x n.queue capacity f p) n.images buffer
      perform_hi long =
          let c = hi_cause call x n.queue capacity in
          rw (kept_same c n.store, kept_same c n.images, kept_same c buffer) at
          (performed_as call n (request capacity Hi call format buffer) c _ n.store _ n.images buffer hi_cause_is (hi_effect long))
