-- ET, BT, RE, OP, CL and PE: what `perform` does, over the caller's share. They are about no file.
-- Assumes nothing.
use Rattle.std.specs.Prelude.{ℕ, ◌≡◌, List, None}
use Rattle.std.proofs.Math.Path.{refl, ap}
use Rattle.std.proofs.Math.Bool.{or-false}
use Rattle.hold.specs.Hold.{restore}
use Rattle.removal.specs.declared.Removal.TheVariants.{All}
use Rattle.nucleus.specs.Users.{closed, counted, made_ready, ended}
use Rattle.nucleus.specs.Responses.{good}
use Rattle.nucleus.specs.Nucleus.{Nucleus, request, resulting, width_of}
use Rattle.nucleus.specs.Clock.{removed, backed_out}
use Rattle.nucleus.specs.Target.{target}
use Rattle.nucleus.specs.Rows.{first_cause, rows_last, file_unknown, isn_invalid, format_refused, field_twice, record_length_refused, value_refused, none_found, held_elsewhere, waits, presence_refused, not_held, release_refused, file_full, limit_reached, queue_full, value_taken}
use Rattle.nucleus.specs.Effects.{effect_at}
use Rattle.nucleus.specs.Step.{perform}
use Rattle.nucleus.specs.declared.Call.{Call}
use Rattle.nucleus.specs.declared.Command.TheVariants.{Et, Bt, Re, Op, Cl, Pe}
use Rattle.shares.specs.Shares.{share_of}
use Rattle.shares.specs.Chains.{gone, left_count, left_queue, left_images, next_sequence, data_brought, et_cause, re_cause, re_buffer}
use Rattle.shares.specs.Outcomes.{et_done, et_queue, et_images, bt_done, re_done, re_after, op_done, cl_done, pe_done}
use Rattle.shares.proofs.Laws.{result_on, on_state, share_back, user_back, kept_same, nothing_done, performed_as}
use Rattle.shares.specs.declared.Share.{Share}

module _ (capacity : ℕ) (call : Call) (format buffer : List ℕ) (n : Nucleus) where
  abbrev x : Share
  x = share_of call n.state

  -- ---- ET
  et_cause_is : first_cause (rows_last (request capacity Et call format buffer) n) ≡ et_cause buffer
  unfolding file_unknown isn_invalid format_refused field_twice record_length_refused value_refused none_found held_elsewhere waits presence_refused not_held release_refused file_full limit_reached queue_full value_taken target
  et_cause_is = refl

  pub perform_et : perform (request capacity Et call format buffer) n
      ≡ result_on call n (et_done call x n.queue n.images (width_of n) buffer) n.store (et_queue call x n.queue n.images (width_of n) buffer)
      (et_images call x n.queue n.images (width_of n) buffer) buffer
  unfolding effect_at removed
  perform_et =
      let c = et_cause buffer in
      let left = left_count x n.queue n.images (width_of n) (All call.user) in
      rw (kept_same c n.store, kept_same c buffer) at
      (performed_as call n (request capacity Et call format buffer) c _ n.store _ _ buffer et_cause_is
      (λ passed. ap (λ k. resulting (good 0 (gone x n.queue n.images (width_of n) (All call.user)) (next_sequence x)) k buffer)
      (on_state (share_back call n.state (ended (counted (next_sequence x) x.user)) (data_brought x buffer) left))))

  -- ---- RE
  re_cause_is : first_cause (rows_last (request capacity Re call format buffer) n) ≡ re_cause x.et_data buffer
  unfolding file_unknown isn_invalid format_refused field_twice record_length_refused value_refused none_found held_elsewhere waits presence_refused not_held release_refused file_full limit_reached queue_full value_taken target
  re_cause_is = simp or-false

  pub perform_re : perform (request capacity Re call format buffer) n ≡ result_on call n (re_done x buffer) n.store n.queue n.images (re_after x buffer)
  unfolding effect_at
  perform_re =
      let c = re_cause x.et_data buffer in
      rw (kept_same c n.store, kept_same c n.queue, kept_same c n.images) at
      (performed_as call n (request capacity Re call format buffer) c _ n.store n.queue n.images _ re_cause_is
      (λ passed. ap (λ k. resulting (good 0 x.et_data.length 0) k (re_buffer x.et_data buffer)) (nothing_done call n)))

  -- ---- BT, OP, CL, PE: no row refuses them
  pub perform_bt : perform (request capacity Bt call format buffer) n
      ≡ result_on call n (bt_done call x n.queue n.images (width_of n))
      (restore n.state.definition (width_of n) call.user n.queue n.images n.state.count n.store)
      (left_queue x n.queue n.images (width_of n) (All call.user)) (left_images x n.queue n.images (width_of n) (All call.user)) buffer
  unfolding file_unknown isn_invalid format_refused field_twice record_length_refused value_refused none_found held_elsewhere waits presence_refused not_held release_refused file_full limit_reached queue_full value_taken target effect_at backed_out removed
  perform_bt =
      let left = left_count x n.queue n.images (width_of n) (All call.user) in
      performed_as call n (request capacity Bt call format buffer) None _ _ _ _ buffer refl
      (λ passed. ap (λ k. resulting (good 0 (gone x n.queue n.images (width_of n) (All call.user)) 0) k buffer) (on_state (user_back call n.state (ended x.user) left)))

  pub perform_op : perform (request capacity Op call format buffer) n ≡ result_on call n (op_done call x) n.store n.queue n.images buffer
  unfolding file_unknown isn_invalid format_refused field_twice record_length_refused value_refused none_found held_elsewhere waits presence_refused not_held release_refused file_full limit_reached queue_full value_taken target effect_at
  perform_op =
      performed_as call n (request capacity Op call format buffer) None _ n.store n.queue n.images buffer refl
      (λ passed. ap (λ k. resulting (good 0 0 0) k buffer) (on_state (user_back call n.state (op_done call x).share.user n.state.count)))

  pub perform_cl : perform (request capacity Cl call format buffer) n ≡ result_on call n (cl_done x) n.store n.queue n.images buffer
  unfolding file_unknown isn_invalid format_refused field_twice record_length_refused value_refused none_found held_elsewhere waits presence_refused not_held release_refused file_full limit_reached queue_full value_taken target effect_at
  perform_cl =
      performed_as call n (request capacity Cl call format buffer) None _ n.store n.queue n.images buffer refl
      (λ passed. ap (λ k. resulting (good 0 0 x.user.sequence) k buffer) (on_state (user_back call n.state (closed x.user) n.state.count)))

  pub perform_pe : perform (request capacity Pe call format buffer) n ≡ result_on call n (pe_done x) n.store n.queue n.images buffer
  unfolding file_unknown isn_invalid format_refused field_twice record_length_refused value_refused none_found held_elsewhere waits presence_refused not_held release_refused file_full limit_reached queue_full value_taken target effect_at
  perform_pe =
      performed_as call n (request capacity Pe call format buffer) None _ n.store n.queue n.images buffer refl
      (λ passed. ap (λ k. resulting (good 0 0 0) k buffer) (on_state (user_back call n.state (made_ready x.user) n.state.count)))
