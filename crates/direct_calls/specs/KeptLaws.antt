-- What the steps of a call with a kept state come to together. Assumes nothing.
use Rattle.std.specs.Prelude.{ℕ, ◌≤◌, ◌≡◌}
use Rattle.std.proofs.Math.Path.{refl, ap}
use Rattle.std.proofs.Common.{sym, ◌∙◌}
use mathlib.Core.List.{List}
use Rattle.std.proofs.Math.ListN.{length}
use Rattle.entries.specs.declared.Entry.{Entry}
use Rattle.nucleus.specs.Nucleus.{nucleus, Result, resulting}
use Rattle.nucleus.specs.declared.Call.{Call}
use Rattle.nucleus.specs.declared.State.{State}
use Rattle.calls.specs.declared.Outcome.{Outcome}
use Rattle.database.specs.Database.{fitting_in}
use Rattle.kept_states.specs.KeptStates.{thawed, call_of, left_by}
use Rattle.kept_states.specs.declared.KeptState.{KeptState}
use Rattle.kept_states.specs.declared.ControlBlock.{ControlBlock}
use Rattle.kept_states.specs.declared.Left.{Left}
use Rattle.direct_calls.specs.DirectCalls.{packed_front, unpacked_front, on_words}
use Rattle.direct_calls.specs.Kept.{KeptReply, kept_reply, kept_of, kept_call, KeptResult, kept_result, kept_result_of, on_kept_words}
use Rattle.direct_calls.specs.Laws.{directly}

-- thawed, called on the words, and what is left
pub worked : (n : ℕ) (k : KeptState) (b : ControlBlock) (store ws images format buffer : List ℕ) (s : State) (c : Call) (o : Outcome) (l : Left) (store₂ ws₂ images₂ buffer₂ : List ℕ)
    → s ≡ thawed k → c ≡ call_of b → resulting o.answer (nucleus o.state store₂ ws₂ images₂) buffer₂ ≡ on_words n c format buffer (nucleus s store ws images) → l ≡ left_by k b o.answer o.state
    → kept_result l store₂ ws₂ images₂ buffer₂ ≡ on_kept_words n k b store ws images format buffer
unfolding on_kept_words
worked n k b store ws images format buffer s c o l store₂ ws₂ images₂ buffer₂ es ec eo el =
    ap (λ (x : Left). kept_result x store₂ ws₂ images₂ buffer₂) el ∙ ap (kept_result_of k b) eo
    ∙ (λ i. kept_result_of k b (on_words n (ec i) format buffer (nucleus (es i) store ws images)))

-- entries out into words, the call on these, and what it leaves of them back
module _ (capacity : ℕ) (k : KeptState) (b : ControlBlock) (store : List ℕ) (queue : List Entry) (images format buffer : List ℕ) (n : ℕ) (blank ws left : List ℕ)
    (fit : n ≡ fitting_in capacity queue) (out : ws ≡ packed_front n queue blank) (long : length left ≡ length ws) (room : n ≤ length ws) where
  abbrev worked_on : Result
  worked_on = on_words n (call_of b) format buffer (nucleus (thawed k) store ws images)

  abbrev back_in : List ℕ → KeptResult → KeptReply
  back_in words r = kept_reply r.left r.store (unpacked_front n words queue) r.images r.buffer

  pub kept_directly : (l : Left) (store₂ : List ℕ) (queue₂ : List Entry) (images₂ buffer₂ : List ℕ)
      → kept_result l store₂ left images₂ buffer₂ ≡ on_kept_words n k b store ws images format buffer → queue₂ ≡ unpacked_front n left queue
      → kept_reply l store₂ queue₂ images₂ buffer₂ ≡ kept_call capacity k b store queue images format buffer
  unfolding on_kept_words kept_call
  kept_directly l store₂ queue₂ images₂ buffer₂ called back =
      let same : left ≡ worked_on.nucleus.queue = ap (λ (r : KeptResult). r.words) called in
      ap (λ (q : List Entry). kept_reply l store₂ q images₂ buffer₂) back ∙ ap (λ (r : KeptResult). back_in r.words r) called
      ∙ ap (kept_of k b)
      (directly capacity (call_of b) format buffer (thawed k) store queue images n blank ws worked_on.nucleus.queue fit out (sym (ap length same) ∙ long) room worked_on.answer worked_on.nucleus.state worked_on.nucleus.store
      (unpacked_front n worked_on.nucleus.queue queue) worked_on.nucleus.images worked_on.buffer refl refl)
