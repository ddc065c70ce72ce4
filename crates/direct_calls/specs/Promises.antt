-- What a call with a kept state leaves, thawed, is the state that the direct call leaves; and where a byte in use of the kept table numbers no format
-- or option the call answers 12 and leaves everything as it was.
-- Assumes nothing.
use Rattle.std.specs.Prelude.{ℕ, ◌≡◌, List}
use Rattle.std.proofs.Math.Path.{refl, ap}
use Rattle.std.proofs.Common.{◌∙◌}
use Rattle.std.proofs.Math.Bool.{false}
use Rattle.lists.specs.Folds.{Each}
use Rattle.definition.specs.Table.{no_definition}
use Rattle.validity.specs.Validity.{valid}
use Rattle.entries.specs.Laws.{Shape}
use Rattle.entries.specs.declared.Entry.{Entry}
use Rattle.kept_tables.specs.KeptTables.{files_known}
use Rattle.nucleus.specs.Responses.{refused}
use Rattle.nucleus.specs.Nucleus.{Result}
use Rattle.nucleus.specs.declared.Response.TheVariants.{StateInvalid}
use Rattle.database.specs.Database.{database, fitting_in, in_words, reply_of, direct_call}
use Rattle.database.proofs.Laws.{invalid_refused}
use Rattle.database.proofs.Words.{entries_back}
use Rattle.database.specs.Tables.{same_table}
use Rattle.kept_states.specs.KeptStates.{thawed, with_kept_table, call_of, answered, left_by}
use Rattle.kept_states.specs.Laws.{thawed_with, thawed_none}
use Rattle.kept_states.specs.declared.KeptState.{KeptState}
use Rattle.kept_states.specs.declared.ControlBlock.{ControlBlock}
use Rattle.direct_calls.specs.Kept.{left, kept_reply, kept_of, kept_call}

module _ (capacity : ℕ) (k : KeptState) (b : ControlBlock) (store : List ℕ) (queue : List Entry) (images format buffer : List ℕ) where
  pub left_thawed : thawed (kept_call capacity k b store queue images format buffer).left.state
      ≡ (direct_call capacity (call_of b) format buffer (database (thawed k) store queue images)).database.state
  unfolding kept_call left_by
  left_thawed = thawed_with k _ (same_table capacity (call_of b) format buffer (database (thawed k) store queue images))

  -- ---- a byte in use that numbers nothing
  none_valid : valid no_definition ≡ false
  unfolding valid
  none_valid = refl

  as_it_was : with_kept_table k (thawed k) ≡ k
  unfolding with_kept_table thawed
  as_it_was = refl

  pub unknown_refused : files_known k.count k.files ≡ false → Each Shape queue
      → kept_call capacity k b store queue images format buffer ≡ kept_reply (left k (answered 12 (refused StateInvalid) b) 12) store queue images buffer
  unfolding kept_call direct_call left_by
  unknown_refused unknown shaped =
      let invalid : valid (thawed k).definition ≡ false = ap valid (thawed_none k unknown) ∙ none_valid in
      ap (λ (r : Result). kept_of k b (reply_of capacity queue r)) (invalid_refused (call_of b) format buffer (in_words capacity (database (thawed k) store queue images)) capacity invalid)
      ∙ (λ i. kept_reply (left (as_it_was i) (answered 12 (refused StateInvalid) b) 12) store (entries_back (fitting_in capacity queue) queue shaped i) images buffer)
