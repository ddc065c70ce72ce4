-- A call with the state and the control block as a caller keeps them, through the definition of a direct call.
use Rattle.std.specs.Prelude.{ℕ, List}
use Rattle.entries.specs.declared.Entry.{Entry}
use Rattle.nucleus.specs.Nucleus.{nucleus, Result}
use Rattle.database.specs.Database.{database, Reply, direct_call}
use Rattle.kept_states.specs.KeptStates.{thawed, call_of, left_by}
use Rattle.kept_states.specs.declared.KeptState.{KeptState}
use Rattle.kept_states.specs.declared.ControlBlock.{ControlBlock}
use Rattle.kept_states.specs.declared.Left.{Left}
use Rattle.direct_calls.specs.DirectCalls.{on_words}

abbrev pub left : KeptState → ControlBlock → ℕ → Left
left state block response = record { state = state; block = block; response = response }

-- what is left of state and control block, with the response's number, and of what is lent
pub record KeptReply : Type 0 where
  pub left : Left
  pub store : List ℕ
  pub queue : List Entry
  pub images : List ℕ
  pub buffer : List ℕ

abbrev pub kept_reply : Left → List ℕ → List Entry → List ℕ → List ℕ → KeptReply
kept_reply left store queue images buffer = record { left = left; store = store; queue = queue; images = images; buffer = buffer }

abbrev pub kept_of : KeptState → ControlBlock → Reply → KeptReply
kept_of k b r = kept_reply (left_by k b r.answer r.database.state) r.database.store r.database.queue r.database.images r.buffer

unfoldable pub kept_call : ℕ → KeptState → ControlBlock → List ℕ → List Entry → List ℕ → List ℕ → List ℕ → KeptReply
kept_call capacity k b store queue images format buffer = kept_of k b (direct_call capacity (call_of b) format buffer (database (thawed k) store queue images))

-- ---- the same on the words of a queue's first entries
pub record KeptResult : Type 0 where
  pub left : Left
  pub store : List ℕ
  pub words : List ℕ
  pub images : List ℕ
  pub buffer : List ℕ

abbrev pub kept_result : Left → List ℕ → List ℕ → List ℕ → List ℕ → KeptResult
kept_result left store words images buffer = record { left = left; store = store; words = words; images = images; buffer = buffer }

abbrev pub kept_result_of : KeptState → ControlBlock → Result → KeptResult
kept_result_of k b r = kept_result (left_by k b r.answer r.nucleus.state) r.nucleus.store r.nucleus.queue r.nucleus.images r.buffer

unfoldable pub on_kept_words : ℕ → KeptState → ControlBlock → List ℕ → List ℕ → List ℕ → List ℕ → List ℕ → KeptResult
on_kept_words n k b store ws images format buffer = kept_result_of k b (on_words n (call_of b) format buffer (nucleus (thawed k) store ws images))
