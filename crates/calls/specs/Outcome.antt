-- What a call answers, and the state that it leaves, as code gives it back.
use Rattle.nucleus.specs.declared.Answer.{Answer}
use Rattle.nucleus.specs.declared.State.{State}
use Rattle.calls.specs.declared.Outcome.{Outcome}

abbrev pub outcome : Answer → State → Outcome
outcome answer state = record { answer = answer; state = state }
