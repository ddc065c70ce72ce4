-- The share of a state that a command is handed, and how it goes back.
use Rattle.std.specs.Prelude.{ℕ, ◌-◌, Bool, List, set, Option, Some, None, Result, Ok, Err}
use Rattle.layout.specs.Layout.{place}
use Rattle.nucleus.specs.Responses.{refused}
use Rattle.nucleus.specs.Nucleus.{user_at, data_at}
use Rattle.nucleus.specs.Target.{assigned_in}
use Rattle.nucleus.specs.Waiters.{in_line}
use Rattle.nucleus.specs.declared.Answer.{Answer}
use Rattle.nucleus.specs.declared.Call.{Call}
use Rattle.nucleus.specs.declared.Response.{Response}
use Rattle.nucleus.specs.declared.State.{State}
use Rattle.nucleus.specs.declared.User.{User}
use Rattle.nucleus.specs.declared.EtData.{EtData}
use Rattle.shares.specs.declared.Share.{Share}
use Rattle.shares.specs.declared.Done.{Done}

-- ---- shares
abbrev pub share : User → EtData → ℕ → ℕ → Bool → Share
share user held assigned count waits = record { user = user; et_data = held; last_assigned = assigned; count = count; waits = waits }

abbrev pub share_of : Call → State → Share
share_of call s =
    share (user_at s call.user) (data_at s call.user) (assigned_in s.last_assigned (place s.definition call.file)) s.count
    (in_line s.wait_queue call.user)

abbrev pub assigned_with : List ℕ → Option ℕ → ℕ → List ℕ
assigned_with isns (Some i) isn = set isns i isn
assigned_with isns None isn = isns

-- the state with the share put back
unfoldable pub with_share : Call → Share → State → State
with_share call x s = record {
  definition = s.definition;
  clock = s.clock;
  users = set s.users (call.user - 1) x.user;
  et_data = set s.et_data (call.user - 1) x.et_data;
  last_assigned = assigned_with s.last_assigned (place s.definition call.file) x.last_assigned;
  count = x.count;
  wait_queue = s.wait_queue;
}

-- shares that differ in one part
abbrev pub share_with_user : User → Share → Share
share_with_user user x = share user x.et_data x.last_assigned x.count x.waits

-- the ISN that N1 gave
abbrev pub share_with_assigned : ℕ → Share → Share
share_with_assigned isn x = share x.user x.et_data isn x.count x.waits

abbrev pub share_with_count : ℕ → Share → Share
share_with_count count x = share x.user x.et_data x.last_assigned count x.waits

-- ---- what a command gives back
abbrev pub done : Answer → Share → Done
done answer x = record { answer = answer; share = x }

-- refused with a cause, where there is one: the share is as it was; else answered
abbrev pub done_unless : Option Response → Share → Done → Done
done_unless (Some cause) old d = done (refused cause) old
done_unless None old d = d

-- what a slice has afterwards: as it was where a cause refuses
abbrev pub kept_by : {A : Type 0} → Option Response → A → A → A
kept_by (Some cause) old new = old
kept_by None old new = new

-- what some rows of the response table say: none of them holds, or the first that does refuses
abbrev pub Verdict : Type 0
Verdict = Result (Unit {0}) Response

-- a cause, if any, as code answers it
abbrev pub verdict : Option Response → Verdict
verdict (Some cause) = Err cause
verdict None = Ok tt
