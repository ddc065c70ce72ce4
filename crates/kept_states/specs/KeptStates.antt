-- The state and the control block in plain numbers, as they are kept by a caller in another language. `thawed` goes from what is kept to the
-- nucleus's state, `frozen` back; a control block brings a call and takes its answer.
use Rattle.std.specs.Prelude.{ℕ, List, map}
use Rattle.lists.specs.Tests.{cond}
use Rattle.definition.specs.Table.{no_definition}
use Rattle.definition.specs.declared.Definition.{Definition}
use Rattle.kept_tables.specs.KeptTables.{files_known, thawed_files, frozen_file}
use Rattle.kept_tables.specs.declared.KeptFile.{KeptFile}
use Rattle.nucleus.specs.Responses.{number}
use Rattle.nucleus.specs.declared.Answer.{Answer}
use Rattle.nucleus.specs.declared.Call.{Call}
use Rattle.nucleus.specs.declared.State.{State}
use Rattle.kept_states.specs.declared.KeptState.{KeptState}
use Rattle.kept_states.specs.declared.ControlBlock.{ControlBlock}
use Rattle.kept_states.specs.declared.Left.{Left}

-- ---- the state
-- a table with a byte in use that numbers no format or option is none: where a nucleus was not set up the state has that too, and every call answers 12
unfoldable pub thawed_table : ℕ → List KeptFile → Definition
thawed_table count files = cond (files_known count files) (record { count = count; files = thawed_files count files }) no_definition

unfoldable pub thawed : KeptState → State
thawed k = record {
  definition = thawed_table k.count k.files;
  clock = k.clock;
  users = k.users;
  et_data = k.et_data;
  last_assigned = k.last_assigned;
  count = k.entries;
  wait_queue = k.wait_queue;
}

unfoldable pub frozen : State → KeptState
frozen s = record {
  count = s.definition.count;
  files = map frozen_file s.definition.files;
  clock = s.clock;
  users = s.users;
  et_data = s.et_data;
  last_assigned = s.last_assigned;
  entries = s.count;
  wait_queue = s.wait_queue;
}

-- the state that a call left, with the table as it is kept: no call changes that (`same_table` of database)
unfoldable pub with_kept_table : KeptState → State → KeptState
with_kept_table k s = record {
  count = k.count;
  files = k.files;
  clock = s.clock;
  users = s.users;
  et_data = s.et_data;
  last_assigned = s.last_assigned;
  entries = s.count;
  wait_queue = s.wait_queue;
}

-- ---- the control block
unfoldable pub call_of : ControlBlock → Call
call_of b = record { command = b.command; option = b.option; user = b.user; file = b.file; isn = b.isn; limit = b.limit; clock = b.clock }

-- the call's arguments stay; its answer is put in, with the response's number
unfoldable pub answered : ℕ → Answer → ControlBlock → ControlBlock
answered response answer b = record {
  command = b.command;
  option = b.option;
  user = b.user;
  file = b.file;
  isn = b.isn;
  limit = b.limit;
  clock = b.clock;
  response = response;
  answered_isn = answer.isn;
  sequence = answer.sequence;
  quantity = answer.quantity;
}

-- ---- what a call leaves of both, and the response's number
abbrev pub number_of : Answer → ℕ
number_of answer = number answer.response

unfoldable pub left_by : KeptState → ControlBlock → Answer → State → Left
left_by k b answer s = record { state = with_kept_table k s; block = answered (number_of answer) answer b; response = number_of answer }
