-- The nucleus with all that it is lent, and the parts of it that a call reads and changes.
use Rattle.std.specs.Prelude.{ℕ, ◌-◌, List, [], get_or, set, replicate}
use Rattle.layout.specs.Layout.{image_length}
use Rattle.definition.specs.Table.{max_files}
use Rattle.entries.specs.Entries.{entries}
use Rattle.nucleus.specs.Users.{fresh_user}
use Rattle.definition.specs.declared.Definition.{Definition}
use Rattle.entries.specs.declared.Entry.{Entry}
use Rattle.nucleus.specs.declared.Call.{Call}
use Rattle.nucleus.specs.declared.Answer.{Answer}
use Rattle.nucleus.specs.declared.Command.{Command}
use Rattle.nucleus.specs.declared.User.{User}
use Rattle.nucleus.specs.declared.EtData.{EtData}
use Rattle.nucleus.specs.declared.State.{State}
use Rattle.nucleus.specs.declared.WaitQueue.{WaitQueue}

-- the state, and the lent store, hold queue and image buffer
pub record Nucleus : Type 0 where
  pub state : State
  pub store : List ℕ
  pub queue : List ℕ
  pub images : List ℕ

abbrev pub nucleus : State → List ℕ → List ℕ → List ℕ → Nucleus
nucleus state store queue images = record { state = state; store = store; queue = queue; images = images }

-- "Each call brings its own format and record buffer"
pub record Given : Type 0 where
  pub call : Call
  pub format : List ℕ
  pub buffer : List ℕ

abbrev pub given : Call → List ℕ → List ℕ → Given
given call format buffer = record { call = call; format = format; buffer = buffer }

-- a call with its capacity (document 01's H), its buffers and its command
pub record Request : Type 0 where
  pub capacity : ℕ
  pub command : Command
  pub call : Call
  pub format : List ℕ
  pub buffer : List ℕ

abbrev pub request : ℕ → Command → Call → List ℕ → List ℕ → Request
request capacity command call format buffer = record { capacity = capacity; command = command; call = call; format = format; buffer = buffer }

-- what a call answers, and what it leaves of the nucleus and of its record buffer
pub record Result : Type 0 where
  pub answer : Answer
  pub nucleus : Nucleus
  pub buffer : List ℕ

abbrev pub resulting : Answer → Nucleus → List ℕ → Result
resulting answer n buffer = record { answer = answer; nucleus = n; buffer = buffer }

-- ---- limits
abbrev pub max_users : ℕ
max_users = 32

abbrev pub max_capacity : ℕ
max_capacity = 256

abbrev pub max_et_data : ℕ
max_et_data = 64

-- ---- parts of the state
abbrev pub no_data : EtData
no_data = record { length = 0; bytes = replicate max_et_data 0 }

-- what a list of ET data reads past its end
abbrev pub beyond_data : EtData
beyond_data = record { length = 0; bytes = [] }

abbrev pub user_at : State → ℕ → User
user_at s u = get_or s.users (u - 1) fresh_user

abbrev pub data_at : State → ℕ → EtData
data_at s u = get_or s.et_data (u - 1) beyond_data

abbrev pub with_user : ℕ → User → State → State
with_user u x s = record {
  definition = s.definition;
  clock = s.clock;
  users = set s.users (u - 1) x;
  et_data = s.et_data;
  last_assigned = s.last_assigned;
  count = s.count;
  wait_queue = s.wait_queue;
}

abbrev pub with_data : ℕ → EtData → State → State
with_data u x s = record {
  definition = s.definition;
  clock = s.clock;
  users = s.users;
  et_data = set s.et_data (u - 1) x;
  last_assigned = s.last_assigned;
  count = s.count;
  wait_queue = s.wait_queue;
}

abbrev pub with_clock : ℕ → State → State
with_clock clock s = record {
  definition = s.definition;
  clock = clock;
  users = s.users;
  et_data = s.et_data;
  last_assigned = s.last_assigned;
  count = s.count;
  wait_queue = s.wait_queue;
}

abbrev pub with_last_assigned : ℕ → ℕ → State → State
with_last_assigned place isn s = record {
  definition = s.definition;
  clock = s.clock;
  users = s.users;
  et_data = s.et_data;
  last_assigned = set s.last_assigned place isn;
  count = s.count;
  wait_queue = s.wait_queue;
}

abbrev pub with_count : ℕ → State → State
with_count count s = record {
  definition = s.definition;
  clock = s.clock;
  users = s.users;
  et_data = s.et_data;
  last_assigned = s.last_assigned;
  count = count;
  wait_queue = s.wait_queue;
}

abbrev pub with_wait_queue : WaitQueue → State → State
with_wait_queue line s = record {
  definition = s.definition;
  clock = s.clock;
  users = s.users;
  et_data = s.et_data;
  last_assigned = s.last_assigned;
  count = s.count;
  wait_queue = line;
}

-- nobody waits
abbrev pub no_waiters : WaitQueue
no_waiters = record { places = replicate max_users 0; waiting = 0 }

-- "the kept clock is 0, no user is open, there is no entry and no ET data: a fresh nucleus"
abbrev pub fresh_state : Definition → State
fresh_state d = record {
  definition = d;
  clock = 0;
  users = replicate max_users fresh_user;
  et_data = replicate max_users no_data;
  last_assigned = replicate max_files 0;
  count = 0;
  wait_queue = no_waiters;
}

-- ---- parts of the nucleus
abbrev pub with_state : State → Nucleus → Nucleus
with_state s n = record { state = s; store = n.store; queue = n.queue; images = n.images }

abbrev pub with_store : List ℕ → Nucleus → Nucleus
with_store store n = record { state = n.state; store = store; queue = n.queue; images = n.images }

-- the entries in use
abbrev pub entries_of : Nucleus → List Entry
entries_of n = entries n.queue n.state.count

-- the greatest width: the bytes of an image
abbrev pub width_of : Nucleus → ℕ
width_of n = image_length n.state.definition

-- ---- a user of the nucleus
abbrev pub user_of : Nucleus → ℕ → User
user_of n u = user_at n.state u

abbrev pub change_user : ℕ → (User → User) → Nucleus → Nucleus
change_user u f n = with_state (with_user u (f (user_of n u)) n.state) n
