-- The nucleus as a caller has it (document 01: "the hold queue is a lent list of entries (user, file, ISN, changed or not, record there before or
-- not)"): one call, set-up, and where a record lies, with the queue as that list. Everything below works on words, one for each entry; `in_words` and `from_words` are the
-- only places where the two meet, and Laws.antt says that the entries in use are the same on both sides.
use Rattle.std.specs.Prelude.{ℕ, List, ◌++◌, map, ltb, length, take, drop}
use Rattle.lists.specs.Tests.{cond}
use Rattle.entries.specs.Entries.{pack_of, unpack_of}
use Rattle.entries.specs.declared.Entry.{Entry}
use Rattle.committed.specs.Committed.{bytes_at}
use Rattle.committed.specs.declared.Place.{Place}
use Rattle.nucleus.specs.Committed.{committed_place}
use Rattle.nucleus.specs.Nucleus.{Nucleus, nucleus, Result, max_capacity}
use Rattle.nucleus.specs.Step.{SetUp, step, set_up}
use Rattle.nucleus.specs.declared.Call.{Call}
use Rattle.nucleus.specs.declared.Answer.{Answer}
use Rattle.nucleus.specs.declared.Response.{Response}
use Rattle.nucleus.specs.declared.State.{State}

-- the state, and the lent store, hold queue and image buffer
pub record Database : Type 0 where
  pub state : State
  pub store : List ℕ
  pub queue : List Entry
  pub images : List ℕ

abbrev pub database : State → List ℕ → List Entry → List ℕ → Database
database state store queue images = record { state = state; store = store; queue = queue; images = images }

-- ---- entries and words
-- how many entries a call works on: H, where that is no more than a queue may have and this one has; else none, for no call is served then
unfoldable pub fitting : ℕ → ℕ → ℕ
fitting capacity size = cond (ltb max_capacity capacity) 0 (cond (ltb size capacity) 0 capacity)

abbrev pub fitting_in : ℕ → List Entry → ℕ
fitting_in capacity queue = fitting capacity (length queue)

abbrev pub words : ℕ → List Entry → List ℕ
words n queue = map pack_of (take n queue)

abbrev pub in_words : ℕ → Database → Nucleus
in_words capacity b = nucleus b.state b.store (words (fitting_in capacity b.queue) b.queue) b.images

-- the entries of the words, and behind them the queue as it was
abbrev pub with_words : ℕ → List ℕ → List Entry → List Entry
with_words n ws queue = map unpack_of ws ++ drop n queue

abbrev pub from_words : ℕ → List Entry → Nucleus → Database
from_words capacity queue n = database n.state n.store (with_words (fitting_in capacity queue) n.queue queue) n.images

-- ---- one call
-- what a call answers, and what it leaves of the database and of its record buffer
pub record Reply : Type 0 where
  pub answer : Answer
  pub database : Database
  pub buffer : List ℕ

abbrev pub reply : Answer → Database → List ℕ → Reply
reply answer b buffer = record { answer = answer; database = b; buffer = buffer }

abbrev pub reply_of : ℕ → List Entry → Result → Reply
reply_of capacity queue r = reply r.answer (from_words capacity queue r.nucleus) r.buffer

unfoldable pub direct_call : ℕ → Call → List ℕ → List ℕ → Database → Reply
direct_call capacity call format buffer b = reply_of capacity b.queue (step capacity call format buffer (in_words capacity b))

-- ---- the record as a part (document 02, No. 8), which is no call
unfoldable pub direct_place : ℕ → Database → ℕ → ℕ → Place
direct_place capacity b file isn = committed_place (in_words capacity b) file isn capacity

-- its bytes
abbrev pub direct_part : ℕ → Database → ℕ → ℕ → List ℕ
direct_part capacity b file isn = bytes_at (direct_place capacity b file isn) b.store b.images

-- ---- set-up, which looks at the queue's length alone
pub record SetUpDatabase : Type 0 where
  pub response : Response
  pub database : Database

abbrev pub set_up_with : List Entry → SetUp → SetUpDatabase
set_up_with queue s = record { response = s.response; database = database s.nucleus.state s.nucleus.store queue s.nucleus.images }

unfoldable pub set_up_database : ℕ → List ℕ → List Entry → List ℕ → List ℕ → SetUpDatabase
set_up_database capacity store queue images table = set_up_with queue (set_up capacity store (map pack_of queue) images table)
