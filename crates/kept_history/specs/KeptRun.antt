-- A list of calls as a program in another language makes it: set-up and then call after call with the state, the control blocks and the lent buffers as
-- the functions of `towungbe` are promised to leave them.
use Rattle.std.specs.Prelude.{ℕ, ◌≡◌, List, [], ◌∷◌, map}
use Rattle.entries.specs.declared.Entry.{Entry}
use Rattle.definition.specs.declared.Definition.{Definition}
use Rattle.reading.specs.Grammar.{read_table}
use Rattle.nucleus.specs.Nucleus.{Given, given}
use Rattle.database.specs.Database.{Database, database}
use Rattle.kept_states.specs.KeptStates.{thawed, call_of}
use Rattle.kept_states.specs.declared.KeptState.{KeptState}
use Rattle.kept_states.specs.declared.ControlBlock.{ControlBlock}
use Rattle.kept_setup.specs.KeptSetup.{kept_set_up}
use Rattle.direct_calls.specs.Kept.{KeptReply, kept_call}
use Rattle.direct_calls.specs.Places.{kept_place}
use Rattle.committed.specs.Committed.{bytes_at}
use Rattle.claim.specs.Run.{BackOut, bt, struck_all, record_in}
use Rattle.claim.specs.Answers.{Answered, fed_all}
use Rattle.claim.specs.Journal.{Journal, new_journal}
use Rattle.claim.specs.Claim.{SameRecords, UniqueValues, Chosen}
use Rattle.claim.specs.Statements.{Everyone, bytes_of}

-- the state as it is kept, and what is lent
pub record KeptDatabase : Type 0 where
  pub state : KeptState
  pub store : List ℕ
  pub queue : List Entry
  pub images : List ℕ

abbrev pub thawed_database : KeptDatabase → Database
thawed_database k = database (thawed k.state) k.store k.queue k.images

-- a call: its control block and its buffers. What a block has as an answer before the call is not looked at
pub record KeptGiven : Type 0 where
  pub block : ControlBlock
  pub format : List ℕ
  pub buffer : List ℕ

abbrev pub given_in : KeptGiven → Given
given_in g = given (call_of g.block) g.format g.buffer

abbrev pub replied : ℕ → KeptGiven → KeptDatabase → KeptReply
replied capacity g k = kept_call capacity k.state g.block k.store k.queue k.images g.format g.buffer

abbrev pub kept_after : KeptReply → KeptDatabase
kept_after r = record { state = r.left.state; store = r.store; queue = r.queue; images = r.images }

unfoldable pub kept_run : ℕ → List KeptGiven → KeptDatabase → KeptDatabase
kept_run capacity [] k = k
kept_run capacity (g ∷ gs) k = kept_run capacity gs (kept_after (replied capacity g k))

-- what such a program is told: the blocks' answers
abbrev pub kept_answers : ℕ → List KeptGiven → KeptDatabase → List Answered
kept_answers capacity [] k = []
kept_answers capacity (g ∷ gs) k =
    record { given = given_in g; response = (replied capacity g k).left.block.response; isn = (replied capacity g k).left.block.answered_isn }
    ∷ kept_answers capacity gs (kept_after (replied capacity g k))

-- the bytes of the place that such a program is given
abbrev pub kept_part : ℕ → KeptDatabase → ℕ → ℕ → List ℕ
kept_part capacity k file isn = bytes_at (kept_place capacity k.state file isn k.store k.queue k.images) k.store k.images

-- what set-up leaves: the state and the store; queue and images stay as they are
abbrev pub kept_begin : ℕ → List ℕ → List ℕ → List Entry → List ℕ → KeptDatabase
kept_begin capacity table store queue images = record {
  state = (kept_set_up capacity store queue images table).state;
  store = (kept_set_up capacity store queue images table).store;
  queue = queue;
  images = images;
}

-- the journal that is fed the calls of such a program and what it is told
abbrev pub kept_journal : ℕ → List KeptGiven → KeptDatabase → Journal
kept_journal capacity calls k = fed_all (kept_answers capacity calls k) new_journal

-- ---- requirement 3 for such a program: after its calls, and the BTs of any users whom the journal then has in a transaction
pub record KeptNeverWas (d : Definition) (store : List ℕ) (j : Journal) : Type 0 where
  pub same_records : SameRecords d store j
  pub unique_values : UniqueValues d store

abbrev pub Requirement3Kept : Type 0
Requirement3Kept =
    (capacity : ℕ) (table store : List ℕ) (queue : List Entry) (images : List ℕ) (calls outs : List KeptGiven) (bs : List BackOut)
    → (kept_set_up capacity store queue images table).response ≡ 0
    → map given_in outs ≡ map bt bs
    → Chosen bs (kept_journal capacity calls (kept_begin capacity table store queue images))
    → KeptNeverWas (read_table table).definition (kept_run capacity outs (kept_run capacity calls (kept_begin capacity table store queue images))).store
    (struck_all bs (kept_journal capacity calls (kept_begin capacity table store queue images)))

-- ---- document 02, No. 8, for such a program: the part that it is given the place of is the record that the BTs of all users in a transaction would leave
abbrev pub CommittedPartKept : Type 0
CommittedPartKept =
    (capacity : ℕ) (table store : List ℕ) (queue : List Entry) (images : List ℕ) (calls outs : List KeptGiven) (bs : List BackOut) (file isn : ℕ)
    → (kept_set_up capacity store queue images table).response ≡ 0
    → map given_in outs ≡ map bt bs
    → Everyone bs (kept_journal capacity calls (kept_begin capacity table store queue images))
    → kept_part capacity (kept_run capacity calls (kept_begin capacity table store queue images)) file isn
    ≡ bytes_of (record_in (read_table table).definition (kept_run capacity outs (kept_run capacity calls (kept_begin capacity table store queue images))).store file isn)
