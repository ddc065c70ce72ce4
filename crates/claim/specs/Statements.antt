-- Statements beside requirement 3, to be read with Claim.antt. Most are of every definition table, capacity and lent store, queue and images for
-- which set-up answers 0, and of every list of calls after it.
use Rattle.std.specs.Prelude.{ℕ, ◌≤◌, ◌≡◌, ◌⊎◌, Bool, true, false, not, ◌&&◌, List, [], ◌∷◌, map, eqb, length, Option, Some, None}
use Rattle.lists.specs.Tests.{within}
use Rattle.lists.specs.Folds.{any, all}
use Rattle.lists.specs.Sift.{sift}
use Rattle.definition.specs.Table.{fields_of}
use Rattle.definition.specs.declared.Definition.{Definition}
use Rattle.fields.specs.Fields.{read_fields, write_fields}
use Rattle.nulls.specs.Nulls.{nulls}
use Rattle.reading.specs.Grammar.{read_table}
use Rattle.nucleus.specs.Commands.{code, blank, option_C}
use Rattle.nucleus.specs.Users.{is_active}
use Rattle.nucleus.specs.Responses.{number}
use Rattle.nucleus.specs.Nucleus.{Nucleus, Given, max_users, max_et_data, user_at}
use Rattle.nucleus.specs.WellMade.{too_short, well_made}
use Rattle.entries.specs.declared.Entry.{Entry}
use Rattle.database.specs.Database.{Database, Reply, in_words, direct_part, set_up_database}
use Rattle.nucleus.specs.declared.Call.{Call}
use Rattle.nucleus.specs.declared.Command.TheVariants.{L1, N1, N2, Et, Bt, Pe}
use Rattle.nucleus.specs.declared.Response.TheVariants.{Good}
use Rattle.claim.specs.Journal.{Journal, Change, commits, in_transaction, fed, record_told}
use Rattle.claim.specs.Run.{World, BackOut, call_given, called, run, begin, bt, back_outs, struck_all, record_in}
use Rattle.claim.specs.Claim.{file_numbered, users_of, Chosen}
use Rattle.claim.specs.Answers.{Answered, answers, fed_all}
use Rattle.claim.specs.Lent.{Lent, lent_at, Past}

-- ---- no call answers 10, 11 or 12
abbrev pub unusable : ℕ → Bool
unusable response = any (eqb response) (10 ∷ 11 ∷ 12 ∷ [])

abbrev pub NeverUnusable : Type 0
NeverUnusable =
    (capacity : ℕ) (table store : List ℕ) (queue : List Entry) (images : List ℕ) (calls : List Given)
    → (set_up_database capacity store queue images table).response ≡ Good
    → any (λ (a : Answered). unusable a.response) (answers capacity calls (begin capacity store queue images table)) ≡ false

-- ---- the state keeps the table that set-up read, it stays well made, and nothing lent is too short: as the nucleus has it, with its entries in words
pub record Usable (capacity : ℕ) (d : Definition) (n : Nucleus) : Type 0 where
  pub same_table : n.state.definition ≡ d
  pub made : well_made capacity n ≡ true
  pub long : too_short d capacity n.store n.queue n.images ≡ false

abbrev pub StaysUsable : Type 0
StaysUsable =
    (capacity : ℕ) (table store : List ℕ) (queue : List Entry) (images : List ℕ) (calls : List Given)
    → (set_up_database capacity store queue images table).response ≡ Good
    → Usable capacity (read_table table).definition (in_words capacity (run capacity calls (begin capacity store queue images table)).database)

-- ---- whom the journal has in a transaction the nucleus has in one, and nobody else
abbrev pub SameTransactions : Type 0
SameTransactions =
    (capacity : ℕ) (table store : List ℕ) (queue : List Entry) (images : List ℕ) (calls : List Given) (u : ℕ)
    → (set_up_database capacity store queue images table).response ≡ Good
    → in_transaction (run capacity calls (begin capacity store queue images table)).journal u
    ≡ (within 1 max_users u && is_active (user_at (run capacity calls (begin capacity store queue images table)).database.state u))

-- ---- the BTs of the claim, after any list of calls
-- each answers 0, one after another
abbrev pub BackOutsAccepted : Type 0
BackOutsAccepted =
    (capacity : ℕ) (table store : List ℕ) (queue : List Entry) (images : List ℕ) (calls : List Given) (bs : List BackOut)
    → (set_up_database capacity store queue images table).response ≡ Good
    → Chosen bs (run capacity calls (begin capacity store queue images table)).journal
    → all (λ (a : Answered). eqb a.response 0) (answers capacity (map bt bs) (run capacity calls (begin capacity store queue images table))) ≡ true

-- they are a list of calls too: what it leaves of the nucleus is what the claim speaks of
abbrev pub BackOutsAreCalls : Type 0
BackOutsAreCalls = (capacity : ℕ) (bs : List BackOut) (w : World) → (run capacity (map bt bs) w).database ≡ back_outs capacity bs w.database

-- and the journal that is fed them, with what the nucleus answers, is the one whose open changes the claim strikes
abbrev pub BackOutsAreFed : Type 0
BackOutsAreFed =
    (capacity : ℕ) (table store : List ℕ) (queue : List Entry) (images : List ℕ) (calls : List Given) (bs : List BackOut)
    → (set_up_database capacity store queue images table).response ≡ Good
    → Chosen bs (run capacity calls (begin capacity store queue images table)).journal
    → (run capacity (map bt bs) (run capacity calls (begin capacity store queue images table))).journal
    ≡ struck_all bs (run capacity calls (begin capacity store queue images table)).journal

-- ---- document 02, No. 12: "A payment and a household's record must end together"
-- what the nucleus answers
abbrev pub response_to : ℕ → Given → World → ℕ
response_to capacity g w = number (call_given capacity g w).answer.response

-- calls of others than a user
abbrev pub of_others : ℕ → List Given → Bool
of_others u calls = all (λ (g : Given). not (eqb g.call.user u)) calls

-- an ET with as much data as ET may bring; what else the call has may be anything
pub record IsEt (g : Given) : Type 0 where
  pub command : g.call.command ≡ code Et
  pub option : g.call.option ≡ blank
  pub fits : length g.buffer ≤ max_et_data

pub record IsBt (g : Given) : Type 0 where
  pub command : g.call.command ≡ code Bt
  pub option : g.call.option ≡ blank

-- the changes of a user, in order
abbrev pub changes_of : ℕ → Journal → List Change
changes_of u j = sift (λ (c : Change). eqb c.user u) j.changes

-- his ET is answered 0, and every change that the journal had of him is in it still, open no more; or his BT is answered 0
pub record CanEnd (capacity : ℕ) (u : ℕ) (before now : World) : Type 0 where
  pub et_good : (g : Given) → g.call.user ≡ u → IsEt g → response_to capacity g now ≡ 0
  pub all_stand : (g : Given) → g.call.user ≡ u → IsEt g → changes_of u (called capacity g now).journal ≡ map (commits u) (changes_of u before.journal)
  pub bt_good : (g : Given) → g.call.user ≡ u → IsBt g → response_to capacity g now ≡ 0

-- so it is once a PE has been answered 0, whatever others call then, and at whatever clocks
abbrev pub ReadyEnds : Type 0
ReadyEnds =
    (capacity : ℕ) (table store : List ℕ) (queue : List Entry) (images : List ℕ) (calls others : List Given) (pe : Given)
    → (set_up_database capacity store queue images table).response ≡ Good
    → pe.call.command ≡ code Pe
    → response_to capacity pe (run capacity calls (begin capacity store queue images table)) ≡ 0
    → of_others pe.call.user others ≡ true
    → CanEnd capacity pe.call.user (called capacity pe (run capacity calls (begin capacity store queue images table)))
    (run capacity others (called capacity pe (run capacity calls (begin capacity store queue images table))))

-- ---- document 02, No. 8: "For every list of calls, a `C` reading is what backing all users out at that moment would leave"
-- one BT of each user whom the journal has in a transaction, in any order
pub record Everyone (bs : List BackOut) (j : Journal) : Type 0 where
  pub chosen : Chosen bs j
  pub none_left : (u : ℕ) → in_transaction j u ≡ true → any (eqb u) (users_of bs) ≡ true

-- there always is such a list
abbrev pub EveryoneListed : Type 0
EveryoneListed = (j : Journal) → (bs : List BackOut) × Everyone bs j

-- the record that they would leave at a file and ISN, if any
abbrev pub record_after : ℕ → Definition → List BackOut → Database → ℕ → ℕ → Option (List ℕ)
record_after capacity d bs b file isn = record_in d (back_outs capacity bs b).store file isn

abbrev pub is_record : Option (List ℕ) → Bool
is_record None = false
is_record (Some bytes) = true

-- no bytes where there is none
abbrev pub bytes_of : Option (List ℕ) → List ℕ
bytes_of None = []
bytes_of (Some bytes) = bytes

-- the whole record as a part
abbrev pub CommittedPart : Type 0
CommittedPart =
    (capacity : ℕ) (table store : List ℕ) (queue : List Entry) (images : List ℕ) (calls : List Given) (bs : List BackOut) (file isn : ℕ)
    → (set_up_database capacity store queue images table).response ≡ Good
    → Everyone bs (run capacity calls (begin capacity store queue images table)).journal
    → direct_part capacity (run capacity calls (begin capacity store queue images table)).database file isn
    ≡ bytes_of (record_after capacity (read_table table).definition bs (run capacity calls (begin capacity store queue images table)).database file isn)

-- an L1 with option `C`; what else the call has may be anything
pub record IsCommittedRead (g : Given) : Type 0 where
  pub command : g.call.command ≡ code L1
  pub option : g.call.option ≡ option_C

-- answered 0, it has read the named fields of a record; answered 113, there is none
pub record Reads (d : Definition) (g : Given) (r : Reply) (x : Option (List ℕ)) : Type 0 where
  pub there : number r.answer.response ≡ 0 → is_record x ≡ true
  pub fields_read : number r.answer.response ≡ 0 → r.buffer ≡ read_fields (file_numbered d g.call.file) g.format (bytes_of x) g.buffer
  pub not_there : number r.answer.response ≡ 113 → x ≡ None

-- the moment is that after the call's own clock and session, and a reading leaves all else as it was
abbrev pub CommittedRead : Type 0
CommittedRead =
    (capacity : ℕ) (table store : List ℕ) (queue : List Entry) (images : List ℕ) (calls : List Given) (g : Given) (bs : List BackOut)
    → (set_up_database capacity store queue images table).response ≡ Good
    → IsCommittedRead g
    → Everyone bs (called capacity g (run capacity calls (begin capacity store queue images table))).journal
    → Reads (read_table table).definition g (call_given capacity g (run capacity calls (begin capacity store queue images table)))
    (record_after capacity (read_table table).definition bs (called capacity g (run capacity calls (begin capacity store queue images table))).database g.call.file g.call.isn)

-- ---- of the journal alone
-- "is fed each call's arguments, response and ISN": nothing else of the nucleus comes into it
abbrev pub JournalOfAnswers : Type 0
JournalOfAnswers = (capacity : ℕ) (calls : List Given) (w : World) → (run capacity calls w).journal ≡ fed_all (answers capacity calls w) w.journal

-- the record that an N1 or N2 adds: its values in stored form, nulls elsewhere
abbrev pub record_added : Definition → Call → List ℕ → List ℕ → List ℕ
record_added d call format buffer =
    write_fields (file_numbered d call.file) format buffer (nulls (fields_of (file_numbered d call.file)))

-- an N1 or N2 that was answered 0 is told, whatever was told before
abbrev pub AddedTold : Type 0
AddedTold =
    (d : Definition) (j : Journal) (call : Call) (format buffer : List ℕ) (isn : ℕ)
    → (call.command ≡ code N1) ⊎ (call.command ≡ code N2)
    → record_told d (fed call format buffer 0 isn j) call.file isn ≡ Some (record_added d call format buffer)

-- ---- "Bytes and entries past these sizes are never touched", by the calls and by the BTs after them
abbrev pub AsLent : ℕ → Definition → Lent Entry → Database → Type 0
AsLent capacity d lent n = Past capacity d lent n.store n.queue n.images

abbrev pub NeverTouched : Type 0
NeverTouched =
    (capacity : ℕ) (table store : List ℕ) (queue : List Entry) (images : List ℕ) (calls : List Given) (bs : List BackOut)
    → (set_up_database capacity store queue images table).response ≡ Good
    → Chosen bs (run capacity calls (begin capacity store queue images table)).journal
    → AsLent capacity (read_table table).definition (lent_at table store queue images)
    (back_outs capacity bs (run capacity calls (begin capacity store queue images table)).database)
