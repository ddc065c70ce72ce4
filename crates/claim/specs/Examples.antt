-- Worked rows: lists of calls, and what document 01 says is then there, beside what nucleus and journal compute. The journal has `late`, the writing of
-- fields and other definitions from the nucleus and from the crates below it: an error in one of them would leave the claim true, and is seen here.
-- Assumes nothing.
use Rattle.std.specs.Prelude.{ℕ, ◌*◌, ◌≡◌, refl, Bool, true, false, List, [], ◌∷◌, ◌++◌, map, replicate, take, Option, Some, None}
use Prim.Native.String.{String}
use Rattle.lists.specs.Folds.{Each}
use Rattle.lists.specs.Numbers.{numbers}
use Rattle.lists.specs.Sift.{sift}
use Rattle.definition.specs.declared.Definition.{Definition}
use Rattle.records.specs.Records.{record_length, field_offset}
use Rattle.layout.specs.Layout.{file_offset, store_size, image_length, place}
use Rattle.validity.specs.Validity.{valid}
use Rattle.file_validity.specs.FileValidity.{file_valid, field_valid, name_valid}
use Rattle.items.specs.Items.{format_of, option_of, file_item, field_item, item_of}
use Rattle.reading.specs.Grammar.{read_from, read_table}
use Rattle.values.specs.Values.{stored, null_value, below_zero}
use Rattle.digits.specs.Digits.{allowed}
use Rattle.elements.specs.Elements.{field_named, format_valid, element, places, named_twice, length_needed, needed_within}
use Rattle.fields.specs.Fields.{fits, read_fields, write_fields, values_allowed}
use Rattle.nulls.specs.Nulls.{null_record}
use Rattle.store.specs.Store.{slot_fits, has_record, get, put_record, empty, fresh, file_part, with_part}
use Rattle.committed.specs.Committed.{committed_version, version_there, version_bytes}
use Rattle.search.specs.Search.{lowest, elsewhere}
use Rattle.entries.specs.Entries.{pack_of, unpack_of, entries}
use Rattle.queue.specs.Queue.{holder, held_by, append}
use Rattle.changes.specs.Changes.{change, keep_image, settled, first_change_queue, first_change_images}
use Rattle.repeats.specs.Repeats.{repeated}
use Rattle.removal.specs.Closing.{closed}
use Rattle.images.specs.Images.{image_has}
use Rattle.removal.specs.Removal.{remove_queue, remove_images, remove_count}
use Rattle.hold.specs.Hold.{put_back_in, put_back, restore}
use Rattle.nucleus.specs.Text.{text}
use Rattle.nucleus.specs.Commands.{command_of, has_option, blank, option_H, option_W}
use Rattle.nucleus.specs.Users.{is_active}
use Rattle.nucleus.specs.Nucleus.{Given, given, max_users, user_at, entries_of}
use Rattle.nucleus.specs.WellMade.{too_short, well_made}
use Rattle.nucleus.specs.Waiters.{left_line, joined_line, line_left_by, handed_on, waiters_of}
use Rattle.nucleus.specs.Clock.{removed, backed_out, forced_out, clocked}
use Rattle.nucleus.specs.Target.{target, new_record}
use Rattle.nucleus.specs.Rows.{rows_usable, rows_understood, is_overdue, session_in_transaction, ready_refused, access_refused, transaction_missing, file_unknown, isn_invalid, format_refused, field_twice, record_length_refused, value_refused, none_found, held_elsewhere, waits, presence_refused, not_held, release_refused, file_full, limit_reached, queue_full, value_taken}
use Rattle.nucleus.specs.Effects.{held, imaged, written, erased, effect_at}
use Rattle.nucleus.specs.Step.{admitted_session, admitted_user, admitted, perform, after_line, step, set_up}
use Rattle.nucleus.specs.declared.Response.TheVariants.{Good}
use Rattle.entries.specs.declared.Entry.{Entry}
use Rattle.database.specs.Database.{in_words, fitting, direct_call, set_up_database}
use Rattle.claim.specs.Journal.{apply, Member, Hold, Waiter, Journal, new_member, new_journal, in_transaction, struck_changes, log_leave, log_handed_on, log_let_go, struck, log_clock, log_start, log_change, log_end, log_limit, log_ready, log_hold, log_mark, log_join, log_left_by, fed, record_told}
use Rattle.claim.specs.Run.{World, run, begin, BackOut, back_outs, struck_all, record_in}
use Rattle.claim.specs.Answers.{Answered, answers, fed_all}
use Rattle.claim.specs.Claim.{Chosen}

-- ---- what is looked at
abbrev capacity : ℕ
capacity = 64

-- what lies in a queue that nobody has used
abbrev no_hold : Entry
no_hold = record { user = 0; file = 0; isn = 0; changed = false; existed = false }

-- a fresh nucleus and journal, of a table whose store takes at most 16 bytes and whose records at most 3
abbrev fresh_world : List ℕ → World
fresh_world table = begin capacity (replicate 16 0) (replicate capacity no_hold) (replicate (capacity * 3) 0) table

-- what the journal has: the records at ISN 1 to 3 of file 1, who of 0 to 33 is in a transaction, each user's limit and start, the clock
record JournalView : Type 0 where
  records : List (Option (List ℕ))
  active : List ℕ
  members : List Member
  clock : ℕ

abbrev journal_view : Definition → Journal → JournalView
journal_view d j = record {
  records = map (record_told d j 1) (numbers 3 1);
  active = sift (in_transaction j) (numbers 34 0);
  members = j.members;
  clock = j.clock;
}

-- and the same records and users in the nucleus
record View : Type 0 where
  journal : JournalView
  records : List (Option (List ℕ))
  active : List ℕ

abbrev view : List ℕ → World → View
view table w = record {
  journal = journal_view (read_table table).definition w.journal;
  records = map (record_in (read_table table).definition w.database.store 1) (numbers 3 1);
  active = sift (λ u. is_active (user_at w.database.state u)) (numbers max_users 1);
}

abbrev after_calls : List ℕ → List Given → View
after_calls table calls = view table (run capacity calls (fresh_world table))

-- and after the BTs of the claim
abbrev after_back_outs : List ℕ → List Given → List BackOut → View
after_back_outs table calls bs =
    let w = run capacity calls (fresh_world table) in
    view table (record { database = back_outs capacity bs w.database; journal = struck_all bs w.journal })

-- nobody but users 1 and 2 has changed as a member
abbrev told : List (Option (List ℕ)) → List ℕ → Member → Member → ℕ → JournalView
told records active one two clock = record { records = records; active = active; members = one ∷ two ∷ replicate 30 new_member; clock = clock }

-- nucleus and journal agree
abbrev both : List (Option (List ℕ)) → List ℕ → Member → Member → ℕ → View
both records active one two clock = record { journal = told records active one two clock; records = records; active = active }

abbrev idle : ℕ → Member
idle limit = record { limit = limit; start = None; ready = false }

abbrev since : ℕ → ℕ → Member
since start limit = record { limit = limit; start = Some start; ready = false }

-- and set ready
abbrev ready_since : ℕ → ℕ → Member
ready_since start limit = record { limit = limit; start = Some start; ready = true }

-- ---- calls: file 1, option blank, all else 0 or empty, unless named
abbrev sent : String → ℕ → ℕ → ℕ → ℕ → ℕ → List ℕ → List ℕ → Given
sent command option user isn limit clock format buffer =
    given (record { command = text command; option = option; user = user; file = 1; isn = isn; limit = limit; clock = clock }) format buffer

abbrev bare : String → ℕ → ℕ → ℕ → Given
bare command user isn clock = sent command blank user isn 0 clock [] []

-- user 1 adds a record at a clock
abbrev adds : ℕ → Given
adds clock = sent "N1" blank 1 0 0 clock (text "RC,HH.") (text "2AB")

-- user 2 reads ISN 1 at a clock
abbrev reads : ℕ → Given
reads clock = sent "L1" blank 2 1 0 clock (text "RC.") (0 ∷ [])

-- user 1 opens with a time limit
abbrev opens : ℕ → Given
opens limit = sent "OP" blank 1 0 limit 0 [] []

-- one BT of the claim, with what no rule of BT looks at
abbrev out : ℕ → BackOut
out user = record { user = user; file = 9; isn = 5; limit = 3; format = text "??"; buffer = text "...." }

-- ---- "Table X'01010003 0252430141 55 0248480241 20 00' (RC unique, HH)"
house_table : List ℕ
house_table = 0x01 ∷ 0x01 ∷ 0x00 ∷ 0x03 ∷ 0x02 ∷ 0x52 ∷ 0x43 ∷ 0x01 ∷ 0x41 ∷ 0x55 ∷ 0x02 ∷ 0x48 ∷ 0x48 ∷ 0x02 ∷ 0x41 ∷ 0x20 ∷ 0x00 ∷ []

house_calls : List Given
house_calls =
    adds 0 ∷
    bare "ET" 1 0 0 ∷
    sent "A1" option_H 1 1 0 0 (text "RC.") (text "3") ∷
    sent "N1" blank 2 0 0 0 (text "RC,HH.") (text "2CD") ∷
    sent "L4" blank 2 1 0 0 (text "RC.") (0 ∷ []) ∷
    bare "BT" 1 0 0 ∷
    sent "L1" blank 2 1 0 0 (text "RC,HH.") (0 ∷ 0 ∷ 0 ∷ []) ∷ []

-- a record of each of users 1 and 2, in their transactions
two_adds : List Given
two_adds = adds 0 ∷ sent "N1" blank 2 0 0 500 (text "RC.") (text "7") ∷ []

-- a record added at ISN 3, kept, and emptied
erasing : List Given
erasing = sent "N2" blank 1 3 0 0 (text "RC.") (text "9") ∷ bare "ET" 1 0 0 ∷ sent "E1" option_H 1 3 0 0 [] [] ∷ []

-- a record that is kept, and an A1 with `.` at clock 5
replacing_nothing : List Given
replacing_nothing = adds 0 ∷ bare "ET" 1 0 0 ∷ sent "A1" option_H 1 1 0 5 (text ".") [] ∷ []

-- a hold and a record at clock 0, then PE; user 2 reads it when the transaction is more than 900 old; ET
ready_list : List Given
ready_list = bare "HI" 1 2 0 ∷ adds 0 ∷ bare "PE" 1 0 0 ∷ reads 901 ∷ bare "ET" 1 0 901 ∷ []

-- document 02, No. 1: user 1 holds, user 2 waits, and ET of user 1 hands over at clock 0
waiting_list : List Given
waiting_list = bare "HI" 1 1 0 ∷ sent "HI" option_W 2 1 0 0 [] [] ∷ bare "ET" 1 0 0 ∷ []

-- user 2 adds a record at clock 900, and at 901 his transaction is too old
overdue_receiver : List Given
overdue_receiver = waiting_list ++ (sent "N1" blank 2 0 0 900 (text "RC.") (text "7") ∷ reads 901 ∷ [])

-- three wait, and user 1, who has changed one of his two records, lets both go
lines_list : List Given
lines_list =
    bare "HI" 1 2 0 ∷
    sent "N2" blank 1 1 0 0 (text "RC.") (text "5") ∷
    sent "HI" option_W 2 1 0 3 [] [] ∷
    sent "L4" option_W 3 2 0 4 (text "RC.") (0 ∷ []) ∷
    sent "HI" option_W 4 1 0 5 [] [] ∷ []

-- a journal at clock 7
abbrev ahead : Journal
ahead = record { clock = 7; members = new_journal.members; changes = []; holds = []; line = [] }

-- a file of highest ISN 3 with one field, PA, packed, two bytes
packed_table : List ℕ
packed_table = 0x01 ∷ 0x01 ∷ 0x00 ∷ 0x03 ∷ 0x02 ∷ 0x50 ∷ 0x41 ∷ 0x02 ∷ 0x50 ∷ 0x20 ∷ 0x00 ∷ []

-- ---- the rows
record Row : Type 0 where
  computed : View
  expected : View

abbrev row : List Given → View → Row
row calls expected = record { computed = after_calls house_table calls; expected = expected }

abbrev back_out_row : List Given → List BackOut → View → Row
back_out_row calls bs expected = record { computed = after_back_outs house_table calls bs; expected = expected }

rows : List Row
rows =
    -- the house list: the change of user 1 is backed out; N1 and L4 of user 2 were refused, and L1 holds nothing
    row house_calls (both (Some (text "2AB") ∷ None ∷ None ∷ []) [] (idle 900) (idle 900) 0) ∷
    -- after its fourth call: the A1 of user 1 stands, in his transaction
    row (take 4 house_calls) (both (Some (text "3AB") ∷ None ∷ None ∷ []) (1 ∷ []) (since 0 900) (idle 900) 0) ∷
    -- and a BT after that
    back_out_row (take 4 house_calls) (out 1 ∷ []) (both (Some (text "2AB") ∷ None ∷ None ∷ []) [] (idle 900) (idle 900) 0) ∷
    -- no BT, one or both, after two changes
    back_out_row two_adds [] (both (Some (text "2AB") ∷ Some (text "7  ") ∷ None ∷ []) (1 ∷ 2 ∷ []) (since 0 900) (since 500 900) 500) ∷
    back_out_row two_adds (out 2 ∷ []) (both (Some (text "2AB") ∷ None ∷ None ∷ []) (1 ∷ []) (since 0 900) (idle 900) 500) ∷
    back_out_row two_adds (out 2 ∷ out 1 ∷ []) (both (None ∷ None ∷ None ∷ []) [] (idle 900) (idle 900) 500) ∷
    -- "whose transaction began more than his limit ago": not at 900
    row (adds 0 ∷ reads 900 ∷ []) (both (Some (text "2AB") ∷ None ∷ None ∷ []) (1 ∷ []) (since 0 900) (idle 900) 900) ∷
    row (adds 0 ∷ reads 901 ∷ []) (both (None ∷ None ∷ None ∷ []) [] (idle 900) (idle 900) 901) ∷
    -- the last user too
    row (bare "HI" 32 1 0 ∷ reads 901 ∷ []) (both (None ∷ None ∷ None ∷ []) [] (idle 900) (idle 900) 901) ∷
    -- "OP answered 0 sets his time limit to the call's limit, 900 where that is 0; CL answered 0 sets it to 900"
    row (opens 10 ∷ adds 0 ∷ reads 10 ∷ []) (both (Some (text "2AB") ∷ None ∷ None ∷ []) (1 ∷ []) (since 0 10) (idle 900) 10) ∷
    row (opens 10 ∷ adds 0 ∷ reads 11 ∷ []) (both (None ∷ None ∷ None ∷ []) [] (idle 10) (idle 900) 11) ∷
    row (opens 10 ∷ opens 0 ∷ []) (both (None ∷ None ∷ None ∷ []) [] (idle 900) (idle 900) 0) ∷
    row (opens 10 ∷ bare "CL" 1 0 0 ∷ []) (both (None ∷ None ∷ None ∷ []) [] (idle 900) (idle 900) 0) ∷
    -- "OP or CL with 9 backs him out", and does nothing more
    row (opens 10 ∷ adds 0 ∷ opens 20 ∷ []) (both (None ∷ None ∷ None ∷ []) [] (idle 10) (idle 900) 0) ∷
    row (opens 10 ∷ adds 0 ∷ bare "CL" 1 0 0 ∷ []) (both (None ∷ None ∷ None ∷ []) [] (idle 10) (idle 900) 0) ∷
    -- ET ends his transaction, and no back-out or clock strikes its changes then; ET of another user does not
    row (adds 0 ∷ bare "ET" 1 0 0 ∷ bare "HI" 1 2 0 ∷ bare "BT" 1 0 0 ∷ reads 901 ∷ [])
    (both (Some (text "2AB") ∷ None ∷ None ∷ []) [] (idle 900) (idle 900) 901) ∷
    row (adds 0 ∷ bare "ET" 2 0 0 ∷ reads 901 ∷ []) (both (None ∷ None ∷ None ∷ []) [] (idle 900) (idle 900) 901) ∷
    -- a back-out of another user strikes nothing of his
    row (adds 0 ∷ bare "HI" 2 2 0 ∷ bare "BT" 2 0 0 ∷ []) (both (Some (text "2AB") ∷ None ∷ None ∷ []) (1 ∷ []) (since 0 900) (idle 900) 0) ∷
    -- N2 adds at the given ISN, with nulls in what is not named; E1 empties, and its back-out brings the record back
    row (take 1 erasing) (both (None ∷ None ∷ Some (text "9  ") ∷ []) (1 ∷ []) (since 0 900) (idle 900) 0) ∷
    row erasing (both (None ∷ None ∷ None ∷ []) (1 ∷ []) (since 0 900) (idle 900) 0) ∷
    row (erasing ++ (bare "BT" 1 0 0 ∷ [])) (both (None ∷ None ∷ Some (text "9  ") ∷ []) [] (idle 900) (idle 900) 0) ∷
    -- "starts its user's transaction at that clock, unless he is in one": at the journal's own clock, the greatest that it was given
    row (bare "HI" 1 1 5 ∷ bare "HI" 1 2 8 ∷ bare "HI" 2 3 6 ∷ []) (both (None ∷ None ∷ None ∷ []) (1 ∷ 2 ∷ []) (since 5 900) (since 8 900) 8) ∷
    -- L4 starts one; L1, RE and RI do not; RI of all entries ends none
    row (adds 0 ∷ bare "ET" 1 0 0 ∷ sent "L4" blank 2 1 0 0 (text "RC.") (0 ∷ []) ∷ bare "RI" 2 0 0 ∷ bare "RE" 1 0 0 ∷ bare "RI" 1 0 0 ∷ [])
    (both (Some (text "2AB") ∷ None ∷ None ∷ []) (2 ∷ []) (idle 900) (since 0 900) 0) ∷
    -- document 02, No. 5: with `.` A1 starts one and sets nothing, and so there is nothing that a back-out puts back; L4 starts one; N1 adds nulls
    row replacing_nothing (both (Some (text "2AB") ∷ None ∷ None ∷ []) (1 ∷ []) (since 5 900) (idle 900) 5) ∷
    back_out_row replacing_nothing (out 1 ∷ []) (both (Some (text "2AB") ∷ None ∷ None ∷ []) [] (idle 900) (idle 900) 5) ∷
    row (adds 0 ∷ bare "ET" 1 0 0 ∷ sent "L4" blank 2 1 0 7 (text ".") [] ∷ [])
    (both (Some (text "2AB") ∷ None ∷ None ∷ []) (2 ∷ []) (idle 900) (since 7 900) 7) ∷
    row (sent "N1" blank 1 0 0 0 (text ".") [] ∷ []) (both (Some (text "   ") ∷ None ∷ None ∷ []) (1 ∷ []) (since 0 900) (idle 900) 0) ∷
    -- document 02, No. 12: "time doesn't back him out (nor in the book of requirement 3, after a PE answered 0)", and the record stays; a BT still does
    row (take 4 ready_list) (both (Some (text "2AB") ∷ None ∷ None ∷ []) (1 ∷ []) (ready_since 0 900) (idle 900) 901) ∷
    row ready_list (both (Some (text "2AB") ∷ None ∷ None ∷ []) [] (idle 900) (idle 900) 901) ∷
    back_out_row (take 4 ready_list) (out 1 ∷ []) (both (None ∷ None ∷ None ∷ []) [] (idle 900) (idle 900) 901) ∷
    row (take 3 ready_list ++ (reads 10000 ∷ [])) (both (Some (text "2AB") ∷ None ∷ None ∷ []) (1 ∷ []) (ready_since 0 900) (idle 900) 10000) ∷
    -- "OP and CL do so still"
    row (take 3 ready_list ++ (bare "CL" 1 0 0 ∷ [])) (both (None ∷ None ∷ None ∷ []) [] (idle 900) (idle 900) 0) ∷
    row (take 3 ready_list ++ (opens 20 ∷ [])) (both (None ∷ None ∷ None ∷ []) [] (idle 900) (idle 900) 0) ∷
    -- a call answered 211 changes nothing but the clock; a PE answered 212 sets nothing ready
    row (take 3 ready_list ++ (adds 5 ∷ [])) (both (Some (text "2AB") ∷ None ∷ None ∷ []) (1 ∷ []) (ready_since 0 900) (idle 900) 5) ∷
    row (bare "PE" 1 0 0 ∷ adds 0 ∷ reads 901 ∷ []) (both (None ∷ None ∷ None ∷ []) [] (idle 900) (idle 900) 901) ∷
    -- "to that transaction's end": the next one is not ready
    row (adds 0 ∷ bare "PE" 1 0 0 ∷ bare "ET" 1 0 0 ∷ bare "HI" 1 2 0 ∷ reads 901 ∷ [])
    (both (Some (text "2AB") ∷ None ∷ None ∷ []) [] (idle 900) (idle 900) 901) ∷
    -- document 02, No. 1: a 20 starts nothing; a hold handed over "opens a transaction then"
    row (take 2 waiting_list) (both (None ∷ None ∷ None ∷ []) (1 ∷ []) (since 0 900) (idle 900) 0) ∷
    row waiting_list (both (None ∷ None ∷ None ∷ []) (2 ∷ []) (idle 900) (since 0 900) 0) ∷
    row (take 4 overdue_receiver) (both (None ∷ Some (text "7  ") ∷ None ∷ []) (2 ∷ []) (idle 900) (since 0 900) 900) ∷
    row overdue_receiver (both (None ∷ None ∷ None ∷ []) [] (idle 900) (idle 900) 901) ∷
    -- a closing BT may bring a waiter into a transaction: it strikes nothing of his
    back_out_row (take 2 waiting_list) (out 1 ∷ []) (both (None ∷ None ∷ None ∷ []) (2 ∷ []) (idle 900) (since 0 900) 0) ∷
    -- "A response of 72's row or an earlier one changes nothing in it": 22, 72; a later one raises the clock: 113
    row (adds 0 ∷ bare "XX" 2 1 901 ∷ bare "HI" 33 1 901 ∷ []) (both (Some (text "2AB") ∷ None ∷ None ∷ []) (1 ∷ []) (since 0 900) (idle 900) 0) ∷
    row (adds 0 ∷ bare "HI" 2 4 901 ∷ []) (both (None ∷ None ∷ None ∷ []) [] (idle 900) (idle 900) 901) ∷
    -- "in stored form": 1 with sign C is kept with F
    record {
      computed = after_calls packed_table (sent "N1" blank 1 0 0 0 (text "PA.") (0x00 ∷ 0x1C ∷ []) ∷ []);
      expected = both (Some (0x00 ∷ 0x1F ∷ []) ∷ None ∷ None ∷ []) (1 ∷ []) (since 0 900) (idle 900) 0;
    } ∷
    -- nothing of the nucleus's state comes into the journal: one that is ahead of it goes by its own clock
    record {
      computed = view house_table (run capacity (bare "HI" 1 1 3 ∷ []) (record { database = (fresh_world house_table).database; journal = ahead }));
      expected = both (None ∷ None ∷ None ∷ []) (1 ∷ []) (since 7 900) (idle 900) 7;
    } ∷ []

-- ---- answers that the nucleus never gives there, fed to the journal alone
record JournalRow : Type 0 where
  computed : JournalView
  expected : JournalView

abbrev answered : ℕ → ℕ → Given → Answered
answered response isn g = record { given = g; response = response; isn = isn }

abbrev journal_row : List Answered → JournalView → JournalRow
journal_row answers expected = record { computed = journal_view (read_table house_table).definition (fed_all answers new_journal); expected = expected }

-- the same call in another file
abbrev in_file : ℕ → Given → Given
in_file file g =
    let c = g.call in
    given (record { command = c.command; option = c.option; user = c.user; file = file; isn = c.isn; limit = c.limit; clock = c.clock }) g.format g.buffer

journal_rows : List JournalRow
journal_rows =
    -- 10, 11, 12 change nothing
    journal_row (answered 0 1 (adds 0) ∷ answered 10 0 (reads 901) ∷ answered 11 0 (reads 901) ∷ answered 12 0 (reads 901) ∷ [])
    (told (Some (text "2AB") ∷ None ∷ None ∷ []) (1 ∷ []) (since 0 900) (idle 900) 0) ∷
    -- only OP or CL with 9 backs him out
    journal_row (answered 0 1 (adds 0) ∷ answered 9 0 (bare "ET" 1 0 5) ∷ answered 9 0 (bare "HI" 1 2 6) ∷ [])
    (told (Some (text "2AB") ∷ None ∷ None ∷ []) (1 ∷ []) (since 0 900) (idle 900) 6) ∷
    -- "A1 sets the named fields of a record there": where there is none it makes none
    journal_row (answered 0 1 (sent "A1" blank 1 1 0 0 (text "RC.") (text "3")) ∷ []) (told (None ∷ None ∷ None ∷ []) (1 ∷ []) (since 0 900) (idle 900) 0) ∷
    -- only a PE answered 0 sets ready
    journal_row (answered 0 1 (adds 0) ∷ answered 211 0 (bare "PE" 1 0 0) ∷ answered 0 1 (reads 901) ∷ []) (told (None ∷ None ∷ None ∷ []) [] (idle 900) (idle 900) 901) ∷
    -- a record of another file
    journal_row (answered 0 1 (in_file 2 (adds 0)) ∷ []) (told (None ∷ None ∷ None ∷ []) (1 ∷ []) (since 0 900) (idle 900) 0) ∷ []

-- ---- the hold queue: "oldest first, and removal closes the gap"; entries past H, here 2, as they were lent
abbrev strange : Entry
strange = record { user = 200; file = 201; isn = 60000; changed = true; existed = true }

abbrev queue_after : List Given → List Entry
queue_after calls = (run 2 calls (begin 2 (replicate 16 0) (replicate 3 strange) (replicate 6 0) house_table)).database.queue

abbrev hold_of : ℕ → ℕ → Bool → Entry
hold_of user isn changed = record { user = user; file = 1; isn = isn; changed = changed; existed = false }

-- ---- document 02, No. 1: holds and lines, as the journal has them and as the nucleus does
record Lines : Type 0 where
  holds : List Hold
  line : List Waiter

abbrev told_lines : World → Lines
told_lines w = record { holds = w.journal.holds; line = w.journal.line }

abbrev kept_lines : World → Lines
kept_lines w =
    let n = in_words capacity w.database in
    record {
      holds = map (λ (e : Entry). record { user = e.user; file = e.file; isn = e.isn; changed = e.changed }) (entries_of n);
      line = map (λ (e : Entry). record { user = e.user; file = e.file; isn = e.isn; reads = e.changed }) (waiters_of n);
    }

abbrev holds_isn : ℕ → ℕ → Bool → Hold
holds_isn user isn changed = record { user = user; file = 1; isn = isn; changed = changed }

abbrev waits_for : ℕ → ℕ → Bool → Waiter
waits_for user isn reads = record { user = user; file = 1; isn = isn; reads = reads }

-- a list of calls, and what both have after it
record LineRow : Type 0 where
  calls : List Given
  lines : Lines

abbrev line_row : List Given → List Hold → List Waiter → LineRow
line_row calls holds line = record { calls = calls; lines = record { holds = holds; line = line } }

abbrev both_have : LineRow → Type 0
both_have r =
    (told_lines (run capacity r.calls (fresh_world house_table)) ≡ r.lines)
    × (kept_lines (run capacity r.calls (fresh_world house_table)) ≡ r.lines)

line_rows : List LineRow
line_rows =
    line_row lines_list (holds_isn 1 2 false ∷ holds_isn 1 1 true ∷ []) (waits_for 2 1 false ∷ waits_for 3 2 true ∷ waits_for 4 1 false ∷ []) ∷
    -- "oldest entry first": ISN 2 was held before ISN 1
    line_row (lines_list ++ (bare "ET" 1 0 6 ∷ [])) (holds_isn 3 2 false ∷ holds_isn 2 1 false ∷ []) (waits_for 4 1 false ∷ []) ∷
    line_row (lines_list ++ (bare "BT" 1 0 6 ∷ [])) (holds_isn 3 2 false ∷ holds_isn 2 1 false ∷ []) (waits_for 4 1 false ∷ []) ∷
    -- RI of ISN 0 skips the changed
    line_row (lines_list ++ (bare "RI" 1 0 6 ∷ [])) (holds_isn 1 1 true ∷ holds_isn 3 2 false ∷ []) (waits_for 2 1 false ∷ waits_for 4 1 false ∷ []) ∷
    -- OP in a transaction, and the clock; the same call keeps its place, another one leaves
    line_row (lines_list ++ (opens 0 ∷ [])) (holds_isn 3 2 false ∷ holds_isn 2 1 false ∷ []) (waits_for 4 1 false ∷ []) ∷
    line_row (lines_list ++ (sent "HI" option_W 4 1 0 901 [] [] ∷ [])) (holds_isn 3 2 false ∷ holds_isn 2 1 false ∷ []) (waits_for 4 1 false ∷ []) ∷
    line_row (lines_list ++ (reads 901 ∷ [])) (holds_isn 3 2 false ∷ holds_isn 4 1 false ∷ []) [] ∷
    -- whoever is backed out waits no more
    line_row (bare "HI" 2 2 0 ∷ bare "HI" 1 1 10 ∷ sent "HI" option_W 2 1 0 10 [] [] ∷ bare "RE" 3 0 901 ∷ []) (holds_isn 1 1 false ∷ []) [] ∷ []

-- ---- all of it, a `refl` for each row
record Worked : Type 0 where
  -- the premises of the claim hold of such a set-up, list of calls and BTs
  good : (set_up_database capacity (replicate 16 0) (replicate capacity no_hold) (replicate (capacity * 3) 0) house_table).response ≡ Good
  chosen : Chosen (out 2 ∷ out 1 ∷ []) (run capacity two_adds (fresh_world house_table)).journal
  -- response and ISN of the house list's lines: what the journal is fed
  house_answers : map (λ (a : Answered). a.response ∷ a.isn ∷ []) (answers capacity house_calls (fresh_world house_table))
      ≡ (0 ∷ 1 ∷ []) ∷ (0 ∷ 0 ∷ []) ∷ (0 ∷ 1 ∷ []) ∷ (198 ∷ 0 ∷ []) ∷ (145 ∷ 0 ∷ []) ∷ (0 ∷ 0 ∷ []) ∷ (0 ∷ 1 ∷ []) ∷ []
  held_one : queue_after (bare "HI" 1 3 0 ∷ []) ≡ hold_of 1 3 false ∷ strange ∷ strange ∷ []
  held_two : queue_after (bare "HI" 1 3 0 ∷ adds 0 ∷ []) ≡ hold_of 1 3 false ∷ hold_of 1 1 true ∷ strange ∷ []
  gap_closed : take 1 (queue_after (bare "HI" 1 3 0 ∷ adds 0 ∷ bare "RI" 1 3 0 ∷ [])) ≡ hold_of 1 1 true ∷ []
  rows_as_expected : Each (λ (r : Row). r.computed ≡ r.expected) rows
  lines_as_expected : Each both_have line_rows
  journal_rows_as_expected : Each (λ (r : JournalRow). r.computed ≡ r.expected) journal_rows

worked : Worked
unfolding house_table house_calls two_adds erasing replacing_nothing ready_list waiting_list overdue_receiver lines_list packed_table rows line_rows journal_rows record_length field_offset file_offset store_size image_length place valid file_valid field_valid name_valid format_of option_of file_item field_item item_of read_from read_table stored below_zero allowed null_value field_named format_valid element places named_twice length_needed needed_within fits read_fields write_fields values_allowed null_record slot_fits has_record get lowest elsewhere put_record empty fresh file_part with_part pack_of unpack_of entries holder held_by repeated append change closed remove_queue remove_images remove_count image_has keep_image settled first_change_queue first_change_images put_back_in put_back restore command_of has_option too_short well_made removed backed_out left_line joined_line line_left_by handed_on forced_out clocked target rows_usable rows_understood is_overdue session_in_transaction ready_refused access_refused transaction_missing file_unknown isn_invalid format_refused field_twice record_length_refused value_refused none_found held_elsewhere waits committed_version version_there version_bytes presence_refused not_held release_refused file_full limit_reached queue_full new_record value_taken held imaged written erased effect_at admitted_session admitted_user admitted perform after_line step set_up fitting direct_call set_up_database apply struck_changes log_leave log_handed_on log_let_go struck log_clock log_start log_change log_end log_limit log_ready log_hold log_mark log_join log_left_by fed record_told run
worked = record {
  good = refl;
  chosen = record { different = refl; active = refl };
  house_answers = refl;
  held_one = refl;
  held_two = refl;
  gap_closed = refl;
  rows_as_expected = (refl, (refl, (refl, (refl, (refl, (refl, (refl, (refl, (refl, (refl, (refl, (refl, (refl, (refl, (refl, (refl, (refl, (refl, (refl, (refl, (refl, (refl, (refl, (refl, (refl, (refl, (refl, (refl, (refl, (refl, (refl, (refl, (refl, (refl, (refl, (refl, (refl, (refl, (refl, (refl, (refl, (refl, (refl, (refl, (refl, tt)))))))))))))))))))))))))))))))))))))))))))));
  lines_as_expected = ((refl, refl), ((refl, refl), ((refl, refl), ((refl, refl), ((refl, refl), ((refl, refl), ((refl, refl), ((refl, refl), tt))))))));
  journal_rows_as_expected = (refl, (refl, (refl, (refl, (refl, tt)))));
}
