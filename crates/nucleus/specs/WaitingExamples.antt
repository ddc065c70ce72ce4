-- Document 02, No. 1: rows that the definitions themselves give, of every list that tells two readings of its words apart.
-- Assumes nothing.
use Rattle.std.specs.Prelude.{ℕ, ◌+◌, ◌*◌, ◌≡◌, refl, Bool, true, false, List, [], ◌∷◌, ◌++◌, map, replicate, set}
use Prim.Native.String.{String}
use Rattle.lists.specs.Folds.{Each}
use Rattle.records.specs.Records.{record_length, field_offset}
use Rattle.layout.specs.Layout.{file_offset, store_size, image_length, place}
use Rattle.validity.specs.Validity.{valid}
use Rattle.file_validity.specs.FileValidity.{file_valid, field_valid, name_valid}
use Rattle.items.specs.Items.{format_of, option_of, file_item, field_item, item_of}
use Rattle.reading.specs.Grammar.{read_from, read_table}
use Rattle.values.specs.Values.{stored, null_value, below_zero}
use Rattle.digits.specs.Digits.{allowed}
use Rattle.elements.specs.Elements.{field_named, format_valid, element, places, named_twice, length_needed, needed_within}
use Rattle.fields.specs.Fields.{fits, read_fields, write_fields, values_allowed}
use Rattle.nulls.specs.Nulls.{null_record}
use Rattle.store.specs.Store.{slot_fits, has_record, get, shown, put_record, empty, fresh, file_part, with_part}
use Rattle.search.specs.Search.{lowest, elsewhere}
use Rattle.entries.specs.Entries.{pack_of, unpack_of, entries}
use Rattle.entries.specs.declared.Entry.{Entry}
use Rattle.queue.specs.Queue.{holder, held_by, append}
use Rattle.changes.specs.Changes.{change, keep_image, settled, first_change_queue, first_change_images}
use Rattle.repeats.specs.Repeats.{repeated}
use Rattle.committed.specs.Committed.{committed_version, version_there, version_bytes}
use Rattle.removal.specs.Closing.{closed}
use Rattle.images.specs.Images.{image_has}
use Rattle.removal.specs.Removal.{remove_queue, remove_images, remove_count}
use Rattle.hold.specs.Hold.{put_back_in, put_back, restore}
use Rattle.nucleus.specs.Text.{text}
use Rattle.nucleus.specs.Commands.{command_of, has_option, blank, option_W}
use Rattle.nucleus.specs.Users.{opening, closed as without_session, with_transaction}
use Rattle.nucleus.specs.Nucleus.{Nucleus, nucleus, Given, with_count, with_wait_queue, change_user, entries_of}
use Rattle.nucleus.specs.WellMade.{too_short, well_made}
use Rattle.nucleus.specs.Waiters.{left_line, joined_line, line_left_by, handed_on, waiters_of}
use Rattle.nucleus.specs.Clock.{removed, backed_out, forced_out, clocked}
use Rattle.nucleus.specs.Target.{target, new_record}
use Rattle.nucleus.specs.Rows.{rows_usable, rows_understood, is_overdue, session_in_transaction, ready_refused, access_refused, transaction_missing, file_unknown, isn_invalid, format_refused, field_twice, record_length_refused, value_refused, none_found, held_elsewhere, waits, presence_refused, not_held, release_refused, file_full, limit_reached, queue_full, value_taken}
use Rattle.nucleus.specs.Effects.{held, imaged, written, erased, effect_at}
use Rattle.nucleus.specs.Step.{admitted_session, admitted_user, admitted, perform, after_line, step, set_up}
use Rattle.nucleus.specs.Line.{hexadecimal, decimal, line_of, line}
use Rattle.nucleus.specs.Examples.{capacity, printed_on, printed, sent, two_table, left_by}

-- ---- calls: file 1, all else 0 or empty unless named; option `W` where it is asked for
abbrev plain : String → ℕ → ℕ → ℕ → Given
plain command user isn clock = sent command blank user isn clock [] []

abbrev waits_hi : ℕ → ℕ → ℕ → Given
waits_hi user isn clock = sent "HI" option_W user isn clock [] []

abbrev waits_l4 : ℕ → ℕ → ℕ → Given
waits_l4 user isn clock = sent "L4" option_W user isn clock (text "RC.") (0 ∷ [])

abbrev adds : String → ℕ → ℕ → ℕ → Given
adds command user isn clock = sent command blank user isn clock (text "RC.") (text "7")

-- what a call prints that is refused, and one that is good with nothing to say
abbrev only : String → List ℕ
only response = text response ++ text " 0 0 0"

abbrev on_isn : String → List ℕ
on_isn isn = text "0 " ++ text isn ++ text " 0 0"

record Row : Type 0 where
  calls : List Given
  expected : List (List ℕ)

abbrev row : List Given → List (List ℕ) → Row
row calls expected = record { calls = calls; expected = expected }

-- joining, staying, leaving
joining : List Row
joining =
    -- a user is in one line: by another call he leaves the first
    row (plain "HI" 1 1 0 ∷ plain "HI" 1 2 0 ∷ waits_hi 2 1 0 ∷ waits_hi 2 2 0 ∷ plain "RI" 1 1 0 ∷ plain "HI" 3 1 0 ∷ [])
    (on_isn "1" ∷ on_isn "2" ∷ only "20" ∷ only "20" ∷ text "0 1 1 0" ∷ on_isn "1" ∷ []) ∷
    -- "HI and L4 get option `W`", and no other command
    row (sent "L1" option_W 1 1 0 (text "RC.") (0 ∷ []) ∷ sent "RI" option_W 1 1 0 [] [] ∷ sent "HI" 119 1 1 0 [] [] ∷ [])
    (only "22" ∷ only "22" ∷ only "22" ∷ []) ∷
    -- nobody holds it: HI as it was
    row (waits_hi 1 1 0 ∷ waits_hi 1 1 0 ∷ []) (on_isn "1" ∷ on_isn "1" ∷ []) ∷
    -- L4 after HI is another call: he goes to the end
    row (plain "HI" 1 1 0 ∷ waits_hi 2 1 0 ∷ waits_hi 3 1 0 ∷ waits_l4 2 1 0 ∷ plain "ET" 1 0 0 ∷ waits_hi 2 1 0 ∷ [])
    (on_isn "1" ∷ only "20" ∷ only "20" ∷ only "20" ∷ text "0 0 1 1" ∷ only "20" ∷ []) ∷
    -- the same call again keeps its place
    row (plain "HI" 1 1 0 ∷ waits_hi 2 1 0 ∷ waits_hi 3 1 0 ∷ waits_hi 2 1 0 ∷ plain "ET" 1 0 0 ∷ waits_hi 2 1 0 ∷ [])
    (on_isn "1" ∷ only "20" ∷ only "20" ∷ only "20" ∷ text "0 0 1 1" ∷ on_isn "1" ∷ []) ∷
    -- also where an earlier row refuses it
    row (plain "HI" 1 1 0 ∷ waits_l4 2 1 0 ∷ sent "L4" option_W 2 1 0 (text "ZZ.") [] ∷ plain "ET" 1 0 0 ∷ plain "HI" 1 1 0 ∷ [])
    (on_isn "1" ∷ only "20" ∷ only "41" ∷ text "0 0 1 1" ∷ only "145" ∷ []) ∷
    -- "leaves the line, before the clock's back-outs": he is handed nothing, and N1 finds ISN 1 free
    row (plain "HI" 1 1 0 ∷ waits_hi 2 1 0 ∷ adds "N1" 2 0 901 ∷ []) (on_isn "1" ∷ only "20" ∷ on_isn "1" ∷ []) ∷
    -- "past 72's check": 22 stays in line
    row (plain "HI" 1 1 0 ∷ waits_hi 2 1 0 ∷ plain "XX" 2 0 0 ∷ plain "ET" 1 0 0 ∷ plain "HI" 1 1 0 ∷ [])
    (on_isn "1" ∷ only "20" ∷ only "22" ∷ text "0 0 1 1" ∷ only "145" ∷ []) ∷
    -- "in 145's row", before the second 113
    row (plain "HI" 1 1 0 ∷ waits_l4 2 1 0 ∷ []) (on_isn "1" ∷ only "20" ∷ []) ∷
    -- "a user at or past it doesn't join and gets 145"
    row (plain "OP" 2 1 0 ∷ plain "HI" 1 1 0 ∷ plain "HI" 2 2 0 ∷ waits_hi 2 1 0 ∷ []) (on_isn "0" ∷ on_isn "1" ∷ on_isn "2" ∷ only "145" ∷ []) ∷
    -- two wait for each other
    row (plain "HI" 1 1 0 ∷ plain "HI" 2 2 0 ∷ waits_hi 1 2 0 ∷ waits_hi 2 1 0 ∷ []) (on_isn "1" ∷ on_isn "2" ∷ only "20" ∷ only "20" ∷ []) ∷ []

-- handing over
handing : List Row
handing =
    -- the receiver may be the caller
    row (plain "HI" 1 1 0 ∷ waits_hi 2 1 0 ∷ waits_hi 2 1 901 ∷ []) (on_isn "1" ∷ only "20" ∷ on_isn "1" ∷ []) ∷
    -- the first in line gets it, also where L4 waits for an ISN without a record
    row (plain "HI" 1 1 0 ∷ waits_l4 2 1 0 ∷ plain "ET" 1 0 0 ∷ plain "HI" 1 1 0 ∷ waits_l4 2 1 0 ∷ [])
    (on_isn "1" ∷ only "20" ∷ text "0 0 1 1" ∷ only "145" ∷ only "113" ∷ []) ∷
    -- a new entry, of a record that is there: its back-out leaves it
    row (adds "N2" 1 1 0 ∷ waits_hi 2 1 0 ∷ plain "ET" 1 0 0 ∷ plain "BT" 2 0 0 ∷ sent "L1" blank 2 1 0 (text "RC.") (0 ∷ []) ∷ [])
    (on_isn "1" ∷ only "20" ∷ text "0 0 1 1" ∷ text "0 0 1 0" ∷ text "0 1 1 0 37" ∷ []) ∷
    -- a 20 opens no transaction: CL is answered 0
    row (plain "HI" 1 1 0 ∷ waits_hi 2 1 0 ∷ plain "CL" 2 0 0 ∷ []) (on_isn "1" ∷ only "20" ∷ on_isn "0" ∷ []) ∷
    -- a hand-over does: CL is answered 9
    row (plain "HI" 1 1 0 ∷ waits_hi 2 1 0 ∷ plain "ET" 1 0 0 ∷ plain "CL" 2 0 0 ∷ []) (on_isn "1" ∷ only "20" ∷ text "0 0 1 1" ∷ only "9" ∷ []) ∷
    -- at the clock of the hand-over, so that his N1 at 900 is backed out at 901
    row (plain "HI" 1 1 0 ∷ waits_hi 2 1 0 ∷ plain "ET" 1 0 0 ∷ adds "N1" 2 0 900 ∷ sent "L1" blank 3 2 901 (text "RC.") (0 ∷ []) ∷ [])
    (on_isn "1" ∷ only "20" ∷ text "0 0 1 1" ∷ on_isn "2" ∷ only "113" ∷ []) ∷
    -- where one is open it stays
    row (plain "HI" 2 2 0 ∷ plain "HI" 1 1 500 ∷ waits_hi 2 1 500 ∷ plain "ET" 1 0 600 ∷ plain "HI" 2 2 901 ∷ [])
    (on_isn "2" ∷ on_isn "1" ∷ only "20" ∷ text "0 0 1 1" ∷ only "9" ∷ []) ∷
    -- RI, and OP in a transaction, hand over too
    row (plain "HI" 1 1 0 ∷ waits_hi 2 1 0 ∷ plain "RI" 1 1 0 ∷ waits_hi 2 1 0 ∷ plain "HI" 1 2 0 ∷ waits_hi 3 2 0 ∷ plain "OP" 1 0 0 ∷ waits_hi 3 2 0 ∷ [])
    (on_isn "1" ∷ only "20" ∷ text "0 1 1 0" ∷ on_isn "1" ∷ on_isn "2" ∷ only "20" ∷ only "9" ∷ on_isn "2" ∷ []) ∷
    -- "A back-out takes its user from the line": user 2, in a transaction since 0, waits no more
    row (plain "HI" 2 2 0 ∷ plain "HI" 1 1 10 ∷ waits_hi 2 1 10 ∷ plain "RE" 3 0 901 ∷ plain "ET" 1 0 901 ∷ plain "HI" 3 1 901 ∷ [])
    (on_isn "2" ∷ on_isn "1" ∷ only "20" ∷ on_isn "0" ∷ text "0 0 1 1" ∷ on_isn "1" ∷ []) ∷
    -- one who is overdue later in the same pass gets the hold and loses it again
    row (plain "HI" 1 1 0 ∷ plain "HI" 2 2 0 ∷ waits_hi 2 1 0 ∷ waits_hi 3 1 0 ∷ waits_hi 3 1 901 ∷ plain "HI" 2 2 901 ∷ [])
    (on_isn "1" ∷ on_isn "2" ∷ only "20" ∷ only "20" ∷ on_isn "1" ∷ only "9" ∷ []) ∷
    -- three offices wait with L4 for one record; the first that gets it drops, and the others get it in order
    row (adds "N2" 1 1 0 ∷ waits_l4 2 1 0 ∷ waits_l4 3 1 0 ∷ waits_l4 4 1 0 ∷ plain "ET" 1 0 10 ∷ waits_l4 3 1 911 ∷ waits_l4 4 1 911 ∷ plain "ET" 3 0 911 ∷ waits_l4 4 1 911 ∷ [])
    (on_isn "1" ∷ only "20" ∷ only "20" ∷ only "20" ∷ text "0 0 1 1" ∷ text "0 1 1 0 37" ∷ only "20" ∷ text "0 0 1 1" ∷ text "0 1 1 0 37" ∷ []) ∷ []

-- ---- a lent state: user 1 holds ISN 1, user 2 has a session, and a line
abbrev held_entry : Entry
held_entry = record { user = 1; file = 1; isn = 1; changed = false; existed = false }

abbrev waiter : ℕ → ℕ → Entry
waiter user isn = record { user = user; file = 1; isn = isn; changed = false; existed = false }

abbrev placed : List Entry → ℕ → List ℕ → List ℕ
placed [] i words = words
placed (w ∷ ws) i words = placed ws (i + 1) (set words i (pack_of w))

abbrev lined_with : ℕ → List Entry → Nucleus → Nucleus
lined_with waiting ws n =
    let m = change_user 2 (λ u. opening) (change_user 1 (λ u. with_transaction (record { active = true; begun = 0; ready = false }) opening) n) in
    nucleus (with_wait_queue (record { places = placed ws 0 (replicate 32 0); waiting = waiting }) (with_count 1 m.state)) m.store (append m.queue 0 held_entry) m.images

record StateRow : Type 0 where
  waiting : ℕ
  waiters : List Entry
  response : List ℕ

state_rows : List StateRow
state_rows =
    record { waiting = 1; waiters = waiter 2 1 ∷ []; response = text "0 0 0 0" } ∷
    -- "a waiter has a session"; "another holds his record": nobody, or himself; no user of the nucleus; twice; more than there are places
    record { waiting = 1; waiters = waiter 3 1 ∷ []; response = text "12 0 0 0" } ∷
    record { waiting = 1; waiters = waiter 2 2 ∷ []; response = text "12 0 0 0" } ∷
    record { waiting = 1; waiters = waiter 1 1 ∷ []; response = text "12 0 0 0" } ∷
    record { waiting = 1; waiters = waiter 33 1 ∷ []; response = text "12 0 0 0" } ∷
    record { waiting = 2; waiters = waiter 2 1 ∷ waiter 2 1 ∷ []; response = text "12 0 0 0" } ∷
    record { waiting = 33; waiters = []; response = text "12 0 0 0" } ∷
    -- what is past those that wait is not looked at
    record { waiting = 1; waiters = waiter 2 1 ∷ waiter 2 2 ∷ []; response = text "0 0 0 0" } ∷ []

-- ---- the lent queue: "oldest entry first", at the queue's end
abbrev after : List Given → Nucleus
after calls = left_by calls (set_up capacity (replicate 16 0) (replicate capacity 0) (replicate (capacity * 3) 0) two_table).nucleus

two_lines : List Given
two_lines = plain "HI" 1 2 0 ∷ plain "HI" 1 1 0 ∷ waits_hi 2 1 0 ∷ waits_l4 3 2 0 ∷ plain "ET" 1 0 0 ∷ []

record Worked : Type 0 where
  joined_and_left : Each (λ (r : Row). printed two_table r.calls ≡ r.expected) joining
  handed_over : Each (λ (r : Row). printed two_table r.calls ≡ r.expected) handing
  judged : Each (λ (r : StateRow). printed_on (lined_with r.waiting r.waiters) two_table (plain "RE" 2 0 0 ∷ []) ≡ r.response ∷ []) state_rows
  oldest_first : entries_of (after two_lines)
      ≡ record { user = 3; file = 1; isn = 2; changed = false; existed = false } ∷ record { user = 2; file = 1; isn = 1; changed = false; existed = false } ∷ []
  nobody_waits : waiters_of (after two_lines) ≡ []

-- a `refl` for each row
worked : Worked
unfolding joining handing state_rows two_lines two_table record_length field_offset file_offset store_size image_length place valid file_valid field_valid name_valid format_of option_of file_item field_item item_of read_from read_table stored below_zero allowed null_value field_named format_valid element places named_twice length_needed needed_within fits read_fields write_fields values_allowed null_record slot_fits has_record get shown committed_version version_there version_bytes lowest elsewhere put_record empty fresh file_part with_part pack_of unpack_of entries holder held_by repeated append change closed remove_queue remove_images remove_count image_has keep_image settled first_change_queue first_change_images put_back_in put_back restore command_of has_option too_short well_made removed backed_out left_line joined_line line_left_by handed_on forced_out clocked target rows_usable rows_understood is_overdue session_in_transaction ready_refused access_refused transaction_missing file_unknown isn_invalid format_refused field_twice record_length_refused value_refused none_found held_elsewhere waits presence_refused not_held release_refused file_full limit_reached queue_full new_record value_taken held imaged written erased effect_at admitted_session admitted_user admitted perform after_line step set_up decimal line_of
worked = record {
  joined_and_left = (refl, (refl, (refl, (refl, (refl, (refl, (refl, (refl, (refl, (refl, (refl, tt)))))))))));
  handed_over = (refl, (refl, (refl, (refl, (refl, (refl, (refl, (refl, (refl, (refl, (refl, tt)))))))))));
  judged = (refl, (refl, (refl, (refl, (refl, (refl, (refl, (refl, tt))))))));
  oldest_first = refl;
  nobody_waits = refl;
}
