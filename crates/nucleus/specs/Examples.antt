-- Document 01, 'Marked for proof': rows of a table that the definitions themselves give, checked by one law. Behind the marked ones stand rows
-- for 'Errors a good builder makes' and for other rules that a wrong definition was seen to break unnoticed.
-- Assumes nothing.
use Rattle.std.specs.Prelude.{ℕ, ◌*◌, ◌≡◌, refl, Bool, true, false, List, [], ◌∷◌, ◌++◌, map, replicate, Some, None}
use Prim.Native.String.{String}
use Rattle.lists.specs.Folds.{Each}
use Rattle.lists.specs.Numbers.{numbers}
use Rattle.lists.specs.Sift.{sift}
use Rattle.definition.specs.declared.Format.TheVariants.{Packed}
use Rattle.records.specs.Records.{record_length, field_offset}
use Rattle.layout.specs.Layout.{file_offset, store_size, image_length, place}
use Rattle.validity.specs.Validity.{valid}
use Rattle.file_validity.specs.FileValidity.{file_valid, field_valid, name_valid}
use Rattle.items.specs.Items.{format_of, option_of, file_item, field_item, item_of}
use Rattle.reading.specs.Grammar.{read_from, read_table}
use Rattle.values.specs.Values.{stored, null_value, below_zero}
use Rattle.digits.specs.Digits.{allowed}
use Rattle.elements.specs.Elements.{field_named, format_valid, element, places, named_twice, length_needed, needed_within}
use Rattle.fields.specs.Fields.{fits, read_fields, write_fields, values_allowed}
use Rattle.nulls.specs.Nulls.{null_record}
use Rattle.store.specs.Store.{slot_fits, has_record, get, shown, put_record, empty, fresh, file_part, with_part}
use Rattle.search.specs.Search.{lowest, elsewhere}
use Rattle.entries.specs.Entries.{pack_of, unpack_of, entries}
use Rattle.entries.specs.declared.Entry.{Entry}
use Rattle.queue.specs.Queue.{holder, held_by, append}
use Rattle.changes.specs.Changes.{change, keep_image, settled, first_change_queue, first_change_images}
use Rattle.repeats.specs.Repeats.{repeated}
use Rattle.committed.specs.Committed.{committed_version, version_there, version_bytes, version_place, bytes_at, no_place, in_store, in_images}
use Rattle.committed.specs.declared.Place.{Place}
use Rattle.removal.specs.Closing.{closed}
use Rattle.images.specs.Images.{image_has}
use Rattle.removal.specs.Removal.{remove_queue, remove_images, remove_count}
use Rattle.hold.specs.Hold.{put_back_in, put_back, restore}
use Rattle.nucleus.specs.Text.{text}
use Rattle.nucleus.specs.Commands.{commands, direct_commands, place_of, code, command_of, has_option, blank, option_I, option_H, option_A, option_C, option_W}
use Rattle.nucleus.specs.Users.{opening, counted, with_transaction, with_overdue, set_session}
use Rattle.nucleus.specs.Nucleus.{Nucleus, nucleus, Given, given, with_count, with_store, change_user}
use Rattle.nucleus.specs.WellMade.{too_short, well_made}
use Rattle.nucleus.specs.Waiters.{left_line, joined_line, line_left_by, handed_on}
use Rattle.nucleus.specs.Clock.{removed, backed_out, forced_out, clocked}
use Rattle.nucleus.specs.Target.{target, new_record}
use Rattle.nucleus.specs.Rows.{rows_usable, rows_understood, is_overdue, session_in_transaction, ready_refused, access_refused, transaction_missing, file_unknown, isn_invalid, format_refused, field_twice, record_length_refused, value_refused, none_found, held_elsewhere, waits, presence_refused, not_held, release_refused, file_full, limit_reached, queue_full, value_taken}
use Rattle.nucleus.specs.Effects.{held, imaged, written, erased, effect_at}
use Rattle.nucleus.specs.Step.{admitted_session, admitted_user, admitted, perform, after_line, step, set_up}
use Rattle.nucleus.specs.Committed.{committed_place}
use Rattle.nucleus.specs.Line.{hexadecimal, decimal, line_of, line}
use Rattle.nucleus.specs.declared.User.{User}

-- ---- the tables of commands: the places are those of the list, and each code is found again; PE is none of the thirteen
placed : map place_of direct_commands ≡ numbers 14 1
placed = refl

decoded : map (λ c. command_of direct_commands (code c)) direct_commands ≡ map Some direct_commands
unfolding command_of
decoded = refl

thirteen : map (λ c. command_of commands (code c)) direct_commands ≡ map Some commands ++ None ∷ []
unfolding command_of
thirteen = refl

-- ---- a list of calls, each with its buffers, and the lines that it prints
abbrev pub capacity : ℕ
capacity = 64

abbrev pub lines : List Given → Nucleus → List (List ℕ)
lines [] n = []
lines (g ∷ gs) n = let r = step capacity g.call g.format g.buffer n in line g.call r ∷ lines gs r.nucleus

-- on a fresh nucleus of a table whose store takes at most 16 bytes and whose records at most 3, and on what somebody made of it
abbrev pub printed_on : (Nucleus → Nucleus) → List ℕ → List Given → List (List ℕ)
printed_on altered table calls = lines calls (altered (set_up capacity (replicate 16 0) (replicate capacity 0) (replicate (capacity * 3) 0) table).nucleus)

abbrev pub printed : List ℕ → List Given → List (List ℕ)
printed table calls = printed_on (λ n. n) table calls

-- "all clocks 0, file 1, option blank, .. all else 0 or empty, unless named"
abbrev pub sent : String → ℕ → ℕ → ℕ → ℕ → List ℕ → List ℕ → Given
sent command option user isn clock format buffer =
    given (record { command = text command; option = option; user = user; file = 1; isn = isn; limit = 0; clock = clock }) format buffer

-- "Table X'01010003 0252430141 55 0248480241 20 00' (RC unique, HH)"
house_table : List ℕ
house_table = 0x01 ∷ 0x01 ∷ 0x00 ∷ 0x03 ∷ 0x02 ∷ 0x52 ∷ 0x43 ∷ 0x01 ∷ 0x41 ∷ 0x55 ∷ 0x02 ∷ 0x48 ∷ 0x48 ∷ 0x02 ∷ 0x41 ∷ 0x20 ∷ 0x00 ∷ []

house_calls : List Given
house_calls =
    sent "N1" blank 1 0 0 (text "RC,HH.") (text "2AB") ∷
    sent "ET" blank 1 0 0 [] [] ∷
    sent "A1" option_H 1 1 0 (text "RC.") (text "3") ∷
    sent "N1" blank 2 0 0 (text "RC,HH.") (text "2CD") ∷
    sent "L4" blank 2 1 0 (text "RC.") (0 ∷ []) ∷
    sent "BT" blank 1 0 0 [] [] ∷
    sent "L1" blank 2 1 0 (text "RC,HH.") (0 ∷ 0 ∷ 0 ∷ []) ∷ []

-- the same table with highest ISN 1
one_table : List ℕ
one_table = 0x01 ∷ 0x01 ∷ 0x00 ∷ 0x01 ∷ 0x02 ∷ 0x52 ∷ 0x43 ∷ 0x01 ∷ 0x41 ∷ 0x55 ∷ 0x02 ∷ 0x48 ∷ 0x48 ∷ 0x02 ∷ 0x41 ∷ 0x20 ∷ 0x00 ∷ []

-- a file of highest ISN 2 with one field, RC
unfoldable pub two_table : List ℕ
two_table = 0x01 ∷ 0x01 ∷ 0x00 ∷ 0x02 ∷ 0x02 ∷ 0x52 ∷ 0x43 ∷ 0x01 ∷ 0x41 ∷ 0x20 ∷ 0x00 ∷ []

-- a file of highest ISN 3 with one field, PA, packed, two bytes, unique
packed_table : List ℕ
packed_table = 0x01 ∷ 0x01 ∷ 0x00 ∷ 0x03 ∷ 0x02 ∷ 0x50 ∷ 0x41 ∷ 0x02 ∷ 0x50 ∷ 0x55 ∷ 0x00 ∷ []

-- a file of highest ISN 4 with one field, PB, packed, one byte, with an option byte
abbrev amount_table : ℕ → List ℕ
amount_table option = 0x01 ∷ 0x01 ∷ 0x00 ∷ 0x04 ∷ 0x02 ∷ 0x50 ∷ 0x42 ∷ 0x01 ∷ 0x50 ∷ option ∷ 0x00 ∷ []

-- user 1 empties a record, and user 2 asks for its unique value before and after the ET of user 1
given_up_calls : List Given
given_up_calls =
    sent "N1" blank 1 0 0 (text "RC,HH.") (text "2AB") ∷
    sent "ET" blank 1 0 0 [] [] ∷
    sent "E1" option_H 1 1 0 [] [] ∷
    sent "N1" blank 2 0 0 (text "RC.") (text "2") ∷
    sent "ET" blank 1 0 0 [] [] ∷
    sent "N1" blank 2 0 0 (text "RC.") (text "2") ∷ []

-- two changes of one entry, and a back-out
changed_twice_calls : List Given
changed_twice_calls =
    sent "N1" blank 1 0 0 (text "RC,HH.") (text "2AB") ∷
    sent "ET" blank 1 0 0 [] [] ∷
    sent "A1" option_H 1 1 0 (text "RC.") (text "3") ∷
    sent "A1" blank 1 1 0 (text "HH.") (text "CD") ∷
    sent "BT" blank 1 0 0 [] [] ∷
    sent "L1" blank 1 1 0 (text "RC,HH.") (text "...") ∷ []

-- N1 by the holder of an ISN that he emptied, and by another user before and after his ET
emptied_calls : List Given
emptied_calls =
    sent "N1" blank 1 0 0 (text "RC.") (text "2") ∷
    sent "ET" blank 1 0 0 [] [] ∷
    sent "E1" option_H 1 1 0 [] [] ∷
    sent "N1" blank 1 0 0 (text "RC.") (text "3") ∷
    sent "N1" blank 2 0 0 (text "RC.") (text "3") ∷
    sent "ET" blank 1 0 0 [] [] ∷
    sent "N1" blank 2 0 0 (text "RC.") (text "3") ∷ []

-- the record at the ISN that N1 gave last, which is the highest, goes; then two N1s
going_round_calls : List Given
going_round_calls =
    sent "N1" blank 1 0 0 (text "RC.") (text "A") ∷
    sent "N1" blank 1 0 0 (text "RC.") (text "B") ∷
    sent "ET" blank 1 0 0 [] [] ∷
    sent "E1" option_H 1 2 0 [] [] ∷
    sent "ET" blank 1 0 0 [] [] ∷
    sent "N1" blank 1 0 0 (text "RC.") (text "C") ∷
    sent "N1" blank 1 0 0 (text "RC.") (text "D") ∷ []

-- L4 with `.` of an ISN without a record and of one with it, which is then held; L1 with option `I`
hold_only_calls : List Given
hold_only_calls =
    sent "N1" blank 1 0 0 (text "RC,HH.") (text "2AB") ∷
    sent "ET" blank 1 0 0 [] [] ∷
    sent "L4" blank 1 2 0 (text ".") [] ∷
    sent "L4" blank 1 1 0 (text ".") (text "???") ∷
    sent "L4" blank 2 1 0 (text ".") [] ∷
    sent "L1" option_I 2 1 0 (text ".") [] ∷
    sent "RI" blank 1 1 0 [] [] ∷ []

-- A1 with `.` without a hold and with option `H`; RI after it, of its ISN and of all; and a back-out
no_fields_calls : List Given
no_fields_calls =
    sent "N1" blank 1 0 0 (text "RC,HH.") (text "2AB") ∷
    sent "ET" blank 1 0 0 [] [] ∷
    sent "A1" blank 1 1 0 (text ".") [] ∷
    sent "A1" option_H 1 1 0 (text ".") (text "3CD") ∷
    sent "RI" blank 1 1 0 [] [] ∷
    sent "RI" blank 1 0 0 [] [] ∷
    sent "BT" blank 1 0 0 [] [] ∷
    sent "L1" blank 1 1 0 (text "RC,HH.") (text "???") ∷ []

-- a change behind it, and a back-out of both
changed_after_calls : List Given
changed_after_calls =
    sent "N1" blank 1 0 0 (text "RC,HH.") (text "2AB") ∷
    sent "ET" blank 1 0 0 [] [] ∷
    sent "A1" option_H 1 1 0 (text ".") [] ∷
    sent "A1" blank 1 1 0 (text "RC.") (text "3") ∷
    sent "BT" blank 1 0 0 [] [] ∷
    sent "L1" blank 1 1 0 (text "RC,HH.") (text "???") ∷ []

-- a record of nulls, and others
nulls_calls : List Given
nulls_calls =
    sent "N1" blank 1 0 0 (text ".") [] ∷
    sent "L1" blank 1 1 0 (text "RC,HH.") (text "???") ∷
    sent "N1" blank 1 0 0 (text ".") [] ∷
    sent "N2" blank 2 3 0 (text ".") [] ∷ []

-- no byte, two periods, a comma or a name before the period, a blank behind it
no_buffer_calls : List Given
no_buffer_calls =
    sent "L1" blank 1 1 0 [] [] ∷
    sent "L4" blank 1 1 0 (text "..") [] ∷
    sent "A1" blank 1 1 0 (text ",.") [] ∷
    sent "N1" blank 1 0 0 (text "RC,.") (text "2") ∷
    sent "N2" blank 1 1 0 (text ". ") [] ∷
    sent "L1" blank 1 1 0 (text ".") [] ∷ []

-- 1 with sign C, with F, and with D; 0 with D and with C
packed_calls : List Given
packed_calls =
    sent "N1" blank 1 0 0 (text "PA.") (0x00 ∷ 0x1C ∷ []) ∷
    sent "N1" blank 1 0 0 (text "PA.") (0x00 ∷ 0x1F ∷ []) ∷
    sent "N1" blank 1 0 0 (text "PA.") (0x00 ∷ 0x1D ∷ []) ∷
    sent "N1" blank 1 0 0 (text "PA.") (0x00 ∷ 0x0D ∷ []) ∷
    sent "A1" blank 1 1 0 (text "PA.") (0x00 ∷ 0x0C ∷ []) ∷ []

-- 5 with signs A, B and E, 0 with B, and 5 with a digit in the sign's place; what is stored
signs_calls : List Given
signs_calls =
    sent "N1" blank 1 0 0 (text "PB.") (0x5A ∷ []) ∷
    sent "N1" blank 1 0 0 (text "PB.") (0x5B ∷ []) ∷
    sent "N1" blank 1 0 0 (text "PB.") (0x5E ∷ []) ∷
    sent "N1" blank 1 0 0 (text "PB.") (0x0B ∷ []) ∷
    sent "N1" blank 1 0 0 (text "PB.") (0x59 ∷ []) ∷
    sent "L1" blank 1 1 0 (text "PB.") (0 ∷ []) ∷
    sent "L1" blank 1 2 0 (text "PB.") (0 ∷ []) ∷
    sent "L1" blank 1 3 0 (text "PB.") (0 ∷ []) ∷
    sent "L1" blank 1 4 0 (text "PB.") (0 ∷ []) ∷ []

-- 5 with sign B twice, beside a record that has it as it was lent
beside_lent_calls : List Given
beside_lent_calls =
    sent "N2" blank 1 2 0 (text "PB.") (0x5B ∷ []) ∷
    sent "N2" blank 1 3 0 (text "PB.") (0x5B ∷ []) ∷
    sent "L1" blank 1 1 0 (text "PB.") (0 ∷ []) ∷
    sent "L1" blank 1 2 0 (text "PB.") (0 ∷ []) ∷ []

-- entries dropped one by one and together, an option that is not named, 41 before 44, and the bytes of L4 and RE
assorted_calls : List Given
assorted_calls =
    sent "HI" blank 1 1 0 [] [] ∷
    sent "HI" blank 1 2 0 [] [] ∷
    sent "RI" blank 1 1 0 [] [] ∷
    sent "RI" blank 1 0 0 [] [] ∷
    sent "HI" option_I 1 1 0 [] [] ∷
    sent "N1" blank 1 0 0 (text "RC,RC,ZZ.") (text "22") ∷
    sent "N1" blank 1 0 0 (text "RC,HH.") (text "2AB") ∷
    sent "L4" blank 1 1 0 (text "HH.") (0 ∷ 0 ∷ []) ∷
    sent "ET" blank 1 0 0 [] (text "OK") ∷
    sent "RE" blank 1 0 0 [] (0 ∷ 0 ∷ []) ∷ []

-- a hold and a record at clock 0, then PE; another user at 901, when the transaction is more than 900 old
ready_calls : List Given
ready_calls =
    sent "HI" blank 1 2 0 [] [] ∷
    sent "N1" blank 1 0 0 (text "RC,HH.") (text "2AB") ∷
    sent "PE" blank 1 0 0 [] [] ∷
    sent "L1" blank 2 1 901 (text "RC.") (0 ∷ []) ∷
    sent "ET" blank 1 0 901 [] [] ∷
    sent "L1" blank 2 1 901 (text "RC,HH.") (0 ∷ 0 ∷ 0 ∷ []) ∷ []

-- what a ready user may send, and after his ET
only_ending_calls : List Given
only_ending_calls =
    sent "HI" blank 1 1 0 [] [] ∷
    sent "PE" blank 1 0 0 [] [] ∷
    sent "L1" blank 1 1 0 (text "RC.") (0 ∷ []) ∷
    sent "PE" blank 1 0 0 [] [] ∷
    sent "RE" blank 1 0 0 [] [] ∷
    sent "RI" blank 1 0 0 [] [] ∷
    sent "ET" blank 1 0 0 [] [] ∷
    sent "HI" blank 1 2 0 [] [] ∷ []

-- a ready user's unknown command, an option that is not named, and an ET with too much data
refused_ready_calls : List Given
refused_ready_calls =
    sent "HI" blank 1 1 0 [] [] ∷
    sent "PE" blank 1 0 0 [] [] ∷
    sent "PR" blank 1 0 0 [] [] ∷
    sent "HI" option_H 1 1 0 [] [] ∷
    sent "ET" blank 1 0 0 [] (replicate 65 0) ∷
    sent "HI" blank 1 2 0 [] [] ∷
    sent "ET" blank 1 0 0 [] [] ∷ []

-- a ready user's BT, or OP or CL, and what is left: the record is gone, and so is ready
abbrev ready_then : String → List Given
ready_then command =
    sent "N1" blank 1 0 0 (text "RC,HH.") (text "2AB") ∷
    sent "PE" blank 1 0 0 [] [] ∷
    sent command blank 1 0 0 [] [] ∷
    sent "L1" blank 1 1 0 (text "RC.") (0 ∷ []) ∷ []

-- PE of a user who never called, after his ET, with an option, and of an access-only user
no_transaction_calls : List Given
no_transaction_calls =
    sent "PE" blank 1 0 0 [] [] ∷
    sent "HI" blank 1 1 0 [] [] ∷
    sent "ET" blank 1 0 0 [] [] ∷
    sent "PE" blank 1 0 0 [] [] ∷
    sent "PE" option_H 1 0 0 [] [] ∷
    sent "OP" option_A 1 0 0 [] [] ∷
    sent "PE" blank 1 0 0 [] [] ∷ []

-- a transaction after a ready one is not ready
ready_once_calls : List Given
ready_once_calls =
    sent "HI" blank 1 1 0 [] [] ∷
    sent "PE" blank 1 0 0 [] [] ∷
    sent "ET" blank 1 0 0 [] [] ∷
    sent "HI" blank 1 1 0 [] [] ∷
    sent "ET" blank 1 0 901 [] [] ∷ []

-- a record that user 1 changes: with option `C` and without it, by another user and by himself
committed_changed_calls : List Given
committed_changed_calls =
    sent "N1" blank 1 0 0 (text "RC,HH.") (text "2AB") ∷
    sent "ET" blank 1 0 0 [] [] ∷
    sent "A1" option_H 1 1 0 (text "RC.") (text "3") ∷
    sent "L1" option_C 2 1 0 (text "RC,HH.") (text "???") ∷
    sent "L1" blank 2 1 0 (text "RC,HH.") (text "???") ∷
    sent "L1" option_C 1 1 0 (text "RC,HH.") (text "???") ∷ []

-- one that he changes twice; and after his ET or BT
abbrev committed_then : String → List Given
committed_then command =
    sent "N1" blank 1 0 0 (text "RC,HH.") (text "2AB") ∷
    sent "ET" blank 1 0 0 [] [] ∷
    sent "A1" option_H 1 1 0 (text "RC.") (text "3") ∷
    sent "A1" blank 1 1 0 (text "RC.") (text "4") ∷
    sent command blank 1 0 0 [] [] ∷
    sent "L1" option_C 2 1 0 (text "RC,HH.") (text "???") ∷ []

-- a record that he empties, and adds anew
committed_emptied_calls : List Given
committed_emptied_calls =
    sent "N1" blank 1 0 0 (text "RC,HH.") (text "2AB") ∷
    sent "ET" blank 1 0 0 [] [] ∷
    sent "E1" option_H 1 1 0 [] [] ∷
    sent "L1" option_C 2 1 0 (text "RC,HH.") (text "???") ∷
    sent "N2" blank 1 1 0 (text "RC.") (text "4") ∷
    sent "L1" option_C 1 1 0 (text "RC,HH.") (text "???") ∷ []

-- a record that he adds; and after his ET
committed_added_calls : List Given
committed_added_calls =
    sent "N1" blank 1 0 0 (text "RC,HH.") (text "2AB") ∷
    sent "L1" option_C 2 1 0 (text "RC,HH.") (text "???") ∷
    sent "L1" blank 2 1 0 (text "RC,HH.") (text "???") ∷
    sent "L1" option_C 1 1 0 (text "RC,HH.") (text "???") ∷
    sent "ET" blank 1 0 0 [] [] ∷
    sent "L1" option_C 2 1 0 (text "RC,HH.") (text "???") ∷ []

-- a record and an empty ISN that he holds and does not change
committed_held_calls : List Given
committed_held_calls =
    sent "N1" blank 1 0 0 (text "RC,HH.") (text "2AB") ∷
    sent "ET" blank 1 0 0 [] [] ∷
    sent "HI" blank 1 1 0 [] [] ∷
    sent "HI" blank 1 2 0 [] [] ∷
    sent "L1" option_C 2 1 0 (text "RC,HH.") (text "???") ∷
    sent "L1" option_C 2 2 0 (text "RC,HH.") (text "???") ∷ []

-- `C` with other commands, and what refuses an L1; an access-only user's, and a ready user's
committed_refused_calls : List Given
committed_refused_calls =
    sent "L4" option_C 1 1 0 (text "RC.") (text "?") ∷
    sent "HI" option_C 1 1 0 [] [] ∷
    sent "L1" option_C 1 0 0 (text "RC.") (text "?") ∷
    sent "L1" option_C 1 4 0 (text "RC.") (text "?") ∷
    sent "L1" option_C 1 1 0 (text "ZZ.") (text "?") ∷
    sent "L1" option_C 1 1 0 (text "RC,HH.") (text "??") ∷ []

committed_users_calls : List Given
committed_users_calls =
    sent "N1" blank 1 0 0 (text "RC,HH.") (text "2AB") ∷
    sent "ET" blank 1 0 0 [] [] ∷
    sent "OP" option_A 2 0 0 [] [] ∷
    sent "L1" option_C 2 1 0 (text "RC.") (text "?") ∷
    sent "A1" option_H 1 1 0 (text "RC.") (text "3") ∷
    sent "PE" blank 1 0 0 [] [] ∷
    sent "L1" option_C 1 1 0 (text "RC.") (text "?") ∷
    sent "L1" option_C 2 1 901 (text "RC.") (text "?") ∷ []

-- ---- states that nobody set up
-- user 1 has counted so many transactions
abbrev counted_to : ℕ → Nucleus → Nucleus
counted_to sequence n = change_user 1 (λ u. counted sequence opening) n

-- records 1 and 2 have one unique value
doubled_store : List ℕ
doubled_store = 1 ∷ text "2AB" ++ 1 ∷ text "2CD" ++ replicate 8 0

-- record 1 is a packed 1 with sign C, which is not its stored form
unstored_store : List ℕ
unstored_store = 1 ∷ 0x00 ∷ 0x1C ∷ replicate 13 0

-- record 1 is a packed 5 with sign B, which is not its stored form
lent_store : List ℕ
lent_store = 1 ∷ 0x5B ∷ replicate 14 0

-- ISN 1 is held by a user; user 1 is in a transaction, or not
abbrev held_entry : ℕ → Entry
held_entry user = record { user = user; file = 1; isn = 1; changed = false; existed = false }

abbrev with_held : ℕ → Bool → Nucleus → Nucleus
with_held user active n =
    let m = change_user 1 (λ u. with_transaction (record { active = active; begun = 0; ready = false }) opening) n in
    nucleus (with_count 1 m.state) m.store (append m.queue 0 (held_entry user)) m.images

-- user 1 is ready, in a transaction or not, and somebody made more of him
abbrev with_ready : Bool → (User → User) → Nucleus → Nucleus
with_ready active more n = change_user 1 (λ u. more (with_transaction (record { active = active; begun = 0; ready = true }) opening)) n

-- ---- the rows
record Row : Type 0 where
  computed : List (List ℕ)
  expected : List (List ℕ)

rows : List Row
rows =
    -- "the seven lines above"
    record {
      computed = printed house_table house_calls;
      expected = text "0 1 0 0" ∷ text "0 0 1 1" ∷ text "0 1 0 0" ∷ text "198 0 0 0" ∷ text "145 0 0 0" ∷ text "0 0 1 0" ∷ text "0 1 3 0 324142" ∷ [];
    } ∷
    -- "X'00500C' stored X'00500F'; X'00000D' stored X'00000F'"
    record { computed = hexadecimal (stored Packed (0x00 ∷ 0x50 ∷ 0x0C ∷ [])) ∷ []; expected = text "00500F" ∷ [] } ∷
    record { computed = hexadecimal (stored Packed (0x00 ∷ 0x00 ∷ 0x0D ∷ [])) ∷ []; expected = text "00000F" ∷ [] } ∷
    -- "time 900 after the start not overdue, 901 overdue": ET at 900 has the entry, ET at 901 finds its user backed out
    record {
      computed = printed house_table (sent "HI" blank 1 1 7 [] [] ∷ sent "ET" blank 1 0 907 [] [] ∷ []);
      expected = text "0 1 0 0" ∷ text "0 0 1 1" ∷ [];
    } ∷
    record {
      computed = printed house_table (sent "HI" blank 1 1 7 [] [] ∷ sent "ET" blank 1 0 908 [] [] ∷ []);
      expected = text "0 1 0 0" ∷ text "9 0 0 0" ∷ [];
    } ∷
    -- "N1 with highest ISN 1 held by HI, 75"
    record {
      computed = printed one_table (sent "HI" blank 1 1 0 [] [] ∷ sent "N1" blank 1 0 0 (text "RC,HH.") (text "2AB") ∷ []);
      expected = text "0 1 0 0" ∷ text "75 0 0 0" ∷ [];
    } ∷
    -- "Freeing a given-up unique value before ET"
    record {
      computed = printed house_table given_up_calls;
      expected = text "0 1 0 0" ∷ text "0 0 1 1" ∷ text "0 1 0 0" ∷ text "198 0 0 0" ∷ text "0 0 1 2" ∷ text "0 2 0 0" ∷ [];
    } ∷
    -- "Renewing an image at the second change": the back-out brings back what the first change found
    record {
      computed = printed house_table changed_twice_calls;
      expected = text "0 1 0 0" ∷ text "0 0 1 1" ∷ text "0 1 0 0" ∷ text "0 1 0 0" ∷ text "0 0 1 0" ∷ text "0 1 3 0 324142" ∷ [];
    } ∷
    -- "Giving N1 an ISN that its holder has just emptied"
    record {
      computed = printed one_table emptied_calls;
      expected = text "0 1 0 0" ∷ text "0 0 1 1" ∷ text "0 1 0 0" ∷ text "75 0 0 0" ∷ text "75 0 0 0" ∷ text "0 0 1 2" ∷ text "0 1 0 0" ∷ [];
    } ∷
    -- document 02, No. 2: "A, C, E and F are now positive, B and D negative"; "The stored form is as before"; "55 is then given only for the half
    -- bytes 0 to 9 in the sign's place"
    record {
      computed = printed (amount_table 0x20) signs_calls;
      expected =
          text "0 1 0 0" ∷ text "0 2 0 0" ∷ text "0 3 0 0" ∷ text "0 4 0 0" ∷ text "55 0 0 0" ∷ text "0 1 1 0 5F" ∷ text "0 2 1 0 5D" ∷ text "0 3 1 0 5F" ∷ text "0 4 1 0 0F" ∷ [];
    } ∷
    -- "Uniqueness still compares with the stored bytes as they are"
    record {
      computed = printed_on (with_store lent_store) (amount_table 0x55) beside_lent_calls;
      expected = text "0 2 0 0" ∷ text "198 0 0 0" ∷ text "0 1 1 0 5B" ∷ text "0 2 1 0 5D" ∷ [];
    } ∷
    -- document 02, No. 3: "a run with only the mark's ISN free gives it, then 75"
    record {
      computed = printed two_table going_round_calls;
      expected = text "0 1 0 0" ∷ text "0 2 0 0" ∷ text "0 0 2 1" ∷ text "0 2 0 0" ∷ text "0 0 1 2" ∷ text "0 2 0 0" ∷ text "75 0 0 0" ∷ [];
    } ∷
    -- document 02, No. 5: "The format buffer `.` alone now means no fields": four numbers, and no bytes behind them; 113 and 145 as ever
    record {
      computed = printed house_table hold_only_calls;
      expected = text "0 1 0 0" ∷ text "0 0 1 1" ∷ text "113 0 0 0" ∷ text "0 1 0 0" ∷ text "145 0 0 0" ∷ text "0 1 0 0" ∷ text "0 1 1 0" ∷ [];
    } ∷
    -- "A1 with it keeps an image and changes no byte": 144 as ever, 146 behind it
    record {
      computed = printed house_table no_fields_calls;
      expected =
          text "0 1 0 0" ∷ text "0 0 1 1" ∷ text "144 0 0 0" ∷ text "0 1 0 0" ∷ text "146 0 0 0" ∷ text "0 0 0 0" ∷ text "0 0 1 0" ∷ text "0 1 3 0 324142" ∷ [];
    } ∷
    record {
      computed = printed house_table changed_after_calls;
      expected = text "0 1 0 0" ∷ text "0 0 1 1" ∷ text "0 1 0 0" ∷ text "0 1 0 0" ∷ text "0 0 1 0" ∷ text "0 1 3 0 324142" ∷ [];
    } ∷
    -- "N1 and N2 add a record of nulls": "nulls count too" where RC is unique
    record {
      computed = printed house_table nulls_calls;
      expected = text "0 1 0 0" ∷ text "0 1 3 0 202020" ∷ text "198 0 0 0" ∷ text "198 0 0 0" ∷ [];
    } ∷
    -- "A buffer with no byte still gets 41", and so does every other that is not `.` alone; the last one is, and there is no record
    record {
      computed = printed house_table no_buffer_calls;
      expected = text "41 0 0 0" ∷ text "41 0 0 0" ∷ text "41 0 0 0" ∷ text "41 0 0 0" ∷ text "41 0 0 0" ∷ text "113 0 0 0" ∷ [];
    } ∷
    -- "changes no byte": nor are lent bytes put in stored form
    record {
      computed =
          printed_on (with_store unstored_store) packed_table (sent "A1" option_H 1 1 0 (text ".") [] ∷ sent "L1" blank 1 1 0 (text "PA.") (0 ∷ 0 ∷ []) ∷ []);
      expected = text "0 1 0 0" ∷ text "0 1 2 0 001C" ∷ [];
    } ∷
    -- document 02, No. 12: "time doesn't back him out": at 901 user 2 finds the record of user 1, whose ET keeps it
    record {
      computed = printed house_table ready_calls;
      expected = text "0 2 0 0" ∷ text "0 1 0 0" ∷ text "0 0 0 0" ∷ text "0 1 1 0 32" ∷ text "0 0 2 1" ∷ text "0 1 3 0 324142" ∷ [];
    } ∷
    -- nor 10,000 seconds later; but a PE that comes late finds its user backed out
    record {
      computed = printed house_table (sent "HI" blank 1 1 0 [] [] ∷ sent "PE" blank 1 0 900 [] [] ∷ sent "ET" blank 1 0 10000 [] [] ∷ []);
      expected = text "0 1 0 0" ∷ text "0 0 0 0" ∷ text "0 0 1 1" ∷ [];
    } ∷
    record {
      computed = printed house_table (sent "HI" blank 1 1 0 [] [] ∷ sent "PE" blank 1 0 901 [] [] ∷ []);
      expected = text "0 1 0 0" ∷ text "9 0 0 0" ∷ [];
    } ∷
    -- "he may only send ET or BT"
    record {
      computed = printed house_table only_ending_calls;
      expected =
          text "0 1 0 0" ∷ text "0 0 0 0" ∷ text "211 0 0 0" ∷ text "211 0 0 0" ∷ text "211 0 0 0" ∷ text "211 0 0 0" ∷ text "0 0 1 1" ∷ text "0 2 0 0" ∷ [];
    } ∷
    -- 22 comes before 211, and an ET answered 53 leaves him ready
    record {
      computed = printed house_table refused_ready_calls;
      expected = text "0 1 0 0" ∷ text "0 0 0 0" ∷ text "22 0 0 0" ∷ text "22 0 0 0" ∷ text "53 0 0 0" ∷ text "211 0 0 0" ∷ text "0 0 1 1" ∷ [];
    } ∷
    record { computed = printed house_table (ready_then "BT"); expected = text "0 1 0 0" ∷ text "0 0 0 0" ∷ text "0 0 1 0" ∷ text "113 0 0 0" ∷ [] } ∷
    -- "OP and CL do so still": 9, and he is backed out
    record { computed = printed house_table (ready_then "CL"); expected = text "0 1 0 0" ∷ text "0 0 0 0" ∷ text "9 0 0 0" ∷ text "113 0 0 0" ∷ [] } ∷
    record { computed = printed house_table (ready_then "OP"); expected = text "0 1 0 0" ∷ text "0 0 0 0" ∷ text "9 0 0 0" ∷ text "113 0 0 0" ∷ [] } ∷
    -- "212 for PE without a transaction, after 29"
    record {
      computed = printed house_table no_transaction_calls;
      expected = text "212 0 0 0" ∷ text "0 1 0 0" ∷ text "0 0 1 1" ∷ text "212 0 0 0" ∷ text "22 0 0 0" ∷ text "0 0 0 0" ∷ text "29 0 0 0" ∷ [];
    } ∷
    -- "to that transaction's end"
    record {
      computed = printed house_table ready_once_calls;
      expected = text "0 1 0 0" ∷ text "0 0 0 0" ∷ text "0 0 1 1" ∷ text "0 1 0 0" ∷ text "9 0 0 0" ∷ [];
    } ∷
    -- "211 for another call while ready, after 9", and before 29; a ready user without a transaction is not well made
    record {
      computed = printed_on (with_ready true (with_overdue true)) house_table (sent "L1" blank 1 1 0 (text "RC.") (0 ∷ []) ∷ sent "L1" blank 1 1 0 (text "RC.") (0 ∷ []) ∷ []);
      expected = text "9 0 0 0" ∷ text "211 0 0 0" ∷ [];
    } ∷
    record { computed = printed_on (with_ready true (set_session 0 0 true)) house_table (sent "PE" blank 1 0 0 [] [] ∷ []); expected = text "211 0 0 0" ∷ [] } ∷
    record { computed = printed_on (with_ready false (with_overdue false)) house_table (sent "ET" blank 1 0 0 [] [] ∷ []); expected = text "12 0 0 0" ∷ [] } ∷
    -- document 02, No. 8: "it shows the record as ended transactions left it. A changed entry's image is shown", the caller's own too
    record {
      computed = printed house_table committed_changed_calls;
      expected = text "0 1 0 0" ∷ text "0 0 1 1" ∷ text "0 1 0 0" ∷ text "0 1 3 0 324142" ∷ text "0 1 3 0 334142" ∷ text "0 1 3 0 324142" ∷ [];
    } ∷
    record {
      computed = printed house_table (committed_then "ET");
      expected = text "0 1 0 0" ∷ text "0 0 1 1" ∷ text "0 1 0 0" ∷ text "0 1 0 0" ∷ text "0 0 1 2" ∷ text "0 1 3 0 344142" ∷ [];
    } ∷
    record {
      computed = printed house_table (committed_then "BT");
      expected = text "0 1 0 0" ∷ text "0 0 1 1" ∷ text "0 1 0 0" ∷ text "0 1 0 0" ∷ text "0 0 1 0" ∷ text "0 1 3 0 324142" ∷ [];
    } ∷
    -- of an emptied record too, and of one that was added in its place
    record {
      computed = printed house_table committed_emptied_calls;
      expected = text "0 1 0 0" ∷ text "0 0 1 1" ∷ text "0 1 0 0" ∷ text "0 1 3 0 324142" ∷ text "0 1 0 0" ∷ text "0 1 3 0 324142" ∷ [];
    } ∷
    -- "or 113 given where no record was before"
    record {
      computed = printed house_table committed_added_calls;
      expected = text "0 1 0 0" ∷ text "113 0 0 0" ∷ text "0 1 3 0 324142" ∷ text "113 0 0 0" ∷ text "0 0 1 1" ∷ text "0 1 3 0 324142" ∷ [];
    } ∷
    -- "otherwise the store"
    record {
      computed = printed house_table committed_held_calls;
      expected = text "0 1 0 0" ∷ text "0 0 1 1" ∷ text "0 1 0 0" ∷ text "0 2 0 0" ∷ text "0 1 3 0 324142" ∷ text "113 0 0 0" ∷ [];
    } ∷
    -- "L1 gets option `C`", and no other command; the rows are L1's
    record {
      computed = printed house_table committed_refused_calls;
      expected = text "22 0 0 0" ∷ text "22 0 0 0" ∷ text "113 0 0 0" ∷ text "113 0 0 0" ∷ text "41 0 0 0" ∷ text "53 0 0 0" ∷ [];
    } ∷
    -- so it serves an access-only user, and no ready one
    record {
      computed = printed house_table committed_users_calls;
      expected =
          text "0 1 0 0" ∷ text "0 0 1 1" ∷ text "0 0 0 0" ∷ text "0 1 1 0 32" ∷ text "0 1 0 0" ∷ text "0 0 0 0" ∷ text "211 0 0 0" ∷ text "0 1 1 0 32" ∷ [];
    } ∷
    -- "Judging uniqueness before P is put in stored form"
    record {
      computed = printed packed_table packed_calls;
      expected = text "0 1 0 0" ∷ text "198 0 0 0" ∷ text "0 2 0 0" ∷ text "0 3 0 0" ∷ text "198 0 0 0" ∷ [];
    } ∷
    -- "RI drops the user's unchanged entry; ISN 0 drops all of his unchanged ones"; "Quantity: entries dropped", "bytes written"
    record {
      computed = printed house_table assorted_calls;
      expected =
          text "0 1 0 0" ∷ text "0 2 0 0" ∷ text "0 1 1 0" ∷ text "0 0 1 0" ∷ text "22 0 0 0" ∷ text "41 0 0 0" ∷ text "0 1 0 0" ∷ text "0 1 2 0 4142" ∷ text "0 0 1 1" ∷ text "0 0 2 0 4F4B" ∷ [];
    } ∷
    -- "it stops at 4294967295"
    record {
      computed = printed_on (counted_to 4294967294) house_table (sent "ET" blank 1 0 0 [] [] ∷ sent "ET" blank 1 0 0 [] [] ∷ []);
      expected = text "0 0 0 4294967295" ∷ text "0 0 0 4294967295" ∷ [];
    } ∷
    -- "N1 and N2 judge every unique field, A1 the named ones"
    record {
      computed =
          printed_on (with_store doubled_store) house_table (sent "A1" option_H 1 1 0 (text "HH.") (text "EF") ∷ sent "A1" option_H 1 1 0 (text "RC.") (text "2") ∷ []);
      expected = text "0 1 0 0" ∷ text "198 0 0 0" ∷ [];
    } ∷
    -- "each within its file and of a user in a transaction"
    record { computed = printed_on (with_held 1 true) house_table (sent "RI" blank 1 1 0 [] [] ∷ []); expected = text "0 1 1 0" ∷ [] } ∷
    record { computed = printed_on (with_held 1 false) house_table (sent "RI" blank 1 1 0 [] [] ∷ []); expected = text "12 0 0 0" ∷ [] } ∷
    record { computed = printed_on (with_held 0 true) house_table (sent "RI" blank 1 1 0 [] [] ∷ []); expected = text "12 0 0 0" ∷ [] } ∷ []

-- ---- which of the 256 option bytes are named for each command
named_options : map (λ c. sift (has_option c) (numbers 256 0)) direct_commands
    ≡ (blank ∷ option_W ∷ []) ∷ (blank ∷ []) ∷ (blank ∷ option_C ∷ option_I ∷ []) ∷ (blank ∷ option_I ∷ option_W ∷ []) ∷ (blank ∷ option_H ∷ []) ∷ (blank ∷ option_H ∷ [])
    ∷ (blank ∷ []) ∷ (blank ∷ []) ∷ (blank ∷ []) ∷ (blank ∷ []) ∷ (blank ∷ []) ∷ (blank ∷ option_A ∷ []) ∷ (blank ∷ []) ∷ (blank ∷ []) ∷ []
unfolding has_option
named_options = refl

-- a `refl` for each row: one for all rows computes several times as long
computed_as_expected : Each (λ r. r.computed ≡ r.expected) rows
unfolding assorted_calls doubled_store house_table house_calls one_table two_table packed_table given_up_calls changed_twice_calls emptied_calls going_round_calls hold_only_calls no_fields_calls changed_after_calls nulls_calls no_buffer_calls packed_calls signs_calls beside_lent_calls ready_calls only_ending_calls refused_ready_calls no_transaction_calls ready_once_calls committed_changed_calls committed_emptied_calls committed_added_calls committed_held_calls committed_refused_calls committed_users_calls unstored_store lent_store rows record_length field_offset file_offset store_size image_length place valid file_valid field_valid name_valid format_of option_of file_item field_item item_of read_from read_table stored below_zero allowed null_value field_named format_valid element places named_twice length_needed needed_within fits read_fields write_fields values_allowed null_record slot_fits has_record get shown committed_version version_there version_bytes lowest elsewhere put_record empty fresh file_part with_part pack_of unpack_of entries holder held_by repeated append change closed remove_queue remove_images remove_count image_has keep_image settled first_change_queue first_change_images put_back_in put_back restore command_of has_option too_short well_made removed backed_out left_line joined_line line_left_by handed_on forced_out clocked target rows_usable rows_understood is_overdue session_in_transaction ready_refused access_refused transaction_missing file_unknown isn_invalid format_refused field_twice record_length_refused value_refused none_found held_elsewhere waits presence_refused not_held release_refused file_full limit_reached queue_full new_record value_taken held imaged written erased effect_at admitted_session admitted_user admitted perform after_line step set_up decimal line_of
computed_as_expected = (refl, (refl, (refl, (refl, (refl, (refl, (refl, (refl, (refl, (refl, (refl, (refl, (refl, (refl, (refl, (refl, (refl, (refl, (refl, (refl, (refl, (refl, (refl, (refl, (refl, (refl, (refl, (refl, (refl, (refl, (refl, (refl, (refl, (refl, (refl, (refl, (refl, (refl, (refl, (refl, (refl, (refl, (refl, (refl, (refl, (refl, tt))))))))))))))))))))))))))))))))))))))))))))))

-- ---- the record as a part: where it lies, and its bytes
-- file 1 with highest ISN 1 and one field, RC, of one byte; file 2 with highest ISN 2 and one field, HH, of two
files_table : List ℕ
files_table =
    0x01 ∷ 0x01 ∷ 0x00 ∷ 0x01 ∷ 0x02 ∷ 0x52 ∷ 0x43 ∷ 0x01 ∷ 0x41 ∷ 0x20 ∷
    0x01 ∷ 0x02 ∷ 0x00 ∷ 0x02 ∷ 0x02 ∷ 0x48 ∷ 0x48 ∷ 0x02 ∷ 0x41 ∷ 0x20 ∷ 0x00 ∷ []

abbrev in_file : ℕ → Given → Given
in_file file g =
    given (record { command = g.call.command; option = g.call.option; user = g.call.user; file = file; isn = g.call.isn; limit = g.call.limit; clock = g.call.clock }) g.format g.buffer

-- a record in each, changed by users 1 and 2, the one of file 2 first; and one that is added
files_calls : List Given
files_calls =
    sent "N1" blank 1 0 0 (text "RC.") (text "A") ∷
    in_file 2 (sent "N1" blank 1 0 0 (text "HH.") (text "XY")) ∷
    sent "ET" blank 1 0 0 [] [] ∷
    in_file 2 (sent "A1" option_H 1 1 0 (text "HH.") (text "ZW")) ∷
    sent "A1" option_H 2 1 0 (text "RC.") (text "B") ∷
    in_file 2 (sent "N1" blank 2 0 0 (text "HH.") (text "VU")) ∷ []

abbrev pub left_by : List Given → Nucleus → Nucleus
left_by [] n = n
left_by (g ∷ gs) n = left_by gs (step capacity g.call g.format g.buffer n).nucleus

abbrev files_left : List Given → Nucleus
files_left calls = left_by calls (set_up capacity (replicate 8 0) (replicate capacity 0) (replicate (capacity * 2) 0) files_table).nucleus

record PlaceRow : Type 0 where
  state : Nucleus
  file : ℕ
  isn : ℕ
  capacity : ℕ
  place : Place
  bytes : List ℕ

place_rows : List PlaceRow
place_rows =
    -- the image of the second entry, which is two bytes from the first, and is as wide as its file
    record { state = files_left files_calls; file = 1; isn = 1; capacity = 64; place = in_images 2 1; bytes = text "A" } ∷
    record { state = files_left files_calls; file = 2; isn = 1; capacity = 64; place = in_images 0 2; bytes = text "XY" } ∷
    -- added; past the highest ISN; no ISN; no file; "no bytes where `C` gets 11, 12, 17 or 113"
    record { state = files_left files_calls; file = 2; isn = 2; capacity = 64; place = no_place; bytes = [] } ∷
    record { state = files_left files_calls; file = 2; isn = 3; capacity = 64; place = no_place; bytes = [] } ∷
    record { state = files_left files_calls; file = 1; isn = 0; capacity = 64; place = no_place; bytes = [] } ∷
    record { state = files_left files_calls; file = 3; isn = 1; capacity = 64; place = no_place; bytes = [] } ∷
    record { state = files_left files_calls; file = 1; isn = 1; capacity = 65; place = no_place; bytes = [] } ∷
    record { state = files_left files_calls; file = 1; isn = 1; capacity = 2; place = no_place; bytes = [] } ∷
    -- ended: in the store, behind the first byte of their slots
    record { state = files_left (files_calls ++ sent "ET" blank 2 0 0 [] [] ∷ []); file = 1; isn = 1; capacity = 64; place = in_store 1 1; bytes = text "B" } ∷
    record { state = files_left (files_calls ++ sent "ET" blank 2 0 0 [] [] ∷ []); file = 2; isn = 2; capacity = 64; place = in_store 6 2; bytes = text "VU" } ∷
    -- backed out
    record { state = files_left (files_calls ++ sent "BT" blank 1 0 0 [] [] ∷ []); file = 2; isn = 1; capacity = 64; place = in_store 3 2; bytes = text "XY" } ∷
    record { state = files_left (files_calls ++ sent "BT" blank 1 0 0 [] [] ∷ []); file = 1; isn = 1; capacity = 64; place = in_images 0 1; bytes = text "A" } ∷ []

abbrev PlacedAt : PlaceRow → Type 0
PlacedAt r = (committed_place r.state r.file r.isn r.capacity ≡ r.place) × (bytes_at r.place r.state.store r.state.images ≡ r.bytes)

places_as_expected : Each PlacedAt place_rows
unfolding files_table files_calls place_rows record_length field_offset file_offset store_size image_length place valid file_valid field_valid name_valid format_of option_of file_item field_item item_of read_from read_table stored below_zero allowed null_value field_named format_valid element places named_twice length_needed needed_within fits read_fields write_fields values_allowed null_record slot_fits has_record get shown committed_version version_there version_bytes lowest elsewhere put_record empty fresh file_part with_part pack_of unpack_of entries holder held_by repeated append change closed remove_queue remove_images remove_count image_has keep_image settled first_change_queue first_change_images put_back_in put_back restore command_of has_option too_short well_made removed backed_out left_line joined_line line_left_by handed_on forced_out clocked target rows_usable rows_understood is_overdue session_in_transaction ready_refused access_refused transaction_missing file_unknown isn_invalid format_refused field_twice record_length_refused value_refused none_found held_elsewhere waits presence_refused not_held release_refused file_full limit_reached queue_full new_record value_taken held imaged written erased effect_at admitted_session admitted_user admitted perform after_line step set_up version_place bytes_at committed_place
places_as_expected = ((refl, refl), ((refl, refl), ((refl, refl), ((refl, refl), ((refl, refl), ((refl, refl), ((refl, refl), ((refl, refl), ((refl, refl), ((refl, refl), ((refl, refl), ((refl, refl), tt))))))))))))
