-- Worked examples: what `partycall` writes for document 01's table and calls, for one who waits, and for input that is bad.
-- Assumes nothing.
use Rattle.std.specs.Prelude.{ℕ, ◌-◌, ◌≡◌, refl, List, [], ◌∷◌, ◌++◌, length, take, replicate}
use Prim.Native.String.{String}
use Rattle.lists.specs.Folds.{Each}
use Rattle.records.specs.Records.{record_length, field_offset}
use Rattle.layout.specs.Layout.{file_offset, store_size, image_length, place}
use Rattle.validity.specs.Validity.{valid}
use Rattle.file_validity.specs.FileValidity.{file_valid, field_valid, name_valid}
use Rattle.items.specs.Items.{format_of, option_of, file_item, field_item, item_of}
use Rattle.reading.specs.Grammar.{read_from, read_table}
use Rattle.values.specs.Values.{stored, null_value, below_zero}
use Rattle.digits.specs.Digits.{allowed}
use Rattle.elements.specs.Elements.{field_named, format_valid, element, places, named_twice, length_needed, needed_within}
use Rattle.fields.specs.Fields.{fits, read_fields, write_fields, values_allowed}
use Rattle.nulls.specs.Nulls.{null_record}
use Rattle.store.specs.Store.{slot_fits, has_record, get, shown, put_record, empty, fresh, file_part, with_part}
use Rattle.committed.specs.Committed.{committed_version, version_there, version_bytes}
use Rattle.search.specs.Search.{lowest, elsewhere}
use Rattle.entries.specs.Entries.{pack_of, unpack_of, entries}
use Rattle.queue.specs.Queue.{holder, held_by, append}
use Rattle.changes.specs.Changes.{change, keep_image, settled, first_change_queue, first_change_images}
use Rattle.repeats.specs.Repeats.{repeated}
use Rattle.removal.specs.Closing.{closed}
use Rattle.images.specs.Images.{image_has}
use Rattle.removal.specs.Removal.{remove_queue, remove_images, remove_count}
use Rattle.hold.specs.Hold.{put_back_in, put_back, restore}
use Rattle.nucleus.specs.Text.{text}
use Rattle.nucleus.specs.Commands.{code_at, command_of, has_option, blank, option_H, option_W}
use Rattle.nucleus.specs.WellMade.{too_short, well_made}
use Rattle.nucleus.specs.Waiters.{left_line, joined_line, line_left_by, handed_on}
use Rattle.nucleus.specs.Clock.{removed, backed_out, forced_out, clocked}
use Rattle.nucleus.specs.Target.{target, new_record}
use Rattle.nucleus.specs.Rows.{rows_usable, rows_understood, is_overdue, session_in_transaction, ready_refused, access_refused, transaction_missing, file_unknown, isn_invalid, format_refused, field_twice, record_length_refused, value_refused, none_found, held_elsewhere, waits, presence_refused, not_held, release_refused, file_full, limit_reached, queue_full, value_taken}
use Rattle.nucleus.specs.Effects.{held, imaged, written, erased, effect_at}
use Rattle.nucleus.specs.Step.{admitted_session, admitted_user, admitted, perform, after_line, step, set_up}
use Rattle.nucleus.specs.Line.{decimal, line_of}
use Rattle.house.specs.House.{well_formed, given_by, call_of}
use Rattle.output.specs.Output.{newline, lines, output}

-- "Table X'01010003 0252430141 55 0248480241 20 00' (RC unique, HH)"
house_table : List ℕ
house_table = 0x01 ∷ 0x01 ∷ 0x00 ∷ 0x03 ∷ 0x02 ∷ 0x52 ∷ 0x43 ∷ 0x01 ∷ 0x41 ∷ 0x55 ∷ 0x02 ∷ 0x48 ∷ 0x48 ∷ 0x02 ∷ 0x41 ∷ 0x20 ∷ 0x00 ∷ []

-- one file of 4095 ISNs and a field of 8 bytes, which takes 36855 bytes
large_table : List ℕ
large_table = 0x01 ∷ 0x01 ∷ 0x0F ∷ 0xFF ∷ 0x02 ∷ 0x41 ∷ 0x41 ∷ 0x08 ∷ 0x41 ∷ 0x20 ∷ 0x00 ∷ []

-- zeros behind bytes, up to a length
abbrev filled : ℕ → List ℕ → List ℕ
filled n bytes = bytes ++ replicate (n - length bytes) 0

-- a call by kind, user, option, ISN, format and record buffer: "all clocks 0, file 1, .. all else 0 or empty, unless named"
abbrev sent : ℕ → ℕ → ℕ → ℕ → String → String → List ℕ
sent kind user option isn format values =
    kind ∷ user ∷ option ∷ 1 ∷ 0 ∷ isn ∷ 0 ∷ 0 ∷ 0 ∷ 0 ∷ 0 ∷ 0 ∷ length (text format) ∷ filled 16 (text format)
    ++ length (text values) ∷ filled 35 (text values)

first_call : List ℕ
first_call = sent 7 1 blank 0 "RC,HH." "2AB"

house_calls : List ℕ
house_calls =
    first_call ++ sent 9 1 blank 0 "" "" ++ sent 5 1 option_H 1 "RC." "3" ++ sent 7 2 blank 0 "RC,HH." "2CD" ++ sent 4 2 blank 1 "RC." " "
    ++ sent 10 1 blank 0 "" "" ++ sent 3 2 blank 1 "RC,HH." "   "

-- user 2 waits for the ISN that user 1 holds, and has it after user 1's ET
waiting_calls : List ℕ
waiting_calls = sent 1 1 blank 1 "" "" ++ sent 1 2 option_W 1 "" "" ++ sent 9 1 blank 0 "" "" ++ sent 1 1 blank 1 "" "" ++ sent 1 2 option_W 1 "" ""

abbrev written_lines : List String → List ℕ
written_lines [] = []
written_lines (l ∷ ls) = text l ++ newline ∷ written_lines ls

-- ---- inputs and the lines that come of them
record Row : Type 0 where
  computed : List ℕ
  expected : List String

rows : List Row
rows =
    record { computed = output (house_table ++ house_calls); expected = "0 1 0 0" ∷ "0 0 1 1" ∷ "0 1 0 0" ∷ "198 0 0 0" ∷ "145 0 0 0" ∷ "0 0 1 0" ∷ "0 1 3 0 324142" ∷ [] } ∷
    record { computed = output (house_table ++ waiting_calls); expected = "0 1 0 0" ∷ "20 0 0 0" ∷ "0 0 1 1" ∷ "145 0 0 0" ∷ "0 1 0 0" ∷ [] } ∷
    record { computed = output (house_table ++ first_call ++ sent 14 1 blank 0 "" ""); expected = "0 1 0 0" ∷ "bad" ∷ [] } ∷
    record { computed = output (house_table ++ first_call ++ 0 ∷ []); expected = "0 1 0 0" ∷ "bad" ∷ [] } ∷
    record { computed = output (house_table ++ first_call ++ take 64 first_call); expected = "0 1 0 0" ∷ "bad" ∷ [] } ∷
    record { computed = output (house_table ++ sent 9 1 blank 0 "RC,HH,RC,HH,RC,HH" ""); expected = "bad" ∷ [] } ∷
    record { computed = output (house_table ++ sent 9 1 blank 0 "RC,HH,RC,HH,RC.." ""); expected = "0 0 0 1" ∷ [] } ∷
    record { computed = output (house_table ++ sent 9 1 blank 0 "" "123456789012345678901234567890123456"); expected = "bad" ∷ [] } ∷
    record { computed = output house_table; expected = [] } ∷
    record { computed = output large_table; expected = "bad" ∷ [] } ∷
    record { computed = output (take 16 house_table); expected = "bad" ∷ [] } ∷
    record { computed = output []; expected = "bad" ∷ [] } ∷ []

as_expected : Each (λ r. r.computed ≡ written_lines r.expected) rows
unfolding house_table large_table first_call house_calls waiting_calls rows well_formed given_by call_of lines output code_at record_length field_offset file_offset store_size image_length place valid file_valid field_valid name_valid format_of option_of file_item field_item item_of read_from read_table stored below_zero allowed null_value field_named format_valid element places named_twice length_needed needed_within fits read_fields write_fields values_allowed null_record slot_fits has_record get shown lowest elsewhere put_record empty fresh file_part with_part pack_of unpack_of entries holder held_by repeated append change closed remove_queue remove_images remove_count image_has keep_image settled first_change_queue first_change_images put_back_in put_back restore command_of has_option too_short well_made removed backed_out left_line joined_line line_left_by handed_on forced_out clocked target rows_usable rows_understood is_overdue session_in_transaction ready_refused access_refused transaction_missing file_unknown isn_invalid format_refused field_twice record_length_refused value_refused none_found held_elsewhere waits committed_version version_there version_bytes presence_refused not_held release_refused file_full limit_reached queue_full new_record value_taken held imaged written erased effect_at admitted_session admitted_user admitted perform after_line step set_up decimal line_of
as_expected = (refl, (refl, (refl, (refl, (refl, (refl, (refl, (refl, (refl, (refl, (refl, (refl, tt))))))))))))
