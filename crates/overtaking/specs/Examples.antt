-- Worked rows: two users in line for a record, and what becomes of the second, computed by the definitions.
-- Assumes nothing.
use Rattle.std.specs.Prelude.{ℕ, ◌≡◌, refl, List, [], ◌∷◌, replicate}
use Prim.Native.String.{String}
use Rattle.lists.specs.Folds.{any, Each}
use Rattle.records.specs.Records.{record_length, field_offset}
use Rattle.layout.specs.Layout.{file_offset, store_size, image_length, place}
use Rattle.validity.specs.Validity.{valid}
use Rattle.file_validity.specs.FileValidity.{file_valid, field_valid, name_valid}
use Rattle.items.specs.Items.{format_of, option_of, file_item, field_item, item_of}
use Rattle.reading.specs.Grammar.{read_from, read_table}
use Rattle.elements.specs.Elements.{field_named, format_valid, element, places, named_twice, length_needed, needed_within}
use Rattle.store.specs.Store.{slot_fits, has_record, empty, fresh, file_part, with_part}
use Rattle.entries.specs.Entries.{bit, pack_of, unpack_of, entries}
use Rattle.queue.specs.Queue.{holder, held_by, append}
use Rattle.repeats.specs.Repeats.{repeated}
use Rattle.removal.specs.Closing.{closed}
use Rattle.removal.specs.Removal.{remove_queue, remove_images, remove_count}
use Rattle.hold.specs.Hold.{put_back_in, put_back, restore}
use Rattle.nucleus.specs.Text.{text}
use Rattle.nucleus.specs.Commands.{command_of, has_option, blank, option_W}
use Rattle.nucleus.specs.Nucleus.{Nucleus, given}
use Rattle.nucleus.specs.WellMade.{too_short, well_made}
use Rattle.nucleus.specs.Waiters.{left_line, joined_line, line_left_by, handed_on}
use Rattle.nucleus.specs.Clock.{removed, backed_out, forced_out, clocked}
use Rattle.nucleus.specs.Target.{target, new_record}
use Rattle.nucleus.specs.Rows.{rows_usable, rows_understood, is_overdue, session_in_transaction, ready_refused, access_refused, transaction_missing, file_unknown, isn_invalid, format_refused, field_twice, record_length_refused, value_refused, none_found, held_elsewhere, waits, presence_refused, not_held, release_refused, file_full, limit_reached, queue_full, value_taken}
use Rattle.nucleus.specs.Effects.{held, effect_at}
use Rattle.nucleus.specs.Step.{admitted_session, admitted_user, admitted, perform, after_line, step, set_up}
use Rattle.overtaking.specs.Moments.{line_of, before, moments_clocked, moments_user, moments_admitted, moments_performed, moments, Called, run, moments_of, times_let_go, gone, is_out}

-- a file of highest ISN 2 with one field, RC
two_table : List ℕ
two_table = 0x01 ∷ 0x01 ∷ 0x00 ∷ 0x02 ∷ 0x02 ∷ 0x52 ∷ 0x43 ∷ 0x01 ∷ 0x41 ∷ 0x20 ∷ 0x00 ∷ []

-- ---- calls: file 1, all else 0 or empty, unless named
abbrev sent : String → ℕ → ℕ → ℕ → ℕ → List ℕ → List ℕ → Called
sent command option user isn clock format buffer = record {
  capacity = 4;
  given = given (record { command = text command; option = option; user = user; file = 1; isn = isn; limit = 0; clock = clock }) format buffer;
}

abbrev bare : String → ℕ → ℕ → ℕ → Called
bare command user isn clock = sent command blank user isn clock [] []

abbrev waiting : ℕ → ℕ → Called
waiting user isn = sent "HI" option_W user isn 0 [] []

-- users 1 and 2 hold ISN 1 and 2, then 2 and 3 wait for ISN 1
abbrev in_line : Nucleus
in_line =
    run (bare "HI" 1 1 0 ∷ bare "HI" 2 2 0 ∷ waiting 2 1 ∷ waiting 3 1 ∷ [])
    (set_up 4 (replicate 16 0) (replicate 4 0) (replicate 12 0) two_table).nucleus

-- how often the hold of ISN 1 is let go in calls that follow, how many entries of it go, how many are before user 3 then, and whether he has had the hold,
-- has left or been backed out
abbrev seen : List Called → List ℕ
seen calls =
    let ms = moments_of calls in_line in
    times_let_go 1 1 ms ∷ gone 1 1 in_line ms ∷ before 3 (line_of 1 1 (run calls in_line)) ∷ bit (any (is_out 3 1 1) ms) ∷ []

record Row : Type 0 where
  calls : List Called
  shown : List ℕ

abbrev row : List Called → List ℕ → Row
row calls shown = record { calls = calls; shown = shown }

rows : List Row
rows =
    -- nothing; the same call again; one that 22 refuses
    row [] (0 ∷ 0 ∷ 1 ∷ 0 ∷ []) ∷
    row (waiting 3 1 ∷ []) (0 ∷ 0 ∷ 1 ∷ 0 ∷ []) ∷
    row (bare "XX" 3 1 0 ∷ []) (0 ∷ 0 ∷ 1 ∷ 0 ∷ []) ∷
    -- user 1 lets go, in each way
    row (bare "RI" 1 1 0 ∷ []) (1 ∷ 1 ∷ 0 ∷ 0 ∷ []) ∷
    row (bare "RI" 1 0 0 ∷ []) (1 ∷ 1 ∷ 0 ∷ 0 ∷ []) ∷
    row (bare "ET" 1 0 0 ∷ []) (1 ∷ 1 ∷ 0 ∷ 0 ∷ []) ∷
    row (bare "BT" 1 0 0 ∷ []) (1 ∷ 1 ∷ 0 ∷ 0 ∷ []) ∷
    row (bare "OP" 1 0 0 ∷ []) (1 ∷ 1 ∷ 0 ∷ 0 ∷ []) ∷
    -- it is another record's hold that goes
    row (bare "RI" 2 2 0 ∷ []) (0 ∷ 0 ∷ 0 ∷ 0 ∷ []) ∷
    -- user 1 joins again, behind user 3, who has the hold after user 2
    row (bare "ET" 1 0 0 ∷ waiting 1 1 ∷ []) (1 ∷ 1 ∷ 0 ∷ 0 ∷ []) ∷
    row (bare "ET" 1 0 0 ∷ waiting 1 1 ∷ bare "ET" 2 0 0 ∷ []) (2 ∷ 2 ∷ 1 ∷ 1 ∷ []) ∷
    -- in one clock's pass users 1 and 2 let go
    row (bare "RE" 4 0 901 ∷ []) (2 ∷ 2 ∷ 0 ∷ 1 ∷ []) ∷
    -- user 3 leaves by another call, and joins again at the end
    row (bare "RE" 3 0 0 ∷ []) (0 ∷ 0 ∷ 1 ∷ 1 ∷ []) ∷
    row (sent "L4" option_W 3 1 0 (text "RC.") (text "?") ∷ []) (0 ∷ 0 ∷ 1 ∷ 1 ∷ []) ∷ []

rows_right : Each (λ (r : Row). seen r.calls ≡ r.shown) rows
unfolding rows two_table record_length field_offset file_offset store_size image_length place valid file_valid field_valid name_valid format_of option_of file_item field_item item_of read_from read_table field_named format_valid element places named_twice length_needed needed_within slot_fits has_record empty fresh file_part with_part pack_of unpack_of entries holder held_by repeated append closed remove_queue remove_images remove_count put_back_in put_back restore command_of has_option too_short well_made removed backed_out left_line joined_line line_left_by handed_on forced_out clocked target rows_usable rows_understood is_overdue session_in_transaction ready_refused access_refused transaction_missing file_unknown isn_invalid format_refused field_twice record_length_refused value_refused none_found held_elsewhere waits presence_refused not_held release_refused file_full limit_reached queue_full new_record value_taken held effect_at admitted_session admitted_user admitted perform after_line step set_up moments_clocked moments_user moments_admitted moments_performed moments run moments_of
rows_right = (refl, (refl, (refl, (refl, (refl, (refl, (refl, (refl, (refl, (refl, (refl, (refl, (refl, (refl, tt))))))))))))))
