-- Each command over its parts: the rows that can refuse it, in the table's order, and what it does where none holds. The laws of `perform`
-- (Laws.antt) say that this is what the response table and the effects come to, command by command.
use Rattle.std.specs.Prelude.{ℕ, ◌+◌, ◌-◌, min, Bool, true, false, not, ◌&&◌, ◌||◌, List, [], ◌∷◌, ◌++◌, eqb, leb, ltb, length, take, Option, Some, None}
use Rattle.std.proofs.lemmas.List.Edits.{sets}
use Rattle.lists.specs.Tests.{cond}
use Rattle.lists.specs.Folds.{any}
use Rattle.lists.specs.Numbers.{from_to, numbers}
use Rattle.definition.specs.Table.{field_at, field_count, is_unique}
use Rattle.definition.specs.declared.File.{File}
use Rattle.records.specs.Records.{field_offset, record_length}
use Rattle.elements.specs.Elements.{format_valid, named_twice, length_needed, places}
use Rattle.fields.specs.Fields.{values_allowed, write_fields}
use Rattle.nulls.specs.Nulls.{null_record}
use Rattle.store.specs.Store.{has_record, record_of, field_value}
use Rattle.search.specs.Search.{first_of, lowest, elsewhere}
use Rattle.entries.specs.Entries.{entries, is_of}
use Rattle.entries.specs.declared.Entry.{Entry}
use Rattle.queue.specs.Queue.{holder, held_by, append}
use Rattle.changes.specs.Changes.{first_change_queue, first_change_images}
use Rattle.images.specs.Images.{image_has}
use Rattle.removal.specs.Removal.{remove_queue, remove_images, remove_count}
use Rattle.removal.specs.declared.Removal.{Removal}
use Rattle.removal.specs.declared.Removal.TheVariants.{One, Unchanged}
use Rattle.committed.specs.Committed.{committed_version, version_there}
use Rattle.committed.specs.declared.Version.{Version}
use Rattle.committed.specs.declared.Version.TheVariants.{Stored}
use Rattle.nucleus.specs.Commands.{option_I, option_H, option_C, option_W}
use Rattle.nucleus.specs.Users.{max_sequence, started}
use Rattle.nucleus.specs.Nucleus.{max_et_data}
use Rattle.nucleus.specs.Target.{is_isn, isn_in, is_holder, other_holds, is_changed}
use Rattle.nucleus.specs.Rows.{Row, row, first_cause}
use Rattle.nucleus.specs.declared.Call.{Call}
use Rattle.nucleus.specs.declared.EtData.{EtData}
use Rattle.nucleus.specs.declared.Response.{Response}
use Rattle.nucleus.specs.declared.Response.TheVariants.{StateInvalid, FormatInvalid, FieldTwice, RecordLength, ValueInvalid, NotFound, Waiting, HeldByAnother, Presence, NotHeld, AlreadyChanged, FileFull, HoldLimit, QueueFull, ValueTaken}
use Rattle.shares.specs.Shares.{share}
use Rattle.shares.specs.declared.Share.{Share}

-- ---- rows that several commands have
-- 41 and 53 of a reading
abbrev pub rows_read : File → List ℕ → List ℕ → List Row
rows_read f format buffer =
    row FormatInvalid (not (format_valid f format))
    ∷ row RecordLength (ltb (length buffer) (length_needed f format))
    ∷ []

-- 41, 44, 53 and 55 of values that are brought
abbrev pub rows_brought : File → List ℕ → List ℕ → List Row
rows_brought f format buffer =
    row FormatInvalid (not (format_valid f format))
    ∷ row FieldTwice (named_twice f format)
    ∷ row RecordLength (ltb (length buffer) (length_needed f format))
    ∷ row ValueInvalid (not (values_allowed f format buffer))
    ∷ []

-- a new record is made in a place of 512 bytes; of a file of a valid table it is no longer
abbrev pub max_scratch : ℕ
max_scratch = 512

abbrev pub row_scratch : File → Row
row_scratch f = row StateInvalid (ltb max_scratch (record_length f))

-- 113, second
abbrev pub row_there : File → List ℕ → ℕ → Row
row_there f part isn = row Presence (not (has_record f part isn))

abbrev pub row_empty : File → List ℕ → ℕ → Row
row_empty f part isn = row Presence (has_record f part isn)

-- ---- holding
module _ (call : Call) (x : Share) (queue : List ℕ) where
  abbrev pub in_use : List Entry
  in_use = entries queue x.count

  abbrev pub holder_at : ℕ → Option (ℕ × Entry)
  holder_at isn = holder in_use call.file isn

  -- 20 of HI and L4
  abbrev pub at_limit : Bool
  at_limit = leb x.user.hold_limit (held_by in_use call.user)

  abbrev pub row_waits : ℕ → Row
  row_waits isn = row Waiting (eqb call.option option_W && other_holds call.user (holder_at isn) && (x.waits || not at_limit))

  -- 145
  abbrev pub row_other : ℕ → Row
  row_other isn = row HeldByAnother (other_holds call.user (holder_at isn))

  -- 144 of A1 and E1
  abbrev pub row_held : ℕ → Row
  row_held isn = row NotHeld (not (eqb call.option option_H) && not (is_holder call.user (holder_at isn)))

  -- 47 and 70
  abbrev pub is_new : ℕ → Bool
  is_new isn = not (is_holder call.user (holder_at isn))

  abbrev pub rows_room : ℕ → ℕ → List Row
  rows_room room isn =
      row HoldLimit (is_new isn && at_limit)
      ∷ row QueueFull (is_new isn && leb room x.count)
      ∷ []

  -- a new entry, unless the caller has one; the youngest, where the queue has a place for it
  abbrev pub entry_at : ℕ → Bool → Entry
  entry_at isn existed = record { user = call.user; file = call.file; isn = isn; changed = false; existed = existed }

  abbrev pub next_count : ℕ
  next_count = cond (ltb x.count (length queue)) (x.count + 1) x.count

  unfoldable pub held_share : ℕ → ℕ → Share
  held_share clock isn =
      cond (is_holder call.user (holder_at isn)) x (share (started clock x.user) x.et_data x.last_assigned next_count x.waits)

  unfoldable pub held_queue : ℕ → Bool → List ℕ
  held_queue isn existed = cond (is_holder call.user (holder_at isn)) queue (append queue x.count (entry_at isn existed))

  -- ---- the image of the entry that is now there
  abbrev pub holder_now : ℕ → ℕ → Bool → Option (ℕ × Entry)
  holder_now clock isn existed = holder (entries (held_queue isn existed) (held_share clock isn).count) call.file isn

  abbrev pub queue_imaged : Option (ℕ × Entry) → List ℕ → Bool → List ℕ
  queue_imaged (Some (i, e)) q existed = first_change_queue q i existed
  queue_imaged None q existed = q

  abbrev pub images_with : Option (ℕ × Entry) → List ℕ → Bool → ℕ → List ℕ → List ℕ → List ℕ
  images_with (Some (i, e)) q existed width content images = first_change_images q images width i existed content
  images_with None q existed width content images = images

  unfoldable pub imaged_queue : ℕ → ℕ → Bool → List ℕ
  imaged_queue clock isn existed = queue_imaged (holder_now clock isn existed) (held_queue isn existed) existed

  unfoldable pub imaged_images : ℕ → ℕ → Bool → ℕ → List ℕ → List ℕ → List ℕ
  imaged_images clock isn existed width content images = images_with (holder_now clock isn existed) (held_queue isn existed) existed width content images

  -- ---- HI
  unfoldable pub hi_cause : ℕ → Option Response
  hi_cause room = first_cause (row_waits call.isn ∷ row_other call.isn ∷ rows_room room call.isn)

  -- ---- RI; of ISN 0 it is never refused
  unfoldable pub ri_cause : Option Response
  ri_cause =
      cond (eqb call.isn 0) None
      (first_cause (
      row NotHeld (not (is_holder call.user (holder_at call.isn)))
      ∷ row AlreadyChanged (is_changed (holder_at call.isn))
      ∷ []
      ))

  -- ---- E1
  unfoldable pub e1_cause : File → List ℕ → ℕ → Option Response
  e1_cause f part room = first_cause (row_other call.isn ∷ row_there f part call.isn ∷ row_held call.isn ∷ rows_room room call.isn)

  -- ---- L1: the record that the store has, or with option `C` the one that ended transactions left
  unfoldable pub version_at : ℕ → Version
  version_at isn = cond (eqb call.option option_C) (committed_version in_use call.file isn) Stored

-- ---- L1 and L4
module _ (call : Call) (f : File) (part : List ℕ) where
  -- the ISN that they are about
  unfoldable pub sought : Option ℕ
  sought = cond (eqb call.option option_I) (lowest f part call.isn) (Some call.isn)

  abbrev pub sought_isn : ℕ
  sought_isn = isn_in sought

  -- 3
  abbrev pub row_found : Row
  row_found = row NotFound (not (is_isn sought))

  module _ (x : Share) (queue images : List ℕ) (width : ℕ) where
    -- 113, second, of the version that L1 reads
    abbrev pub row_shown : ℕ → Row
    row_shown isn = row Presence (not (version_there f part images width (version_at call x queue isn) isn))

    unfoldable pub l1_cause : List ℕ → List ℕ → Option Response
    l1_cause format buffer = first_cause (rows_read f format buffer ++ row_found ∷ row_shown sought_isn ∷ [])

  unfoldable pub l4_cause : Share → List ℕ → ℕ → List ℕ → List ℕ → Option Response
  l4_cause x queue room format buffer =
      first_cause (
      rows_read f format buffer ++ row_found ∷ row_waits call x queue sought_isn ∷ row_other call x queue sought_isn ∷ row_there f part sought_isn ∷ rows_room call x queue room sought_isn
      )

-- ---- A1, N1, N2
module _ (f : File) (part : List ℕ) where
  -- the record that is made: "A1 replaces the named fields"; of an added one "unnamed fields are null"
  unfoldable pub replaced : List ℕ → List ℕ → ℕ → List ℕ
  replaced format buffer isn = write_fields f format buffer (record_of f part isn)

  unfoldable pub added : List ℕ → List ℕ → ℕ → List ℕ
  added format buffer isn = write_fields f format buffer (null_record f (record_of f part isn))

  module _ (call : Call) (x : Share) (queue images : List ℕ) (width : ℕ) where
    -- "N1 and N2 judge every unique field, A1 the named ones"
    abbrev pub judged : Bool → List ℕ → ℕ → Bool
    judged named format k = is_unique (field_at f k).option && (not named || any (eqb k) (places f format))

    abbrev pub taken_at : ℕ → List ℕ → ℕ → Bool
    taken_at isn content k =
        elsewhere f part k isn (field_value f k content)
        || image_has (in_use call x queue) images width call.user call.file (field_offset f k) (field_value f k content)

    -- 198
    unfoldable pub taken : Bool → List ℕ → ℕ → List ℕ → Bool
    taken named format isn content = any (λ k. judged named format k && taken_at isn content k) (numbers (field_count f) 0)

    module _ (room : ℕ) (format buffer : List ℕ) where
      unfoldable pub a1_cause : Option Response
      a1_cause =
          first_cause (
          row_scratch f
          ∷ rows_brought f format buffer
          ++ row_other call x queue call.isn
          ∷ row_there f part call.isn
          ∷ row_held call x queue call.isn
          ∷ rows_room call x queue room call.isn
          ++ row ValueTaken (taken true format call.isn (replaced format buffer call.isn))
          ∷ []
          )

      unfoldable pub n2_cause : Option Response
      n2_cause =
          first_cause (
          row_scratch f
          ∷ rows_brought f format buffer
          ++ row_other call x queue call.isn
          ∷ row_empty f part call.isn
          ∷ rows_room call x queue room call.isn
          ++ row ValueTaken (taken false format call.isn (added format buffer call.isn))
          ∷ []
          )

      -- N1, at the ISN that it found, if any
      unfoldable pub n1_cause : Option ℕ → Option Response
      n1_cause free =
          first_cause (
          row_scratch f
          ∷ rows_brought f format buffer
          ++ row FileFull (not (is_isn free))
          ∷ rows_room call x queue room (isn_in free)
          ++ row ValueTaken (taken false format (isn_in free) (added format buffer (isn_in free)))
          ∷ []
          )

  -- N1: "the first ISN after the one that N1 last gave in that file (0 when fresh), going round once, that has no record and no holder"
  module _ (call : Call) (x : Share) (queue : List ℕ) where
    abbrev pub is_free : ℕ → Bool
    is_free isn = not (has_record f part isn) && not (any (is_of call.file isn) (in_use call x queue))

    unfoldable pub free_isn : Option ℕ
    free_isn = first_of is_free (from_to (x.last_assigned + 1) f.max_isn ++ from_to 1 x.last_assigned)

-- ---- entries that go
module _ (x : Share) (queue images : List ℕ) (width : ℕ) where
  abbrev pub left_count : Removal → ℕ
  left_count which = remove_count queue images x.count width which

  abbrev pub left_queue : Removal → List ℕ
  left_queue which = remove_queue queue images x.count width which

  abbrev pub left_images : Removal → List ℕ
  left_images which = remove_images queue images x.count width which

  abbrev pub gone : Removal → ℕ
  gone which = x.count - left_count which

-- which entries RI drops
abbrev pub released : Call → Removal
released call = cond (eqb call.isn 0) (Unchanged call.user) (One call.file call.isn)

-- ---- ET, RE: 53
abbrev pub et_cause : List ℕ → Option Response
et_cause buffer = first_cause (row RecordLength (ltb max_et_data (length buffer)) ∷ [])

abbrev pub next_sequence : Share → ℕ
next_sequence x = min (x.user.sequence + 1) max_sequence

abbrev pub data_brought : Share → List ℕ → EtData
data_brought x buffer =
    cond (eqb (length buffer) 0) x.et_data (record { length = length buffer; bytes = sets x.et_data.bytes 0 buffer })

abbrev pub re_cause : EtData → List ℕ → Option Response
re_cause held buffer = first_cause (row RecordLength (ltb (length buffer) held.length) ∷ [])

abbrev pub re_buffer : EtData → List ℕ → List ℕ
re_buffer held buffer = sets buffer 0 (take held.length held.bytes)
