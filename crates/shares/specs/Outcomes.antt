-- What each command gives back over its parts: its answer and share, and what it leaves in each slice that it is lent. A refused command
-- leaves all as it was.
use Rattle.std.specs.Prelude.{ℕ, List, eqb, Option}
use Rattle.definition.specs.declared.File.{File}
use Rattle.elements.specs.Elements.{length_needed}
use Rattle.fields.specs.Fields.{read_fields}
use Rattle.store.specs.Store.{has_record, record_of, shown, put_record, empty}
use Rattle.committed.specs.Committed.{version_bytes}
use Rattle.removal.specs.declared.Removal.TheVariants.{All}
use Rattle.nucleus.specs.Commands.{option_A}
use Rattle.nucleus.specs.Users.{set_session, closed, counted, made_ready, ended}
use Rattle.nucleus.specs.Responses.{good}
use Rattle.nucleus.specs.declared.Call.{Call}
use Rattle.nucleus.specs.declared.Response.{Response}
use Rattle.shares.specs.Shares.{share, share_with_user, share_with_count, share_with_assigned, done, done_unless, kept_by}
use Rattle.shares.specs.Chains.{held_share, held_queue, imaged_queue, imaged_images, hi_cause, ri_cause, sought_isn, version_at, l1_cause, l4_cause, left_count, left_queue, left_images, gone, released, next_sequence, data_brought, et_cause, re_cause, re_buffer}
use Rattle.shares.specs.declared.Share.{Share}
use Rattle.shares.specs.declared.Done.{Done}

module _ (call : Call) (x : Share) (queue : List ℕ) where
  -- ---- HI
  abbrev pub hi_done : ℕ → ℕ → Done
  hi_done room clock = done_unless (hi_cause call x queue room) x (done (good call.isn 0 0) (held_share call x queue clock call.isn))

  abbrev pub hi_queue : ℕ → File → List ℕ → List ℕ
  hi_queue room f part = kept_by (hi_cause call x queue room) queue (held_queue call x queue call.isn (has_record f part call.isn))

  -- ---- RI
  module _ (images : List ℕ) (width : ℕ) where
    abbrev pub ri_done : Done
    ri_done =
        done_unless (ri_cause call x queue) x
        (done (good call.isn (gone x queue images width (released call)) 0) (share_with_count (left_count x queue images width (released call)) x))

    abbrev pub ri_queue : List ℕ
    ri_queue = kept_by (ri_cause call x queue) queue (left_queue x queue images width (released call))

    abbrev pub ri_images : List ℕ
    ri_images = kept_by (ri_cause call x queue) images (left_images x queue images width (released call))

-- ---- L1 and L4
module _ (call : Call) (x : Share) (f : File) (part format buffer : List ℕ) where
  abbrev pub read_done : Share → Done
  read_done y = done (good (sought_isn call f part) (length_needed f format) 0) y

  unfoldable pub read_buffer : List ℕ
  read_buffer = read_fields f format (shown f part (sought_isn call f part)) buffer

  module _ (queue images : List ℕ) (width : ℕ) where
    unfoldable pub version_buffer : List ℕ
    version_buffer =
        read_fields f format (version_bytes f part images width (version_at call x queue (sought_isn call f part)) (sought_isn call f part)) buffer

    abbrev pub l1_done : Done
    l1_done = done_unless (l1_cause call f part x queue images width format buffer) x (read_done x)

    abbrev pub l1_buffer : List ℕ
    l1_buffer = kept_by (l1_cause call f part x queue images width format buffer) buffer version_buffer

  module _ (queue : List ℕ) (room : ℕ) where
    abbrev pub l4_done : ℕ → Done
    l4_done clock = done_unless (l4_cause call f part x queue room format buffer) x (read_done (held_share call x queue clock (sought_isn call f part)))

    abbrev pub l4_queue : List ℕ
    l4_queue =
        kept_by (l4_cause call f part x queue room format buffer) queue
        (held_queue call x queue (sought_isn call f part) (has_record f part (sought_isn call f part)))

    abbrev pub l4_buffer : List ℕ
    l4_buffer = kept_by (l4_cause call f part x queue room format buffer) buffer read_buffer

-- ---- A1, E1, N1, N2: at an ISN, with the cause that refuses it, if any
module _ (cause : Option Response) (f : File) (part : List ℕ) (isn : ℕ) where
  abbrev pub put_part : List ℕ → List ℕ
  put_part content = kept_by cause part (put_record f part isn content)

  abbrev pub erased_part : List ℕ
  erased_part = kept_by cause part (empty f part isn)

  module _ (call : Call) (x : Share) (queue : List ℕ) (clock : ℕ) where
    abbrev pub changed_done : Done
    changed_done = done_unless cause x (done (good isn 0 0) (held_share call x queue clock isn))

    -- N1 keeps the ISN that it gave
    abbrev pub assigned_done : Done
    assigned_done = done_unless cause x (done (good isn 0 0) (share_with_assigned isn (held_share call x queue clock isn)))

    abbrev pub changed_queue : List ℕ
    changed_queue = kept_by cause queue (imaged_queue call x queue clock isn (has_record f part isn))

    abbrev pub changed_images : ℕ → List ℕ → List ℕ
    changed_images width images = kept_by cause images (imaged_images call x queue clock isn (has_record f part isn) width (record_of f part isn) images)

-- ---- ET
module _ (call : Call) (x : Share) (queue images : List ℕ) (width : ℕ) where
  abbrev pub et_done : List ℕ → Done
  et_done buffer =
      done_unless (et_cause buffer) x
      (done (good 0 (gone x queue images width (All call.user)) (next_sequence x))
      (share (ended (counted (next_sequence x) x.user)) (data_brought x buffer) x.last_assigned (left_count x queue images width (All call.user)) x.waits))

  abbrev pub et_queue : List ℕ → List ℕ
  et_queue buffer = kept_by (et_cause buffer) queue (left_queue x queue images width (All call.user))

  abbrev pub et_images : List ℕ → List ℕ
  et_images buffer = kept_by (et_cause buffer) images (left_images x queue images width (All call.user))

  -- ---- BT, beside what is put back in the store
  abbrev pub bt_done : Done
  bt_done =
      done (good 0 (gone x queue images width (All call.user)) 0)
      (share (ended x.user) x.et_data x.last_assigned (left_count x queue images width (All call.user)) x.waits)

-- ---- RE, OP, CL, PE
abbrev pub re_done : Share → List ℕ → Done
re_done x buffer = done_unless (re_cause x.et_data buffer) x (done (good 0 x.et_data.length 0) x)

abbrev pub re_after : Share → List ℕ → List ℕ
re_after x buffer = kept_by (re_cause x.et_data buffer) buffer (re_buffer x.et_data buffer)

abbrev pub op_done : Call → Share → Done
op_done call x = done (good 0 0 0) (share_with_user (set_session call.isn call.limit (eqb call.option option_A) x.user) x)

abbrev pub cl_done : Share → Done
cl_done x = done (good 0 0 x.user.sequence) (share_with_user (closed x.user) x)

abbrev pub pe_done : Share → Done
pe_done x = done (good 0 0 0) (share_with_user (made_ready x.user) x)
