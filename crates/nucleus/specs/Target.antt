-- What a call is about: its file, that file's part of the store, the ISN, who holds it, and the record that it makes.
use Rattle.std.specs.Prelude.{ℕ, ◌+◌, Bool, true, false, not, ◌&&◌, List, [], ◌∷◌, ◌++◌, eqb, get_or, Option, Some, None}
use Rattle.entries.specs.declared.Entry.{Entry}
use Rattle.lists.specs.Tests.{cond}
use Rattle.lists.specs.Folds.{any}
use Rattle.lists.specs.Numbers.{from_to}
use Rattle.layout.specs.Layout.{place, file_found}
use Rattle.fields.specs.Fields.{write_fields}
use Rattle.nulls.specs.Nulls.{null_record}
use Rattle.search.specs.Search.{first_of, lowest}
use Rattle.store.specs.Store.{has_record, record_of, file_part, with_part}
use Rattle.entries.specs.Entries.{is_of}
use Rattle.queue.specs.Queue.{holder}
use Rattle.definition.specs.declared.Definition.{Definition}
use Rattle.definition.specs.declared.File.{File}
use Rattle.committed.specs.Committed.{committed_version, version_there}
use Rattle.committed.specs.declared.Version.{Version}
use Rattle.committed.specs.declared.Version.TheVariants.{Stored}
use Rattle.nucleus.specs.Commands.{one_of, reading_values, reading_committed, option_I, option_C}
use Rattle.nucleus.specs.Nucleus.{Nucleus, Request, entries_of, width_of}
use Rattle.nucleus.specs.declared.Command.{Command}
use Rattle.nucleus.specs.declared.Command.TheVariants.{A1, N1}

-- ---- a file that was sought by its number
abbrev pub is_file : Option ℕ → Bool
is_file (Some i) = true
is_file None = false

abbrev pub part_in : Definition → Option ℕ → List ℕ → List ℕ
part_in d (Some i) store = file_part d i store
part_in d None store = []

abbrev pub store_with : Definition → Option ℕ → List ℕ → List ℕ → List ℕ
store_with d (Some i) store part = with_part d i store part
store_with d None store part = store

-- the ISN that N1 last gave there
abbrev pub assigned_in : List ℕ → Option ℕ → ℕ
assigned_in isns (Some i) = get_or isns i 0
assigned_in isns None = 0

-- ---- an ISN that was sought
abbrev pub is_isn : Option ℕ → Bool
is_isn (Some isn) = true
is_isn None = false

abbrev pub isn_in : Option ℕ → ℕ
isn_in (Some isn) = isn
isn_in None = 0

-- ---- who holds
abbrev pub is_holder : ℕ → Option (ℕ × Entry) → Bool
is_holder user (Some (i, e)) = eqb e.user user
is_holder user None = false

abbrev pub other_holds : ℕ → Option (ℕ × Entry) → Bool
other_holds user (Some (i, e)) = not (eqb e.user user)
other_holds user None = false

abbrev pub is_changed : Option (ℕ × Entry) → Bool
is_changed (Some (i, e)) = e.changed
is_changed None = false

-- ---- of a call
module _ (r : Request) (n : Nucleus) where
  -- whether the command is one of those
  abbrev pub command_in : List Command → Bool
  command_in cs = one_of cs r.command

  -- the place of its file in the table
  abbrev pub file_place : Option ℕ
  file_place = place n.state.definition r.call.file

  abbrev pub file : File
  file = file_found n.state.definition file_place

  abbrev pub part : List ℕ
  part = part_in n.state.definition file_place n.store

  abbrev pub record_at : ℕ → Bool
  record_at isn = has_record file part isn

  abbrev pub holder_of : ℕ → Option (ℕ × Entry)
  holder_of isn = holder (entries_of n) r.call.file isn

  -- N1: "the first ISN after the one that N1 last gave in that file (0 when fresh), going round once, that has no record and no holder"
  abbrev pub is_free : ℕ → Bool
  is_free isn = not (record_at isn) && not (any (is_of r.call.file isn) (entries_of n))

  abbrev pub last_given : ℕ
  last_given = assigned_in n.state.last_assigned file_place

  abbrev pub free_isn : Option ℕ
  free_isn = first_of is_free (from_to (last_given + 1) file.max_isn ++ from_to 1 last_given)

  -- option `I` of L1 and L4: "the lowest ISN at or above the given one that has a record"
  abbrev pub seeks : Bool
  seeks = command_in reading_values && eqb r.call.option option_I

  -- the ISN that the command is about: N1's, the one that option `I` finds, or the given one
  unfoldable pub target : Option ℕ
  target = cond (command_in (N1 ∷ [])) free_isn (cond seeks (lowest file part r.call.isn) (Some r.call.isn))

  abbrev pub target_isn : ℕ
  target_isn = isn_in target

  -- whether the caller holds it
  abbrev pub held_by_caller : Bool
  held_by_caller = is_holder r.call.user (holder_of target_isn)

  -- ---- the record that L1 or L4 shows
  -- option `C` of L1: "it shows the record as ended transactions left it"; otherwise the store's
  abbrev pub reads_committed : Bool
  reads_committed = command_in reading_committed && eqb r.call.option option_C

  abbrev pub version_read : ℕ → Version
  version_read isn = cond reads_committed (committed_version (entries_of n) r.call.file isn) Stored

  -- whether there is one; commands that show none ask the store
  abbrev pub record_shown : ℕ → Bool
  record_shown isn = version_there file part n.images (width_of n) (version_read isn) isn

  -- ---- the record that A1, N1 or N2 makes at an ISN, in stored form
  -- "A1 replaces the named fields"; of an added one "unnamed fields are null"
  abbrev pub record_before : ℕ → List ℕ
  record_before isn = cond (command_in (A1 ∷ [])) (record_of file part isn) (null_record file (record_of file part isn))

  unfoldable pub new_record : ℕ → List ℕ
  new_record isn = write_fields file r.format r.buffer (record_before isn)
