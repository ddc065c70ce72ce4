-- The response table (document 01, 'Responses, in the order of checking', with the rows of document 02): each row its cause and when it holds. The
-- response is that of the first row that holds. What a refused call leaves goes by the four lists: nothing is changed by the first; the second comes
-- after the line that the caller left, the clock and the back-outs, the others after the session that opened. Whoever is answered 20 is in the line then.
use Rattle.std.specs.Prelude.{ℕ, Bool, false, not, ◌&&◌, ◌||◌, List, [], ◌∷◌, eqb, leb, ltb, length, Option, Some, None}
use Rattle.lists.specs.Tests.{cond, within}
use Rattle.lists.specs.Folds.{any}
use Rattle.lists.specs.Numbers.{numbers}
use Rattle.definition.specs.Table.{field_at, field_count, is_unique}
use Rattle.records.specs.Records.{field_offset}
use Rattle.validity.specs.Validity.{valid}
use Rattle.elements.specs.Elements.{format_valid, named_twice, length_needed, places}
use Rattle.fields.specs.Fields.{values_allowed}
use Rattle.store.specs.Store.{field_value}
use Rattle.search.specs.Search.{elsewhere}
use Rattle.queue.specs.Queue.{held_by}
use Rattle.images.specs.Images.{image_has}
use Rattle.nucleus.specs.Commands.{command_of, one_of, on_file, at_given_isn, holding, changing_held, on_record, naming, bringing_values, may_wait, on_session, serving_ready, setting_ready, serving_access_only, has_option, option_H, option_W}
use Rattle.nucleus.specs.Users.{is_active, is_ready}
use Rattle.nucleus.specs.Nucleus.{Nucleus, Request, max_users, max_et_data, data_at, user_of, entries_of, width_of}
use Rattle.nucleus.specs.WellMade.{too_short, well_made}
use Rattle.nucleus.specs.Waiters.{in_line}
use Rattle.nucleus.specs.Target.{is_file, is_isn, other_holds, is_changed, command_in, file_place, file, part, record_at, holder_of, seeks, target, target_isn, held_by_caller, record_shown, new_record}
use Rattle.nucleus.specs.declared.Command.{Command}
use Rattle.nucleus.specs.declared.Command.TheVariants.{Ri, A1, N1, N2, Et, Re}
use Rattle.nucleus.specs.declared.Call.{Call}
use Rattle.nucleus.specs.declared.User.{User}
use Rattle.nucleus.specs.declared.Response.{Response}
use Rattle.nucleus.specs.declared.Response.TheVariants.{BufferTooShort, StateInvalid, CommandUnknown, UserUnknown, BackedOut, TransactionReady, AccessOnly, NoTransaction, FileUnknown, IsnInvalid, FormatInvalid, FieldTwice, RecordLength, ValueInvalid, NotFound, Waiting, HeldByAnother, Presence, NotHeld, AlreadyChanged, FileFull, HoldLimit, QueueFull, ValueTaken}

pub record Row : Type 0 where
  pub cause : Response
  pub holds : Bool

abbrev pub row : Response → Bool → Row
row cause holds = record { cause = cause; holds = holds }

-- the cause of the first row that holds, if any
abbrev pub first_cause : List Row → Option Response
first_cause [] = None
first_cause (r ∷ rs) = cond r.holds (Some r.cause) (first_cause rs)

-- ---- before the clock
-- "Where the kept table is invalid these sizes mean nothing, and 12 is given before 11"
unfoldable pub rows_usable : ℕ → Nucleus → List Row
rows_usable capacity n =
    row StateInvalid (not (valid n.state.definition))
    ∷ row BufferTooShort (too_short n.state.definition capacity n.store n.queue n.images)
    ∷ row StateInvalid (not (well_made capacity n))
    ∷ []

-- "unknown command, or option not named for it"
abbrev pub understood : Option Command → ℕ → Bool
understood None option = false
understood (Some c) option = has_option c option

-- a command that the function does not serve is unknown there
unfoldable pub rows_understood : List Command → Call → List Row
rows_understood served call =
    row CommandUnknown (not (understood (command_of served call.command) call.option))
    ∷ row UserUnknown (not (within 1 max_users call.user))
    ∷ []

-- ---- after the clock
module _ (c : Command) (call : Call) (n : Nucleus) where
  abbrev pub caller : User
  caller = user_of n call.user

  -- "overdue mark, or OP or CL in a transaction"
  unfoldable pub is_overdue : Bool
  is_overdue = caller.overdue

  unfoldable pub session_in_transaction : Bool
  session_in_transaction = one_of on_session c && is_active caller

  abbrev pub rows_after_clock : List Row
  rows_after_clock =
      row BackedOut is_overdue
      ∷ row BackedOut session_in_transaction
      ∷ []

  -- ---- after the session opened
  -- document 02, No. 12: "211 for another call while ready, after 9"
  unfoldable pub ready_refused : Bool
  ready_refused = is_ready caller && not (one_of serving_ready c)

  -- "access-only user, call not OP, CL, L1, RE"
  unfoldable pub access_refused : Bool
  access_refused = caller.access_only && not (one_of serving_access_only c)

  -- No. 12: "212 for PE without a transaction, after 29"
  unfoldable pub transaction_missing : Bool
  transaction_missing = one_of setting_ready c && not (is_active caller)

  abbrev pub rows_after_session : List Row
  rows_after_session =
      row TransactionReady ready_refused
      ∷ row AccessOnly access_refused
      ∷ row NoTransaction transaction_missing
      ∷ []

-- ---- of a command that is admitted
module _ (r : Request) (n : Nucleus) where
  -- RI of ISN 0 is about all files
  abbrev pub releases_all : Bool
  releases_all = command_in r n (Ri ∷ []) && eqb r.call.isn 0

  -- "file not defined (HI to N2; not RI of ISN 0)"
  unfoldable pub file_unknown : Bool
  file_unknown = command_in r n on_file && not releases_all && not (is_file (file_place r n))

  -- "ISN 0 or above highest (HI, RI, L1, L4, A1, E1, N2; not option `I`; RI may have 0)"
  unfoldable pub isn_invalid : Bool
  isn_invalid = command_in r n at_given_isn && not releases_all && not (seeks r n) && not (within 1 (file r n).max_isn r.call.isn)

  -- "format buffer breaks its form, or unknown name"
  unfoldable pub format_refused : Bool
  format_refused = command_in r n naming && not (format_valid (file r n) r.format)

  -- "field twice in A1, N1, N2"
  unfoldable pub field_twice : Bool
  field_twice = command_in r n bringing_values && named_twice (file r n) r.format

  -- "record buffer shorter than the named fields, or than the data for RE; ET data over 64"
  unfoldable pub record_length_refused : Bool
  record_length_refused =
      (command_in r n naming && ltb (length r.buffer) (length_needed (file r n) r.format))
      || (command_in r n (Re ∷ []) && ltb (length r.buffer) (data_at n.state r.call.user).length)
      || (command_in r n (Et ∷ []) && ltb max_et_data (length r.buffer))

  -- "A1, N1, N2: a digit or sign not allowed"
  unfoldable pub value_refused : Bool
  value_refused = command_in r n bringing_values && not (values_allowed (file r n) r.format r.buffer)

  -- "option `I` finds none"
  unfoldable pub none_found : Bool
  none_found = seeks r n && not (is_isn (target r n))

  -- "another user holds the ISN (not L1, not RI)". N1's ISN has no holder
  unfoldable pub held_elsewhere : Bool
  held_elsewhere = command_in r n holding && is_isn (target r n) && other_holds r.call.user (holder_of r n (target_isn r n))

  -- the caller is at or past his hold limit
  abbrev pub at_limit : Bool
  at_limit = leb (user_of n r.call.user).hold_limit (held_by (entries_of n) r.call.user)

  -- document 02, No. 1: "20 for one who joins or still waits, in 145's row"; "a user at or past it doesn't join and gets 145". Who is in the line past
  -- 72's check is there by this very call
  unfoldable pub waits : Bool
  waits = command_in r n may_wait && eqb r.call.option option_W && held_elsewhere && (in_line n.state.wait_queue r.call.user || not at_limit)

  -- "no record (L1, L4, A1, E1), or one there (N2)"; of L1 with option `C`, none that ended transactions left
  unfoldable pub presence_refused : Bool
  presence_refused =
      (command_in r n on_record && not (record_shown r n (target_isn r n)))
      || (command_in r n (N2 ∷ []) && record_at r n (target_isn r n))

  -- "not held by the user (A1, E1 without `H`, RI unless 0)"
  unfoldable pub not_held : Bool
  not_held =
      ((command_in r n changing_held && not (eqb r.call.option option_H)) || (command_in r n (Ri ∷ []) && not (eqb r.call.isn 0)))
      && not (held_by_caller r n)

  -- "RI of a changed entry"
  unfoldable pub release_refused : Bool
  release_refused = command_in r n (Ri ∷ []) && not (eqb r.call.isn 0) && is_changed (holder_of r n r.call.isn)

  -- "N1 finds no ISN"
  unfoldable pub file_full : Bool
  file_full = command_in r n (N1 ∷ []) && not (is_isn (target r n))

  -- "new entry": the command holds, there is an ISN, and the caller does not hold it yet
  abbrev pub new_entry : Bool
  new_entry = command_in r n holding && is_isn (target r n) && not (held_by_caller r n)

  -- "new entry, user at or past his hold limit"
  unfoldable pub limit_reached : Bool
  limit_reached = new_entry && at_limit

  -- the most entries that there may be just now
  abbrev pub room : ℕ
  room = r.capacity

  -- "new entry, queue has H"
  unfoldable pub queue_full : Bool
  queue_full = new_entry && leb room n.state.count

  -- ---- unique values
  -- "N1 and N2 judge every unique field, A1 the named ones"
  abbrev pub judged : ℕ → Bool
  judged k = is_unique (field_at (file r n) k).option && (not (command_in r n (A1 ∷ [])) || any (eqb k) (places (file r n) r.format))

  -- "it counts as taken while another record of the file has it in that field, or an image of another user's changed entry in that file has it
  -- there and a record was there before"
  abbrev pub is_taken : ℕ → List ℕ → Bool
  is_taken k value =
      elsewhere (file r n) (part r n) k (target_isn r n) value
      || image_has (entries_of n) n.images (width_of n) r.call.user r.call.file (field_offset (file r n) k) value

  -- "a unique value taken"
  unfoldable pub value_taken : Bool
  value_taken =
      command_in r n bringing_values
      && any (λ k. judged k && is_taken k (field_value (file r n) k (new_record r n (target_isn r n)))) (numbers (field_count (file r n)) 0)

  abbrev pub rows_last : List Row
  rows_last =
      row FileUnknown file_unknown
      ∷ row IsnInvalid isn_invalid
      ∷ row FormatInvalid format_refused
      ∷ row FieldTwice field_twice
      ∷ row RecordLength record_length_refused
      ∷ row ValueInvalid value_refused
      ∷ row NotFound none_found
      ∷ row Waiting waits
      ∷ row HeldByAnother held_elsewhere
      ∷ row Presence presence_refused
      ∷ row NotHeld not_held
      ∷ row AlreadyChanged release_refused
      ∷ row FileFull file_full
      ∷ row HoldLimit limit_reached
      ∷ row QueueFull queue_full
      ∷ row ValueTaken value_taken
      ∷ []
