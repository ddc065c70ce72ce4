-- One call, and set-up (document 01, 'One call' and 'Files and their definition').
use Rattle.std.specs.Prelude.{ℕ, false, ◌&&◌, List, [], ◌∷◌, eqb, length, Option, Some, None}
use Rattle.lists.specs.Tests.{cond}
use Rattle.definition.specs.Table.{file_at, file_count, no_definition}
use Rattle.reading.specs.Grammar.{read_table}
use Rattle.lists.specs.Numbers.{numbers}
use Rattle.store.specs.Store.{fresh, file_part, with_part}
use Rattle.definition.specs.declared.Definition.{Definition}
use Rattle.nucleus.specs.Commands.{direct_commands, command_of, one_of, letting_go}
use Rattle.nucleus.specs.Users.{opened, with_overdue}
use Rattle.nucleus.specs.Responses.{number, waiting_number, refused}
use Rattle.nucleus.specs.Nucleus.{Nucleus, nucleus, Request, request, Result, resulting, fresh_state, change_user}
use Rattle.nucleus.specs.WellMade.{too_short}
use Rattle.nucleus.specs.Waiters.{joined_line, change_line, left_by, let_go, lets_go, handed}
use Rattle.nucleus.specs.Clock.{forced_out, clocked}
use Rattle.nucleus.specs.Rows.{first_cause, rows_usable, rows_understood, rows_after_clock, rows_after_session, rows_last, is_overdue}
use Rattle.nucleus.specs.Effects.{effect}
use Rattle.nucleus.specs.declared.Command.{Command}
use Rattle.nucleus.specs.declared.Call.{Call}
use Rattle.nucleus.specs.declared.Response.{Response}
use Rattle.nucleus.specs.declared.Response.TheVariants.{Good, DefinitionInvalid, BufferTooShort, CommandUnknown}

-- ---- before a command: the rows up to 212, for any function that serves some of the commands
-- turned away with a cause, and what is left then; or let in with its command, on what the clock and the session that opened left
pub data Admission : Type 0 where
  turned_away : Response → Nucleus → Admission
  let_in : Command → Nucleus → Admission

abbrev pub unless_refused : Option Response → Nucleus → Admission → Admission
unless_refused (Some cause) n next = turned_away cause n
unless_refused None n next = next

-- "A call of a marked user does nothing further, clears the mark and answers 9"; OP or CL, "with a transaction open, backs it out, answers 9 and
-- does nothing more"
abbrev pub notified : Command → Call → Nucleus → Nucleus
notified c call n = cond (is_overdue c call n) (change_user call.user (with_overdue false) n) (forced_out call.user n)

-- the rows of 211, 29 and 212
unfoldable pub admitted_session : Command → Call → Nucleus → Admission
admitted_session c call n = unless_refused (first_cause (rows_after_session c call n)) n (let_in c n)

-- the rows of 9; "A user with no session gets one"
unfoldable pub admitted_user : Command → Call → Nucleus → Admission
admitted_user c call n = unless_refused (first_cause (rows_after_clock c call n)) (notified c call n) (admitted_session c call (change_user call.user opened n))

-- a command that is known, since no row before the clock holds
abbrev pub admitted_command : Option Command → Call → Nucleus → Admission
admitted_command None call n = turned_away CommandUnknown n
admitted_command (Some c) call n = admitted_user c call (clocked call.clock (left_by c call n))

-- 12, 11, 12; 22, 72; the line that is left; the clock; 9; the session; 211, 29, 212
unfoldable pub admitted : List Command → ℕ → Call → Nucleus → Admission
admitted served capacity call n =
    unless_refused (first_cause (rows_usable capacity n)) n
    (unless_refused (first_cause (rows_understood served call)) n (admitted_command (command_of served call.command) call n))

-- ---- one call
abbrev pub refusal : List ℕ → Nucleus → Response → Result
refusal buffer n cause = resulting (refused cause) n buffer

-- refused with a cause, where there is one; else what follows
abbrev pub unless : Option Response → (Response → Result) → Result → Result
unless (Some cause) refuse next = refuse cause
unless None refuse next = next

-- the rows of 17 and after, and the command's effect
unfoldable pub perform : Request → Nucleus → Result
perform r n = unless (first_cause (rows_last r n)) (refusal r.buffer n) (effect r n)

-- the line then: who is answered 20 joins it, and what a command let go is handed over
abbrev pub lined : Request → Nucleus → ℕ → Nucleus → Nucleus
lined r before response n =
    cond (eqb response waiting_number) (change_line (joined_line r.command r.call) n)
    (cond (eqb response 0 && one_of letting_go r.command) (handed (let_go (lets_go r.command r.call) before) n) n)

unfoldable pub after_line : Request → Nucleus → Result → Result
after_line r before x = resulting x.answer (lined r before (number x.answer.response) x.nucleus) x.buffer

abbrev pub serve : Admission → ℕ → Call → List ℕ → List ℕ → Result
serve (turned_away cause n) capacity call format buffer = refusal buffer n cause
serve (let_in c n) capacity call format buffer = let r = request capacity c call format buffer in after_line r n (perform r n)

unfoldable pub step : ℕ → Call → List ℕ → List ℕ → Nucleus → Result
step capacity call format buffer n = serve (admitted direct_commands capacity call n) capacity call format buffer

-- ---- set-up
pub record SetUp : Type 0 where
  pub response : Response
  pub nucleus : Nucleus

-- "Set-up puts 0 in every first byte of an ISN", of the files at some places
abbrev pub freshened : Definition → List ℕ → List ℕ → List ℕ
freshened d [] store = store
freshened d (i ∷ is) store = freshened d is (with_part d i store (fresh (file_at d i) (file_part d i store)))

module _ (capacity : ℕ) (store queue images : List ℕ) where
  -- "nothing set up": the state has no table, so that calls on it answer 12
  abbrev pub not_set_up : Response → SetUp
  not_set_up cause = record { response = cause; nucleus = nucleus (fresh_state no_definition) store queue images }

  abbrev pub set_up_as : Definition → SetUp
  set_up_as d =
      cond (too_short d capacity store queue images) (not_set_up BufferTooShort)
      (record {
        response = Good;
        nucleus = nucleus (fresh_state d) (freshened d (numbers (file_count d) 0) store) queue images;
      })

  -- "Kind 0, the end, no body, nothing after it"
  abbrev pub set_up_at : Option ℕ → ℕ → Definition → SetUp
  set_up_at None size d = not_set_up DefinitionInvalid
  set_up_at (Some end) size d = cond (eqb end size) (set_up_as d) (not_set_up DefinitionInvalid)

  unfoldable pub set_up : List ℕ → SetUp
  set_up table = set_up_at (read_table table).end (length table) (read_table table).definition
