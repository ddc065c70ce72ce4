-- The ways that a call can go, from its first row to its command.
-- Assumes nothing.
use Rattle.std.specs.Prelude.{ℕ, ◌-◌, ◌≤◌, ◌≡◌, Bool, true, List, length, get_or, set, Some, None, Ok, Err}
use Rattle.std.proofs.Math.Path.{sym, ap}
use Rattle.std.proofs.Common.{◌∙◌}
use Rattle.std.proofs.lemmas.List.Edits.{sets}
use Rattle.definition.specs.Table.{file_at}
use Rattle.definition.specs.Shape.{DefinitionShape}
use Rattle.definition.specs.declared.Definition.{Definition}
use Rattle.records.specs.Records.{record_length}
use Rattle.layout.specs.Layout.{place}
use Rattle.layout.specs.Laws.{place_found}
use Rattle.validity.specs.Validity.{valid}
use Rattle.validity.specs.Laws.{valid_at}
use Rattle.entries.specs.Entries.{entries}
use Rattle.nucleus.specs.Commands.{direct_commands, command_of}
use Rattle.nucleus.specs.Users.{fresh_user}
use Rattle.nucleus.specs.Nucleus.{Nucleus, nucleus, Request, request, Result, resulting, max_capacity, beyond_data}
use Rattle.nucleus.specs.Responses.{number}
use Rattle.nucleus.specs.Target.{assigned_in}
use Rattle.nucleus.specs.Waiters.{in_line, left_by}
use Rattle.nucleus.specs.Clock.{clocked}
use Rattle.nucleus.specs.Rows.{first_cause, rows_usable, rows_understood}
use Rattle.nucleus.specs.Step.{turned_away, let_in, admitted_user, admitted, refusal, perform, lined, after_line, step}
use Rattle.nucleus.specs.declared.Answer.{Answer}
use Rattle.nucleus.specs.declared.Call.{Call}
use Rattle.nucleus.specs.declared.Command.{Command}
use Rattle.nucleus.specs.declared.EtData.{EtData}
use Rattle.nucleus.specs.declared.Response.{Response}
use Rattle.nucleus.specs.declared.State.{State}
use Rattle.nucleus.specs.declared.User.{User}
use Rattle.shares.specs.Shares.{share, assigned_with, with_share, Verdict}
use Rattle.shares.specs.Chains.{max_scratch}
use Rattle.shares.specs.declared.Done.{Done}
use Rattle.settling.specs.Settling.{going_words, lined_by}
use Rattle.settling.specs.Laws.{lined_noted}
use Rattle.handing.specs.Parts.{nucleus_of}
use Rattle.handing.specs.declared.Standing.{Standing}
use Rattle.access.specs.Access.{admission_of}
use Rattle.understanding.specs.Understanding.{understood_as}
use Rattle.understanding.proofs.Laws.{Plain, understood_plain}
use Rattle.file_commands.specs.FileCommands.{left}
use Rattle.calls.specs.Commands.{performed}
use Rattle.calls.specs.Laws.{left_on, performed_is}

-- a new record of a valid table's file has its room
pub small_record : (d : Definition) → DefinitionShape d → valid d ≡ true → (file i : ℕ) → place d file ≡ Some i → record_length (file_at d i) ≤ max_scratch
small_record d s v file i there = (valid_at d s v i (place_found d s file i there).0).length_most

-- a command, and the line after it
abbrev pub served_lined : Request → Nucleus → Result
served_lined r n = after_line r n (perform r n)

-- ---- a call
module _ (capacity : ℕ) (call : Call) (format buffer : List ℕ) (n : Nucleus) where
  -- 12 and 11
  pub step_unusable : (cause : Response) → first_cause (rows_usable capacity n) ≡ Some cause → step capacity call format buffer n ≡ refusal buffer n cause
  unfolding step admitted
  step_unusable cause e = rw e

  module _ (usable : first_cause (rows_usable capacity n) ≡ None) where
    -- 22 and 72
    pub step_misunderstood : (cause : Response) → first_cause (rows_understood direct_commands call) ≡ Some cause → step capacity call format buffer n ≡ refusal buffer n cause
    unfolding step admitted
    step_misunderstood cause e = rw (usable, e)

    module _ (c : Command) (understood : first_cause (rows_understood direct_commands call) ≡ None) (known : command_of direct_commands call.command ≡ Some c) (m : Nucleus) where
      -- 9, 211, 29 and 212
      pub step_turned : (cause : Response) → admitted_user c call (clocked call.clock (left_by c call n)) ≡ turned_away cause m → step capacity call format buffer n ≡ refusal buffer m cause
      unfolding step admitted
      step_turned cause e = rw (usable, understood, known, e)

      pub step_let_in : admitted_user c call (clocked call.clock (left_by c call n)) ≡ let_in c m → step capacity call format buffer n ≡ served_lined (request capacity c call format buffer) m
      unfolding step admitted
      step_let_in e = rw (usable, understood, known, e)

-- ---- a command on a state, by the parts that code has in hand
module _ (capacity : ℕ) (call : Call) (format buffer : List ℕ) (s : State) (store queue images : List ℕ) where
  abbrev here : Nucleus
  here = nucleus s store queue images

  -- the state that the command left
  abbrev pub left_state : Done → List ℕ → State
  left_state d isns = record {
    definition = s.definition;
    clock = s.clock;
    users = set s.users (call.user - 1) d.share.user;
    et_data = set s.et_data (call.user - 1) d.share.et_data;
    last_assigned = isns;
    count = d.share.count;
    wait_queue = s.wait_queue;
  }

  -- the share, and what the command left
  pub served : (c : Command) → capacity ≤ length queue → DefinitionShape s.definition → valid s.definition ≡ true
      → (user : User) (held : EtData) (assigned : ℕ) (waits : Bool) → user ≡ get_or s.users (call.user - 1) fresh_user → held ≡ get_or s.et_data (call.user - 1) beyond_data
      → assigned ≡ assigned_in s.last_assigned (place s.definition call.file) → waits ≡ in_line s.wait_queue call.user
      → (d : Done) (store'' queue'' images'' buffer'' : List ℕ)
      → left d store'' queue'' images'' buffer'' ≡ performed call capacity s.clock (share user held assigned s.count waits) s.definition store queue images format buffer c
      → (isns : List ℕ) → isns ≡ assigned_with s.last_assigned (place s.definition call.file) d.share.last_assigned
      → resulting d.answer (nucleus (left_state d isns) store'' queue'' images'') buffer'' ≡ perform (request capacity c call format buffer) here
  unfolding with_share
  served c long shape v user held assigned waits same_user same_data same_assigned same_waits d store'' queue'' images'' buffer'' made isns same_isns =
      ap (λ given. resulting d.answer (nucleus (left_state d given) store'' queue'' images'') buffer'') same_isns
      ∙ ap (left_on capacity call format buffer here) (made ∙ ap (λ x. performed call capacity s.clock x s.definition store queue images format buffer c) (λ i. share (same_user i) (same_data i) (same_assigned i) s.count (same_waits i)))
      ∙ sym (performed_is capacity call format buffer here long (small_record s.definition shape v call.file) c)

-- ---- a call on a state, by the parts that code has in hand
module _ (capacity : ℕ) (call : Call) (format buffer : List ℕ) (s : State) (store queue images : List ℕ) where
  abbrev begun : Nucleus
  begun = nucleus s store queue images

  -- after the clock, the back-outs and the session
  module _ (clock : ℕ) (left : Standing) (store' queue' images' : List ℕ) where
    abbrev admitted_to : Nucleus
    admitted_to = nucleus_of s.definition clock left s.et_data s.last_assigned store' queue' images'

    module _ (c : Command) (usable : first_cause (rows_usable capacity begun) ≡ None) (understood : understood_as direct_commands call ≡ Ok c) where
      abbrev plain : Plain direct_commands call c
      plain = understood_plain direct_commands call c understood

      abbrev Judged : Verdict → Type 0
      Judged v = admitted_user c call (clocked call.clock (left_by c call begun)) ≡ admission_of v c admitted_to

      pub refused_through : (v : Verdict) (cause : Response) → Judged v → v ≡ Err cause → refusal buffer admitted_to cause ≡ step capacity call format buffer begun
      refused_through v cause e told =
          sym (step_turned capacity call format buffer begun usable c plain.passed plain.known admitted_to cause (e ∙ ap (λ w. admission_of w c admitted_to) told))

      pub performed_through : (v : Verdict) → Judged v → v ≡ Ok tt → served_lined (request capacity c call format buffer) admitted_to ≡ step capacity call format buffer begun
      performed_through v e told =
          sym (step_let_in capacity call format buffer begun usable c plain.passed plain.known admitted_to (e ∙ ap (λ w. admission_of w c admitted_to) told))

-- ---- the line after a command, by the parts that code has in hand
module _ (capacity : ℕ) (c : Command) (call : Call) (format buffer : List ℕ) (n : Nucleus) where
  abbrev r : Request
  r = request capacity c call format buffer

  -- the state with what the line made of it
  abbrev pub lined_state : State → Standing → State
  lined_state s left = record {
    definition = s.definition;
    clock = s.clock;
    users = left.users;
    et_data = s.et_data;
    last_assigned = s.last_assigned;
    count = left.count;
    wait_queue = left.wait_queue;
  }

  -- the words that it may let go, noted in a place for 256
  abbrev noted : List ℕ → List ℕ
  noted out = going_words c call n.queue n.state.count (length out)

  pub lined_through : (answer : Answer) (s : State) (store queue images buffer'' : List ℕ) → resulting answer (nucleus s store queue images) buffer'' ≡ perform r n
      → (out : List ℕ) → length out ≡ max_capacity → (words : List ℕ) (count : ℕ) → words ≡ sets out 0 (noted out) → count ≡ length (noted out)
      → (left : Standing) (queue' : List ℕ)
      → lined_by (entries words count) c call (number answer.response) (nucleus s store queue images) ≡ nucleus (lined_state s left) store queue' images
      → resulting answer (nucleus (lined_state s left) store queue' images) buffer'' ≡ served_lined r n
  unfolding after_line
  lined_through answer s store queue images buffer'' made out places words count same_words same_count left queue' line =
      ap (λ m. resulting answer m buffer'')
      (sym (lined_noted capacity c call format buffer n out places words count same_words same_count (number answer.response) (nucleus s store queue images) (nucleus (lined_state s left) store queue' images) line))
      ∙ ap (λ (x : Result). resulting x.answer (lined r n (number x.answer.response) x.nucleus) x.buffer) made
