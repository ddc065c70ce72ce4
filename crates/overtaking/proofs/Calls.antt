-- All stages of a call, and of a list of calls.
-- Assumes nothing.
use Rattle.std.specs.Prelude.{ℕ, ◌≡◌, Bool, true, false, Option, Some, None}
use Rattle.std.proofs.Common.{arith}
use Rattle.std.proofs.Math.Path.{refl}
use mathlib.Core.List.{List, [], ◌∷◌, ◌++◌}
use Rattle.lists.specs.Tests.{cond}
use Rattle.nucleus.specs.Commands.{direct_commands, command_of}
use Rattle.nucleus.specs.Nucleus.{Nucleus, request}
use Rattle.nucleus.specs.Waiters.{in_line, keeps_place, left_line, line_left_by, change_line, left, left_by}
use Rattle.nucleus.specs.Clock.{clocked}
use Rattle.nucleus.specs.Rows.{first_cause, rows_usable, rows_understood}
use Rattle.nucleus.specs.Step.{Admission, turned_away, let_in, unless_refused, admitted_command, admitted, serve, step}
use Rattle.nucleus.specs.declared.Call.{Call}
use Rattle.nucleus.specs.declared.Command.{Command}
use Rattle.nucleus.specs.declared.Response.{Response}
use Rattle.overtaking.specs.Moments.{Moment, moment, leaves, other, leaving, left_in, moments_unless, moments_command, moments_admitted, moments_served, moments, Called, stepped, run, moments_of}
use Rattle.overtaking.specs.Statements.{HasPlaces}
use Rattle.overtaking.proofs.Room.{InLine, in_line_left}
use Rattle.overtaking.proofs.Stages.{Stage, nothing, followed, quiet, fair_leaving}
use Rattle.overtaking.proofs.Serving.{stage_performed}
use Rattle.overtaking.proofs.Passing.{Ready, Passed, and_then, passed_clocked, passed_user}
use Rattle.overtaking.proofs.Usable.{ready}

module _ (u file isn : ℕ) where
  -- ---- the line is left
  module _ (capacity : ℕ) (c : Command) (call : Call) (n : Nucleus) (p : Ready u file isn capacity n) where
    passed_leaving : Passed u file isn capacity n (moment (leaving c call n) (left_by c call n) ∷ []) (left_by c call n)
    unfolding line_left_by
    passed_leaving = go (keeps_place c call n.state.wait_queue)
      where
        after : InLine u file isn (left_line call.user n.state.wait_queue)
        after = in_line_left u file isn call.user n.state.wait_queue p.in_line

        go : (b : Bool) → let m = change_line (λ l. cond b l (left_line call.user l)) n in
            Passed u file isn capacity n (moment (cond b other (leaves call.user)) m ∷ []) m
        go true = record { stage = quiet u file isn n n refl (omega arith); ready = p }
        go false = record {
          stage = record {
            ends = refl;
            fair = (fair_leaving u file isn call.user (leaves call.user) n (left call.user n) p.in_line refl refl refl, tt);
            counted = omega arith;
            places = λ h. after.places;
          };
          ready = record { room = p.room; in_line = after };
        }

    passed_command : Passed u file isn capacity n (moments_command (Some c) call n) (left_in (admitted_command (Some c) call n))
    passed_command =
        let m = left_by c call n in
        let clock = passed_clocked u file isn capacity call.clock m in
        let user = passed_user u file isn capacity c call (clocked call.clock m) in
        and_then u file isn capacity passed_leaving (λ q. and_then u file isn capacity (clock q) user)

  -- ---- the command
  stage_served : (capacity : ℕ) (call : Call) (format buffer : List ℕ) (x : Admission) → Ready u file isn capacity (left_in x)
      → Stage u file isn 0 (left_in x) (moments_served x capacity call format buffer) (serve x capacity call format buffer).nucleus
  stage_served capacity call format buffer (turned_away cause n) p = nothing u file isn n
  stage_served capacity call format buffer (let_in c n) p =
      stage_performed u file isn capacity (request capacity c call format buffer) n p.room p.in_line

  -- ---- a call
  module _ (capacity : ℕ) (call : Call) (format buffer : List ℕ) (n : Nucleus) (places : HasPlaces n) where
    -- some moments, and then the command, where there is one
    abbrev Served : List Moment → Admission → Type 0
    Served ms x = Stage u file isn 0 n (ms ++ moments_served x capacity call format buffer) (serve x capacity call format buffer).nucleus

    served_command : Ready u file isn capacity n → (x : Option Command) → Served (moments_command x call n) (admitted_command x call n)
    served_command p None = nothing u file isn n
    served_command p (Some c) =
        let q = passed_command capacity c call n p in
        followed u file isn q.stage (stage_served capacity call format buffer (admitted_command (Some c) call n) q.ready)

    pub stage_call : Stage u file isn 0 n (moments capacity call format buffer n) (step capacity call format buffer n).nucleus
    unfolding moments moments_admitted step admitted
    stage_call = usable (first_cause (rows_usable capacity n)) refl
      where
        understood : Ready u file isn capacity n → (x : Option Response) → let c = command_of direct_commands call.command in
            Served (moments_unless x (moments_command c call n)) (unless_refused x n (admitted_command c call n))
        understood p (Some cause) = nothing u file isn n
        understood p None = served_command p (command_of direct_commands call.command)

        usable : (x : Option Response) → first_cause (rows_usable capacity n) ≡ x
            → let c = command_of direct_commands call.command in let y = first_cause (rows_understood direct_commands call) in
            Served (moments_unless x (moments_unless y (moments_command c call n))) (unless_refused x n (unless_refused y n (admitted_command c call n)))
        usable (Some cause) e = nothing u file isn n
        usable None e = understood (ready capacity n e u file isn places) (first_cause (rows_understood direct_commands call))

  -- ---- a list of calls
  pub stage_calls : (calls : List Called) (n : Nucleus) → HasPlaces n → Stage u file isn 0 n (moments_of calls n) (run calls n)
  unfolding moments_of run
  stage_calls [] n places = nothing u file isn n
  stage_calls (c ∷ cs) n places =
      let s = stage_call c.capacity c.given.call c.given.format c.given.buffer n places in
      followed u file isn s (stage_calls cs (stepped c n) (s.places places))
