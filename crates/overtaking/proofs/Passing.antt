-- The stages before a command: the clock's pass, and what the rows of 9, 211, 29 and 212 leave.
-- Assumes nothing.
use Rattle.std.specs.Prelude.{ℕ, zero, suc, ◌+◌, max, ◌≡◌, Bool, true, false, length, Option, Some, None}
use Rattle.std.proofs.Common.{arith}
use Rattle.std.proofs.Math.Path.{refl}
use mathlib.Core.List.{List, [], ◌∷◌, ◌++◌}
use Rattle.lists.specs.Tests.{cond, Outcome, holds, fails, outcome}
use Rattle.entries.specs.Entries.{bit, is_of}
use Rattle.entries.specs.declared.Entry.{Entry}
use Rattle.removal.specs.declared.Removal.TheVariants.{All}
use Rattle.nucleus.specs.Users.{is_due, opened, with_overdue}
use Rattle.nucleus.specs.Nucleus.{Nucleus, max_users, with_clock, with_state, user_of, change_user}
use Rattle.nucleus.specs.Waiters.{left, let_go}
use Rattle.nucleus.specs.Clock.{removed, backed_out, forced_out, timed_out, timed_out_from, clocked}
use Rattle.nucleus.specs.Rows.{first_cause, rows_after_clock, rows_after_session, is_overdue, session_in_transaction}
use Rattle.nucleus.specs.Step.{let_in, unless_refused, notified, admitted_session, admitted_user}
use Rattle.nucleus.specs.declared.Call.{Call}
use Rattle.nucleus.specs.declared.Command.{Command}
use Rattle.nucleus.specs.declared.Response.{Response}
use Rattle.nucleus.specs.declared.State.{State}
use Rattle.overtaking.specs.Moments.{Moment, moment, backs_out, other, left_in, moments_forced, moments_timed, moments_from, moments_clocked, moments_notified, moments_user}
use Rattle.overtaking.proofs.Room.{RoomIn, room_removed, parts_removed, room_handed, InLine, in_line_left, in_line_handed}
use Rattle.overtaking.proofs.Stages.{Stage, nothing, followed, quiet, fair_leaving, stage_handed, stage_removed}

module _ (u file isn capacity : ℕ) where
  -- what a stage needs
  pub record Ready (n : Nucleus) : Type 0 where
    pub room : RoomIn capacity 0 n
    pub in_line : InLine u file isn n.state.wait_queue

  -- a stage that leaves what the next one needs
  pub record Passed (n : Nucleus) (ms : List Moment) (m : Nucleus) : Type 0 where
    pub stage : Stage u file isn 0 n ms m
    pub ready : Ready m

  pub and_then : {n m k : Nucleus} {xs ys : List Moment} → Passed n xs m → (Ready m → Passed m ys k) → Passed n (xs ++ ys) k
  and_then p next = let q = next p.ready in record { stage = followed u file isn p.stage q.stage; ready = q.ready }

  -- ---- a back-out that is not asked for
  pub passed_forced : (v : ℕ) (n : Nucleus) → Ready n → Passed n (moments_forced v n) (forced_out v n)
  unfolding forced_out backed_out removed
  passed_forced v n p =
      let es : List Entry = let_go (All v) n in
      let m : Nucleus = left v (backed_out v n) in
      let enough : RoomIn capacity (length es) m = room_removed capacity n p.room (All v) in
      let after : InLine u file isn m.state.wait_queue = in_line_left u file isn v n.state.wait_queue p.in_line in
      let fair = fair_leaving u file isn v (backs_out v) n m p.in_line refl refl refl in
      let parts = parts_removed capacity n p.room (All v) (λ e. bit (is_of file isn e)) in
      record {
        stage = stage_removed u file isn (backs_out v) es n m fair refl parts after.places (stage_handed u file isn capacity es m enough after);
        ready = record { room = room_handed capacity es m enough; in_line = in_line_handed u file isn es m after };
      }

  -- users or the clock change, and nothing that a stage needs
  passed_state : (s : State) (n : Nucleus) → s.wait_queue ≡ n.state.wait_queue → s.count ≡ n.state.count → s.definition ≡ n.state.definition → Ready n
      → Passed n (moment other (with_state s n) ∷ []) (with_state s n)
  passed_state s n line count table p = record {
    stage = quiet u file isn n (with_state s n) line (rw count (omega arith));
    ready = record { room = rw (count, table) p.room; in_line = rw line p.in_line };
  }

  -- ---- the clock
  passed_timed : (v : ℕ) (n : Nucleus) → Ready n → Passed n (moments_timed v n) (timed_out v n)
  passed_timed v n p = go (is_due n.state.clock (user_of n v))
    where
      marked : Nucleus
      marked = change_user v (with_overdue true) (forced_out v n)

      mark : Ready (forced_out v n) → Passed (forced_out v n) (moment other marked ∷ []) marked
      mark q = passed_state marked.state (forced_out v n) refl refl refl q

      go : (b : Bool) → Passed n (cond b (moments_forced v n ++ moment other (cond b marked n) ∷ []) []) (cond b marked n)
      go true = and_then (passed_forced v n p) mark
      go false = record { stage = nothing u file isn n; ready = p }

  passed_from : (more v : ℕ) (n : Nucleus) → Ready n → Passed n (moments_from more v n) (timed_out_from more v n)
  passed_from zero v n p = record { stage = nothing u file isn n; ready = p }
  passed_from (suc more) v n p = and_then (passed_timed v n p) (passed_from more (v + 1) (timed_out v n))

  pub passed_clocked : (clock : ℕ) (n : Nucleus) → Ready n → Passed n (moments_clocked clock n) (clocked clock n)
  unfolding moments_clocked clocked
  passed_clocked clock n p =
      let s : State = with_clock (max n.state.clock clock) n.state in
      and_then (passed_state s n refl refl refl p) (passed_from max_users 1 (with_state s n))

  -- ---- 9, the session, 211, 29, 212
  module _ (c : Command) (call : Call) (n : Nucleus) (p : Ready n) where
    passed_session : let to = left_in (admitted_session c call (change_user call.user opened n)) in Passed n (moment other to ∷ []) to
    unfolding admitted_session
    passed_session = go (first_cause (rows_after_session c call m))
      where
        m : Nucleus
        m = change_user call.user opened n

        go : (x : Option Response) → let to = left_in (unless_refused x m (let_in c m)) in Passed n (moment other to ∷ []) to
        go (Some cause) = passed_state m.state n refl refl refl p
        go None = passed_state m.state n refl refl refl p

    pub passed_user : Passed n (moments_user c call n) (left_in (admitted_user c call n))
    unfolding moments_user admitted_user
    passed_user = go (outcome (is_overdue c call n)) (outcome (session_in_transaction c call n))
      where
        to : Nucleus
        to = left_in (unless_refused (first_cause (rows_after_clock c call n)) (notified c call n) (admitted_session c call (change_user call.user opened n)))

        go : Outcome (is_overdue c call n) → Outcome (session_in_transaction c call n) → Passed n (moments_notified c call n ++ moment other to ∷ []) to
        go (holds o) s = rw o (passed_state (change_user call.user (with_overdue false) n).state n refl refl refl p)
        go (fails o) (holds s) =
            let m = forced_out call.user n in
            rw (o, s) (and_then (passed_forced call.user n p) (passed_state m.state m refl refl refl))
        go (fails o) (fails s) = rw (o, s) passed_session
