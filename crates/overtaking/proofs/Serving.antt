-- The last stage of a call that is let in: its command, and the line then.
-- Assumes nothing.
use Rattle.std.specs.Prelude.{ℕ, ◌+◌, ◌≡◌, Bool, not, ◌&&◌, List, [], ◌∷◌, eqb, length, Option, Some, None}
use Rattle.std.proofs.Common.{arith, ap}
use Rattle.std.proofs.Math.Path.{refl}
use Rattle.std.proofs.Math.Bool.{true, false}
use Rattle.std.proofs.lemmas.Bool.{not-true}
use Rattle.lists.specs.Tests.{cond, Outcome, holds, fails, outcome, and_left, and_right}
use Rattle.lists.specs.Folds.{all}
use Rattle.lists.specs.Sift.{sift, sift_append}
use Rattle.lists.specs.Every.{any_front}
use Rattle.entries.specs.Entries.{is_of}
use Rattle.removal.specs.declared.Removal.{Removal}
use Rattle.removal.specs.declared.Removal.TheVariants.{One, Unchanged, All}
use Rattle.nucleus.specs.Commands.{one_of, letting_go}
use Rattle.nucleus.specs.Responses.{number, waiting_number}
use Rattle.nucleus.specs.Nucleus.{Nucleus, Request}
use Rattle.nucleus.specs.Waiters.{waiters_of, is_user, joined_line, change_line, let_go, lets_go, handed}
use Rattle.nucleus.specs.Clock.{removed, backed_out}
use Rattle.nucleus.specs.Rows.{Row, first_cause, rows_last}
use Rattle.nucleus.specs.Target.{target_isn}
use Rattle.nucleus.specs.Effects.{ended_for, effect_at, effect}
use Rattle.nucleus.specs.Step.{refusal, unless, perform, lined, after_line}
use Rattle.nucleus.specs.declared.Command.{Command}
use Rattle.nucleus.specs.declared.Command.TheVariants.{Hi, Ri, L1, L4, A1, E1, N1, N2, Et, Bt, Re, Op, Cl, Pe}
use Rattle.nucleus.specs.declared.Response.{Response}
use Rattle.overtaking.specs.Moments.{line_of, moment, other, holds_of, moments_handed, moments_lined, moments_performed}
use Rattle.overtaking.proofs.Lines.{before_joined, waiters_joined, places_joined}
use Rattle.overtaking.proofs.Room.{RoomIn, room_removed, parts_removed, InLine}
use Rattle.overtaking.proofs.Stages.{Fair, Stage, of_record, fair_quiet, quiet, followed, stage_handed, stage_removed}
use Rattle.overtaking.proofs.Commands.{line_effect, kept_held, kept_written, kept_erased, kept_added}

-- ---- a refusal is not numbered 0
first_such : (p : Response → Bool) (rows : List Row) (cause : Response) → all (λ (r : Row). p r.cause) rows ≡ true → first_cause rows ≡ Some cause → p cause ≡ true
first_such p [] cause h e = absurd (let z : ◌≡◌ {A = ℕ} 0 1 = ap (λ (x : Option Response). elim x [ None ↦ 0 | Some c ↦ 1 ]) e in omega arith)
first_such p (r ∷ rs) cause h e = go (outcome r.holds) (first_such p rs cause (and_right (p r.cause) (all (λ (r : Row). p r.cause) rs) h))
  where
    go : Outcome r.holds → (first_cause rs ≡ Some cause → p cause ≡ true) → p cause ≡ true
    go (holds t) later =
        let here : Some r.cause ≡ Some cause = rw t at e in
        let same : r.cause ≡ cause = cc in
        rw (← same) (and_left (p r.cause) (all (λ (r : Row). p r.cause) rs) h)
    go (fails t) later = later (rw t at e)

not_good : (r : Request) (n : Nucleus) (cause : Response) → first_cause (rows_last r n) ≡ Some cause → eqb (number cause) 0 ≡ false
not_good r n cause e = not-true (eqb (number cause) 0) (first_such (λ c. not (eqb (number c) 0)) (rows_last r n) cause refl e)

module _ (u file isn : ℕ) (capacity : ℕ) (r : Request) (n : Nucleus) (room : RoomIn capacity 0 n) (a : InLine u file isn n.state.wait_queue) where
  -- what comes of the response of some command
  abbrev lined_as : Command → ℕ → Nucleus → Nucleus
  lined_as c response m =
      cond (eqb response waiting_number) (change_line (joined_line c r.call) m)
      (cond (eqb response 0 && one_of letting_go c) (handed (let_go (lets_go c r.call) n) m) m)

  -- what is removed is let go
  stage_letting_go : (which : Removal) (m : Nucleus) → RoomIn capacity (length (let_go which n)) m → m.state.wait_queue ≡ n.state.wait_queue
      → of_record u file isn (let_go which n) + holds_of file isn m ≡ holds_of file isn n
      → Stage u file isn 0 n (moment other m ∷ moments_handed (let_go which n) m) (handed (let_go which n) m)
  stage_letting_go which m enough same parts =
      stage_removed u file isn other (let_go which n) n m (fair_quiet u file isn n m same) refl parts (rw same a.places)
      (stage_handed u file isn capacity (let_go which n) m enough (rw same a))

  stage_released : (which : Removal) → let m = removed which n in
      Stage u file isn 0 n (moment other m ∷ moments_handed (let_go which n) m) (handed (let_go which n) m)
  unfolding removed
  stage_released which = stage_letting_go which (removed which n) (room_removed capacity n room which) refl (parts_removed capacity n room which _)

  -- a command's effect
  stage_effect : (at : ℕ) (c : Command) → let x = effect_at r at c n in let response = number x.answer.response in
      Stage u file isn 0 n (moment other x.nucleus ∷ moments_lined c r.call n response x.nucleus) (lined_as c response x.nucleus)
  unfolding effect_at removed backed_out
  stage_effect at Hi = quiet u file isn n _ (line_effect r at n Hi) (kept_held file isn r at n)
  stage_effect at Ri = go (eqb r.call.isn 0)
    where
      go : (b : Bool) → let which = cond b (Unchanged r.call.user) (One r.call.file r.call.isn) in
          let m = cond b (removed (Unchanged r.call.user) n) (removed (One r.call.file r.call.isn) n) in
          Stage u file isn 0 n (moment other m ∷ moments_handed (let_go which n) m) (handed (let_go which n) m)
      go true = stage_released (Unchanged r.call.user)
      go false = stage_released (One r.call.file r.call.isn)
  stage_effect at L1 = quiet u file isn n n refl (omega arith)
  stage_effect at L4 = quiet u file isn n _ (line_effect r at n L4) (kept_held file isn r at n)
  stage_effect at A1 = quiet u file isn n _ (line_effect r at n A1) (kept_written file isn r at n)
  stage_effect at E1 = quiet u file isn n _ (line_effect r at n E1) (kept_erased file isn r at n)
  stage_effect at N1 = quiet u file isn n _ (line_effect r at n N1) (kept_added file isn r at n)
  stage_effect at N2 = quiet u file isn n _ (line_effect r at n N2) (kept_written file isn r at n)
  stage_effect at Et =
      let which = All r.call.user in
      stage_letting_go which (ended_for r n) (room_removed capacity n room which) refl (parts_removed capacity n room which _)
  stage_effect at Bt =
      let which = All r.call.user in
      stage_letting_go which (backed_out r.call.user n) (room_removed capacity n room which) refl (parts_removed capacity n room which _)
  stage_effect at Re = quiet u file isn n n refl (omega arith)
  stage_effect at Op = quiet u file isn n _ refl (omega arith)
  stage_effect at Cl = quiet u file isn n _ refl (omega arith)
  stage_effect at Pe = quiet u file isn n _ refl (omega arith)

  -- "20 for one who joins or still waits"
  abbrev joined : Command → Nucleus
  joined c = change_line (joined_line c r.call) n

  stage_joined : (c : Command) → Stage u file isn 0 n (moment other (joined c) ∷ []) (joined c)
  stage_joined c = record { ends = refl; fair = (fair, tt); counted = omega arith; places = λ h. rw (places_joined c r.call n.state.wait_queue) h }
    where
      fair : Fair u file isn n (moment other (joined c))
      fair h out =
          let (more, behind) = waiters_joined c r.call n.state.wait_queue a.places in
          rw (behind, sift_append (is_of file isn) (waiters_of n) more, before_joined u (line_of file isn n) (sift (is_of file isn) more) h)
          (any_front (is_user u) (line_of file isn n) (sift (is_of file isn) more) h, omega arith)

  -- any other refusal
  stage_refused : (c : Command) (response : ℕ) → eqb response 0 ≡ false → Stage u file isn 0 n (moment other n ∷ moments_lined c r.call n response n) (lined_as c response n)
  stage_refused c response h = rw h (go (eqb response waiting_number))
    where
      go : (b : Bool) → Stage u file isn 0 n (moment other n ∷ cond b (moment other (joined c) ∷ []) []) (cond b (joined c) n)
      go true = followed u file isn (quiet u file isn n n refl (omega arith)) (stage_joined c)
      go false = quiet u file isn n n refl (omega arith)

  pub stage_performed : Stage u file isn 0 n (moments_performed r n) (after_line r n (perform r n)).nucleus
  unfolding moments_performed after_line perform
  stage_performed = go (first_cause (rows_last r n)) refl
    where
      go : (x : Option Response) → first_cause (rows_last r n) ≡ x
          → let y = unless x (refusal r.buffer n) (effect r n) in let response = number y.answer.response in
          Stage u file isn 0 n (moment other y.nucleus ∷ moments_lined r.command r.call n response y.nucleus) (lined r n response y.nucleus)
      go (Some cause) e = stage_refused r.command (number cause) (not_good r n cause e)
      go None e = stage_effect (target_isn r n) r.command
