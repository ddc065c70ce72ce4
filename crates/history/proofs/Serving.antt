-- A call past its clock: whatever it answers, what is kept stays so, and the journal is told the same.
-- Assumes nothing.
use Rattle.std.specs.Prelude.{ℕ, ◌≤◌, ◌≡◌, Bool, false, ◌&&◌, ◌||◌, List, [], ◌∷◌, ◌⊎◌, eqb, ltb, length, Some, None}
use Rattle.std.proofs.Math.Path.{refl, ap}
use Rattle.std.proofs.Common.{sym, subst, inl, inr}
use Rattle.std.proofs.Math.Bool.{true, not}
use borrow.Author.Tests.{not-false}
use Rattle.lists.specs.Tests.{cond, Outcome, holds, fails, outcome, not_both, and_left, and_right}
use Rattle.lists.specs.Folds.{all}
use Rattle.removal.specs.declared.Removal.{Removal}
use Rattle.removal.specs.declared.Removal.TheVariants.{One, Unchanged}
use Rattle.nucleus.specs.Commands.{one_of, on_file, at_given_isn, holding, changing_held, may_wait, letting_go, on_session, serving_access_only, option_H, option_A}
use Rattle.nucleus.specs.Users.{is_active}
use Rattle.nucleus.specs.Responses.{number}
use Rattle.nucleus.specs.Nucleus.{Nucleus, Request, Result, max_users, max_et_data, user_of}
use Rattle.nucleus.specs.Target.{is_holder, is_changed, file_place, holder_of, target, target_isn, held_by_caller, new_record}
use Rattle.nucleus.specs.Clock.{removed}
use Rattle.nucleus.specs.Waiters.{in_line, let_go, lets_go, handed}
use Rattle.nucleus.specs.Step.{after_line}
use Rattle.nucleus.specs.Rows.{Row, first_cause, access_refused, transaction_missing, record_length_refused, not_held, release_refused}
use Rattle.nucleus.specs.Effects.{held, effect_at, released, written, erased, with_last}
use Rattle.nucleus.specs.declared.Command.{Command}
use Rattle.nucleus.specs.declared.Command.TheVariants.{Hi, Ri, L1, L4, A1, E1, N1, N2, Et, Bt, Re, Op, Cl, Pe}
use Rattle.nucleus.specs.declared.Response.{Response}
use Rattle.claim.specs.Journal.{Journal, add, is_early, log_hold, log_update, released as released_by, log_let_go, log_accepted, log_answered}
use Rattle.claim.specs.Lent.{Lent}
use Rattle.history.specs.Kept.{Kept}
use Rattle.history.specs.Accepted.{Accepted, is_cause}
use Rattle.history.proofs.Keeping.{kept_assigned}
use Rattle.history.proofs.Lines.{goes_released, lined_like}
use Rattle.history.proofs.Passing.{Passed}
use Rattle.history.proofs.Holding.{Serving, holdable_at}
use Rattle.history.proofs.Releasing.{kept_release, kept_release_all}
use Rattle.history.proofs.Performing.{passed_held, passed_released, passed_backed_out, passed_ended, passed_opened, passed_closed, passed_ready}
use Rattle.history.proofs.Changes.{Changes, replaces, erases, adds, adds_there, rest_fails, Aim, aim, aim_given}
use Rattle.history.proofs.ChangesLogged.{update_of, slot_of}
use Rattle.history.proofs.ChangesEffect.{Changed, written_changed, erased_changed}
use Rattle.history.proofs.Changing.{held_here, passed_changed}

-- ---- a cause that is neither 0 nor 9, nor of 72's row or an earlier one
abbrev pub plain : Response → Bool
plain c = not (eqb (number c) 0) && not (eqb (number c) 9) && not (is_early (number c))

-- where the causes of all rows are so, the first is
pub first_such : (q : Response → Bool) (rs : List Row) → all (λ (r : Row). q r.cause) rs ≡ true → (c : Response) → first_cause rs ≡ Some c → q c ≡ true
first_such q [] h c e = not_both false (ap is_cause e) refl
first_such q (r ∷ rs) h c e = go (outcome r.holds) (first_such q rs (and_right (q r.cause) (all (λ (x : Row). q x.cause) rs) h) c)
  where
    go : Outcome r.holds → (first_cause rs ≡ Some c → q c ≡ true) → q c ≡ true
    go (holds t) later = let same : r.cause ≡ c = cc (rw t at e) in rw (← same) (and_left (q r.cause) (all (λ (x : Row). q x.cause) rs) h)
    go (fails t) later = later (rw t at e)

-- a row that fails although its second part holds
front_fails : (a b : Bool) → b ≡ true → (a && b) ≡ false → a ≡ false
front_fails true b t h = not_both b t h
front_fails false b t h = refl

-- ---- a caller whose session is open
pub record Caller (r : Request) (n : Nucleus) : Type 0 where
  pub least : 1 ≤ r.call.user
  pub most : r.call.user ≤ max_users
  pub session : (user_of n r.call.user).session ≡ true
  pub not_overdue : (user_of n r.call.user).overdue ≡ false
  pub idle : one_of on_session r.command ≡ true → is_active (user_of n r.call.user) ≡ false
  pub access : access_refused r.command r.call n ≡ false
  pub present : transaction_missing r.command r.call n ≡ false
  -- by another call than one that may wait he has left the line
  pub away : one_of may_wait r.command ≡ false → in_line n.state.wait_queue r.call.user ≡ false

-- row 29
pub serving_caller : (r : Request) (n : Nucleus) → Caller r n → one_of serving_access_only r.command ≡ false → Serving r.call.user n
unfolding access_refused
serving_caller r n y other = record {
  least = y.least;
  most = y.most;
  session = y.session;
  not_overdue = y.not_overdue;
  changing = front_fails (user_of n r.call.user).access_only (not (one_of serving_access_only r.command)) (rw other) y.access;
}

-- what a call answers and leaves, beside what the journal makes of it
pub record Served (lent : Lent ℕ) (r : Request) (j : Journal) (c : Command) (x : Result) : Type 0 where
  pub passed : Passed r.capacity lent x.nucleus (log_answered (Some c) r.call r.format r.buffer (number x.answer.response) x.answer.isn j)
  pub not_early : is_early (number x.answer.response) ≡ false

module _ (lent : Lent ℕ) (n : Nucleus) (j : Journal) (r : Request) (p : Passed r.capacity lent n j) (y : Caller r n) (a : Accepted r n) where
  abbrev u : ℕ
  u = r.call.user

  abbrev isn : ℕ
  isn = target_isn r n

  abbrev k : Kept r.capacity lent n j
  k = p.kept

  abbrev serving : one_of serving_access_only r.command ≡ false → Serving u n
  serving other = serving_caller r n y other

  -- ---- HI and L4
  module _ (c : (r.command ≡ Hi) ⊎ (r.command ≡ L4)) where
    -- of these two a test says one thing
    as_both : (t : Command → Bool) (b : Bool) → t Hi ≡ b → t L4 ≡ b → t r.command ≡ b
    as_both t b h l = go c
      where
        go : (r.command ≡ Hi) ⊎ (r.command ≡ L4) → t r.command ≡ b
        go (inl e) = rw e h
        go (inr e) = rw e l

    holds_isn : Passed r.capacity lent (held r isn n) (log_hold u r.call.file isn j)
    holds_isn =
        passed_held r.capacity lent n j p r isn (serving (as_both (one_of serving_access_only) false refl refl))
        (holdable_at r n a (as_both (one_of holding) true refl refl) (aim_given r n k.sized.shape a (as_both (one_of (N1 ∷ [])) false refl refl) (as_both (one_of at_given_isn) true refl refl) (as_both (one_of on_file) true refl refl)
        (as_both (λ d. one_of (Ri ∷ []) d && eqb r.call.isn 0) false refl refl)))

  -- ---- RI
  module _ (e : r.command ≡ Ri) where
    target_is : isn ≡ r.call.isn
    unfolding target
    target_is = rw e

    -- of one ISN
    module _ (one : eqb r.call.isn 0 ≡ false) where
      released_aim : Aim r n
      released_aim = aim_given r n k.sized.shape a (rw e) (rw e) (rw e) (rw (e, one))

      released_his : is_holder u (holder_of r n isn) ≡ true
      unfolding not_held
      released_his =
          let needs : ((one_of changing_held r.command && not (eqb r.call.option option_H)) || (one_of (Ri ∷ []) r.command && not (eqb r.call.isn 0))) ≡ true = rw (e, one) in
          not-false (held_by_caller r n) (rest_fails _ (not (held_by_caller r n)) needs a.held)

      released_new : is_changed (holder_of r n r.call.isn) ≡ false
      unfolding release_refused
      released_new = rw (e, one) at a.unchanged

      released_one : Kept r.capacity lent (removed (One r.call.file r.call.isn) n) j
      released_one =
          kept_release r.capacity lent n j k u r.call.file r.call.isn (rw target_is at released_aim.small) (rw target_is at released_his) released_new

    abbrev which : Removal
    which = lets_go Ri r.call

    released_is : released r n ≡ removed which n
    released_is = go (eqb r.call.isn 0)
      where
        go : (b : Bool) → cond b (removed (Unchanged u) n) (removed (One r.call.file r.call.isn) n) ≡ removed (cond b (Unchanged u) (One r.call.file r.call.isn)) n
        go true = refl
        go false = refl

    released_kept : Kept r.capacity lent (removed which n) j
    released_kept = go (outcome (eqb r.call.isn 0))
      where
        go : Outcome (eqb r.call.isn 0) → Kept r.capacity lent (removed which n) j
        go (holds t) = rw t (kept_release_all r.capacity lent n j k u)
        go (fails t) = rw t (released_one t)

    released_over : Passed r.capacity lent (handed (let_go which n) (released r n)) (log_let_go (released_by r.call) j)
    released_over =
        subst (λ m. Passed r.capacity lent (handed (let_go which n) m) (log_let_go (released_by r.call) j)) (sym released_is)
        (passed_released r.capacity lent n j p r which (released_by r.call) (goes_released r.call) released_kept)

  -- ---- A1, E1, N1, N2
  module _ (c : Changes r) (s : Serving u n) where
    changes_to : (m : Nucleus) → Changed r.capacity lent r n (slot_of r n c) m → Passed r.capacity lent m (log_update r.call isn (update_of r c) j)
    changes_to m ch = passed_changed lent n j r p s a c m ch

    to_written : Changed r.capacity lent r n (Some (new_record r n isn)) (written r isn n)
    to_written = written_changed r.capacity lent r n (aim r n k.sized.shape a k.assigned_sound c) (held_here lent n j r p s a c)

    to_erased : Changed r.capacity lent r n None (erased r isn n)
    to_erased = erased_changed r.capacity lent r n (aim r n k.sized.shape a k.assigned_sound c) (held_here lent n j r p s a c)

  -- N1 keeps the ISN that it gave
  added_new : (e : r.command ≡ N1) → Passed r.capacity lent (with_last r (file_place r n) isn (written r isn n)) (log_update r.call isn (add r.format r.buffer) j)
  added_new e =
      let c : Changes r = adds e in
      let s = serving (rw e) in
      let t = aim r n k.sized.shape a k.assigned_sound c in
      let ch = to_written c s in
      let after = changes_to c s (written r isn n) ch in
      rw t.found
      (record {
        kept = kept_assigned r.capacity lent (written r isn n) _ after.kept t.at isn (rw ch.definition t.in_use) (rw ch.definition t.inside.most);
        rested = after.rested;
        lined = lined_like after.lined refl refl refl;
      })

  -- ---- ET
  data_short : r.command ≡ Et → ltb max_et_data (length r.buffer) ≡ false
  unfolding record_length_refused
  data_short e = rw e at a.length

  -- ---- PE: row 212
  in_one : r.command ≡ Pe → is_active (user_of n u) ≡ true
  unfolding transaction_missing
  in_one e = not-false (is_active (user_of n u)) (rw e at y.present)

  -- ---- each command, and what it lets go handed over
  answered_good : (c : Command) → r.command ≡ c → (x : Result) → number x.answer.response ≡ 0
      → Passed r.capacity lent (cond (one_of letting_go c) (handed (let_go (lets_go c r.call) n) x.nucleus) x.nucleus) (log_accepted c r.call r.format r.buffer x.answer.isn j)
      → Served lent r j c (after_line r n x)
  unfolding after_line
  answered_good c e x good q =
      let lined_is : cond (one_of letting_go r.command) (handed (let_go (lets_go r.command r.call) n) x.nucleus) x.nucleus ≡ cond (one_of letting_go c) (handed (let_go (lets_go c r.call) n) x.nucleus) x.nucleus
      = ap (λ d. cond (one_of letting_go d) (handed (let_go (lets_go d r.call) n) x.nucleus) x.nucleus) e in
      record { passed = rw good (subst (λ m. Passed r.capacity lent m (log_accepted c r.call r.format r.buffer x.answer.isn j)) (sym lined_is) q); not_early = rw good }

  pub served_effect : (c : Command) → r.command ≡ c → Served lent r j c (after_line r n (effect_at r isn c n))
  unfolding effect_at
  served_effect Hi e = answered_good Hi e _ refl (holds_isn (inl e))
  served_effect Ri e = answered_good Ri e _ refl (released_over e)
  served_effect L1 e = answered_good L1 e _ refl p
  served_effect L4 e = answered_good L4 e _ refl (holds_isn (inr e))
  served_effect A1 e = answered_good A1 e _ refl (changes_to (replaces e) (serving (rw e)) _ (to_written (replaces e) (serving (rw e))))
  served_effect E1 e = answered_good E1 e _ refl (changes_to (erases e) (serving (rw e)) _ (to_erased (erases e) (serving (rw e))))
  served_effect N1 e = answered_good N1 e _ refl (added_new e)
  served_effect N2 e = answered_good N2 e _ refl (changes_to (adds_there e) (serving (rw e)) _ (to_written (adds_there e) (serving (rw e))))
  served_effect Et e = answered_good Et e _ refl (passed_ended r.capacity lent n j p r y.least y.most (data_short e))
  served_effect Bt e = answered_good Bt e _ refl (passed_backed_out r.capacity lent n j p r y.least y.most (y.away (rw e)))
  served_effect Re e = answered_good Re e _ refl p
  served_effect Op e =
      answered_good Op e _ refl
      (passed_opened r.capacity lent n j p r y.least y.most (y.idle (rw e)) (y.away (rw e)) y.session r.call.isn r.call.limit (eqb r.call.option option_A))
  served_effect Cl e = answered_good Cl e _ refl (passed_closed r.capacity lent n j p r y.least y.most (y.idle (rw e)) (y.away (rw e)))
  served_effect Pe e = answered_good Pe e _ refl (passed_ready r.capacity lent n j p r y.least y.most (in_one e))
