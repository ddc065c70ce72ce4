-- What comes of a caller on a nucleus from its parts.
-- Assumes nothing.
use Rattle.std.specs.Prelude.{ℕ, ◌-◌, ◌≡◌, true, false, ◌&&◌, List, ltb, length, get_or, set, Option, Some, None}
use Rattle.std.proofs.Math.Path.{refl}
use Rattle.std.proofs.Common.{ap, ◌∙◌, get_or-set_same, ltb-true, ltb-false}
use Rattle.std.proofs.Math.ListN.{get_or-eq_default}
use Rattle.std.proofs.Math.Seq.{set_out}
use Rattle.definition.specs.declared.Definition.{Definition}
use Rattle.lists.specs.Tests.{Outcome, holds, fails, outcome}
use Rattle.nucleus.specs.Commands.{one_of, on_session}
use Rattle.nucleus.specs.Users.{fresh_user, opening, opened, is_active, with_overdue}
use Rattle.nucleus.specs.Nucleus.{Nucleus}
use Rattle.nucleus.specs.Rows.{first_cause, rows_after_session, is_overdue, session_in_transaction, ready_refused, access_refused, transaction_missing}
use Rattle.nucleus.specs.Clock.{forced_out}
use Rattle.nucleus.specs.Step.{turned_away, let_in, unless_refused, admitted_session, admitted_user}
use Rattle.nucleus.specs.declared.Call.{Call}
use Rattle.nucleus.specs.declared.Command.{Command}
use Rattle.nucleus.specs.declared.EtData.{EtData}
use Rattle.nucleus.specs.declared.Response.{Response}
use Rattle.nucleus.specs.declared.Response.TheVariants.{BackedOut}
use Rattle.nucleus.specs.declared.User.{User}
use Rattle.handing.specs.Parts.{parts, nucleus_of}
use Rattle.handing.specs.declared.Standing.{Standing}
use Rattle.shares.specs.Shares.{verdict, Verdict}
use Rattle.access.specs.Access.{session_cause, admission_of}

-- ---- after the clock, whatever else the state keeps
-- a user is judged by the session that opened; what is no user of the nucleus is judged alike without a session and with one that opens
opened_alike : {A : Type 0} (f : User → A) → f fresh_user ≡ f opening → (users : List User) (k : ℕ)
    → f (get_or (set users k (opened (get_or users k fresh_user))) k fresh_user) ≡ f (opened (get_or users k fresh_user))
opened_alike f same users k = go (outcome (ltb k (length users)))
  where
    go : Outcome (ltb k (length users)) → f (get_or (set users k (opened (get_or users k fresh_user))) k fresh_user) ≡ f (opened (get_or users k fresh_user))
    go (holds t) = ap f (get_or-set_same users k (opened (get_or users k fresh_user)) fresh_user (ltb-true _ _ t))
    go (fails t) =
        let past = ltb-false k (length users) t in
        rw (set_out users k (opened (get_or users k fresh_user)) past, get_or-eq_default users fresh_user past) same

module _ (c : Command) (call : Call) (d : Definition) (clock : ℕ) (s : Standing) (kept : List EtData) (assigned : List ℕ) (store queue images : List ℕ) where
  abbrev place : ℕ
  place = call.user - 1

  abbrev caller : User
  caller = get_or s.users place fresh_user

  abbrev here : Nucleus
  here = nucleus_of d clock s kept assigned store queue images

  -- with other users
  abbrev with_users : List User → Nucleus
  with_users users = parts d clock users kept assigned s.count s.wait_queue store queue images

  mark_is : is_overdue c call here ≡ caller.overdue
  unfolding is_overdue
  mark_is = refl

  session_is : session_in_transaction c call here ≡ (one_of on_session c && is_active caller)
  unfolding session_in_transaction
  session_is = refl

  cause_is : first_cause (rows_after_session c call (with_users (set s.users place (opened caller)))) ≡ session_cause c (opened caller)
  unfolding ready_refused access_refused transaction_missing session_cause
  cause_is = opened_alike (session_cause c) refl s.users place

  -- `user` is the caller as code has him, `users` what it leaves of the users
  module _ (user : User) (read : user ≡ caller) where
    pub marked : (users : List User) → user.overdue ≡ true → users ≡ set s.users place (with_overdue false user)
        → admitted_user c call here ≡ turned_away BackedOut (with_users users)
    unfolding admitted_user
    marked users late told = rw (told, read, mark_is ∙ rw read at late)

    module _ (unmarked : user.overdue ≡ false) where
      pub session_refused : (one_of on_session c && is_active user) ≡ true → admitted_user c call here ≡ turned_away BackedOut (forced_out call.user here)
      unfolding admitted_user
      session_refused active = rw (mark_is ∙ rw read at unmarked, session_is ∙ rw read at active)

      pub judged : (users : List User) (v : Verdict) → (one_of on_session c && is_active user) ≡ false → v ≡ verdict (session_cause c (opened user)) → users ≡ set s.users place (opened user)
          → admitted_user c call here ≡ admission_of v c (with_users users)
      unfolding admitted_user admitted_session
      judged users v free judgement people =
          rw (judgement, people, read, mark_is ∙ rw read at unmarked, session_is ∙ rw read at free, cause_is) (go (session_cause c (opened caller)))
        where
          after : Nucleus
          after = with_users (set s.users place (opened caller))

          go : (x : Option Response) → unless_refused x after (let_in c after) ≡ admission_of (verdict x) c after
          go (Some cause) = refl
          go None = refl
