-- What a hand-over leaves of the journal (document 02, No. 1): its clock and changes, whoever is in a transaction, and a line that nobody joins.
-- Assumes nothing.
use Rattle.std.specs.Prelude.{ℕ, zero, suc, ◌+◌, ◌-◌, max, ◌≡◌, refl, Bool, true, false, not, ◌&&◌, List, [], ◌∷◌, eqb, set, get_or, Option, Some, None}
use Rattle.std.proofs.Common.{ap, ◌∙◌, get_or-set_other, eqb-true}
use Rattle.std.proofs.lemmas.List.{set-get_or}
use Rattle.std.proofs.lemmas.Bool.{eqb-false}
use Rattle.lists.specs.Tests.{cond, Outcome, holds, fails, outcome, not_both}
use Rattle.lists.specs.Folds.{any, any_none}
use Rattle.lists.specs.Sift.{sift, any_left, any_sift}
use Rattle.nucleus.specs.Commands.{one_of, may_wait}
use Rattle.nucleus.specs.Nucleus.{max_users}
use Rattle.nucleus.specs.declared.Call.{Call}
use Rattle.nucleus.specs.declared.Command.{Command}
use Rattle.claim.specs.Journal.{Journal, Member, Hold, Waiter, new_member, member, has_start, start_at, log_start, with_holds, others, in_line, next_user, log_handed_to, log_handed_on, log_handed, hold_of, log_let_go, log_leave, log_left_by, struck_changes, struck, is_late, strike_late, strike_late_from, log_clock}

-- ---- whoever is in a transaction is so still, whoever starts one
pub started_same : (u v : ℕ) (j : Journal) → has_start (member j v).start ≡ true → member (log_start u j) v ≡ member j v
unfolding log_start
started_same u v j h = go (outcome (eqb (v - 1) (u - 1)))
  where
    m : ℕ → Member
    m w = record { limit = (member j w).limit; start = start_at j.clock (member j w).start; ready = (member j w).ready }

    started_at : (x : Option ℕ) → has_start x ≡ true → start_at j.clock x ≡ x
    started_at None t = not_both false t refl
    started_at (Some begun) t = refl

    like : (w : ℕ) → has_start (member j w).start ≡ true → m w ≡ member j w
    like w t = λ i. record { limit = (member j w).limit; start = started_at (member j w).start t i; ready = (member j w).ready }

    go : Outcome (eqb (v - 1) (u - 1)) → get_or (set j.members (u - 1) (m u)) (v - 1) new_member ≡ member j v
    go (holds t) =
        let same = eqb-true (v - 1) (u - 1) t in
        let his : has_start (member j u).start ≡ true = rw (← same) h in
        ap (λ (ms : List Member). get_or ms (v - 1) new_member) (ap (set j.members (u - 1)) (like u his) ∙ set-get_or j.members (u - 1) new_member)
    go (fails t) = get_or-set_other j.members (u - 1) (v - 1) (m u) new_member (eqb-false (v - 1) (u - 1) t)

-- ---- what stays as it was
pub record Spared (j after : Journal) : Type 0 where
  pub same_clock : after.clock ≡ j.clock
  pub same_changes : after.changes ≡ j.changes
  pub same_member : (v : ℕ) → has_start (member j v).start ≡ true → member after v ≡ member j v
  pub not_joined : (v : ℕ) → in_line v j.line ≡ false → in_line v after.line ≡ false

pub spared_none : (j : Journal) → Spared j j
spared_none j = record { same_clock = refl; same_changes = refl; same_member = λ v t. refl; not_joined = λ v t. t }

pub spared_then : (a b c : Journal) → Spared a b → Spared b c → Spared a c
spared_then a b c p q = record {
  same_clock = q.same_clock ∙ p.same_clock;
  same_changes = q.same_changes ∙ p.same_changes;
  same_member = λ v t. q.same_member v (ap (λ (m : Member). has_start m.start) (p.same_member v t) ∙ t) ∙ p.same_member v t;
  not_joined = λ v t. q.not_joined v (p.not_joined v t);
}

spared_to : (x : Option ℕ) (file isn : ℕ) (j : Journal) → Spared j (log_handed_to x file isn j)
unfolding log_start
spared_to None file isn j = spared_none j
spared_to (Some u) file isn j = record {
  same_clock = refl;
  same_changes = refl;
  same_member = λ v t. started_same u v j t;
  not_joined = λ v t. any_left (λ w. not (eqb w.user u)) (λ w. eqb w.user v) j.line t;
}

pub spared_on : (file isn : ℕ) (j : Journal) → Spared j (log_handed_on file isn j)
unfolding log_handed_on
spared_on file isn j = spared_to (next_user file isn j.line) file isn j

pub spared : (hs : List Hold) (j : Journal) → Spared j (log_handed hs j)
spared [] j = spared_none j
spared (h ∷ hs) j = spared_then j (log_handed_on h.file h.isn j) _ (spared_on h.file h.isn j) (spared hs (log_handed_on h.file h.isn j))

pub spared_let_go : (goes : Hold → Bool) (j : Journal) → Spared j (log_let_go goes j)
unfolding log_let_go
spared_let_go goes j =
    let q = spared (sift goes j.holds) (with_holds (sift (λ h. not (goes h)) j.holds) j.line j) in
    record { same_clock = q.same_clock; same_changes = q.same_changes; same_member = q.same_member; not_joined = q.not_joined }

pub spared_leave : (u : ℕ) (j : Journal) → Spared j (log_leave u j)
unfolding log_leave
spared_leave u j = record {
  same_clock = refl;
  same_changes = refl;
  same_member = λ v t. refl;
  not_joined = λ v t. any_left (λ w. not (eqb w.user u)) (λ w. eqb w.user v) j.line t;
}

-- he is not in the line that he left
pub left_out : (u : ℕ) (line : List Waiter) → in_line u (others u line) ≡ false
left_out u line =
    any_sift (λ w. not (eqb w.user u)) (λ w. eqb w.user u) line
    ∙ any_none (λ w. not (eqb w.user u) && eqb w.user u) (λ w. never (eqb w.user u)) line
  where
    never : (b : Bool) → (not b && b) ≡ false
    never true = refl
    never false = refl

-- ---- nobody joins by a back-out, nor by the clock
pub struck_not_joined : (u v : ℕ) (j : Journal) → in_line v j.line ≡ false → in_line v (struck u j).line ≡ false
unfolding struck struck_changes
struck_not_joined u v j h = (spared_let_go (hold_of u) (log_leave u (struck_changes u j))).not_joined v ((spared_leave u (struck_changes u j)).not_joined v h)

late_not_joined : (more u v : ℕ) (j : Journal) → in_line v j.line ≡ false → in_line v (strike_late_from more u j).line ≡ false
late_not_joined zero u v j h = h
late_not_joined (suc more) u v j h = late_not_joined more (u + 1) v (strike_late u j) (go (is_late j.clock (member j u)))
  where
    go : (b : Bool) → in_line v (cond b (struck u j) j).line ≡ false
    go true = struck_not_joined u v j h
    go false = h

pub clock_not_joined : (clock v : ℕ) (j : Journal) → in_line v j.line ≡ false → in_line v (log_clock clock j).line ≡ false
unfolding log_clock
clock_not_joined clock v j h =
    late_not_joined max_users 1 v (record { clock = max j.clock clock; members = j.members; changes = j.changes; holds = j.holds; line = j.line }) h

-- a call of a command that may not wait leaves the line
pub left_by_out : (c : Command) (call : Call) (j : Journal) → one_of may_wait c ≡ false → in_line call.user (log_left_by (Some c) call j).line ≡ false
unfolding log_left_by log_leave
left_by_out c call j h = rw h (left_out call.user j.line)
