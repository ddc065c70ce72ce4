-- Whom the journal has ready it waits for (document 02, No. 12): calls of others, at whatever clocks, leave him as he is, with his changes.
-- Assumes nothing.
use Prim.Native.Nat.{ℕ, zero, suc, ◌+◌, ◌-◌, ◌≤◌, max}
use Rattle.std.proofs.Common.{arith, sym, ap, ◌∙◌, append-nil, eqb-true}
use Rattle.std.specs.Prelude.{◌≡◌, ◌≢◌, Bool, ◌&&◌, List, [], ◌∷◌, map, eqb, Option, Some, None}
use Rattle.std.proofs.Math.Path.{refl}
use Rattle.std.proofs.Math.Bool.{true, false, not, and-true}
use Rattle.std.proofs.Math.Seq.{get_or-set_other}
use Rattle.std.proofs.lemmas.Bool.{eqb-false}
use Rattle.lists.specs.Tests.{cond, Outcome, holds, fails, outcome, and-false}
use Rattle.lists.specs.Sift.{keep, sift, sift_sift, sift_ext, sift_map, sift_append}
use Rattle.nucleus.specs.Commands.{direct_commands, command_of, one_of, on_session}
use Rattle.nucleus.specs.Nucleus.{max_users}
use Rattle.nucleus.specs.declared.Call.{Call}
use Rattle.nucleus.specs.declared.Command.{Command}
use Rattle.nucleus.specs.declared.Command.TheVariants.{Hi, Ri, L1, L4, A1, E1, N1, N2, Et, Bt, Re, Op, Cl, Pe}
use Rattle.claim.specs.Journal.{Journal, Member, Change, Update, Hold, Waiter, new_member, member, with_member, has_start, strikes, struck_changes, struck, is_late, strike_late, strike_late_from, log_clock, log_start, log_change, commits, log_end, log_limit, log_ready, with_holds, hold_of, log_hold, log_mark, log_update, released, log_let_go, log_leave, log_join, keeps_place, log_left_by, log_accepted, log_answered, is_early, fed}
use Rattle.claim.specs.Statements.{changes_of}
use Rattle.history.specs.HandLogs.{Spared, spared_let_go}

-- ---- what is left of a user
pub record Awaited (u : ℕ) (j after : Journal) : Type 0 where
  pub same_member : member after u ≡ member j u
  pub same_changes : changes_of u after ≡ changes_of u j

pub awaited_still : (u : ℕ) (j : Journal) → Awaited u j j
awaited_still u j = record { same_member = refl; same_changes = refl }

pub awaited_then : (u : ℕ) (a b c : Journal) → Awaited u a b → Awaited u b c → Awaited u a c
awaited_then u a b c p q = record { same_member = q.same_member ∙ p.same_member; same_changes = q.same_changes ∙ p.same_changes }

-- ---- what is done to another
module _ (u v : ℕ) (u_least : 1 ≤ u) (v_least : 1 ≤ v) (apart : eqb v u ≡ false) where
  abbrev his : Change → Bool
  his c = eqb c.user u

  places_apart : u - 1 ≢ v - 1
  places_apart e = eqb-false v u apart (omega (arith, e, u_least, v_least))

  -- a change of his is none of the other's
  not_other : (c : Change) → his c ≡ true → eqb c.user v ≡ false
  not_other c h = go (outcome (eqb c.user v))
    where
      go : Outcome (eqb c.user v) → eqb c.user v ≡ false
      go (fails t) = t
      go (holds t) =
          let same : v ≡ u = sym (eqb-true c.user v t) ∙ eqb-true c.user u h in
          absurd (eqb-false v u apart same)

  awaited_member : (m : Member) (j : Journal) → Awaited u j (with_member v m j)
  awaited_member m j = record { same_member = get_or-set_other j.members (v - 1) (u - 1) m new_member places_apart; same_changes = refl }

  awaited_struck_changes : (j : Journal) → Awaited u j (struck_changes v j)
  unfolding struck_changes
  awaited_struck_changes j = record {
    same_member = get_or-set_other j.members (v - 1) (u - 1) _ new_member places_apart;
    same_changes = sift_sift his (λ c. not (strikes v c)) j.changes ∙ sift_ext (λ c. not (strikes v c) && his c) his stays j.changes;
  }
    where
      stays : (c : Change) → (not (strikes v c) && his c) ≡ his c
      stays c = go (outcome (his c))
        where
          go : Outcome (his c) → (not (strikes v c) && his c) ≡ his c
          go (holds t) = rw (t, not_other c t, and-false c.uncommitted)
          go (fails t) = rw (t, and-false (not (strikes v c)))

  -- an end of the other's transaction leaves his changes open
  same_commits : (cs : List Change) → map (commits v) (sift his cs) ≡ sift his cs
  same_commits [] = refl
  same_commits (c ∷ cs) = go (outcome (his c)) (same_commits cs)
    where
      open_still : his c ≡ true → (c.uncommitted && not (eqb c.user v)) ≡ c.uncommitted
      open_still t = rw (not_other c t) (and-true c.uncommitted)

      go : Outcome (his c) → map (commits v) (sift his cs) ≡ sift his cs → map (commits v) (keep (his c) c (sift his cs)) ≡ keep (his c) c (sift his cs)
      go (holds t) rest = rw t (λ i. record { user = c.user; file = c.file; isn = c.isn; update = c.update; uncommitted = open_still t i } ∷ rest i)
      go (fails t) rest = rw t rest

  awaited_end : (j : Journal) → Awaited u j (log_end v j)
  unfolding log_end
  awaited_end j = record {
    same_member = get_or-set_other j.members (v - 1) (u - 1) _ new_member places_apart;
    same_changes = sift_map his (commits v) (λ c. refl) j.changes ∙ same_commits j.changes;
  }

  awaited_start : (j : Journal) → Awaited u j (log_start v j)
  unfolding log_start
  awaited_start j = awaited_member _ j

  awaited_limit : (limit : ℕ) (j : Journal) → Awaited u j (log_limit v limit j)
  unfolding log_limit
  awaited_limit limit j = awaited_member _ j

  awaited_ready : (j : Journal) → Awaited u j (log_ready v j)
  unfolding log_ready
  awaited_ready j = awaited_member _ j

awaited_change : (u : ℕ) (call : Call) → eqb call.user u ≡ false → (isn : ℕ) (update : Update) (j : Journal) → Awaited u j (log_change call isn update j)
unfolding log_change
awaited_change u call apart isn update j = record {
  same_member = refl;
  same_changes = sift_append (λ (c : Change). eqb c.user u) j.changes _ ∙ rw apart (append-nil (changes_of u j));
}

-- ---- what is handed over, while he is in a transaction
abbrev pub is_started : Journal → ℕ → Bool
is_started j u = has_start (member j u).start

module _ (u : ℕ) where
  awaited_spared : (j after : Journal) → is_started j u ≡ true → Spared j after → Awaited u j after
  awaited_spared j after started h = record { same_member = h.same_member u started; same_changes = ap (sift (λ (c : Change). eqb c.user u)) h.same_changes }

  awaited_let_go : (goes : Hold → Bool) (j : Journal) → is_started j u ≡ true → Awaited u j (log_let_go goes j)
  awaited_let_go goes j started = awaited_spared j (log_let_go goes j) started (spared_let_go goes j)

  -- holds and lines are not his changes
  awaited_holds : (holds : List Hold) (line : List Waiter) (j : Journal) → Awaited u j (with_holds holds line j)
  awaited_holds hs line j = record { same_member = refl; same_changes = refl }

  awaited_leave : (v : ℕ) (j : Journal) → Awaited u j (log_leave v j)
  unfolding log_leave
  awaited_leave v j = record { same_member = refl; same_changes = refl }

  -- he is in it still
  still_started : (j after : Journal) → Awaited u j after → is_started j u ≡ true → is_started after u ≡ true
  still_started j after a started = ap (λ (m : Member). has_start m.start) a.same_member ∙ started

  awaited_struck : (v : ℕ) → 1 ≤ u → 1 ≤ v → eqb v u ≡ false → (j : Journal) → is_started j u ≡ true → Awaited u j (struck v j)
  unfolding struck
  awaited_struck v least v_least apart j started =
      let first = awaited_then u j (struck_changes v j) _ (awaited_struck_changes u v least v_least apart j) (awaited_leave v (struck_changes v j)) in
      awaited_then u j _ _ first (awaited_let_go (hold_of v) (log_leave v (struck_changes v j)) (still_started j _ first started))

-- ---- the clock, while he is ready
module _ (u : ℕ) (least : 1 ≤ u) where
  awaited_late : (v : ℕ) → 1 ≤ v → (j : Journal) → (member j u).ready ≡ true → is_started j u ≡ true → Awaited u j (strike_late v j)
  awaited_late v v_least j ready started = go (outcome (eqb v u))
    where
      other : (b : Bool) → eqb v u ≡ false → Awaited u j (cond b (struck v j) j)
      other true apart = awaited_struck u v least v_least apart j started
      other false apart = awaited_still u j

      go : Outcome (eqb v u) → Awaited u j (strike_late v j)
      go (holds t) = rw (eqb-true v u t, ready) (awaited_still u j)
      go (fails t) = other (is_late j.clock (member j v)) t

  awaited_from : (more v : ℕ) → 1 ≤ v → (j : Journal) → (member j u).ready ≡ true → is_started j u ≡ true → Awaited u j (strike_late_from more v j)
  awaited_from zero v v_least j ready started = awaited_still u j
  awaited_from (suc more) v v_least j ready started =
      let first = awaited_late v v_least j ready started in
      awaited_then u j (strike_late v j) _ first
      (awaited_from more (v + 1) (omega arith) (strike_late v j) (ap (λ (m : Member). m.ready) first.same_member ∙ ready) (still_started u j _ first started))

  pub awaited_clock : (clock : ℕ) (j : Journal) → (member j u).ready ≡ true → is_started j u ≡ true → Awaited u j (log_clock clock j)
  unfolding log_clock
  awaited_clock clock j ready started =
      let q = awaited_from max_users 1 (omega arith) (record { clock = max j.clock clock; members = j.members; changes = j.changes; holds = j.holds; line = j.line }) ready started in
      record { same_member = q.same_member; same_changes = q.same_changes }

  -- ---- the line that a call leaves, and its clock
  awaited_left_by : (x : Option Command) (call : Call) (j : Journal) → Awaited u j (log_left_by x call j)
  unfolding log_left_by
  awaited_left_by x call j = go (keeps_place x call j.line)
    where
      go : (b : Bool) → Awaited u j (cond b j (log_leave call.user j))
      go true = awaited_still u j
      go false = awaited_leave u call.user j

  pub awaited_past : (x : Option Command) (call : Call) (j : Journal) → (member j u).ready ≡ true → is_started j u ≡ true → Awaited u j (log_clock call.clock (log_left_by x call j))
  awaited_past x call j ready started =
      let left = awaited_left_by x call j in
      awaited_then u j (log_left_by x call j) _ left
      (awaited_clock call.clock (log_left_by x call j) (ap (λ (m : Member). m.ready) left.same_member ∙ ready) (still_started u j _ left started))

  -- ---- a call of another, whatever it was answered; 72 and earlier rows tell nothing
  module _ (call : Call) (format buffer : List ℕ) (isn : ℕ) (apart : eqb call.user u ≡ false) where
    module _ (v_least : 1 ≤ call.user) where
      abbrev v : ℕ
      v = call.user

      awaited_hold : (j : Journal) → Awaited u j (log_hold v call.file isn j)
      unfolding log_hold
      awaited_hold j = awaited_then u j _ _ (awaited_holds u _ _ j) (awaited_start u v least v_least apart _)

      awaited_changed : (update : Update) (j : Journal) → Awaited u j (log_update call isn update j)
      unfolding log_mark
      awaited_changed update j =
          awaited_then u j (log_hold v call.file isn j) _ (awaited_hold j) (awaited_then u (log_hold v call.file isn j) _ _ (awaited_holds u _ _ (log_hold v call.file isn j)) (awaited_change u call apart isn update _))

      module _ (j : Journal) (started : is_started j u ≡ true) where
        awaited_accepted : (c : Command) → Awaited u j (log_accepted c call format buffer isn j)
        awaited_accepted Hi = awaited_hold j
        awaited_accepted Ri = awaited_let_go u (released call) j started
        awaited_accepted L1 = awaited_still u j
        awaited_accepted L4 = awaited_hold j
        awaited_accepted A1 = awaited_changed _ j
        awaited_accepted E1 = awaited_changed _ j
        awaited_accepted N1 = awaited_changed _ j
        awaited_accepted N2 = awaited_changed _ j
        awaited_accepted Et = let first = awaited_end u v least v_least apart j in awaited_then u j (log_end v j) _ first (awaited_let_go u (hold_of v) (log_end v j) (still_started u j (log_end v j) first started))
        awaited_accepted Bt = awaited_struck u v least v_least apart j started
        awaited_accepted Re = awaited_still u j
        awaited_accepted Op = awaited_limit u v least v_least apart _ j
        awaited_accepted Cl = awaited_limit u v least v_least apart _ j
        awaited_accepted Pe = awaited_ready u v least v_least apart j

        awaited_answered : (x : Option Command) (response : ℕ) → Awaited u j (log_answered x call format buffer response isn j)
        unfolding log_join
        awaited_answered None response = awaited_still u j
        awaited_answered (Some c) response = go (eqb response 0) (eqb response 9 && one_of on_session c) (eqb response 20)
          where
            go : (good out joins : Bool) → Awaited u j (cond good (log_accepted c call format buffer isn j) (cond out (struck v j) (cond joins (log_join c call j) j)))
            go true out joins = awaited_accepted c
            go false true joins = awaited_struck u v least v_least apart j started
            go false false true = awaited_holds u _ _ j
            go false false false = awaited_still u j

    pub awaited_fed : (response : ℕ) (j : Journal) → (member j u).ready ≡ true → is_started j u ≡ true → (is_early response ≡ false → 1 ≤ call.user) → Awaited u j (fed call format buffer response isn j)
    unfolding fed
    awaited_fed response j ready started known = go (outcome (is_early response))
      where
        go : Outcome (is_early response) → Awaited u j (fed call format buffer response isn j)
        go (holds t) = rw t (awaited_still u j)
        go (fails t) =
            let c = command_of direct_commands call.command in
            let then = awaited_past c call j ready started in
            rw t
            (awaited_then u j (log_clock call.clock (log_left_by c call j)) _ then
            (awaited_answered (known t) (log_clock call.clock (log_left_by c call j)) (still_started u j _ then started) c response))
