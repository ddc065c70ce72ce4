-- The BTs of the claim, after any list of calls: each is answered 0, and the journal that is fed it strikes its user's open changes.
-- Assumes nothing.
use Rattle.std.specs.Prelude.{ℕ, ◌-◌, ◌≤◌, ◌≡◌, ◌≢◌, Bool, true, false, not, ◌&&◌, eqb}
use Rattle.std.proofs.Common.{arith, sym, subst, ◌∙◌, get_or-set_other}
use Rattle.std.proofs.Math.Path.{refl, ap}
use mathlib.Core.List.{List, [], ◌∷◌, map}
use Rattle.std.proofs.lemmas.Bool.{eqb-false, not-true}
use Rattle.lists.specs.Tests.{within, within_least, and_left, and_right, or_left, or_right}
use Rattle.lists.specs.Folds.{any, all, distinct}
use Rattle.lists.specs.Sift.{sift, sift_sift, sift_ext}
use Rattle.nucleus.specs.Commands.{command_of}
use Rattle.nucleus.specs.Responses.{number}
use Rattle.nucleus.specs.Nucleus.{Nucleus, Result, max_users}
use Rattle.database.specs.Database.{Database, in_words, direct_call}
use Rattle.nucleus.specs.Step.{step}
use Rattle.nucleus.specs.declared.Command.TheVariants.{Bt}
use Rattle.claim.specs.Journal.{Journal, Member, Waiter, member, new_member, ended_member, has_start, in_transaction, with_holds, others, hold_of, struck_changes, struck, log_leave, log_left_by, log_handed, log_let_go, fed}
use Rattle.claim.specs.Run.{World, BackOut, called, run, bt, back_outs, struck_all}
use Rattle.claim.specs.Claim.{users_of, Chosen}
use Rattle.claim.specs.Answers.{Answered, answers}
use Rattle.claim.specs.Lent.{Lent, Alike}
use Rattle.history.proofs.Sizes.{alike_self, alike_then}
use Rattle.history.specs.HandLogs.{spared_let_go}
use Rattle.history.proofs.Passing.{Passed}
use Rattle.history.proofs.Performing.{passed_left_by}
use Rattle.history.proofs.Stepping.{stepped}
use Rattle.history.proofs.EntryLists.{passed_called, queue_called}
use Rattle.history.proofs.Resting.{journal_rests, bt_good, inside}

-- another user is in his transaction still
still_in : (j : Journal) (u v : ℕ) → 1 ≤ u → eqb u v ≡ false → in_transaction j v ≡ true → in_transaction (struck u j) v ≡ true
unfolding struck struck_changes log_leave
still_in j u v least apart h =
    let v_in : within 1 max_users v ≡ true = and_left (within 1 max_users v) (has_start (member j v).start) h in
    let ne : u ≡ v → ⊥ = eqb-false u v apart in
    let other : v - 1 ≢ u - 1 = λ e. ne (omega (arith, e, least, within_least 1 max_users v v_in)) in
    let same : member (struck_changes u j) v ≡ member j v = get_or-set_other j.members (u - 1) (v - 1) (ended_member (member j u)) new_member other in
    let started : has_start (member (struck_changes u j) v).start ≡ true = ap (λ (m : Member). has_start m.start) same ∙ and_right (within 1 max_users v) (has_start (member j v).start) h in
    rw v_in (ap (λ (m : Member). has_start m.start) ((spared_let_go (hold_of u) (log_leave u (struck_changes u j))).same_member v started) ∙ started)

-- who has left the line leaves it no more
struck_left : (u : ℕ) (j : Journal) → struck u (log_leave u j) ≡ struck u j
unfolding struck struck_changes log_leave log_let_go
struck_left u j = ap (λ (line : List Waiter). log_handed (sift (hold_of u) j.holds) (with_holds (sift (λ h. not (hold_of u h)) j.holds) line (struck_changes u j))) twice
  where
    both : (b : Bool) → (not b && not b) ≡ not b
    both true = refl
    both false = refl

    twice : others u (others u j.line) ≡ others u j.line
    twice =
        sift_sift (λ w. not (eqb w.user u)) (λ w. not (eqb w.user u)) j.line
        ∙ sift_ext (λ w. not (eqb w.user u) && not (eqb w.user u)) (λ w. not (eqb w.user u)) (λ w. both (eqb w.user u)) j.line

all_still : (j : Journal) (u : ℕ) → 1 ≤ u → (us : List ℕ) → any (eqb u) us ≡ false → all (in_transaction j) us ≡ true → all (in_transaction (struck u j)) us ≡ true
all_still j u least [] f h = refl
all_still j u least (v ∷ us) f h = rw (
  still_in j u v least (or_left (eqb u v) (any (eqb u) us) f) (and_left (in_transaction j v) (all (in_transaction j) us) h),
  all_still j u least us (or_right (eqb u v) (any (eqb u) us) f) (and_right (in_transaction j v) (all (in_transaction j) us) h),
)

module _ (capacity : ℕ) (lent : Lent ℕ) where
  -- ---- the first of them
  module _ (n : Nucleus) (j : Journal) (p : Passed capacity lent n j) (b : BackOut) (bs : List BackOut) (c : Chosen (b ∷ bs) j) where
    abbrev u : ℕ
    u = b.user

    abbrev us : List ℕ
    us = users_of bs

    active : in_transaction j u ≡ true
    active = and_left (in_transaction j u) (all (in_transaction j) us) c.active

    abbrev x : Result
    x = step capacity (bt b).call b.format b.buffer n

    abbrev fed_bt : Journal
    fed_bt = fed (bt b).call b.format b.buffer (number x.answer.response) x.answer.isn j

    answered_zero : eqb (number x.answer.response) 0 ≡ true
    answered_zero = ap (λ c. eqb (number c) 0) (bt_good capacity lent n j p b active)

    struck_bt : fed_bt ≡ struck u j
    unfolding fed command_of log_left_by
    struck_bt =
        ap (λ c. fed (bt b).call b.format b.buffer (number c) x.answer.isn j) (bt_good capacity lent n j p b active)
        ∙ ap (struck u) (journal_rests capacity lent _ _ (passed_left_by capacity lent n j p Bt (bt b).call))
        ∙ struck_left u j

    passed_fed : Passed capacity lent x.nucleus fed_bt
    passed_fed = (stepped capacity lent n j p (bt b).call b.format b.buffer).passed

    passed_bt : Passed capacity lent x.nucleus (struck u j)
    passed_bt = subst (λ i. Passed capacity lent x.nucleus i) struck_bt passed_fed

    -- the others are chosen still
    chosen_left : Chosen bs (struck u j)
    chosen_left =
        let once = not-true (any (eqb u) us) (and_left (not (any (eqb u) us)) (distinct eqb us) c.different) in
        record {
          different = and_right (not (any (eqb u) us)) (distinct eqb us) c.different;
          active = all_still j u (within_least 1 max_users u (inside capacity lent n j p b active)) us once (and_right (in_transaction j u) (all (in_transaction j) us) c.active);
        }

    chosen_fed : Chosen bs fed_bt
    chosen_fed = subst (λ i. Chosen bs i) (sym struck_bt) chosen_left

  -- ---- all of them, on a list of entries
  abbrev InWords : Database → Journal → Type 0
  InWords b j = Passed capacity lent (in_words capacity b) j

  -- the first has gone
  module _ (n : Database) (j : Journal) (p : InWords n j) (b : BackOut) (bs : List BackOut) (c : Chosen (b ∷ bs) j) where
    abbrev pub next : Database
    next = (direct_call capacity (bt b).call b.format b.buffer n).database

    fed_next : InWords next (fed_bt (in_words capacity n) j p b bs c)
    fed_next = passed_called capacity lent n j p (bt b).call b.format b.buffer

    struck_next : InWords next (struck b.user j)
    struck_next = subst (InWords next) (struck_bt (in_words capacity n) j p b bs c) fed_next

  pub passed_back_outs : (bs : List BackOut) (n : Database) (j : Journal) → InWords n j → Chosen bs j → InWords (back_outs capacity bs n) (struck_all bs j)
  passed_back_outs [] n j p c = p
  passed_back_outs (b ∷ bs) n j p c =
      passed_back_outs bs (next n j p b bs c) (struck b.user j) (struck_next n j p b bs c) (chosen_left (in_words capacity n) j p b bs c)

  pub queue_back_outs : (bs : List BackOut) (n : Database) (j : Journal) → InWords n j → Chosen bs j → Alike capacity (back_outs capacity bs n).queue n.queue
  queue_back_outs [] n j p c = alike_self capacity n.queue
  queue_back_outs (b ∷ bs) n j p c = alike_then capacity _ _ _
      (queue_back_outs bs (next n j p b bs c) (struck b.user j) (struck_next n j p b bs c) (chosen_left (in_words capacity n) j p b bs c))
      (queue_called capacity lent n j p (bt b).call b.format b.buffer)

  pub accepted_back_outs : (bs : List BackOut) (w : World) → InWords w.database w.journal → Chosen bs w.journal
      → all (λ (a : Answered). eqb a.response 0) (answers capacity (map bt bs) w) ≡ true
  unfolding direct_call
  accepted_back_outs [] w p c = refl
  accepted_back_outs (b ∷ bs) w p c =
      let n = in_words capacity w.database in
      let j = w.journal in
      rw (answered_zero n j p b bs c) (accepted_back_outs bs (called capacity (bt b) w) (fed_next w.database j p b bs c) (chosen_fed n j p b bs c))

  pub fed_back_outs : (bs : List BackOut) (w : World) → InWords w.database w.journal → Chosen bs w.journal
      → (run capacity (map bt bs) w).journal ≡ struck_all bs w.journal
  unfolding run direct_call
  fed_back_outs [] w p c = refl
  fed_back_outs (b ∷ bs) w p c =
      let n = in_words capacity w.database in
      let j = w.journal in
      fed_back_outs bs (called capacity (bt b) w) (fed_next w.database j p b bs c) (chosen_fed n j p b bs c) ∙ ap (struck_all bs) (struck_bt n j p b bs c)
