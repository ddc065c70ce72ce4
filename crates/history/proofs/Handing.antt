-- The hand-over (document 02, No. 1): what was let go, of which the journal has the same, is handed to the first in line of each record. What is kept stays
-- so, nobody waits for it then who is not handed it, and nobody becomes overdue.
-- Assumes nothing.
use Rattle.std.specs.Prelude.{ℕ, ◌+◌, ◌-◌, ◌≤◌, ◌<◌, ◌≡◌, Bool, true, false, not, List, [], ◌∷◌, ◌++◌, map, eqb, length, set, Option, Some, None}
use Rattle.std.proofs.Common.{arith, ◌∙◌, get_or-set_same, get_or-set_other}
use Rattle.std.proofs.Math.Path.{refl}
use borrow.Author.Tests.{eqb-true, eqb-false, not-true, lt-ltb}
use Rattle.lists.specs.Tests.{Outcome, holds, fails, outcome, not_both, and_left, and_right, or_left, or_right}
use Rattle.lists.specs.Folds.{any, all, any_append, distinct, Each}
use Rattle.entries.specs.Entries.{is_of}
use Rattle.entries.specs.Laws.{Shape}
use Rattle.entries.specs.declared.Entry.{Entry}
use Rattle.queue.specs.Queue.{holder}
use Rattle.queue.specs.Laws.{is_held, held_any}
use Rattle.repeats.specs.Repeats.{alike}
use Rattle.ground.specs.Keys.{key, known}
use Rattle.ground.specs.Queue.{entry_known}
use Rattle.nucleus.specs.Users.{fresh_user, is_due, started}
use Rattle.nucleus.specs.Nucleus.{Nucleus, Request, request, user_of, entries_of}
use Rattle.nucleus.specs.Waiters.{first_in_line, left_line, left, taking, handed_to, handed_on, handed, record_there}
use Rattle.nucleus.specs.declared.User.{User}
use Rattle.nucleus.specs.declared.Command.TheVariants.{Hi}
use Rattle.claim.specs.Journal.{Journal, with_holds, others, in_line, next_user, log_start, log_handed_to, log_handed_on, log_handed}
use Rattle.claim.specs.Lent.{Lent}
use Rattle.history.specs.Kept.{Kept, definition_of, one_of_users}
use Rattle.history.specs.Lined.{Lined, hold_seen}
use Rattle.history.proofs.People.{user_other, started_quiet}
use Rattle.history.proofs.Keeping.{kept_line, kept_holds}
use Rattle.history.proofs.Holding.{Serving, Holdable, kept_anew}
use Rattle.history.specs.HandLogs.{spared_on}
use Rattle.history.proofs.LineLaws.{First}
use Rattle.history.proofs.Lines.{in_line_same, lined_journal}
use Rattle.history.proofs.LineMoves.{next_none, next_first, lined_first, taken, lined_none, lined_taken, entries_taking}

-- ---- what may be handed over: of the table, different, held by nobody, and with room for so many
pub record Handable (capacity : ℕ) (es : List Entry) (n : Nucleus) : Type 0 where
  pub each_known : all (entry_known (definition_of n)) es ≡ true
  pub shapes : Each Shape es
  pub different : distinct alike es ≡ true
  pub free : all (λ (e : Entry). not (any (is_of e.file e.isn) (entries_of n))) es ≡ true
  pub room : n.state.count + length es ≤ capacity

-- ---- what becomes of nucleus and journal
pub record HandedOver (capacity : ℕ) (lent : Lent ℕ) (gone : List Entry) (n : Nucleus) (j : Journal) (m : Nucleus) (i : Journal) : Type 0 where
  pub kept : Kept capacity lent m i
  pub lined : Lined gone m i
  pub clock : m.state.clock ≡ n.state.clock
  -- who was not due is not due: a receiver's transaction begins now
  pub quiet : (v : ℕ) → is_due n.state.clock (user_of n v) ≡ false → is_due n.state.clock (user_of m v) ≡ false
  -- who does not wait is as he was
  pub apart : (v : ℕ) → 1 ≤ v → in_line v j.line ≡ false → user_of m v ≡ user_of n v

-- a transaction that begins now is not due
started_no_sooner : (clock : ℕ) (us : List User) (u : ℕ) → u - 1 < length us → (v : ℕ) → is_due clock (one_of_users us v) ≡ false
    → is_due clock (one_of_users (set us (u - 1) (started clock (one_of_users us u))) v) ≡ false
started_no_sooner clock us u inside v h = go (outcome (eqb (v - 1) (u - 1)))
  where
    go : Outcome (eqb (v - 1) (u - 1)) → is_due clock (one_of_users (set us (u - 1) (started clock (one_of_users us u))) v) ≡ false
    go (holds t) =
        let same = eqb-true (v - 1) (u - 1) t in
        rw (same, get_or-set_same us (u - 1) (started clock (one_of_users us u)) fresh_user inside) (started_quiet clock (one_of_users us u) (rw (← same) h))
    go (fails t) = rw (get_or-set_other us (u - 1) (v - 1) (started clock (one_of_users us u)) fresh_user (eqb-false (v - 1) (u - 1) t)) h

-- a new entry of a record takes none that is unlike it
free_still : (e : Entry) (u : ℕ) (existed : Bool) (es fs : List Entry) → any (alike e) fs ≡ false → all (λ (f : Entry). not (any (is_of f.file f.isn) es)) fs ≡ true
    → all (λ (f : Entry). not (any (is_of f.file f.isn) (es ++ taken u e existed ∷ []))) fs ≡ true
free_still e u existed es [] unlike free = refl
free_still e u existed es (f ∷ fs) unlike free =
    let here : any (is_of f.file f.isn) es ≡ false = not-true _ (and_left (not (any (is_of f.file f.isn) es)) (all (λ (x : Entry). not (any (is_of x.file x.isn) es)) fs) free) in
    rw (any_append (is_of f.file f.isn) es (taken u e existed ∷ []), here, or_left (alike e f) (any (alike e) fs) unlike)
    (free_still e u existed es fs (or_right (alike e f) (any (alike e) fs) unlike) (and_right (not (any (is_of f.file f.isn) es)) (all (λ (x : Entry). not (any (is_of x.file x.isn) es)) fs) free))

module _ (capacity : ℕ) (lent : Lent ℕ) where
  abbrev Handed : List Entry → Nucleus → Journal → Nucleus → Journal → Type 0
  Handed = HandedOver capacity lent

  handed_then : (es : List Entry) (n a b : Nucleus) (j i k : Journal) → Handed es n j a i → ((v : ℕ) → in_line v j.line ≡ false → in_line v i.line ≡ false) → Handed [] a i b k → Handed [] n j b k
  handed_then es n a b j i k p shrinks q = record {
    kept = q.kept;
    lined = q.lined;
    clock = q.clock ∙ p.clock;
    quiet = λ v h. rw p.clock at (q.quiet v (rw p.clock (p.quiet v h)));
    apart = λ v least h. q.apart v least (shrinks v h) ∙ p.apart v least h;
  }

  -- ---- one of them
  module _ (e : Entry) (es : List Entry) (n : Nucleus) (j : Journal) (k : Kept capacity lent n j) (l : Lined (e ∷ es) n j) (h : Handable capacity (e ∷ es) n) where
    abbrev file : ℕ
    file = e.file

    abbrev isn : ℕ
    isn = e.isn

    -- nobody holds it
    none_holds : any (is_of file isn) (entries_of n) ≡ false
    none_holds = not-true _ (and_left (not (any (is_of file isn) (entries_of n))) (all (λ (f : Entry). not (any (is_of f.file f.isn) (entries_of n))) es) h.free)

    lookup_free : (x : Option (ℕ × Entry)) → is_held x ≡ false → x ≡ None
    lookup_free (Some (i, w)) t = not_both true refl t
    lookup_free None t = refl

    found_free : holder (entries_of n) file isn ≡ None
    found_free = lookup_free _ (held_any file isn (entries_of n) ∙ none_holds)

    known_here : known (definition_of n) (key file isn) ≡ true
    known_here = and_left (entry_known (definition_of n) e) (all (entry_known (definition_of n)) es) h.each_known

    place_left : n.state.count < length n.queue
    place_left = omega (arith, h.room, k.sized.made.queue_room)

    -- nobody waits for it
    free_none : first_in_line n.state.wait_queue file isn ≡ None → Handed es n j n j
    free_none f = record { kept = k; lined = lined_none l f; clock = refl; quiet = λ v q. q; apart = λ v least q. refl }

    handable_none : Handable capacity es n
    handable_none = record {
      each_known = and_right (entry_known (definition_of n) e) (all (entry_known (definition_of n)) es) h.each_known;
      shapes = h.shapes.1;
      different = and_right (not (any (alike e) es)) (distinct alike es) h.different;
      free = and_right (not (any (is_of file isn) (entries_of n))) (all (λ (f : Entry). not (any (is_of f.file f.isn) (entries_of n))) es) h.free;
      room = omega (arith, h.room);
    }

    -- one who waits
    module _ (i : ℕ) (w : Entry) (f : first_in_line n.state.wait_queue file isn ≡ Some (i, w)) where
      abbrev u : ℕ
      u = w.user

      first : First n.state.wait_queue n.state.users file isn w
      first = lined_first l file isn f

      serving : Serving u (left u n)
      serving = record { least = first.least; most = first.most; session = first.session; not_overdue = first.not_overdue; changing = first.changing }

      -- as if he had called HI
      abbrev r : Request
      r = request capacity Hi (record { command = []; option = 0; user = u; file = file; isn = isn; limit = 0; clock = 0 }) [] []

      holdable : Holdable capacity r isn (left u n)
      holdable = record {
        small = h.shapes.0.isn;
        inside = known_here;
        mine = rw found_free;
        room = λ x. omega (arith, h.room);
      }

      abbrev j' : Journal
      j' = with_holds (j.holds ++ record { user = u; file = file; isn = isn; changed = false } ∷ []) (others u j.line) j

      kept_taken : Kept capacity lent (taking u file isn n) (log_handed_to (Some u) file isn j)
      kept_taken =
          kept_anew capacity lent (left u n) j'
          (kept_line capacity lent n j' (kept_holds capacity lent n j k j'.holds j'.line) (left_line u n.state.wait_queue))
          r isn serving holdable (rw found_free)

      -- who does not wait is not he
      not_he : (v : ℕ) → in_line v j.line ≡ false → eqb v u ≡ false
      not_he v out = go (outcome (eqb v u))
        where
          go : Outcome (eqb v u) → eqb v u ≡ false
          go (holds t) = not_both (in_line v j.line) (rw (eqb-true v u t) (in_line_same l u ∙ first.waits)) out
          go (fails t) = t

      entries_then : entries_of (taking u file isn n) ≡ entries_of n ++ taken u e (record_there n file isn) ∷ []
      entries_then = entries_taking l f place_left h.shapes.0

      taken_over : Handed es n j (taking u file isn n) (log_handed_to (Some u) file isn j)
      unfolding log_start
      taken_over = record {
        kept = kept_taken;
        lined = lined_journal (lined_taken l f k.people.user_count found_free (record_there n file isn) (started n.state.clock (user_of n u)) entries_then refl refl) refl refl;
        clock = refl;
        quiet = started_no_sooner n.state.clock n.state.users u (omega (arith, k.people.user_count, serving.least, serving.most));
        apart = λ v least out. user_other n.state.users k.people.user_count u serving.least serving.most (started n.state.clock (user_of n u)) v least (not_he v out);
      }

      handable_taken : Handable capacity es (taking u file isn n)
      handable_taken = record {
        each_known = handable_none.each_known;
        shapes = h.shapes.1;
        different = handable_none.different;
        free = rw entries_then (free_still e u (record_there n file isn) (entries_of n) es (not-true _ (and_left (not (any (alike e) es)) (distinct alike es) h.different)) handable_none.free);
        room = omega (arith, h.room);
      }

    -- as the line has it
    abbrev n' : Nucleus
    n' = handed_on file isn n

    abbrev j'' : Journal
    j'' = log_handed_on file isn j

    handed_one : Handed es n j n' j'' × Handable capacity es n'
    unfolding handed_on log_handed_on
    handed_one = go (first_in_line n.state.wait_queue file isn) refl
      where
        go : (x : Option (ℕ × Entry)) → first_in_line n.state.wait_queue file isn ≡ x
            → Handed es n j (handed_to x file isn n) (log_handed_to (next_user file isn j.line) file isn j) × Handable capacity es (handed_to x file isn n)
        go None f = rw (next_none l file isn f) (free_none f, handable_none)
        go (Some (i, w)) f = rw (next_first l file isn f, lt-ltb n.state.count (length n.queue) place_left) (taken_over i w f, handable_taken i w f)

  -- ---- all of them
  pub handed_over : (es : List Entry) (n : Nucleus) (j : Journal) → Kept capacity lent n j → Lined es n j → Handable capacity es n
      → Handed [] n j (handed es n) (log_handed (map hold_seen es) j)
  handed_over [] n j k l h = record { kept = k; lined = l; clock = refl; quiet = λ v q. q; apart = λ v least q. refl }
  handed_over (e ∷ es) n j k l h =
      let first = handed_one e es n j k l h in
      handed_then es n (n' e es n j k l h) _ j (j'' e es n j k l h) _ first.0 (spared_on e.file e.isn j).not_joined
      (handed_over es (n' e es n j k l h) (j'' e es n j k l h) first.0.kept first.0.lined first.1)
