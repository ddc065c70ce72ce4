-- Entries that go, and the hand-over of what they held: RI, ET, BT and the back-outs that are not asked for (document 02, No. 1: "Each back-out, ET or RI hands
-- over after its removals, oldest entry first").
-- Assumes nothing.
use Rattle.std.specs.Prelude.{ℕ, ◌+◌, ◌-◌, ◌≤◌, ◌<◌, ◌≡◌, Bool, true, not, eqb, length, get_or}
use Rattle.std.proofs.Common.{arith, ap, ◌∙◌, get_or-set_other}
use Rattle.std.proofs.Math.Path.{refl}
use Rattle.std.proofs.Math.Bool.{false}
use mathlib.Core.List.{List, [], ◌∷◌}
use borrow.Author.Tests.{eqb-true, eqb-false, not-true, not-false}
use Rattle.lists.specs.Tests.{Outcome, holds, fails, outcome, within, within_most, not_both, and_left, and_right, or_left, or_right}
use Rattle.lists.specs.Folds.{any, all, any_agree, distinct, Each, each_index}
use Rattle.lists.specs.Sift.{keep, sift, any_left, all_keeps, each_sift, distinct_sift, length_parts}
use Rattle.entries.specs.Entries.{is_of, entries}
use Rattle.entries.specs.Laws.{Shape, unpack_shape, no_entry, length_entries, entry_at}
use Rattle.entries.specs.declared.Entry.{Entry}
use Rattle.queue.specs.Laws.{is_of_swap}
use Rattle.removal.specs.Removal.{goes, stays}
use Rattle.removal.specs.declared.Removal.{Removal}
use Rattle.removal.specs.declared.Removal.TheVariants.{All}
use Rattle.repeats.specs.Repeats.{alike, repeated}
use Rattle.ground.specs.Queue.{entry_known}
use Rattle.nucleus.specs.Users.{fresh_user, is_due, ended}
use Rattle.nucleus.specs.Nucleus.{Nucleus, max_users, max_capacity, user_of, entries_of}
use Rattle.nucleus.specs.Clock.{removed, backed_out, forced_out}
use Rattle.nucleus.specs.Waiters.{waiters_of, is_user, in_line, left_line, left, let_go, handed}
use Rattle.nucleus.specs.declared.User.{User}
use Rattle.claim.specs.Journal as journal
use Rattle.claim.specs.Journal.{Journal, Hold, with_holds, others, hold_of, struck_changes, struck, log_leave, log_handed, log_let_go}
use Rattle.claim.specs.Lent.{Lent}
use Rattle.history.specs.Kept.{Kept, definition_of, one_of_users}
use Rattle.history.specs.Lined.{Lined, hold_seen, may_receive, waiter_sound}
use Rattle.history.proofs.People.{user_own}
use Rattle.history.proofs.Keeping.{kept_line, kept_holds}
use Rattle.history.proofs.Ends.{kept_backed_out}
use Rattle.history.proofs.QueueMoves.{entries_removed}
use Rattle.history.proofs.Lines.{lined_alike, lined_user, lined_left, holds_gone, lined_removed, let_go_all}
use Rattle.history.specs.HandLogs.{left_out, spared_let_go}
use Rattle.history.proofs.Handing.{Handable, HandedOver, handed_over}

-- entries that are unlike, in two parts: none of one part is in the other
abbrev absent : List Entry → Entry → Bool
absent es e = not (any (is_of e.file e.isn) es)

absent_more : (x : Entry) (es fs : List Entry) → any (alike x) fs ≡ false → all (absent es) fs ≡ true → all (absent (x ∷ es)) fs ≡ true
absent_more x es [] unlike h = refl
absent_more x es (f ∷ fs) unlike h =
    let here : any (is_of f.file f.isn) es ≡ false = not-true _ (and_left (absent es f) (all (absent es) fs) h) in
    rw (or_left (alike x f) (any (alike x) fs) unlike, here) (absent_more x es fs (or_right (alike x f) (any (alike x) fs) unlike) (and_right (absent es f) (all (absent es) fs) h))

parts_apart : (p : Entry → Bool) (es : List Entry) → distinct alike es ≡ true → all (absent (sift (λ e. not (p e)) es)) (sift p es) ≡ true
parts_apart p [] h = refl
parts_apart p (x ∷ es) h = go (p x) (parts_apart p es (and_right (not (any (alike x) es)) (distinct alike es) h))
  where
    unlike : any (alike x) es ≡ false
    unlike = not-true _ (and_left (not (any (alike x) es)) (distinct alike es) h)

    stay : List Entry
    stay = sift (λ e. not (p e)) es

    none_left : any (is_of x.file x.isn) stay ≡ false
    none_left = any_agree (λ f. alike f x) (alike x) (λ f. is_of_swap f x) stay ∙ any_left (λ e. not (p e)) (alike x) es unlike

    go : (b : Bool) → all (absent stay) (sift p es) ≡ true → all (absent (keep (not b) x stay)) (keep b x (sift p es)) ≡ true
    go true later = rw none_left later
    go false later = absent_more x stay (sift p es) (any_left p (alike x) es unlike) later

-- an entry of a word
entry_shapes : (words : List ℕ) (count : ℕ) → Each Shape (entries words count)
entry_shapes words count = each_index Shape no_entry (entries words count) here
  where
    here : (i : ℕ) → i < length (entries words count) → Shape (get_or (entries words count) i no_entry)
    here i h = let m : i < count = omega (arith, length_entries words count) in rw (entry_at words count i m) (unpack_shape (get_or words i 0))

module _ (capacity : ℕ) (lent : Lent ℕ) where
  -- as many entries as are counted
  counted : (n : Nucleus) (j : Journal) → Kept capacity lent n j → length (entries_of n) ≡ n.state.count
  counted n j k = length_entries n.queue n.state.count ∙ omega (arith, k.sized.made.most, k.sized.made.queue_room)

  module _ (n : Nucleus) (j : Journal) (k : Kept capacity lent n j) (l : Lined [] n j) (which : Removal) where
    abbrev gone : List Entry
    gone = sift (goes which) (entries_of n)

    single : distinct alike (entries_of n) ≡ true
    unfolding repeated
    single = not-false (distinct alike (entries_of n)) k.sized.made.single

    -- of what is left
    module _ (m : Nucleus) (i : Journal) (k' : Kept capacity lent m i) (table : definition_of m ≡ definition_of n) (left : entries_of m ≡ sift (stays which) (entries_of n)) where
      handable_gone : Handable capacity gone m
      handable_gone = record {
        each_known = rw table (all_keeps (entry_known (definition_of n)) (goes which) (entries_of n) k.sized.made.each_known);
        shapes = each_sift Shape (goes which) (entries_of n) (entry_shapes n.queue n.state.count);
        different = distinct_sift alike (goes which) (entries_of n) single;
        free = rw left (parts_apart (goes which) (entries_of n) single);
        room = omega (arith, counted n j k, counted m i k', ap length left, length_parts (goes which) (entries_of n), k.sized.made.most);
      }

      module _ (goes_hold : Hold → Bool) (same : (e : Entry) → goes which e ≡ goes_hold (hold_seen e)) (l' : Lined gone m i) where
        pub let_go_over : HandedOver capacity lent [] m i (handed (let_go which n) m) (log_handed (sift goes_hold j.holds) i)
        let_go_over =
            let all_gone = let_go_all which n (omega (arith, k.sized.made.most, within_most 1 max_capacity capacity k.sized.capacity_sound)) in
            rw (all_gone, ← (holds_gone l which goes_hold same)) (handed_over capacity lent gone m i k' l' handable_gone)

-- ---- whoever waits may be handed a hold
waits_receives : (us : List User) (u : ℕ) (ws : List Entry) → all (waiter_sound us) ws ≡ true → any (is_user u) ws ≡ true → may_receive (one_of_users us u) ≡ true
waits_receives us u [] h t = not_both false t refl
waits_receives us u (w ∷ ws) h t = go (outcome (is_user u w)) (waits_receives us u ws (and_right (waiter_sound us w) (all (waiter_sound us) ws) h))
  where
    go : Outcome (is_user u w) → (any (is_user u) ws ≡ true → may_receive (one_of_users us u) ≡ true) → may_receive (one_of_users us u) ≡ true
    go (holds his) later =
        rw (eqb-true w.user u his) at
        (and_right (within 1 max_users w.user) (may_receive (one_of_users us w.user)) (and_left (waiter_sound us w) (all (waiter_sound us) ws) h))
    go (fails other) later = later (rw other at t)

pub receives : (gone : List Entry) (n : Nucleus) (j : Journal) → Lined gone n j → (u : ℕ) → in_line n.state.wait_queue u ≡ true → may_receive (user_of n u) ≡ true
receives gone n j l u t = waits_receives n.state.users u (waiters_of n) l.sound t

-- ---- a back-out that is not asked for: of the clock, OP or CL
module _ (capacity : ℕ) (lent : Lent ℕ) (n : Nucleus) (j : Journal) (k : Kept capacity lent n j) (l : Lined [] n j) (u : ℕ) (least : 1 ≤ u) (most : u ≤ max_users) where
  -- before the hand-over
  abbrev m : Nucleus
  m = left u (backed_out u n)

  abbrev i : Journal
  i = with_holds (sift (λ h. not (hold_of u h)) j.holds) (others u j.line) (struck_changes u j)

  kept_gone : Kept capacity lent m i
  kept_gone =
      kept_line capacity lent (backed_out u n) i
      (kept_holds capacity lent (backed_out u n) (struck_changes u j) (kept_backed_out capacity lent n j k u least most) i.holds i.line)
      (left_line u (backed_out u n).state.wait_queue)

  entries_gone : entries_of m ≡ sift (stays (All u)) (entries_of n)
  unfolding backed_out removed
  entries_gone = entries_removed n capacity k.sized.made (All u)

  table_gone : definition_of m ≡ definition_of n
  unfolding backed_out removed
  table_gone = refl

  lined_gone : Lined (sift (goes (All u)) (entries_of n)) m i
  unfolding backed_out removed log_leave struck_changes
  lined_gone =
      let went = lined_removed l (All u) (hold_of u) (λ e. refl) capacity k.sized.made in
      let out = lined_user went u (ended (user_of n u)) k.people.user_count least most (λ t. receives [] n j l u t) in
      lined_alike (lined_left out u) refl refl refl refl refl

  over : HandedOver capacity lent [] m i (forced_out u n) (struck u j)
  unfolding forced_out struck log_let_go log_leave struck_changes
  over = let_go_over capacity lent n j k l (All u) m i kept_gone table_gone entries_gone (hold_of u) (λ e. refl) lined_gone

  pub forced_kept : Kept capacity lent (forced_out u n) (struck u j)
  forced_kept = over.kept

  pub forced_lined : Lined [] (forced_out u n) (struck u j)
  forced_lined = over.lined

  pub forced_clock : (forced_out u n).state.clock ≡ n.state.clock
  unfolding backed_out removed
  forced_clock = over.clock

  -- who was not due is not due
  pub forced_quiet : (v : ℕ) → is_due n.state.clock (user_of n v) ≡ false → is_due n.state.clock (user_of (forced_out u n) v) ≡ false
  unfolding backed_out removed
  forced_quiet v h = over.quiet v (go (outcome (eqb (v - 1) (u - 1))))
    where
      go : Outcome (eqb (v - 1) (u - 1)) → is_due n.state.clock (user_of m v) ≡ false
      go (holds t) = rw (eqb-true (v - 1) (u - 1) t, user_own n.state.users k.people.user_count u least most (ended (user_of n u)))
      go (fails t) = rw (get_or-set_other n.state.users (u - 1) (v - 1) (ended (user_of n u)) fresh_user (eqb-false (v - 1) (u - 1) t)) h

  -- he waits for nothing, and is in no transaction
  pub forced_away : journal.in_line u (struck u j).line ≡ false
  unfolding struck log_leave struck_changes
  forced_away = (spared_let_go (hold_of u) (log_leave u (struck_changes u j))).not_joined u (left_out u j.line)

  pub forced_own : user_of (forced_out u n) u ≡ ended (user_of n u)
  unfolding backed_out removed
  forced_own = over.apart u least (left_out u j.line) ∙ user_own n.state.users k.people.user_count u least most (ended (user_of n u))
