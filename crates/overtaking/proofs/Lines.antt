-- A record's line when somebody leaves it, joins it, or is its first; and the line of the nucleus, which the records' lines are parts of.
-- Assumes nothing.
use Rattle.std.specs.Prelude.{ℕ, ◌+◌, ◌*◌, ◌≤◌, ◌<◌, ◌≡◌, refl, Bool, true, false, not, ◌&&◌, eqb, ltb, length, take, get_or, set, Option, Some, None}
use Rattle.std.proofs.Common.{arith, sym, ap, ◌∙◌, length-set, eqb-true, le-leb, ltb-true}
use mathlib.Core.List.{List, [], ◌∷◌, ◌++◌, map, append-nil}
use Rattle.lists.specs.Tests.{cond, not_both, Outcome, holds, fails, outcome, and-false, and_right, eqb_sym}
use Rattle.lists.specs.Folds.{Each, any_agree}
use Rattle.lists.specs.Sift.{keep, sift, sift_comm, any_sift}
use Rattle.entries.specs.Entries.{pack_of, unpack_of, entries, is_of}
use Rattle.entries.specs.Laws.{Shape, unpack_shape, entries_last, entries_kept}
use Rattle.entries.specs.declared.Entry.{Entry}
use Rattle.queue.specs.Queue.{seek, holder, append}
use Rattle.queue.specs.Laws.{length_append_entry}
use Rattle.removal.specs.Removal.{stays, fits}
use Rattle.removal.specs.Laws.{entries_remove, remove_count_most, length_remove_queue}
use Rattle.removal.specs.declared.Removal.TheVariants.{All}
use Rattle.nucleus.specs.Nucleus.{max_users}
use Rattle.nucleus.specs.Waiters.{waiters_in, is_user, in_line, waiter_for, left_line, joined_line}
use Rattle.nucleus.specs.declared.Call.{Call}
use Rattle.nucleus.specs.declared.Command.{Command}
use Rattle.nucleus.specs.declared.WaitQueue.{WaitQueue}
use Rattle.overtaking.specs.Moments.{waits, before}

-- ---- another leaves
module _ (u v : ℕ) (another : eqb v u ≡ false) where
  stays_his : (w : Entry) → is_user u w ≡ true → stays (All v) w ≡ true
  stays_his w h = rw (eqb-true w.user u h, eqb_sym v u another)

  pub still_waits : (l : List Entry) → waits u (sift (stays (All v)) l) ≡ waits u l
  still_waits l = any_sift (stays (All v)) (is_user u) l ∙ any_agree (λ w. stays (All v) w && is_user u w) (is_user u) same l
    where
      same : (w : Entry) → (stays (All v) w && is_user u w) ≡ is_user u w
      same w = go (outcome (is_user u w))
        where
          go : Outcome (is_user u w) → (stays (All v) w && is_user u w) ≡ is_user u w
          go (holds t) = rw (stays_his w t, t)
          go (fails t) = rw t (and-false (stays (All v) w))

  pub no_more_before : (l : List Entry) → before u (sift (stays (All v)) l) ≤ before u l
  no_more_before [] = omega arith
  no_more_before (w ∷ l) = go (outcome (is_user u w)) (stays (All v) w) refl (no_more_before l)
    where
      go : Outcome (is_user u w) → (b : Bool) → stays (All v) w ≡ b → before u (sift (stays (All v)) l) ≤ before u l
          → before u (keep b w (sift (stays (All v)) l)) ≤ before u (w ∷ l)
      go (holds t) true e i = rw t (omega arith)
      go (holds t) false e i = not_both (stays (All v) w) (stays_his w t) e
      go (fails t) true e i = rw t (omega (arith, i))
      go (fails t) false e i = rw t (omega (arith, i))

-- ---- somebody joins at the end
pub before_joined : (u : ℕ) (l more : List Entry) → waits u l ≡ true → before u (l ++ more) ≡ before u l
before_joined u [] more h = not_both false h refl
before_joined u (w ∷ l) more h = go (outcome (is_user u w)) (before_joined u l more)
  where
    go : Outcome (is_user u w) → (waits u l ≡ true → before u (l ++ more) ≡ before u l) → before u (w ∷ l ++ more) ≡ before u (w ∷ l)
    go (holds t) i = rw t
    go (fails t) i = rw (t, i (rw t at h))

-- ---- the first
-- a lookup as the first of those that it may find
abbrev pub IsFirst : Option (ℕ × Entry) → List Entry → Type 0
IsFirst (Some (i, w)) l = (rest : List Entry) × (l ≡ w ∷ rest)
IsFirst None l = l ≡ []

seek_first : (file isn : ℕ) (es : List Entry) (from : ℕ) → IsFirst (seek file isn es from) (sift (is_of file isn) es)
seek_first file isn [] from = refl
seek_first file isn (e ∷ es) from = go (is_of file isn e) (seek_first file isn es (from + 1))
  where
    go : (b : Bool) → IsFirst (seek file isn es (from + 1)) (sift (is_of file isn) es)
        → IsFirst (cond b (Some (from, e)) (seek file isn es (from + 1))) (keep b e (sift (is_of file isn) es))
    go true i = (sift (is_of file isn) es, refl)
    go false i = i

pub first_is : (file isn : ℕ) (es : List Entry) → IsFirst (holder es file isn) (sift (is_of file isn) es)
unfolding holder
first_is file isn es = seek_first file isn es 0

-- ---- the line of the nucleus
-- numbers that fit their bytes
shapes : (words : List ℕ) → Each Shape (map unpack_of words)
shapes [] = tt
shapes (w ∷ ws) = (unpack_shape w, shapes ws)

pub entry_shapes : (words : List ℕ) (count : ℕ) → Each Shape (entries words count)
unfolding entries
entry_shapes words count = shapes (take count words)

-- a user leaves it
module _ (u : ℕ) (l : WaitQueue) (room : l.waiting ≤ length l.places) where
  line_fits : fits l.places [] l.waiting 0 ≡ true
  line_fits = let none : l.waiting * 0 ≡ 0 = omega arith in rw (le-leb l.waiting (length l.places) room, none)

  pub waiters_left : waiters_in (left_line u l) ≡ sift (stays (All u)) (waiters_in l)
  unfolding left_line
  waiters_left = entries_remove l.places [] l.waiting 0 (All u) line_fits

  pub places_left : length (left_line u l).places ≡ length l.places
  unfolding left_line
  places_left = length_remove_queue l.places [] l.waiting 0 (All u) line_fits

  pub waiting_left : (left_line u l).waiting ≤ l.waiting
  unfolding left_line
  waiting_left = remove_count_most l.places [] l.waiting 0 (All u)

  pub line_left : (file isn : ℕ) → sift (is_of file isn) (waiters_in (left_line u l)) ≡ sift (stays (All u)) (sift (is_of file isn) (waiters_in l))
  line_left file isn = ap (sift (is_of file isn)) waiters_left ∙ sift_comm (is_of file isn) (stays (All u)) (waiters_in l)

-- somebody joins it, behind all others
pub waiters_joined : (c : Command) (call : Call) (l : WaitQueue) → max_users ≤ length l.places
    → (more : List Entry) × (waiters_in (joined_line c call l) ≡ waiters_in l ++ more)
unfolding joined_line append
waiters_joined c call l room = go (outcome (not (in_line l call.user) && ltb l.waiting max_users))
  where
    new : WaitQueue
    new = record { places = append l.places l.waiting (waiter_for c call); waiting = l.waiting + 1 }

    go : Outcome (not (in_line l call.user) && ltb l.waiting max_users)
        → (more : List Entry) × (waiters_in (cond (not (in_line l call.user) && ltb l.waiting max_users) new l) ≡ waiters_in l ++ more)
    go (holds t) =
        let inside : l.waiting < max_users = ltb-true l.waiting max_users (and_right (not (in_line l call.user)) (ltb l.waiting max_users) t) in
        let words : List ℕ = set l.places l.waiting (pack_of (waiter_for c call)) in
        let long : l.waiting < length words = simp length-set (omega arith) in (
          unpack_of (get_or words l.waiting 0) ∷ [],
          rw (t, entries_last words l.waiting long, entries_kept l.places l.waiting l.waiting (pack_of (waiter_for c call)) (omega arith)),
        )
    go (fails t) = ([], rw t (sym (append-nil (waiters_in l))))

pub places_joined : (c : Command) (call : Call) (l : WaitQueue) → length (joined_line c call l).places ≡ length l.places
unfolding joined_line
places_joined c call l = go (not (in_line l call.user) && ltb l.waiting max_users)
  where
    new : WaitQueue
    new = record { places = append l.places l.waiting (waiter_for c call); waiting = l.waiting + 1 }

    go : (b : Bool) → length (cond b new l).places ≡ length l.places
    go true = length_append_entry l.places l.waiting (waiter_for c call)
    go false = refl
