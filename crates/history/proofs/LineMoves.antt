-- Holds and lines (`Lined`) where a hold is handed over: one entry that was let go, whose record goes to the first in its line, or to nobody.
-- Assumes nothing.
use Rattle.std.specs.Prelude.{ℕ, ◌+◌, ◌-◌, ◌<◌, ◌≡◌, refl, Bool, false, List, [], ◌∷◌, ◌++◌, map, length, set, Option, Some, None}
use Rattle.std.proofs.Common.{arith, sym, ◌∙◌}
use Rattle.std.proofs.Math.Path.{ap}
use Rattle.std.proofs.lemmas.List.{map-append}
use Rattle.lists.specs.Tests.{Outcome, holds, fails, outcome}
use Rattle.entries.specs.Entries.{is_of}
use Rattle.entries.specs.Laws.{Shape}
use Rattle.entries.specs.declared.Entry.{Entry}
use Rattle.queue.specs.Queue.{seek, holder}
use Rattle.queue.specs.Laws.{entries_append}
use Rattle.nucleus.specs.Nucleus.{Nucleus, max_users, entries_of}
use Rattle.nucleus.specs.Waiters.{waiters_of, first_in_line, left_line, record_there, taking}
use Rattle.nucleus.specs.declared.User.{User}
use Rattle.claim.specs.Journal.{Journal, with_holds, others, next_user}
use Rattle.history.specs.Lined.{Lined, hold_seen, waiter_seen}
use Rattle.history.proofs.LineLaws.{First, first_sound, fair_none, fair_taken}
use Rattle.history.proofs.Lines.{fair, lined, others_same}

-- ---- who is next
abbrev user_found : Option (ℕ × Entry) → Option ℕ
user_found (Some (i, w)) = Some w.user
user_found None = None

next_seek : (file isn : ℕ) (ws : List Entry) (i : ℕ) → next_user file isn (map waiter_seen ws) ≡ user_found (seek file isn ws i)
next_seek file isn [] i = refl
next_seek file isn (w ∷ ws) i = go (outcome (is_of file isn w)) (next_seek file isn ws (i + 1))
  where
    go : Outcome (is_of file isn w) → next_user file isn (map waiter_seen ws) ≡ user_found (seek file isn ws (i + 1))
        → next_user file isn (map waiter_seen (w ∷ ws)) ≡ user_found (seek file isn (w ∷ ws) i)
    go (holds t) later = rw t
    go (fails t) later = rw t later

module _ {gone : List Entry} {n : Nucleus} {j : Journal} (l : Lined gone n j) (file isn : ℕ) where
  -- the journal has the same
  next_same : next_user file isn j.line ≡ user_found (first_in_line n.state.wait_queue file isn)
  unfolding holder
  next_same = ap (next_user file isn) (sym l.same_line) ∙ next_seek file isn (waiters_of n) 0

  pub next_none : first_in_line n.state.wait_queue file isn ≡ None → next_user file isn j.line ≡ None
  next_none free = next_same ∙ ap user_found free

  pub next_first : {i : ℕ} {w : Entry} → first_in_line n.state.wait_queue file isn ≡ Some (i, w) → next_user file isn j.line ≡ Some w.user
  next_first found = next_same ∙ ap user_found found

  -- he waits, and may be handed it
  pub lined_first : {i : ℕ} {w : Entry} → first_in_line n.state.wait_queue file isn ≡ Some (i, w) → First n.state.wait_queue n.state.users file isn w
  lined_first found = first_sound (fair l) found

-- ---- one entry
-- the new one, of who takes it
abbrev pub taken : ℕ → Entry → Bool → Entry
taken u e existed = record { user = u; file = e.file; isn = e.isn; changed = false; existed = existed }

module _ {gone : List Entry} {n : Nucleus} {j : Journal} {e : Entry} (l : Lined (e ∷ gone) n j) where
  pub lined_none : first_in_line n.state.wait_queue e.file e.isn ≡ None → Lined gone n j
  lined_none free = lined (fair_none (fair l) free) refl refl refl l.same_holds l.same_line

  module _ {i : ℕ} {w : Entry} (found : first_in_line n.state.wait_queue e.file e.isn ≡ Some (i, w)) where
    abbrev u : ℕ
    u = w.user

    abbrev first : First n.state.wait_queue n.state.users e.file e.isn w
    first = lined_first l e.file e.isn found

    pub lined_taken : length n.state.users ≡ max_users → holder (entries_of n) e.file e.isn ≡ None
        → {m : Nucleus} (existed : Bool) (x : User) → entries_of m ≡ entries_of n ++ taken u e existed ∷ []
        → m.state.wait_queue ≡ left_line u n.state.wait_queue → m.state.users ≡ set n.state.users (u - 1) x
        → Lined gone m (with_holds (j.holds ++ hold_seen (taken u e existed) ∷ []) (others u j.line) j)
    lined_taken full free existed x es ws us =
        lined (fair_taken (fair l) (taken u e existed) x refl refl free full first.least first.most) es ws us
        (map-append hold_seen (entries_of n) (taken u e existed ∷ []) ∙ ap (λ t. t ++ hold_seen (taken u e existed) ∷ []) l.same_holds) (others_same l u)

    -- it stands at the end of the queue
    pub entries_taking : n.state.count < length n.queue → Shape e
        → entries_of (taking u e.file e.isn n) ≡ entries_of n ++ taken u e (record_there n e.file e.isn) ∷ []
    entries_taking room shape =
        entries_append n.queue n.state.count (taken u e (record_there n e.file e.isn))
        (record { user = omega (arith, first.most); file = shape.file; isn = shape.isn }) room
