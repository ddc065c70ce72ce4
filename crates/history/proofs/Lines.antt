-- Holds and lines (`Lined`) of nucleus and journal, through each operation but the hand-over.
-- Assumes nothing.
use Rattle.std.specs.Prelude.{ℕ, ◌-◌, ◌≤◌, ◌<◌, ◌≡◌, Bool, not, ◌&&◌, List, [], ◌∷◌, ◌++◌, map, eqb, leb, length, get_or, set, Option, Some, None}
use Rattle.std.proofs.Common.{arith, sym, ap, ◌∙◌, take_all, eqb-true, le-leb, lt-ltb}
use Rattle.std.proofs.Math.Path.{refl, subst₃}
use Rattle.std.proofs.Math.Bool.{true, false, cond, or-false}
use Rattle.std.proofs.lemmas.List.{map-append}
use Rattle.lists.specs.Tests.{within, within_inside, eqb_self, Outcome, holds, fails, outcome, not_both, and_left, and_right}
use Rattle.lists.specs.Folds.{any, all, all_at}
use Rattle.lists.specs.Sift.{sift, sift_ext, sift_rest, sift_over, length_sift}
use Rattle.lists.specs.Maps.{any_over}
use Rattle.lists.specs.Every.{any_there, all_index}
use Rattle.definition.specs.declared.Definition.{Definition}
use Rattle.entries.specs.Entries.{entries}
use Rattle.entries.specs.Laws.{Shape, no_entry, length_entries, entry_at, unpack_shape}
use Rattle.entries.specs.declared.Entry.{Entry}
use Rattle.queue.specs.Queue.{holder}
use Rattle.queue.specs.Laws.{is_held, held_any, held_found, held_once}
use Rattle.removal.specs.Removal.{goes, stays}
use Rattle.removal.specs.declared.Removal.{Removal}
use Rattle.removal.specs.declared.Removal.TheVariants.{One, Unchanged}
use Rattle.nucleus.specs.Commands.{one_of, may_wait, option_W}
use Rattle.nucleus.specs.Nucleus.{Nucleus, nucleus, max_users, max_capacity, fresh_state, entries_of, with_user, with_state, user_of}
use Rattle.nucleus.specs.Target.{other_holds}
use Rattle.nucleus.specs.Waiters.{waiters_in, waiters_of, is_user, in_line, waiter_for, joined_line, left_line, left, keeps_place, line_left_by, change_line, left_by, let_go, lets_go}
use Rattle.nucleus.specs.Clock.{removed}
use Rattle.nucleus.specs.WellMade.{waiter_made}
use Rattle.nucleus.specs.declared.Call.{Call}
use Rattle.nucleus.specs.declared.Command.{Command}
use Rattle.nucleus.specs.declared.Command.TheVariants.{Ri}
use Rattle.nucleus.specs.declared.User.{User}
use Rattle.nucleus.specs.declared.WaitQueue.{WaitQueue}
use Rattle.claim.specs.Journal as journal
use Rattle.claim.specs.Journal.{Journal, Hold, new_journal, with_holds, with_hold, hold_at, hold_of, others, log_leave, released, waits_so, log_left_by, log_join}
use Rattle.history.specs.Kept.{one_of_users}
use Rattle.history.proofs.QueueMoves.{MadeIn, entries_removed}
use Rattle.history.specs.Lined.{Lined, hold_seen, waiter_seen, may_receive, waiter_sound, awaited}
use Rattle.history.proofs.LineLaws.{Fair, fair_room, fair_user, waiters_left, not_in_left, fair_left, fair_removed, fair_more, place_left, waiters_joined, fair_joined}

-- ---- what is asked of the line, by itself, and with what the journal has
pub fair : {gone : List Entry} {n : Nucleus} {j : Journal} → Lined gone n j → Fair gone (entries_of n) n.state.wait_queue n.state.users
fair l = record { places = l.places; few = l.few; different = l.different; sound = l.sound; waited = l.waited }

pub lined : {gone es : List Entry} {line : WaitQueue} {us : List User} → Fair gone es line us → {m : Nucleus} {k : Journal}
    → entries_of m ≡ es → m.state.wait_queue ≡ line → m.state.users ≡ us → map hold_seen es ≡ k.holds → map waiter_seen (waiters_in line) ≡ k.line → Lined gone m k
lined {gone} f {m} {k} es ws us hs js =
    let g : Fair gone (entries_of m) m.state.wait_queue m.state.users = subst₃ (Fair gone) (sym es) (sym ws) (sym us) f in
    record {
      same_holds = ap (map hold_seen) es ∙ hs;
      same_line = ap (λ x. map waiter_seen (waiters_in x)) ws ∙ js;
      places = g.places;
      few = g.few;
      different = g.different;
      sound = g.sound;
      waited = g.waited;
    }

module _ {gone : List Entry} {n : Nucleus} {j : Journal} (l : Lined gone n j) where
  -- ---- nothing that it speaks of changes
  pub lined_alike : {m : Nucleus} {k : Journal} → entries_of m ≡ entries_of n → m.state.wait_queue ≡ n.state.wait_queue → m.state.users ≡ n.state.users
      → k.holds ≡ j.holds → k.line ≡ j.line → Lined gone m k
  lined_alike es ws us hs js = lined (fair l) es ws us (l.same_holds ∙ sym hs) (l.same_line ∙ sym js)

  pub lined_journal : {k : Journal} → k.holds ≡ j.holds → k.line ≡ j.line → Lined gone n k
  lined_journal hs js = lined_alike refl refl refl hs js

  pub lined_like : {m : Nucleus} → entries_of m ≡ entries_of n → m.state.wait_queue ≡ n.state.wait_queue → m.state.users ≡ n.state.users → Lined gone m j
  lined_like es ws us = lined_alike es ws us refl refl

  -- ---- a user becomes another value; whoever waits may be handed a hold still
  pub lined_user : (u : ℕ) (x : User) → length n.state.users ≡ max_users → 1 ≤ u → u ≤ max_users → (in_line n.state.wait_queue u ≡ true → may_receive x ≡ true)
      → Lined gone (with_state (with_user u x n.state) n) j
  lined_user u x full least most may = lined (fair_user (fair l) u x full least most may) refl refl refl l.same_holds l.same_line

  -- ---- leaving the line
  pub lined_room : n.state.wait_queue.waiting ≤ length n.state.wait_queue.places
  lined_room = fair_room (fair l)

  -- the journal has the same in the line
  pub in_line_same : (u : ℕ) → journal.in_line u j.line ≡ in_line n.state.wait_queue u
  in_line_same u = ap (journal.in_line u) (sym l.same_line) ∙ any_over waiter_seen (λ w. eqb w.user u) (waiters_of n)

  -- the others, in both
  pub others_same : (u : ℕ) → map waiter_seen (waiters_in (left_line u n.state.wait_queue)) ≡ others u j.line
  others_same u =
      ap (map waiter_seen) (waiters_left u n.state.wait_queue lined_room)
      ∙ sym (sift_over waiter_seen (λ w. not (eqb w.user u)) (waiters_of n)) ∙ ap (others u) l.same_line

  pub lined_left : (u : ℕ) → Lined gone (left u n) (log_leave u j)
  unfolding log_leave
  lined_left u = lined (fair_left (fair l) u) refl refl refl l.same_holds (others_same u)

  -- the call that he waits by is the same in both
  keeps_same : (c : Command) (call : Call) → journal.keeps_place (Some c) call j.line ≡ keeps_place c call n.state.wait_queue
  keeps_same c call =
      ap (λ b. one_of may_wait c && eqb call.option option_W && b)
      (ap (any (waits_so c call)) (sym l.same_line) ∙ any_over waiter_seen (waits_so c call) (waiters_of n))

  pub lined_left_by : (c : Command) (call : Call) → Lined gone (left_by c call n) (log_left_by (Some c) call j)
  unfolding line_left_by log_left_by
  lined_left_by c call = rw (keeps_same c call) (go (keeps_place c call n.state.wait_queue))
    where
      go : (b : Bool) → Lined gone (change_line (λ x. cond b x (left_line call.user x)) n) (cond b j (log_leave call.user j))
      go true = l
      go false = lined_left call.user

  -- whoever is in the line after it waits by this very call
  pub not_in_left_by : (c : Command) (call : Call) → keeps_place c call n.state.wait_queue ≡ false → in_line (left_by c call n).state.wait_queue call.user ≡ false
  unfolding line_left_by
  not_in_left_by c call h = rw h (not_in_left call.user n.state.wait_queue lined_room)

-- whoever is not in the journal's line leaves it as it is
pub log_leave_none : (u : ℕ) (j : Journal) → journal.in_line u j.line ≡ false → log_leave u j ≡ j
unfolding log_leave
log_leave_none u j h = ap (λ line. with_holds j.holds line j) (sift_rest (λ w. eqb w.user u) j.line h)

-- ---- entries go
module _ {n : Nucleus} {j : Journal} (l : Lined [] n j) (which : Removal) (goes_hold : Hold → Bool) (same : (e : Entry) → goes which e ≡ goes_hold (hold_seen e)) where
  -- the journal lets go the same
  pub holds_gone : map hold_seen (sift (goes which) (entries_of n)) ≡ sift goes_hold j.holds
  holds_gone =
      ap (map hold_seen) (sift_ext (goes which) (λ e. goes_hold (hold_seen e)) same (entries_of n))
      ∙ sym (sift_over hold_seen goes_hold (entries_of n)) ∙ ap (sift goes_hold) l.same_holds

  holds_stay : map hold_seen (sift (stays which) (entries_of n)) ≡ sift (λ h. not (goes_hold h)) j.holds
  holds_stay =
      ap (map hold_seen) (sift_ext (stays which) (λ e. not (goes_hold (hold_seen e))) (λ e. ap not (same e)) (entries_of n))
      ∙ sym (sift_over hold_seen (λ h. not (goes_hold h)) (entries_of n)) ∙ ap (sift (λ h. not (goes_hold h))) l.same_holds

  pub lined_removed : (capacity : ℕ) → MadeIn capacity n → Lined (sift (goes which) (entries_of n)) (removed which n) (with_holds (sift (λ h. not (goes_hold h)) j.holds) j.line j)
  unfolding removed
  lined_removed capacity made = lined (fair_removed (fair l) (goes which)) (entries_removed n capacity made which) refl refl holds_stay l.same_line

-- what is let go is all of it: a queue has no more than 256 entries
pub let_go_all : (which : Removal) (n : Nucleus) → n.state.count ≤ max_capacity → let_go which n ≡ sift (goes which) (entries_of n)
let_go_all which n most =
    take_all max_capacity (sift (goes which) (entries_of n)) (omega (arith, length_sift (goes which) (entries_of n), length_entries n.queue n.state.count))

-- which those of RI are; of ET and BT, `All u`, they compute to `hold_of u`
pub goes_released : (call : Call) (e : Entry) → goes (lets_go Ri call) e ≡ released call (hold_seen e)
goes_released call e = go (eqb call.isn 0)
  where
    go : (b : Bool) → goes (cond b (Unchanged call.user) (One call.file call.isn)) e ≡ cond b (hold_of call.user (hold_seen e) && not e.changed) (hold_at call.file call.isn (hold_seen e))
    go true = refl
    go false = refl

-- ---- entries come
module _ {gone : List Entry} {n : Nucleus} {j : Journal} (l : Lined gone n j) where
  -- a new hold, and its user's new value
  pub lined_new : {m : Nucleus} (e : Entry) (u : ℕ) (x : User) → length n.state.users ≡ max_users → 1 ≤ u → u ≤ max_users → (in_line n.state.wait_queue u ≡ true → may_receive x ≡ true)
      → entries_of m ≡ entries_of n ++ e ∷ [] → m.state.wait_queue ≡ n.state.wait_queue → m.state.users ≡ set n.state.users (u - 1) x
      → Lined gone m (with_holds (j.holds ++ hold_seen e ∷ []) j.line j)
  lined_new e u x full least most may es ws us =
      lined (fair_more (fair_user (fair l) u x full least most may) (e ∷ [])) es ws us
      (map-append hold_seen (entries_of n) (e ∷ []) ∙ ap (λ t. t ++ hold_seen e ∷ []) l.same_holds) l.same_line

  module _ (file isn : ℕ) where
    -- who holds, in both
    pub holds_any : any (hold_at file isn) j.holds ≡ is_held (holder (entries_of n) file isn)
    holds_any = ap (any (hold_at file isn)) (sym l.same_holds) ∙ any_over hold_seen (hold_at file isn) (entries_of n) ∙ sym (held_any file isn (entries_of n))

    pub with_hold_new : (u : ℕ) → holder (entries_of n) file isn ≡ None
        → with_hold u file isn j.holds ≡ j.holds ++ record { user = u; file = file; isn = isn; changed = false } ∷ []
    with_hold_new u free = rw (holds_any, free)

    pub with_hold_there : (u i : ℕ) (e : Entry) → holder (entries_of n) file isn ≡ Some (i, e) → with_hold u file isn j.holds ≡ j.holds
    with_hold_there u i e found = rw (holds_any, found)

-- ---- one joins, where another holds his record
-- a record that somebody holds has numbers that fit their bytes: they come from a word
other_small : (words : List ℕ) (count u file isn : ℕ) → other_holds u (holder (entries words count) file isn) ≡ true → (file < 256) × (isn < 65536)
other_small words count u file isn h = go (holder (entries words count) file isn) refl h
  where
    go : (found : Option (ℕ × Entry)) → holder (entries words count) file isn ≡ found → other_holds u found ≡ true → (file < 256) × (isn < 65536)
    go (Some (i, e)) found o =
        let at = held_found file isn (entries words count) i e found in
        let inside : i < count = omega (arith, at.inside, length_entries words count) in
        let shape : Shape e = rw (sym (entry_at words count i inside) ∙ at.stands) at (unpack_shape (get_or words i 0)) in
        let same_file : e.file ≡ file = eqb-true e.file file (and_left (eqb e.file file) (eqb e.isn isn) at.matches) in
        let same_isn : e.isn ≡ isn = eqb-true e.isn isn (and_right (eqb e.file file) (eqb e.isn isn) at.matches) in
        (omega (arith, shape.file, same_file), omega (arith, shape.isn, same_isn))
    go None found o = not_both false o refl

module _ {n : Nucleus} {j : Journal} (l : Lined [] n j) (c : Command) (call : Call) (least : 1 ≤ call.user) (most : call.user ≤ max_users)
    (may : may_receive (user_of n call.user) ≡ true) (held : other_holds call.user (holder (entries_of n) call.file call.isn) ≡ true) where
  abbrev w : Entry
  w = waiter_for c call

  pub lined_joined : Lined [] (change_line (joined_line c call) n) (log_join c call j)
  unfolding joined_line log_join
  lined_joined = rw (in_line_same l call.user) (go (outcome (in_line n.state.wait_queue call.user)))
    where
      sound : waiter_sound n.state.users w ≡ true
      sound = rw (within_inside 1 max_users call.user least most) may

      go : Outcome (in_line n.state.wait_queue call.user)
          → Lined [] (change_line (joined_line c call) n) (with_holds j.holds (cond (in_line n.state.wait_queue call.user) j.line (j.line ++ waiter_seen w ∷ [])) j)
      go (holds t) = rw t l
      go (fails t) =
          let small = other_small n.queue n.state.count call.user call.file call.isn held in
          let shape : Shape w = record { user = omega (arith, most); file = small.0; isn = small.1 } in
          rw (t, lt-ltb n.state.wait_queue.waiting max_users (place_left (fair l) w t sound))
          (lined (fair_joined (fair l) w t sound shape held) refl refl refl l.same_holds
          (ap (map waiter_seen) (waiters_joined (fair l) w t sound shape) ∙ map-append waiter_seen (waiters_of n) (w ∷ []) ∙ ap (λ x. x ++ waiter_seen w ∷ []) l.same_line))

-- ---- between calls: the line is well made, and empty at first
module _ {n : Nucleus} {j : Journal} (l : Lined [] n j) where
  pub lined_few : leb n.state.wait_queue.waiting max_users ≡ true
  lined_few = le-leb n.state.wait_queue.waiting max_users l.few

  pub waiters_made : all (waiter_made n) (waiters_of n) ≡ true
  waiters_made = all_index (waiter_made n) no_entry (waiters_of n) made
    where
      made : (i : ℕ) → i < length (waiters_of n) → waiter_made n (get_or (waiters_of n) i no_entry) ≡ true
      made i h =
          let w : Entry = get_or (waiters_of n) i no_entry in
          let x : User = one_of_users n.state.users w.user in
          let sound : waiter_sound n.state.users w ≡ true = all_at (waiter_sound n.state.users) (waiters_of n) no_entry l.sound i h in
          let held : awaited [] (entries_of n) w ≡ true = all_at (awaited [] (entries_of n)) (waiters_of n) no_entry l.waited i h in
          let inside : within 1 max_users w.user ≡ true = and_left (within 1 max_users w.user) (may_receive x) sound in
          let may : may_receive x ≡ true = and_right (within 1 max_users w.user) (may_receive x) sound in
          let open_session : x.session ≡ true = search (and_left, and_right) in
          let waits : in_line n.state.wait_queue w.user ≡ true = any_there (is_user w.user) (waiters_of n) no_entry i h (eqb_self w.user) in
          rw (inside, open_session, held_once w.user (waiters_of n) l.different waits) (sym (or-false (other_holds w.user (holder (entries_of n) w.file w.isn))) ∙ held)

pub lined_fresh : (d : Definition) (store queue images : List ℕ) → Lined [] (nucleus (fresh_state d) store queue images) new_journal
unfolding entries
lined_fresh d store queue images = record { same_holds = refl; same_line = refl; places = refl; few = omega arith; different = refl; sound = refl; waited = refl }
