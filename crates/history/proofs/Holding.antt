-- What is kept where a call holds an ISN: its user is in a transaction from then on, or was already.
-- Assumes nothing.
use Rattle.std.specs.Prelude.{ℕ, ◌-◌, ◌≤◌, ◌<◌, ◌≡◌, refl, true, false, ◌&&◌, List, [], ◌∷◌, set, Option, Some, None}
use Rattle.std.proofs.Common.{arith, sym, ◌∙◌, leb-false}
use Rattle.std.proofs.Math.Path.{ap}
use Rattle.lists.specs.Tests.{within, Outcome, holds, fails, outcome, within_inside, and_right}
use Rattle.lists.specs.Folds.{all_at, all_append}
use Rattle.entries.specs.Laws.{no_entry}
use Rattle.queue.specs.Laws.{held_found}
use Rattle.transactions.specs.Machine.{hold, with_hold, act, log}
use Rattle.transactions.specs.Theorems.{Invariant}
use Rattle.transactions.proofs.Theorems.{kept_act}
use Rattle.ground.specs.Keys.{isn_bound, key, known}
use Rattle.nucleus.specs.Users.{is_active, started, with_transaction}
use Rattle.nucleus.specs.Nucleus.{Nucleus, Request, max_users, user_of, entries_of}
use Rattle.nucleus.specs.Target.{is_isn, isn_in, is_holder, other_holds, holder_of, target, target_isn}
use Rattle.nucleus.specs.Effects.{held, entry_for}
use Rattle.nucleus.specs.Rows.{held_elsewhere, new_entry, queue_full}
use Rattle.nucleus.specs.Commands.{one_of, holding}
use Rattle.nucleus.specs.declared.User.{User}
use Rattle.claim.specs.Journal.{Journal, member, with_member, start_at, log_start}
use Rattle.history.specs.Updates.{logged}
use Rattle.claim.specs.Lent.{Lent}
use Rattle.history.specs.Kept.{Kept, People, definition_of, ground_of, seen, user_sound, active_in, entry_active, member_of, start_of}
use Rattle.history.proofs.People.{sound_active, active_own, member_is}
use Rattle.history.proofs.Keeping.{user_known, people_user, told_user, same_member}
use Rattle.history.proofs.Sizes.{sized_append}
use Rattle.history.specs.Accepted.{Accepted}
use Rattle.history.proofs.Changes.{Aim, rest_fails}
use Rattle.history.proofs.Ends.{laws_of}
use Rattle.history.proofs.QueueMoves.{queue_seen}
use Rattle.history.proofs.HoldMoves.{his_entry, nobodys, held_anew, held_his, held_new, new_shape, hold_allowed, entries_anew, seen_anew}

-- a caller that may hold: in his session, not overdue, not access-only
pub record Serving (u : ℕ) (n : Nucleus) : Type 0 where
  pub least : 1 ≤ u
  pub most : u ≤ max_users
  pub session : (user_of n u).session ≡ true
  pub not_overdue : (user_of n u).overdue ≡ false
  pub changing : (user_of n u).access_only ≡ false

-- an ISN of its file that nobody else holds, and room for a new entry
pub record Holdable (capacity : ℕ) (r : Request) (isn : ℕ) (n : Nucleus) : Type 0 where
  pub small : isn < isn_bound
  pub inside : known (definition_of n) (key r.call.file isn) ≡ true
  pub mine : other_holds r.call.user (holder_of r n isn) ≡ false
  pub room : is_holder r.call.user (holder_of r n isn) ≡ false → n.state.count < capacity

-- what is not 0 was found
isn_there : (x : Option ℕ) → 1 ≤ isn_in x → is_isn x ≡ true
isn_there (Some isn) h = refl
isn_there None h = absurd (omega arith)

-- so is the ISN of an accepted command that holds: rows 145 and 70
pub holdable_at : (r : Request) (n : Nucleus) → Accepted r n → one_of holding r.command ≡ true → Aim r n
    → Holdable r.capacity r (target_isn r n) n
unfolding held_elsewhere queue_full
holdable_at r n a holds_isn t =
    let found = isn_there (target r n) t.inside.least in
    record {
      small = t.small;
      inside = t.known;
      mine = rest_fails (one_of holding r.command && is_isn (target r n)) _ (rw (holds_isn, found)) a.mine;
      room = λ new. leb-false r.capacity n.state.count (rest_fails (new_entry r n) _ (rw (holds_isn, found, new)) a.room);
    }

module _ (capacity : ℕ) (lent : Lent ℕ) (n : Nucleus) (j : Journal) (k : Kept capacity lent n j) (r : Request) (isn : ℕ)
    (s : Serving r.call.user n) (h : Holdable capacity r isn n) where
  abbrev u : ℕ
  u = r.call.user

  abbrev clock : ℕ
  clock = n.state.clock

  abbrev us : List User
  us = n.state.users

  abbrev x : User
  x = started clock (user_of n u)

  -- ---- the caller, in a transaction
  x_active : is_active x ≡ true
  x_active = go (outcome (is_active (user_of n u)))
    where
      go : Outcome (is_active (user_of n u)) → is_active x ≡ true
      go (holds a) = rw (a, a)
      go (fails a) = rw a

  x_sound : user_sound clock x ≡ true
  x_sound = go (outcome (is_active (user_of n u)))
    where
      go : Outcome (is_active (user_of n u)) → user_sound clock x ≡ true
      go (holds a) = rw a (user_known capacity lent n j k u)
      go (fails a) = rw a (sound_active clock (with_transaction (record { active = true; begun = clock; ready = false }) (user_of n u)) refl (record { session = s.session; begun = omega arith; not_overdue = s.not_overdue; changing = s.changing }))

  x_member : member_of x ≡ record { limit = (member j u).limit; start = start_at j.clock (member j u).start; ready = (member j u).ready }
  x_member = rw (member_is us u j k.told.same_members, k.told.same_clock) (go (outcome (is_active (user_of n u))))
    where
      go : Outcome (is_active (user_of n u)) → member_of x ≡ record { limit = (member_of (user_of n u)).limit; start = start_at clock (start_of (user_of n u)); ready = (member_of (user_of n u)).ready }
      go (holds a) = rw (a, a)
      go (fails a) = rw a

  pub log_start_is : log_start u j ≡ with_member u (member_of x) j
  unfolding log_start
  log_start_is = ap (λ m. with_member u m j) (sym x_member)

  -- whoever has an entry is in a transaction
  has_entry : is_holder u (holder_of r n isn) ≡ true → is_active (user_of n u) ≡ true
  has_entry his =
      let e = his_entry u (holder_of r n isn) his in
      let f = held_found r.call.file isn (entries_of n) e.at e.entry e.found in
      let a : active_in us e.entry.user ≡ true = rw f.stands at (all_at (entry_active us) (entries_of n) no_entry k.people.entries_active e.at f.inside) in
      and_right (within 1 max_users u) (is_active (user_of n u)) (rw e.user at a)

  log_start_same : is_active (user_of n u) ≡ true → log_start u j ≡ j
  log_start_same a = log_start_is ∙ same_member us u j k.told.same_members x (rw (a, a))

  -- ---- a new entry
  abbrev us' : List User
  us' = set us (u - 1) x

  small_user : u < 256
  small_user = omega (arith, s.most)

  old_people : People clock us' (entries_of n)
  old_people = people_user clock us u s.least s.most x k.people.user_count (λ a. x_active) (entries_of n) k.people x_sound

  new_active : active_in us' u ≡ true
  new_active = active_own us k.people.user_count u s.least s.most x ∙ x_active

  kept_hold : Invariant (ground_of lent n) (record { store = n.store; queue = with_hold u (key r.call.file isn) (queue_seen n) }) (logged j.changes)
  unfolding act log
  kept_hold =
      kept_act (ground_of lent n) (laws_of capacity lent n k.sized) (seen lent n) (logged j.changes) k.invariant (hold u (key r.call.file isn))
      (hold_allowed n capacity k.sized.made lent u r.call.file isn h.small h.mine)

  module _ (none_his : is_holder u (holder_of r n isn) ≡ false) where
    anew : Kept capacity lent (held_anew r isn n) (with_member u (member_of x) j)
    anew = record {
      sized =
          sized_append capacity lent (definition_of n) n.store n.queue n.images n.state.count k.sized (entry_for r isn n)
          (new_shape n capacity k.sized.made k.sized.shape r isn h.small h.inside small_user h.mine h.room)
          h.inside (nobodys u (holder_of r n isn) none_his h.mine) (h.room none_his);
      people = record {
        user_count = old_people.user_count;
        users_sound = old_people.users_sound;
        entries_active =
            rw (
              entries_anew n capacity k.sized.made k.sized.shape r isn h.small h.inside small_user h.mine h.room none_his,
              all_append (entry_active us') (entries_of n) (entry_for r isn n ∷ []),
              old_people.entries_active,
              new_active,
            );
      };
      assigned_sound = k.assigned_sound;
      data_sound = k.data_sound;
      told = told_user clock us u s.least s.most x k.people.user_count (λ a. x_active) j k.told;
      invariant =
          rw (seen_anew n capacity k.sized.made k.sized.shape r isn h.small h.inside small_user h.mine h.room none_his) kept_hold;
    }

    pub kept_anew : Kept capacity lent (held_anew r isn n) (log_start u j)
    kept_anew = rw log_start_is anew

  pub kept_held : Kept capacity lent (held r isn n) (log_start u j)
  kept_held = go (outcome (is_holder u (holder_of r n isn)))
    where
      go : Outcome (is_holder u (holder_of r n isn)) → Kept capacity lent (held r isn n) (log_start u j)
      go (holds his) = rw (held_his r isn n his, log_start_same (has_entry his)) k
      go (fails new) = rw (held_new r isn n new) (kept_anew new)

  -- the caller is in a transaction then
  pub held_active : active_in (held r isn n).state.users u ≡ true
  held_active = go (outcome (is_holder u (holder_of r n isn)))
    where
      go : Outcome (is_holder u (holder_of r n isn)) → active_in (held r isn n).state.users u ≡ true
      go (holds his) = rw (held_his r isn n his, within_inside 1 max_users u s.least s.most) (has_entry his)
      go (fails new) = rw (held_new r isn n new) new_active
