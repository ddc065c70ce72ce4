-- What is kept where A1, E1, N1 or N2 changes a record.
-- Assumes nothing.
use Rattle.std.specs.Prelude.{ℕ, ◌<◌, ◌≡◌, List, []}
use Rattle.std.proofs.Common.{arith, subst, ◌∙◌}
use Rattle.std.proofs.Math.Path.{refl, sym, ap}
use borrow.Author.Tests.{lt-ltb}
use Rattle.lists.specs.Folds.{all_append}
use Rattle.definition.specs.declared.Definition.{Definition}
use Rattle.transactions.specs.Machine as machine
use Rattle.transactions.specs.Theorems.{Invariant}
use Rattle.transactions.proofs.Theorems.{kept_act}
use Rattle.ground.specs.Keys.{isn_bound, key}
use Rattle.ground.specs.Store.{put}
use Rattle.ground.specs.Ground.{ground}
use Rattle.ground.specs.Queue.{queue_of, Made}
use Rattle.nucleus.specs.Nucleus.{Nucleus, Request, entries_of}
use Rattle.nucleus.specs.Target.{target_isn}
use Rattle.nucleus.specs.Effects.{held}
use Rattle.nucleus.specs.declared.User.{User}
use Rattle.claim.specs.Journal.{Journal, log_start, log_change, log_hold, log_mark, log_update}
use Rattle.history.specs.Updates.{updates, logged}
use Rattle.claim.specs.Lent.{Lent}
use Rattle.history.specs.Kept.{Kept, Sized, People, Told, definition_of, ground_of, seen, active_in, change_sound}
use Rattle.history.specs.Accepted.{Accepted}
use Rattle.history.specs.Lined.{Lined}
use Rattle.history.proofs.Lines.{lined_journal}
use Rattle.history.proofs.Keeping.{kept_holds}
use Rattle.history.proofs.Logs.{logged_change}
use Rattle.history.proofs.Ends.{laws_of}
use Rattle.history.proofs.Passing.{Passed}
use Rattle.history.proofs.HoldMoves.{his_entry, held_definition, held_store, held_same, his_held, seen_held}
use Rattle.history.proofs.Holding.{Serving, Holdable, holdable_at, kept_held, held_active}
use Rattle.history.proofs.Performing.{rested_held, lined_hold}
use Rattle.history.proofs.Changes.{Changes, Aim, aim}
use Rattle.history.proofs.ChangesLogged.{update_of, slot_of}
use Rattle.history.proofs.ChangesAllowed.{file_update, holds_record, machine_applied, change_allowed}
use Rattle.history.proofs.ChangesEffect.{HeldHere, Changed, users_same}

module _ (lent : Lent ℕ) (n : Nucleus) (j : Journal) (r : Request) (p : Passed r.capacity lent n j) (s : Serving r.call.user n) (a : Accepted r n) (c : Changes r) where
  abbrev capacity : ℕ
  capacity = r.capacity

  abbrev k : Kept capacity lent n j
  k = p.kept

  abbrev d : Definition
  d = definition_of n

  abbrev u : ℕ
  u = r.call.user

  abbrev isn : ℕ
  isn = target_isn r n

  abbrev key_at : ℕ
  key_at = key r.call.file isn

  abbrev made : Made d capacity n.store n.queue n.images n.state.count
  made = k.sized.made

  t : Aim r n
  t = aim r n k.sized.shape a k.assigned_sound c

  -- ---- the hold
  pub holdable : Holdable capacity r isn n
  holdable = holdable_at r n a (holds_record r c) t

  small_user : u < 256
  small_user = omega (arith, s.most)

  abbrev before : Kept capacity lent (held r isn n) (log_start u j)
  before = kept_held capacity lent n j k r isn s holdable

  pub held_here : HeldHere capacity lent r n isn
  held_here =
      let e = his_entry u _ (his_held n capacity made k.sized.shape r isn t.small t.known small_user holdable.mine holdable.room) in
      record {
        at = e.at;
        entry = e.entry;
        found = e.found;
        definition = held_definition r isn n;
        store = held_store r isn n;
        queue = seen_held n capacity made k.sized.shape r isn t.small t.known small_user holdable.mine holdable.room;
        sized = before.sized;
      }

  -- ---- the argument of requirement 3
  abbrev told_now : Journal
  told_now = log_change r.call isn (update_of r c) (log_start u j)

  -- ---- the nucleus that it leaves
  module _ (m : Nucleus) (ch : Changed capacity lent r n (slot_of r n c) m) where
    abbrev us : List User
    us = (held r isn n).state.users

    moved : machine.act (ground_of lent n) (machine.change u key_at (file_update r c)) (seen lent n)
        ≡ record { store = m.store; queue = queue_of d m.queue m.images m.state.count }
    unfolding machine.act
    moved = λ i. record {
      store = sym (ch.store ∙ ap (put d n.store key_at) (sym (machine_applied r n k.sized.shape k.sized.valid capacity made t a c))) i;
      queue = sym ch.queue i;
    }

    invariant_here : Invariant (ground_of lent n) (record { store = m.store; queue = queue_of d m.queue m.images m.state.count }) (logged told_now.changes)
    unfolding log_start log_change
    invariant_here =
        rw (moved, logged_change d lent.store u r.call.file isn (update_of r c) j.changes) at
        (kept_act (ground_of lent n) (laws_of capacity lent n k.sized) (seen lent n) (logged j.changes) k.invariant (machine.change u key_at (file_update r c))
        (change_allowed r n k.sized.shape k.sized.valid capacity made t a c lent))

    -- ---- and all else
    people_here : People (held r isn n).state.clock us (entries_of m)
    people_here = record {
      user_count = before.people.user_count;
      users_sound = before.people.users_sound;
      entries_active = users_same (active_in us) (entries_of m) (entries_of (held r isn n)) ch.holds_same ∙ before.people.entries_active;
    }

    told_here : Told (held r isn n).state.clock us told_now
    unfolding log_change
    told_here = record {
      same_clock = before.told.same_clock;
      same_members = before.told.same_members;
      changes_sound =
          all_append (change_sound us) (log_start u j).changes _
          ∙ rw (before.told.changes_sound, lt-ltb isn isn_bound t.small, held_active capacity lent n j k r isn s holdable);
    }

    pub kept_changed : Kept capacity lent m told_now
    kept_changed = record {
      sized = subst (λ x. Sized capacity lent x m.store m.queue m.images m.state.count) (sym ch.definition) ch.sized;
      people = rw (ch.clock, ch.users) people_here;
      assigned_sound = rw (ch.assigned, ch.definition, held_same r isn n (λ x. x.state.last_assigned) refl) k.assigned_sound;
      data_sound = rw ch.data_kept before.data_sound;
      told = rw (ch.clock, ch.users) told_here;
      invariant = subst (λ x. Invariant (ground x (updates x) lent.store) (record { store = m.store; queue = queue_of x m.queue m.images m.state.count }) (logged told_now.changes)) (sym ch.definition) invariant_here;
    }

    -- the hold is the journal's too
    abbrev noted : Journal
    noted = log_update r.call isn (update_of r c) j

    kept_noted : Kept capacity lent m noted
    unfolding log_change log_mark log_hold log_start
    kept_noted = kept_holds capacity lent m told_now kept_changed noted.holds noted.line

    lined_noted : Lined [] m noted
    unfolding log_change
    lined_noted = lined_journal (ch.lined (log_hold u r.call.file isn j) (lined_hold capacity lent n j p r isn s holdable)) refl refl

    pub passed_changed : Passed capacity lent m noted
    passed_changed = record { kept = kept_noted; rested = rw (ch.clock, ch.users) (rested_held n p.rested r isn); lined = lined_noted }
