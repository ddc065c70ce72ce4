-- Each operation of the abstract machine, done by the functions of `queue`, `images`, `hold` and `store` on a well made state.
-- Assumes nothing.
use Rattle.std.specs.Prelude.{ℕ, ◌+◌, ◌<◌, ◌≡◌, Bool, true, false, cond, List, [], ◌∷◌, ◌++◌, map, length, Some, None}
use Rattle.std.proofs.Math.Path.{sym, ap}
use Rattle.std.proofs.Common.{◌∙◌, arith}
use Rattle.lists.specs.Tests.{Outcome, holds, fails, outcome, eqb_self}
use Rattle.lists.specs.Folds.{any}
use Rattle.definition.specs.Shape.{DefinitionShape}
use Rattle.definition.specs.declared.Definition.{Definition}
use Rattle.layout.specs.Layout.{image_length}
use Rattle.entries.specs.Entries.{entries}
use Rattle.queue.specs.Queue.{holder, append}
use Rattle.entries.specs.Laws.{Shape, length_entries}
use Rattle.queue.specs.Laws.{entries_append, holder_last}
use Rattle.entries.specs.declared.Entry.{Entry}
use Rattle.removal.specs.Removal.{remove_queue, remove_images, remove_count}
use Rattle.removal.specs.declared.Removal.{Removal}
use Rattle.removal.specs.declared.Removal.TheVariants.{One, Unchanged, All}
use Rattle.changes.specs.Changes.{first_change_queue, first_change_images}
use Rattle.hold.specs.Hold.{restore}
use Rattle.transactions.specs.Machine.{Entry as MachineEntry, Ground, Machine, new_entry, at_key, with_hold, image_kept, hold, release, release_all, change, end, back_out, act}
use Rattle.lists.specs.Every.{any_behind}
use Rattle.ground.specs.Keys.{isn_bound, key}
use Rattle.ground.specs.Store.{get, put}
use Rattle.ground.specs.Queue.{key_of, Made}
use Rattle.ground.specs.Ground.{Updates, ground, machine}
use Rattle.ground.proofs.Entries.{queue_hold, queue_held, queue_release, queue_release_all, queue_without}
use Rattle.ground.proofs.FirstChange.{queue_first_change}
use Rattle.ground.proofs.Restore.{restore_is}

module _ (d : Definition) (s : DefinitionShape d) (U : Updates) (lent : List ℕ)
    (capacity : ℕ) (store words images : List ℕ) (count : ℕ) (m : Made d capacity store words images count) where
  abbrev state : Machine (ground d U lent)
  state = machine d U lent store words images count

  abbrev with_queue : List MachineEntry → Machine (ground d U lent)
  with_queue q = record { store = store; queue = q }

  -- the state after a removal, with another store
  abbrev pub after : List ℕ → Removal → Machine (ground d U lent)
  after store' which =
      machine d U lent store' (remove_queue words images count (image_length d) which) (remove_images words images count (image_length d) which)
      (remove_count words images count (image_length d) which)

  -- ---- a hold: of what nobody holds, and of what is held
  pub act_hold : (e : Entry) → Shape e → e.changed ≡ false → count < capacity → holder (entries words count) e.file e.isn ≡ None
      → act (ground d U lent) (hold e.user (key_of e)) state ≡ machine d U lent store (append words count e) images (count + 1)
  unfolding act
  act_hold e shape new more free = sym (ap with_queue (queue_hold d words images count e shape new (omega (arith, m.queue_room)) free))

  pub act_held : (u file isn i : ℕ) (e : Entry) → isn < isn_bound → holder (entries words count) file isn ≡ Some (i, e)
      → act (ground d U lent) (hold u (key file isn)) state ≡ state
  unfolding act
  act_held u file isn i e small found = ap with_queue (queue_held d words images count u file isn i e small found)

  -- ---- a release, of one unchanged entry and of all of a user
  pub act_release : (file isn i : ℕ) (e : Entry) → isn < isn_bound → holder (entries words count) file isn ≡ Some (i, e) → e.changed ≡ false
      → act (ground d U lent) (release e.user (key file isn)) state ≡ after store (One file isn)
  unfolding act
  act_release file isn i e small found new = sym (ap with_queue (queue_release d capacity store words images count m file isn i e small found new))

  pub act_release_all : (u : ℕ) → act (ground d U lent) (release_all u) state ≡ after store (Unchanged u)
  unfolding act
  act_release_all u = sym (ap with_queue (queue_release_all d capacity store words images count m u))

  -- ---- the end of a transaction, and a back-out
  pub act_end : (u : ℕ) → act (ground d U lent) (end u) state ≡ after store (All u)
  unfolding act
  act_end u = sym (ap with_queue (queue_without d capacity store words images count m u))

  pub act_back_out : (u : ℕ) → act (ground d U lent) (back_out u) state ≡ after (restore d (image_length d) u words images count store) (All u)
  unfolding act
  act_back_out u = λ j. record {
    store = sym (restore_is d s u capacity store words images count m U lent) j;
    queue = sym (queue_without d capacity store words images count m u) j;
  }

  -- ---- a change of a record that is held: the slot that stands there is kept by the first one, and the new one is put
  pub act_change : (u file isn at : ℕ) (e : Entry) → isn < isn_bound → holder (entries words count) file isn ≡ Some (at, e)
      → (existed : Bool) (content : List ℕ) → get d store (key file isn) ≡ cond existed (Some content) None → (c : U.Update)
      → act (ground d U lent) (change u (key file isn) c) state
      ≡ machine d U lent (put d store (key file isn) (U.apply (key file isn) c (get d store (key file isn))))
      (first_change_queue words at existed) (first_change_images words images (image_length d) at existed content) count
  unfolding act
  act_change u file isn at e small found existed content now c = λ j. record {
    store = put d store (key file isn) (U.apply (key file isn) c (get d store (key file isn)));
    queue = (ap (map (image_kept (key file isn) (get d store (key file isn)))) (queue_held d words images count u file isn at e small found)
        ∙ sym (queue_first_change d s capacity store words images count m file isn at e small found existed content now)) j;
  }

-- ---- a change that takes the hold: as a hold, and then the change
-- the machine takes the hold by itself (`transactions`)
hold_twice : (u k : ℕ) (q : List MachineEntry) → with_hold u k (with_hold u k q) ≡ with_hold u k q
hold_twice u k q = go (outcome (any (at_key k) q))
  where
    go : Outcome (any (at_key k) q) → with_hold u k (with_hold u k q) ≡ with_hold u k q
    go (holds e) = rw (e, e)
    go (fails e) = rw (e, any_behind (at_key k) q (new_entry u k ∷ []) (rw (eqb_self k)))

pub change_holds : (G : Ground) (u k : ℕ) (c : G.Update) (m : Machine G) → act G (change u k c) (act G (hold u k) m) ≡ act G (change u k c) m
unfolding act
change_holds G u k c m = λ j. record {
  store = G.put m.store k (G.apply k c (G.get m.store k));
  queue = map (image_kept k (G.get m.store k)) (hold_twice u k m.queue j);
}

-- and the new entry is found at the end
pub holder_new : (words : List ℕ) (count : ℕ) (e : Entry) → Shape e → count < length words → holder (entries words count) e.file e.isn ≡ None
    → holder (entries (append words count e) (count + 1)) e.file e.isn ≡ Some (count, e)
holder_new words count e s room free =
    rw (entries_append words count e s room) (holder_last (entries words count) e free ∙ ap (λ n. Some (n, e)) (omega (arith, length_entries words count)))
