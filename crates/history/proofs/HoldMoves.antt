-- A hold in a nucleus as the abstract machine's: a new entry at the end of the queue, unless the caller has one.
-- Assumes nothing.
use Rattle.std.specs.Prelude.{ℕ, ◌<◌, ◌≡◌, Bool, not, [], ◌∷◌, ◌++◌, eqb, length, Option, Some, None}
use Rattle.std.proofs.Common.{arith, sym, ◌∙◌, eqb-true}
use Rattle.std.proofs.Math.Path.{refl, ap}
use Rattle.std.proofs.Math.Bool.{true, false, cond}
use Rattle.std.proofs.lemmas.Bool.{not-false}
use Rattle.lists.specs.Tests.{Outcome, holds, fails, outcome, not_both, eqb_self}
use Rattle.definition.specs.Shape.{DefinitionShape, file_shape_at}
use Rattle.definition.specs.declared.Definition.{Definition}
use Rattle.queue.specs.Queue.{holder}
use Rattle.entries.specs.Laws.{Shape}
use Rattle.queue.specs.Laws.{entries_append}
use Rattle.entries.specs.declared.Entry.{Entry}
use Rattle.transactions.specs.Machine as machine
use Rattle.ground.specs.Keys.{isn_bound, key, known}
use Rattle.ground.proofs.Keys.{known_found, file_of_key}
use Rattle.ground.proofs.Reading.{found_passes, other_holds as other_passes}
use Rattle.ground.proofs.Acts.{holder_new}
use Rattle.ground.proofs.Entries.{queue_hold, queue_held}
use Rattle.nucleus.specs.Users.{started}
use Rattle.nucleus.specs.Nucleus.{Nucleus, Request, entries_of, change_user}
use Rattle.nucleus.specs.Target.{is_holder, other_holds, holder_of}
use Rattle.nucleus.specs.Effects.{entry_for, with_entry, held}
use Rattle.claim.specs.Lent.{Lent}
use Rattle.history.specs.Kept.{definition_of, ground_of, seen}
use Rattle.history.proofs.QueueMoves.{queue_seen, MadeIn}

-- ---- the number of a file whose ISN is known is a byte
module _ (d : Definition) (shape : DefinitionShape d) (file isn : ℕ) where
  pub known_file_small : isn < isn_bound → known d (key file isn) ≡ true → file < 256
  known_file_small small inside =
      let home = known_found d shape (key file isn) inside in
      omega (arith, home.number, file_of_key file isn small, (file_shape_at d shape home.at (omega (arith, home.in_use))).small_number)

-- ---- who holds
-- an entry that a user holds
pub record His (u : ℕ) (l : Option (ℕ × Entry)) : Type 0 where
  pub at : ℕ
  pub entry : Entry
  pub found : l ≡ Some (at, entry)
  pub user : entry.user ≡ u

pub his_entry : (u : ℕ) (l : Option (ℕ × Entry)) → is_holder u l ≡ true → His u l
his_entry u (Some (i, e)) h = record { at = i; entry = e; found = refl; user = eqb-true e.user u h }
his_entry u None h = not_both false h refl

-- neither his nor another's
pub nobodys : (u : ℕ) (l : Option (ℕ × Entry)) → is_holder u l ≡ false → other_holds u l ≡ false → l ≡ None
nobodys u (Some (i, e)) h o = not_both (eqb e.user u) (not-false (eqb e.user u) o) h
nobodys u None h o = refl

passes_other : (u : ℕ) (l : Option (ℕ × Entry)) → found_passes (λ v. not (eqb v u)) l ≡ other_holds u l
passes_other u (Some (i, e)) = refl
passes_other u None = refl

-- ---- the two ways of a hold
module _ (r : Request) (isn : ℕ) (n : Nucleus) where
  abbrev user : ℕ
  user = r.call.user

  -- with the new entry, his transaction begun
  abbrev pub held_anew : Nucleus
  held_anew = change_user user (started n.state.clock) (with_entry r isn n)

  pub held_his : is_holder user (holder_of r n isn) ≡ true → held r isn n ≡ n
  unfolding held
  held_his h = ap (λ b. cond b n held_anew) h

  pub held_new : is_holder user (holder_of r n isn) ≡ false → held r isn n ≡ held_anew
  unfolding held
  held_new h = ap (λ b. cond b n held_anew) h

  -- what neither way changes: definition, clock, ET data, the ISNs that N1 last gave, store, images
  pub held_same : {A : Type 0} (part : Nucleus → A) → part held_anew ≡ part n → part (held r isn n) ≡ part n
  unfolding held
  held_same part same = go (is_holder user (holder_of r n isn))
    where
      go : (b : Bool) → part (cond b n held_anew) ≡ part n
      go true = refl
      go false = same

  pub held_definition : definition_of (held r isn n) ≡ definition_of n
  held_definition = held_same definition_of refl

  pub held_store : (held r isn n).store ≡ n.store
  held_store = held_same (λ m. m.store) refl

-- ---- of a well made nucleus
module _ (n : Nucleus) (capacity : ℕ) (made : MadeIn capacity n) where
  -- the machine's test that another user holds is the nucleus's
  pub other_seen : (u file isn : ℕ) → isn < isn_bound → machine.held_by_other u (key file isn) (queue_seen n) ≡ other_holds u (holder (entries_of n) file isn)
  other_seen u file isn small =
      other_passes (definition_of n) n.queue n.images n.state.count made.single file isn small u ∙ passes_other u (holder (entries_of n) file isn)

  pub hold_allowed : (lent : Lent ℕ) (u file isn : ℕ) → isn < isn_bound → other_holds u (holder (entries_of n) file isn) ≡ false
      → machine.allowed (ground_of lent n) (machine.hold u (key file isn)) (seen lent n) ≡ true
  unfolding machine.allowed
  hold_allowed lent u file isn small mine = rw (other_seen u file isn small ∙ mine)

  -- at an ISN of its file that nobody else holds, with room in the queue for a new entry
  module _ (shape : DefinitionShape (definition_of n)) (r : Request) (isn : ℕ) (small : isn < isn_bound)
      (inside : known (definition_of n) (key r.call.file isn) ≡ true) (small_user : r.call.user < 256)
      (mine : other_holds r.call.user (holder_of r n isn) ≡ false) (room : is_holder r.call.user (holder_of r n isn) ≡ false → n.state.count < capacity) where
    abbrev u : ℕ
    u = r.call.user

    abbrev k : ℕ
    k = key r.call.file isn

    abbrev new : Entry
    new = entry_for r isn n

    pub new_shape : Shape new
    new_shape = record { user = small_user; file = known_file_small (definition_of n) shape r.call.file isn small inside; isn = small }

    -- where he has no entry yet
    module _ (none : is_holder u (holder_of r n isn) ≡ false) where
      free : holder_of r n isn ≡ None
      free = nobodys u (holder_of r n isn) none mine

      place_left : n.state.count < length n.queue
      place_left = omega (arith, room none, made.queue_room)

      pub entries_anew : entries_of (held_anew r isn n) ≡ entries_of n ++ new ∷ []
      entries_anew = entries_append n.queue n.state.count new new_shape place_left

      pub seen_anew : queue_seen (held_anew r isn n) ≡ machine.with_hold u k (queue_seen n)
      seen_anew = queue_hold (definition_of n) n.queue n.images n.state.count new new_shape refl place_left free

      -- the entry is the last one
      found_anew : holder_of r (held r isn n) isn ≡ Some (n.state.count, new)
      found_anew = rw (held_new r isn n none) (holder_new n.queue n.state.count new new_shape place_left free)

    pub seen_held : queue_seen (held r isn n) ≡ machine.with_hold u k (queue_seen n)
    seen_held = go (outcome (is_holder u (holder_of r n isn)))
      where
        go : Outcome (is_holder u (holder_of r n isn)) → queue_seen (held r isn n) ≡ machine.with_hold u k (queue_seen n)
        go (holds h) =
            let e = his_entry u (holder_of r n isn) h in
            rw (held_his r isn n h) (sym (queue_held (definition_of n) n.queue n.images n.state.count u r.call.file isn e.at e.entry small e.found))
        go (fails h) = rw (held_new r isn n h) (seen_anew h)

    -- the entry that is found then is his
    pub his_held : is_holder u (holder_of r (held r isn n) isn) ≡ true
    his_held = go (outcome (is_holder u (holder_of r n isn)))
      where
        go : Outcome (is_holder u (holder_of r n isn)) → is_holder u (holder_of r (held r isn n) isn) ≡ true
        go (holds h) = rw (held_his r isn n h) h
        go (fails h) = rw (found_anew h) (eqb_self u)
