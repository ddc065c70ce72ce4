-- The abstract machine of holds, changes and back-outs: a store of slots, a hold queue with before-images, six operations; and the journal
-- (document 01's book) that is kept beside it. No bytes, files' layouts or commands here: what lies below is a section's parameter, `Ground`.
-- Assumes nothing.
use Rattle.std.specs.Prelude.{◌≡◌, Bool, true, false, not, cond, ◌&&◌, ◌||◌, List, [], ◌∷◌, ◌++◌, map, ℕ, eqb, Some, None}
use Rattle.lists.specs.Tests.{eqbs}
use Rattle.lists.specs.Folds.{any}
use Rattle.lists.specs.Sift.{sift}
use Rattle.transactions.specs.Slots.{Bytes, Slot}

-- an entry of the hold queue. A key stands for a file and an ISN; `image` is what stood there before the first change
pub record Entry : Type 0 where
  pub user : ℕ
  pub key : ℕ
  pub changed : Bool
  pub image : Slot

-- a change in the journal: whose, where, what, and whether his transaction is open still (document 01: an open change)
pub record Change (Update : Type 0) : Type 0 where
  pub user : ℕ
  pub key : ℕ
  pub update : Update
  pub uncommitted : Bool

-- hold of a key by a user; release of an unchanged entry, or of all; a change; end of transaction; back-out
pub data Operation (Update : Type 0) : Type 0 where
  hold : ℕ → ℕ → Operation Update
  release : ℕ → ℕ → Operation Update
  release_all : ℕ → Operation Update
  change : ℕ → ℕ → Update → Operation Update
  end : ℕ → Operation Update
  back_out : ℕ → Operation Update

-- what the machine stands on: a store with its slots (`fit`: a slot has the form that its key asks); the keys there are and the file of each;
-- the unique fields of a file and their values in a record; the kinds of change, what each makes of a slot, where it may be made, and which
-- unique fields it judges
pub record Ground : Type 1 where
  pub Store : Type 0
  pub get : Store → ℕ → Slot
  pub put : Store → ℕ → Slot → Store
  pub fresh : Store
  pub fit : ℕ → Slot → Bool
  pub keys : List ℕ
  pub file : ℕ → ℕ
  pub fields : ℕ → List ℕ
  pub value : ℕ → ℕ → Bytes → List ℕ
  pub Update : Type 0
  pub apply : ℕ → Update → Slot → Slot
  pub may : Update → ℕ → Slot → Bool
  pub judges : Update → ℕ → Bool

-- what is asked of it: the store's two laws, and that a change either judges a unique field or leaves it as it was
pub record Laws (G : Ground) : Type 0 where
  pub empty : (k : ℕ) → G.get G.fresh k ≡ None
  pub get_put : (s : G.Store) (k : ℕ) (x : Slot) → G.fit k x ≡ true → G.get (G.put s k x) k ≡ x
  pub get_other : (s : G.Store) (k : ℕ) (x : Slot) (j : ℕ) → G.fit k x ≡ true → eqb k j ≡ false → G.get (G.put s k x) j ≡ G.get s j
  pub get_fit : (s : G.Store) (k : ℕ) → any (eqb k) G.keys ≡ true → G.fit k (G.get s k) ≡ true
  pub may_key : (c : G.Update) (k : ℕ) (x : Slot) → G.may c k x ≡ true → any (eqb k) G.keys ≡ true
  pub may_fit : (c : G.Update) (k : ℕ) (x : Slot) → G.may c k x ≡ true → G.fit k (G.apply k c x) ≡ true
  pub kept : (c : G.Update) (k : ℕ) (x : Slot) (r : Bytes) (d : ℕ) → G.may c k x ≡ true → G.apply k c x ≡ Some r
      → any (eqb d) (G.fields (G.file k)) ≡ true → G.judges c d ≡ false
      → (o : Bytes) × (x ≡ Some o) × (G.value (G.file k) d o ≡ G.value (G.file k) d r)

-- the queue
abbrev pub new_entry : ℕ → ℕ → Entry
new_entry u k = record { user = u; key = k; changed = false; image = None }

abbrev pub of_user : ℕ → Entry → Bool
of_user u e = eqb e.user u

abbrev pub at_key : ℕ → Entry → Bool
at_key k e = eqb e.key k

abbrev pub held_by_other : ℕ → ℕ → List Entry → Bool
held_by_other u k q = any (λ (e : Entry). at_key k e && not (of_user u e)) q

abbrev pub with_hold : ℕ → ℕ → List Entry → List Entry
with_hold u k q = cond (any (at_key k) q) q (q ++ (new_entry u k ∷ []))

abbrev pub imaged_entry : Slot → Entry → Entry
imaged_entry x e = record { user = e.user; key = e.key; changed = true; image = cond e.changed e.image x }

abbrev pub image_kept : ℕ → Slot → Entry → Entry
image_kept k x e = cond (at_key k e) (imaged_entry x e) e

abbrev pub without : ℕ → List Entry → List Entry
without u q = sift (λ (e : Entry). not (of_user u e)) q

module _ (G : Ground) where
  open G use {Store, get, put, fresh, keys, file, fields, value, Update, apply, may, judges}

  pub record Machine : Type 0 where
    pub store : Store
    pub queue : List Entry

  -- every changed entry of the users that `P` picks is put back, oldest first
  unfoldable pub restore : (ℕ → Bool) → List Entry → Store → Store
  restore P [] s = s
  restore P (e ∷ q) s = restore P q (cond (e.changed && P e.user) (put s e.key e.image) s)

  -- record `r`, new at a key of file `F` by `c`, has a judged value that the slot has too
  unfoldable pub clash : Update → ℕ → Bytes → Slot → Bool
  clash c F r None = false
  clash c F r (Some b) = any (λ d. judges c d && eqbs (value F d r) (value F d b)) (fields F)

  unfoldable pub taken : ℕ → ℕ → Update → Slot → Machine → Bool
  taken u k c None m = false
  taken u k c (Some r) m =
      any (λ j. not (eqb k j) && eqb (file k) (file j) && clash c (file k) r (get m.store j)) keys
      || any (λ (e : Entry). e.changed && not (of_user u e) && (not (eqb k e.key) && eqb (file k) (file e.key) && clash c (file k) r e.image)) m.queue

  unfoldable pub allowed : Operation Update → Machine → Bool
  allowed (hold u k) m = not (held_by_other u k m.queue)
  allowed (release u k) m = true
  allowed (release_all u) m = true
  allowed (change u k c) m =
      not (held_by_other u k m.queue) && may c k (get m.store k) && not (taken u k c (apply k c (get m.store k)) m)
  allowed (end u) m = true
  allowed (back_out u) m = true

  unfoldable pub act : Operation Update → Machine → Machine
  act (hold u k) m = record { store = m.store; queue = with_hold u k m.queue }
  act (release u k) m = record { store = m.store; queue = sift (λ (e : Entry). e.changed || not (of_user u e && at_key k e)) m.queue }
  act (release_all u) m = record { store = m.store; queue = sift (λ (e : Entry). e.changed || not (of_user u e)) m.queue }
  act (change u k c) m = record {
    store = put m.store k (apply k c (get m.store k));
    queue = map (image_kept k (get m.store k)) (with_hold u k m.queue);
  }
  act (end u) m = record { store = m.store; queue = without u m.queue }
  act (back_out u) m = record { store = restore (λ v. eqb v u) m.queue m.store; queue = without u m.queue }

  -- the journal
  abbrev pub Journal : Type 0
  Journal = List (Change Update)

  abbrev pub uncommitted_of : (ℕ → Bool) → Change Update → Bool
  uncommitted_of P l = l.uncommitted && P l.user

  abbrev pub strike : (ℕ → Bool) → Journal → Journal
  strike P b = sift (λ l. not (uncommitted_of P l)) b

  abbrev pub closed : ℕ → Change Update → Change Update
  closed u l = record { user = l.user; key = l.key; update = l.update; uncommitted = l.uncommitted && not (eqb l.user u) }

  unfoldable pub log : Operation Update → Journal → Journal
  log (hold u k) b = b
  log (release u k) b = b
  log (release_all u) b = b
  log (change u k c) b = b ++ (record { user = u; key = k; update = c; uncommitted = true } ∷ [])
  log (end u) b = map (closed u) b
  log (back_out u) b = strike (λ v. eqb v u) b

  -- the record at a key, from the slot `x`, by the lines in order
  unfoldable pub replay : ℕ → Slot → Journal → Slot
  replay k x [] = x
  replay k x (l ∷ b) = replay k (cond (eqb l.key k) (apply l.key l.update x) x) b

  -- both together: an operation that is refused changes neither
  pub record World : Type 0 where
    pub machine : Machine
    pub journal : Journal

  unfoldable pub step : Operation Update → World → World
  step o w = cond (allowed o w.machine) (record { machine = act o w.machine; journal = log o w.journal }) w

  unfoldable pub run : List (Operation Update) → World → World
  run [] w = w
  run (o ∷ os) w = run os (step o w)

  unfoldable pub begin : World
  begin = record { machine = record { store = fresh; queue = [] }; journal = [] }

  -- the users of a list backed out, one after another: of the machine, of the journal
  unfoldable pub back_outs : List ℕ → Machine → Machine
  back_outs [] m = m
  back_outs (u ∷ us) m = back_outs us (act (back_out u) m)

  unfoldable pub struck : List ℕ → Journal → Journal
  struck [] b = b
  struck (u ∷ us) b = struck us (strike (λ v. eqb v u) b)
