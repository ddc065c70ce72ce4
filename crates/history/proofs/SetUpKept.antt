-- Set-up: what it leaves has all that is kept from call to call (`Kept`), nobody overdue; and what it leaves untouched of what was lent.
-- Assumes nothing.
use Rattle.std.specs.Prelude.{ℕ, zero, suc, ◌*◌, ◌≤◌, ◌≡◌, true, false, List, [], ◌∷◌, eqb, length, replicate, Option, Some, None}
use Rattle.std.proofs.Common.{arith, sym, ◌∙◌, le-leb, ltb-false}
use Rattle.std.proofs.Math.Path.{refl}
use Rattle.std.proofs.lemmas.Bool.{not-false}
use Rattle.lists.specs.Tests.{within, or_left, or_right, Outcome, holds, fails, outcome}
use Rattle.definition.specs.Table.{max_files, file_count, files_of, no_definition}
use Rattle.definition.specs.Shape.{DefinitionShape}
use Rattle.definition.specs.declared.File.{File}
use Rattle.definition.specs.declared.Definition.{Definition}
use Rattle.layout.specs.Layout.{store_size, image_length}
use Rattle.validity.specs.Validity.{valid}
use Rattle.reading.specs.Grammar.{read_table}
use Rattle.reading.proofs.Laws.{read_valid}
use Rattle.lists.specs.Numbers.{numbers}
use Rattle.entries.specs.Entries.{entries}
use Rattle.repeats.specs.Repeats.{repeated}
use Rattle.transactions.specs.Machine.{begin}
use Rattle.transactions.specs.Theorems.{Invariant}
use Rattle.transactions.proofs.Theorems.{kept_begin}
use Rattle.ground.specs.Store.{fresh_from, fresh_store}
use Rattle.ground.proofs.Fresh.{fresh_room, fresh_store_is, fresh_store_length, fresh_store_past}
use Rattle.ground.specs.Ground.{ground}
use Rattle.ground.proofs.Ground.{laws}
use Rattle.ground.specs.Queue.{queue_of}
use Rattle.nucleus.specs.Nucleus.{Nucleus, max_capacity, fresh_state}
use Rattle.nucleus.specs.WellMade.{too_short, assigned_made}
use Rattle.nucleus.specs.Step.{SetUp, freshened, not_set_up, set_up_as, set_up_at, set_up}
use Rattle.nucleus.specs.declared.Response.{Response}
use Rattle.nucleus.specs.declared.Response.TheVariants.{Good, DefinitionInvalid, BufferTooShort}
use Rattle.claim.specs.Journal.{new_journal}
use Rattle.history.specs.Updates.{updates, logged}
use Rattle.history.proofs.UpdateLaws.{update_laws}
use Rattle.history.proofs.ReadShape.{read_shape}
use Rattle.claim.specs.Lent.{Lent, Alike}
use Rattle.history.proofs.Sizes.{alike_self}
use Rattle.history.specs.Kept.{seen, ground_of, Kept, Rested}
use Rattle.history.specs.Lined.{Lined}
use Rattle.history.proofs.Lines.{lined_fresh}

-- ---- no buffer too short
record Long (d : Definition) (capacity : ℕ) (store queue images : List ℕ) : Type 0 where
  capacity_sound : within 1 max_capacity capacity ≡ true
  queue_room : capacity ≤ length queue
  store_room : store_size d ≤ length store
  image_room : capacity * image_length d ≤ length images

long_enough : (d : Definition) (capacity : ℕ) (store queue images : List ℕ) → too_short d capacity store queue images ≡ false → Long d capacity store queue images
unfolding too_short
long_enough d capacity store queue images h = record {
  capacity_sound = not-false (within 1 max_capacity capacity) (search (or_left, or_right));
  queue_room = ltb-false (length queue) capacity (search (or_left, or_right));
  store_room = ltb-false (length store) (store_size d) (search (or_left, or_right));
  image_room = ltb-false (length images) (capacity * image_length d) (search (or_left, or_right));
}

-- ---- the store that it leaves: `ground`'s
freshened_from : (d : Definition) (is store : List ℕ) → freshened d is store ≡ fresh_from d is store
freshened_from d [] store = refl
freshened_from d (i ∷ is) store = freshened_from d is _

-- ---- N1 has given no ISN yet
none_assigned : (n : ℕ) (fs : List File) → assigned_made (replicate n 0) fs ≡ true
none_assigned n [] = refl
none_assigned zero (f ∷ fs) = refl
none_assigned (suc n) (f ∷ fs) = rw (le-leb 0 f.max_isn (omega arith)) (none_assigned n fs)

module _ (capacity : ℕ) (store queue images : List ℕ) where
  abbrev lent : Definition → Lent ℕ
  lent d = record { definition = d; store = store; queue = queue; images = images }

  fresh_alike : (d : Definition) → DefinitionShape d → store_size d ≤ length store → Alike (store_size d) (fresh_store d store) store
  fresh_alike d s room = record { same_length = fresh_store_length d s store room; same_past = fresh_store_past d s store room }

  -- the nucleus that a set-up leaves
  abbrev fresh_nucleus : Definition → Nucleus
  fresh_nucleus d = record { state = fresh_state d; store = fresh_store d store; queue = queue; images = images }

  -- ---- a fresh nucleus has what is kept
  module _ (d : Definition) (s : DefinitionShape d) (v : valid d ≡ true) (long : Long d capacity store queue images) where
    none_seen : Invariant (ground_of (lent d) (fresh_nucleus d)) (seen (lent d) (fresh_nucleus d)) (logged new_journal.changes)
    unfolding begin queue_of entries
    none_seen = kept_begin (ground d (updates d) store) (laws d s v (updates d) (update_laws d s v) store)

    kept_fresh : Kept capacity (lent d) (fresh_nucleus d) new_journal
    unfolding entries repeated
    kept_fresh = record {
      sized = record {
        same_table = refl;
        shape = s;
        valid = v;
        capacity_sound = long.capacity_sound;
        made = record {
          store_room = fresh_room d s store;
          queue_room = long.queue_room;
          image_room = long.image_room;
          most = omega arith;
          each_known = refl;
          single = refl;
        };
        past = record { store_past = fresh_alike d s long.store_room; queue_past = alike_self capacity queue; images_past = alike_self (capacity * image_length d) images };
      };
      people = record { user_count = refl; users_sound = refl; entries_active = refl };
      assigned_sound = none_assigned max_files (files_of d);
      data_sound = refl;
      told = record { same_clock = refl; same_members = refl; changes_sound = refl };
      invariant = none_seen;
    }

  -- lent and left: queue and images, and the store but for the table's bytes
  pub record Untouched (n : Nucleus) : Type 0 where
    pub queue_kept : n.queue ≡ queue
    pub images_kept : n.images ≡ images
    pub store_past : Alike (store_size n.state.definition) n.store store

  -- how a set-up ends: with the table, or with nothing set up
  data SetUpEnd (d : Definition) : SetUp → Type 0 where
    done : valid d ≡ true → Long d capacity store queue images → SetUpEnd d (record { response = Good; nucleus = fresh_nucleus d })
    undone : (cause : Response) → (cause ≡ Good → ⊥) → SetUpEnd d (not_set_up capacity store queue images cause)

  no_table : DefinitionInvalid ≡ Good → ⊥
  no_table e = let z : ◌≡◌ {A = ℕ} 0 1 = cc in omega arith

  no_room : BufferTooShort ≡ Good → ⊥
  no_room e = let z : ◌≡◌ {A = ℕ} 0 1 = cc in omega arith

  end_as : (d : Definition) → DefinitionShape d → valid d ≡ true → SetUpEnd d (set_up_as capacity store queue images d)
  end_as d s v = go (outcome (too_short d capacity store queue images))
    where
      go : Outcome (too_short d capacity store queue images) → SetUpEnd d (set_up_as capacity store queue images d)
      go (holds h) = rw h (undone BufferTooShort no_room)
      go (fails h) =
          let long = long_enough d capacity store queue images h in
          let fresh : freshened d (numbers (file_count d) 0) store ≡ fresh_store d store = freshened_from d (numbers (file_count d) 0) store ∙ sym (fresh_store_is d s store long.store_room) in
          rw (h, fresh) (done v long)

  module _ (table : List ℕ) where
    abbrev d : Definition
    d = (read_table table).definition

    set_up_end : SetUpEnd d (set_up capacity store queue images table)
    unfolding set_up
    set_up_end = go (read_table table).end refl
      where
        go : (e : Option ℕ) → (read_table table).end ≡ e → SetUpEnd d (set_up_at capacity store queue images e (length table) d)
        go None q = undone DefinitionInvalid no_table
        go (Some end) q = whole (outcome (eqb end (length table)))
          where
            whole : Outcome (eqb end (length table)) → SetUpEnd d (set_up_at capacity store queue images (Some end) (length table) d)
            whole (holds h) = rw h (end_as d (read_shape table) (read_valid table end q))
            whole (fails h) = rw h (undone DefinitionInvalid no_table)

    -- ---- "Bytes and entries past these sizes are never touched", whatever it answers
    pub set_up_touches : Untouched (set_up capacity store queue images table).nucleus
    set_up_touches = go set_up_end
      where
        go : {r : SetUp} → SetUpEnd d r → Untouched r.nucleus
        go (done v long) = record { queue_kept = refl; images_kept = refl; store_past = fresh_alike d (read_shape table) long.store_room }
        go (undone cause other) = record { queue_kept = refl; images_kept = refl; store_past = alike_self (store_size no_definition) store }

    -- ---- after a set-up that answered 0
    module _ (good : (set_up capacity store queue images table).response ≡ Good) where
      abbrev n : Nucleus
      n = (set_up capacity store queue images table).nucleus

      -- it is the fresh nucleus of the table, which is valid
      by_fresh : (P : Nucleus → Type 0) → (valid d ≡ true → Long d capacity store queue images → P (fresh_nucleus d)) → P n
      by_fresh P h = go set_up_end good
        where
          go : {r : SetUp} → SetUpEnd d r → r.response ≡ Good → P r.nucleus
          go (done v long) e = h v long
          go (undone cause other) e = absurd (other e)

      pub kept_set_up : Kept capacity (lent d) n new_journal
      kept_set_up = by_fresh (λ m. Kept capacity (lent d) m new_journal) (kept_fresh d (read_shape table))

      pub lined_set_up : Lined [] n new_journal
      lined_set_up = by_fresh (λ m. Lined [] m new_journal) (λ v long. lined_fresh d (fresh_store d store) queue images)

      pub rested_set_up : Rested n
      rested_set_up = by_fresh Rested (λ v long. refl)
