-- Set-up with a kept state from set-up on words; the sizes of a table are enough for it; and a bound of an image's bytes. Assumes nothing.
use Rattle.std.specs.Prelude.{ℕ, ◌*◌, ◌≤◌, ◌≡◌, false, List, [], ◌∷◌, map, Some}
use Rattle.std.proofs.Common.{zero-le, arith, ap, ◌∙◌}
use Rattle.std.proofs.Math.Path.{subst}
use Rattle.std.proofs.Math.ListN.{length, length-map}
use borrow.Author.Tests.{le-ltb}
use Rattle.lists.specs.Tests.{within_inside, eqb_self}
use Rattle.lists.specs.Folds.{maximum, Each, each_take}
use Rattle.lists.specs.Every.{each_with}
use Rattle.definition.specs.Table.{files_of, file_count}
use Rattle.definition.specs.Shape.{FileShape, DefinitionShape}
use Rattle.definition.specs.declared.Definition.{Definition}
use Rattle.records.specs.Records.{record_length}
use Rattle.records.specs.Bounds.{record_length_most}
use Rattle.layout.specs.Layout.{store_size, image_length}
use Rattle.reading.specs.Grammar.{read_table}
use Rattle.entries.specs.Entries.{pack_of}
use Rattle.entries.specs.declared.Entry.{Entry}
use Rattle.nucleus.specs.Nucleus.{max_capacity}
use Rattle.nucleus.specs.Responses.{number}
use Rattle.nucleus.specs.WellMade.{too_short}
use Rattle.nucleus.specs.Step.{SetUp, set_up}
use Rattle.database.specs.Database.{set_up_with, set_up_database}
use Rattle.setup.specs.SetUp.{set_up_to}
use Rattle.setup.specs.declared.Nucleus.{Nucleus}
use Rattle.kept_states.specs.KeptStates.{thawed, frozen}
use Rattle.kept_states.specs.Laws.{state_back}
use Rattle.kept_setup.specs.Tidy.{set_up_tidy}
use Rattle.kept_setup.specs.KeptSetup.{kept_made, kept_made_of, kept_set_up, store_bytes, image_bytes}
use Rattle.kept_setup.specs.declared.KeptNucleus.{KeptNucleus}

-- ---- set-up
pub set_up_kept : (capacity : ℕ) (store images table : List ℕ) (entries : ℕ) (m : Nucleus) (store₂ : List ℕ) (r : KeptNucleus)
    → ((queue : List ℕ) → length queue ≡ entries → set_up_to m store₂ queue images ≡ set_up capacity store queue images table) → r.state ≡ frozen m.state → r.response ≡ number m.response
    → (queue : List Entry) → length queue ≡ entries → kept_made r store₂ ≡ kept_set_up capacity store queue images table
unfolding kept_set_up set_up_database
set_up_kept capacity store images table entries m store₂ r made state response queue e =
    (λ i. record { response = response i; state = state i; store = store₂ }) ∙ ap (λ (s : SetUp). kept_made_of (set_up_with queue s)) (made (map pack_of queue) (length-map queue pack_of ∙ e))

-- the state that is kept, thawed, is the state that set-up gives
pub made_thawed : (capacity : ℕ) (store : List ℕ) (queue : List Entry) (images table : List ℕ)
    → thawed (kept_set_up capacity store queue images table).state ≡ (set_up_database capacity store queue images table).database.state
unfolding kept_set_up
made_thawed capacity store queue images table = state_back _ (set_up_tidy capacity store queue images table)

-- ---- a table that is read whole: the sizes, and that they are enough
module _ (table : List ℕ) (whole : (read_table table).end ≡ Some (length table)) where
  abbrev d : Definition
  d = (read_table table).definition

  pub store_bytes_are : store_bytes table ≡ store_size d
  unfolding store_bytes
  store_bytes_are = rw (whole, eqb_self (length table))

  pub image_bytes_are : (capacity : ℕ) → capacity ≤ max_capacity → image_bytes capacity table ≡ capacity * image_length d
  unfolding image_bytes
  image_bytes_are capacity h = rw (le-ltb max_capacity capacity h, whole, eqb_self (length table))

  module _ (capacity : ℕ) (store : List ℕ) (queue : List Entry) (images : List ℕ) (some : 1 ≤ capacity) (most : capacity ≤ max_capacity) (entries : capacity ≤ length queue)
      (room : store_bytes table ≤ length store) (places : image_bytes capacity table ≤ length images) where
    long : too_short d capacity store (map pack_of queue) images ≡ false
    unfolding too_short
    long =
        let q : capacity ≤ length (map pack_of queue) = omega (arith, entries, length-map queue pack_of) in
        let s : store_size d ≤ length store = subst (λ (m : ℕ). m ≤ length store) store_bytes_are room in
        let i : capacity * image_length d ≤ length images = subst (λ (m : ℕ). m ≤ length images) (image_bytes_are capacity most) places in
        rw (within_inside 1 max_capacity capacity some most, le-ltb (length (map pack_of queue)) capacity q, le-ltb (length store) (store_size d) s, le-ltb (length images) (capacity * image_length d) i)

    pub enough : (kept_set_up capacity store queue images table).response ≡ 0
    unfolding kept_set_up set_up_database set_up
    enough = rw (whole, eqb_self (length table), long)

-- ---- a bound of an image's bytes
maximum_most : {A : Type 0} (f : A → ℕ) (m : ℕ) (l : List A) → Each (λ x. f x ≤ m) l → maximum f l ≤ m
maximum_most f m [] h = zero-le
maximum_most f m (x ∷ l) h =
    let rest = maximum_most f m l h.1 in
    omega (arith, h.0)

pub image_length_most : (d : Definition) → DefinitionShape d → image_length d ≤ 4080
unfolding image_length
image_length_most d s =
    maximum_most record_length 4080 (files_of d) (each_take (λ f. record_length f ≤ 4080) (file_count d) d.files (each_with FileShape (λ f. record_length f ≤ 4080) record_length_most d.files s.each_file))
