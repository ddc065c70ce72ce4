-- The journal's kinds of change, as `ground` asks them: a change is made at a key of the table only, leaves a record of its file's width, and a
-- unique field that it does not judge keeps its value.
-- Assumes nothing.
use Rattle.std.specs.Prelude.{ℕ, ◌<◌, ◌≡◌, Bool, eqb, ltb, length, Some, None}
use Rattle.std.proofs.Common.{arith, sym, ◌∙◌, eqb-true, eq-eqb, ltb-true, lt-ltb}
use Rattle.std.proofs.Math.Path.{refl}
use Rattle.std.proofs.Math.Bool.{true, false}
use Rattle.lists.specs.Tests.{not_both, and_left, and_right}
use Rattle.lists.specs.Folds.{any}
use Rattle.lists.specs.Sift.{all_keeps, elem_all}
use Rattle.definition.specs.Table.{field_at, field_count, fields_of, is_unique}
use Rattle.definition.specs.Shape.{FileShape, DefinitionShape, file_shape_at}
use Rattle.definition.specs.declared.File.{File}
use Rattle.definition.specs.declared.Definition.{Definition}
use Rattle.records.specs.Records.{record_length}
use Rattle.validity.specs.Validity.{valid}
use Rattle.fields.specs.Fields.{write_fields}
use Rattle.nulls.specs.Nulls.{nulls}
use Rattle.nulls.specs.Laws.{null_width}
use Rattle.fields.specs.Laws.{write_fields_length, unnamed_kept}
use Rattle.lists.specs.Numbers.{numbers, all_numbers}
use Rattle.store.specs.Store.{field_value}
use Rattle.transactions.specs.Slots.{Bytes, Slot}
use Rattle.ground.specs.Keys.{key_file, file_of, known}
use Rattle.ground.proofs.Keys.{known_found, known_file}
use Rattle.ground.specs.Store.{fit_width, fit}
use Rattle.ground.proofs.StoreLaws.{known_fit}
use Rattle.ground.specs.Ground.{uniques, UpdateLaws}
use Rattle.claim.specs.Journal.{Update, replace, erase, add, apply}
use Rattle.history.specs.Updates.{FileUpdate, suits, judged_by, updates}

-- ---- lengths
-- A1 leaves a record's width as it was, N1 and N2 make one of the file's width
apply_width : (d : Definition) (file : ℕ) (u : Update) (x : Slot) → suits d file u x ≡ true → fit_width (file_of d file) (apply (file_of d file) u x) ≡ true
unfolding apply
apply_width d file (replace format values) None h = refl
apply_width d file (replace format values) (Some r) h =
    eq-eqb _ _ (write_fields_length (file_of d file) format values r ∙ eqb-true (length r) (record_length (file_of d file)) h)
apply_width d file erase x h = refl
apply_width d file (add format values) x h =
    eq-eqb _ _ (write_fields_length (file_of d file) format values (nulls (fields_of (file_of d file))) ∙ null_width (file_of d file))

-- ---- unique fields
abbrev below : ℕ → ℕ → Bool
below n j = ltb j n

unique_inside : (f : File) (j : ℕ) → any (eqb j) (uniques f) ≡ true → j < field_count f
unfolding uniques
unique_inside f j h =
    let n = field_count f in
    let each = all_numbers (below n) n 0 (λ m a b. lt-ltb m n (omega arith)) in
    ltb-true j n (elem_all (below n) j (uniques f) (all_keeps (below n) (λ i. is_unique (field_at f i).option) (numbers n 0) each) h)

-- what a change keeps of the field at place j: there was a record, and its value is the new one's
abbrev Keeps : File → ℕ → Slot → Bytes → Type 0
Keeps f j x r = (o : Bytes) × (x ≡ Some o) × (field_value f j o ≡ field_value f j r)

module _ (d : Definition) (file : ℕ) (s : FileShape (file_of d file)) (j : ℕ) (inside : j < field_count (file_of d file)) where
  -- "A1 the named ones": fields that it does not name are not touched
  unjudged_kept : (u : Update) (x : Slot) (r : Bytes) → suits d file u x ≡ true → apply (file_of d file) u x ≡ Some r → judged_by d file u j ≡ false → Keeps (file_of d file) j x r
  unfolding apply
  unjudged_kept (replace format values) None r h e n = not_both false h refl
  unjudged_kept (replace format values) (Some o) r h e n =
      let new : write_fields (file_of d file) format values o ≡ r = cc in
      (o, refl, rw (← new) (sym (unnamed_kept (file_of d file) s j inside format n values o)))
  unjudged_kept erase x r h e n = not_both true refl n
  unjudged_kept (add format values) x r h e n = not_both true refl n

-- ---- where a change may be made
module _ (d : Definition) (c : FileUpdate) (k : ℕ) (x : Slot) (h : (updates d).may c k x ≡ true) where
  may_known : known d k ≡ true
  may_known = search (and_left, and_right)

  may_file : key_file k ≡ c.file
  may_file = eqb-true (key_file k) c.file (search (and_left, and_right))

  may_suits : suits d (key_file k) c.update x ≡ true
  may_suits = rw may_file (search (and_left, and_right))

module _ (d : Definition) (s : DefinitionShape d) where
  shape_of : (k : ℕ) → known d k ≡ true → FileShape (file_of d (key_file k))
  shape_of k h =
      let r = known_found d s k h in
      rw (known_file d k r) (file_shape_at d s r.at (omega (arith, r.in_use)))

  pub update_laws : valid d ≡ true → UpdateLaws d (updates d)
  update_laws v = record {
    may_known = may_known d;
    may_fit = fits;
    kept = keeps;
  }
    where
      fits : (c : FileUpdate) (k : ℕ) (x : Slot) → (updates d).may c k x ≡ true → fit d k ((updates d).apply k c x) ≡ true
      fits c k x h =
          let r = known_found d s k (may_known d c k x h) in
          known_fit d s k r.at _ r.found (may_known d c k x h) (rw (← (known_file d k r)) (apply_width d (key_file k) c.update x (may_suits d c k x h)))

      keeps : (c : FileUpdate) (k : ℕ) (x : Slot) (r : Bytes) (j : ℕ) → (updates d).may c k x ≡ true → (updates d).apply k c x ≡ Some r
          → any (eqb j) (uniques (file_of d (key_file k))) ≡ true → (updates d).judges c j ≡ false → Keeps (file_of d (key_file k)) j x r
      keeps c k x r j h e u n =
          unjudged_kept d (key_file k) (shape_of k (may_known d c k x h)) j (unique_inside (file_of d (key_file k)) j u) c.update x r (may_suits d c k x h) e (rw (may_file d c k x h) n)
