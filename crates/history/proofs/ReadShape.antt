-- What was read as a definition table has the shape of a kept value, whatever numbers it was read from: what is in use is valid, and the other
-- places are empty.
-- Assumes nothing.
use Prim.Native.Nat.{ℕ, zero, suc, ◌+◌, ◌-◌, ◌≤◌, ◌<◌}
use Rattle.std.proofs.Common.{add-one, arith, ◌∙◌, length-set, drop-set-lt, ltb-true}
use Rattle.std.specs.Prelude.{◌≡◌, refl, Bool, true, false, ◌||◌, List, [], ◌∷◌, ltb, length, drop, set, Option, Some, None}
use Rattle.lists.specs.Tests.{cond, within, within_least, within_most, and_left, and_right, Outcome, holds, fails, outcome}
use Rattle.lists.specs.Folds.{all, distinct, Each, each_at, each_take, each_replicate, each_set}
use Rattle.definition.specs.Table.{max_fields, max_files, max_length, no_field, no_file, beyond, no_definition, fields_of, files_of, field_count, file_count, named_alike}
use Rattle.definition.specs.Shape.{FieldShape, FileShape, DefinitionShape}
use Rattle.definition.specs.declared.Format.{Format}
use Rattle.definition.specs.declared.Format.TheVariants.{Alphanumeric, Binary, Unpacked, Packed}
use Rattle.definition.specs.declared.Field.{Field}
use Rattle.definition.specs.declared.File.{File}
use Rattle.definition.specs.declared.Definition.{Definition}
use Rattle.file_validity.specs.FileValidity.{capital, digit, name_valid, field_valid, file_valid}
use Rattle.validity.specs.Validity.{valid}
use Rattle.file_validity.proofs.Laws.{valid_file}
use Rattle.items.specs.Items.{item_of}
use Rattle.reading.specs.Grammar.{room_for_file, add_file, last_file, room_for_field, with_field, add_field, broken, proceed, read_from, read_table}
use Rattle.items.specs.declared.Item.{Item}
use Rattle.items.specs.declared.Item.TheVariants.{File as item_file, Field as item_field, End as item_end}
use Rattle.reading.specs.declared.Reading.{Reading}
use Rattle.lists.specs.Every.{each_parts, each_later}

-- ---- what is valid has numbers of one and two bytes
within_small : (a b n : ℕ) → b < 256 → within a b n ≡ true → n < 256
within_small a b n h t = omega (arith, within_most a b n t)

second_small : (n : ℕ) → Outcome (capital n) → (capital n || digit n) ≡ true → n < 256
second_small n (holds e) h = within_small 65 90 n (omega arith) e
second_small n (fails e) h = within_small 48 57 n (omega arith) (rw e at h)

length_small : (f : Format) (n : ℕ) → within 1 (max_length f) n ≡ true → n < 256
length_small Alphanumeric n h = within_small 1 253 n (omega arith) h
length_small Binary n h = within_small 1 126 n (omega arith) h
length_small Unpacked n h = within_small 1 29 n (omega arith) h
length_small Packed n h = within_small 1 15 n (omega arith) h

field_shape : (g : Field) → field_valid g ≡ true → FieldShape g
unfolding field_valid name_valid
field_shape g h =
    let first : capital g.name.first ≡ true = search (and_left, and_right) in
    let second : (capital g.name.second || digit g.name.second) ≡ true = search (and_left, and_right) in
    let size : within 1 (max_length g.format) g.length ≡ true = search (and_left, and_right) in
    record {
      name_first = within_small 65 90 g.name.first (omega arith) first;
      name_second = second_small g.name.second (outcome (capital g.name.second)) second;
      small_length = length_small g.format g.length size;
    }

field_shapes : (gs : List Field) → all field_valid gs ≡ true → Each FieldShape gs
field_shapes [] h = tt
field_shapes (g ∷ gs) h = (field_shape g (and_left (field_valid g) (all field_valid gs) h), field_shapes gs (and_right (field_valid g) (all field_valid gs) h))

-- ---- what a reading keeps, from item to item: every place is there, and those not in use have their shape. (Of those in use it says nothing: they are
-- judged at the end)
record FileSpace (f : File) : Type 0 where
  most : f.count ≤ max_fields
  places : length f.fields ≡ max_fields
  free : Each FieldShape (drop f.count f.fields)

record Space (d : Definition) : Type 0 where
  most : d.count ≤ max_files
  places : length d.files ≡ max_files
  each : Each FileSpace d.files
  free : Each FileShape (drop d.count d.files)

no_field_shape : FieldShape no_field
no_field_shape = record { name_first = omega arith; name_second = omega arith; small_length = omega arith }

no_fields : Each FieldShape no_file.fields
no_fields = each_replicate FieldShape max_fields no_field no_field_shape

no_file_shape : FileShape no_file
no_file_shape = record { small_number = omega arith; small_max_isn = omega arith; small_count = omega arith; places = refl; each_field = no_fields }

-- a file that has no field yet
new_space : (n m : ℕ) → FileSpace (record { number = n; max_isn = m; count = 0; fields = no_file.fields })
new_space n m = record { most = omega arith; places = refl; free = no_fields }

no_files : Each FileShape no_definition.files
no_files = each_replicate FileShape max_files no_file no_file_shape

no_definition_shape : DefinitionShape no_definition
no_definition_shape = record { small_count = omega arith; places = refl; each_file = no_files }

no_definition_space : Space no_definition
no_definition_space = record { most = omega arith; places = refl; each = each_replicate FileSpace max_files no_file (new_space 0 0); free = no_files }

-- ---- the next place taken
module _ {A : Type 0} (P : A → Type 0) where
  next_free : (l : List A) (n : ℕ) (x : A) → Each P (drop n l) → Each P (drop (n + 1) (set l n x))
  next_free l n x h = rw (add-one n, drop-set-lt (suc n) l n x (omega arith)) (each_later P n l h)

add_file_space : (d : Definition) (n m : ℕ) → Space d → room_for_file d ≡ true → Space (add_file d n m)
add_file_space d n m s h =
    let f : File = record { number = n; max_isn = m; count = 0; fields = no_file.fields } in
    record {
      most = omega (arith, ltb-true d.count max_files h);
      places = length-set d.files d.count f ∙ s.places;
      each = each_set FileSpace d.files d.count f s.each (new_space n m);
      free = next_free FileShape d.files d.count f s.free;
    }

with_field_space : (f : File) (g : Field) → FileSpace f → f.count < max_fields → FileSpace (with_field f g)
with_field_space f g s h = record {
  most = omega arith;
  places = length-set f.fields f.count g ∙ s.places;
  free = next_free FieldShape f.fields f.count g s.free;
}

add_field_space : (d : Definition) (g : Field) → Space d → room_for_field d ≡ true → Space (add_field d g)
add_field_space d g s h =
    let least : 1 ≤ d.count = within_least 1 max_files d.count (and_left (within 1 max_files d.count) (ltb (last_file d).count max_fields) h) in
    let room : (last_file d).count < max_fields = ltb-true (last_file d).count max_fields (and_right (within 1 max_files d.count) (ltb (last_file d).count max_fields) h) in
    let last : FileSpace (last_file d) = each_at FileSpace d.files beyond s.each (d.count - 1) (omega arith) in
    let f : File = with_field (last_file d) g in
    record {
      most = s.most;
      places = length-set d.files (d.count - 1) f ∙ s.places;
      each = each_set FileSpace d.files (d.count - 1) f s.each (with_field_space (last_file d) g last room);
      free = rw (drop-set-lt d.count d.files (d.count - 1) f (omega arith)) s.free;
    }

-- ---- the end: what is in use is valid
file_shape : (f : File) → FileSpace f → file_valid f ≡ true → FileShape f
file_shape f s h =
    let v = valid_file f h in
    let all_used : field_count f ≡ f.count = omega arith in
    let used : Each FieldShape (fields_of f) = field_shapes (fields_of f) (and_left (all field_valid (fields_of f)) (distinct named_alike (fields_of f)) v.fields_sound) in
    record {
      small_number = omega arith;
      small_max_isn = omega arith;
      small_count = omega arith;
      places = s.places;
      each_field = each_parts FieldShape f.count f.fields (rw all_used at used) s.free;
    }

file_shapes : (fs : List File) → Each FileSpace fs → all file_valid fs ≡ true → Each FileShape fs
file_shapes [] s h = tt
file_shapes (f ∷ fs) s h = (file_shape f s.0 (and_left (file_valid f) (all file_valid fs) h), file_shapes fs s.1 (and_right (file_valid f) (all file_valid fs) h))

definition_shape : (d : Definition) → Space d → valid d ≡ true → DefinitionShape d
unfolding valid
definition_shape d s v =
    let all_used : file_count d ≡ d.count = omega arith in
    let each : all file_valid (files_of d) ≡ true = search (and_left, and_right) in
    let used : Each FileShape (files_of d) = file_shapes (files_of d) (each_take FileSpace (file_count d) d.files s.each) each in
    record {
      small_count = omega arith;
      places = s.places;
      each_file = each_parts FileShape d.count d.files (rw all_used at used) s.free;
    }

-- ---- along the items
abbrev Shaped : Reading → Type 0
Shaped r = DefinitionShape r.definition

cond_shaped : (b : Bool) (r : Reading) → (b ≡ true → Shaped r) → Shaped (cond b r broken)
cond_shaped true r s = s refl
cond_shaped false r s = no_definition_shape

module _ (on : ℕ → Definition → Reading) (later : (at : ℕ) (d : Definition) → Space d → Shaped (on at d)) where
  proceed_shaped : (at : ℕ) (d : Definition) (i : Option Item) → Space d → Shaped (proceed on at d i)
  proceed_shaped at d (Some (item_file n m)) s = cond_shaped (room_for_file d) (on (at + 4) (add_file d n m)) (λ h. later (at + 4) (add_file d n m) (add_file_space d n m s h))
  proceed_shaped at d (Some (item_field g)) s = cond_shaped (room_for_field d) (on (at + 6) (add_field d g)) (λ h. later (at + 6) (add_field d g) (add_field_space d g s h))
  proceed_shaped at d (Some item_end) s = cond_shaped (valid d) _ (definition_shape d s)
  proceed_shaped at d None s = no_definition_shape

module _ (bytes : List ℕ) where
  from_shaped : (fuel at : ℕ) (d : Definition) → Space d → Shaped (read_from fuel bytes at d)
  unfolding read_from
  from_shaped zero at d s = no_definition_shape
  from_shaped (suc fuel) at d s = proceed_shaped (read_from fuel bytes) (from_shaped fuel) at d (item_of (drop at bytes)) s

  pub read_shape : DefinitionShape (read_table bytes).definition
  unfolding read_table
  read_shape = from_shaped (length bytes) 0 no_definition no_definition_space
