-- Laws of one file: fields of a record and slots follow one another without overlap, and end where the whole ends.
-- Assumes nothing.
use Rattle.std.specs.Prelude.{ℕ, ◌+◌, ◌-◌, ◌≤◌, ◌<◌, ◌≡◌, refl, length, take}
use Rattle.std.proofs.Common.{mul-le-mul_right, add-one, arith}
use Rattle.lists.specs.Folds.{total}
use Rattle.definition.specs.Table.{no_field, field_at, field_count, fields_of}
use Rattle.definition.specs.Shape.{FileShape}
use Rattle.records.specs.Records.{field_length, field_offset, record_length, slot_length, slot_offset, file_size}
use Rattle.definition.specs.declared.File.{File}
use Rattle.lists.specs.Rows.{row_next, row_before, row_within}

-- ---- fields of a record
-- those before a field, and all of them
pub field_offset_is : (f : File) (k : ℕ) → field_offset f k ≡ total field_length (take k (fields_of f))
unfolding field_offset
field_offset_is f k = refl

pub record_length_is : (f : File) → record_length f ≡ total field_length (fields_of f)
unfolding record_length
record_length_is f = refl

module _ (f : File) (s : FileShape f) where
  places_fields : field_count f ≤ length f.fields
  places_fields = omega (arith, s.places)

  pub field_before : (k j : ℕ) → k < field_count f → k < j → field_offset f k + field_length (field_at f k) ≤ field_offset f j
  unfolding field_offset
  field_before k j h b = row_before field_length (field_count f) f.fields no_field places_fields k j h b

  -- a field ends where the next one begins
  pub field_follows : (k : ℕ) → k < field_count f → field_offset f (k + 1) ≡ field_offset f k + field_length (field_at f k)
  unfolding field_offset
  field_follows k h = rw (add-one k) (row_next field_length (field_count f) f.fields no_field places_fields k h)

  pub field_within : (k : ℕ) → k < field_count f → field_offset f k + field_length (field_at f k) ≤ record_length f
  unfolding field_offset record_length
  field_within k h = row_within field_length (field_count f) f.fields no_field places_fields k h

-- ---- slots of a file
module _ (f : File) where
  pub slot_before : (n m : ℕ) → 1 ≤ n → n < m → slot_offset f n + slot_length f ≤ slot_offset f m
  slot_before n m p h =
      let e : (n - 1) + 1 ≤ m - 1 = omega arith in
      omega (arith, mul-le-mul_right (slot_length f) e)

  pub slot_within : (n : ℕ) → 1 ≤ n → n ≤ f.max_isn → slot_offset f n + slot_length f ≤ file_size f
  slot_within n p h =
      let e : (n - 1) + 1 ≤ f.max_isn = omega arith in
      omega (arith, mul-le-mul_right (slot_length f) e)
