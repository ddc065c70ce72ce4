-- Laws for callers: lengths; fields that are not named stay as they are; what a buffer that names none does; what was written by a format buffer
-- and is read by the same one is the stored form of what was given.
-- Assumes nothing.
use Rattle.std.specs.Prelude.{ℕ, ◌+◌, ◌≤◌, ◌<◌, ◌≡◌, Bool, not, List, [], ◌∷◌, ◌++◌, eqb, leb, ltb}
use Rattle.std.proofs.Common.{arith, ap, ◌∙◌, inl, inr, length-take, length-drop, length-take-le}
use Rattle.std.proofs.Math.Path.{refl}
use Rattle.std.proofs.Math.Bool.{true, false}
use Rattle.std.proofs.Math.ListN.{length}
use Rattle.std.proofs.lemmas.List.Edits.{sets}
use Rattle.std.proofs.Math.Seq.{length-sets}
use borrow.Author.Tests.{le-leb, leb-true, ltb-true, ltb-false, eqb-false, not-true}
use Rattle.lists.specs.Tests.{cond, Outcome, holds, fails, outcome, and_left, and_right, or_left, or_right}
use Rattle.lists.specs.Folds.{any, total, distinct, Each}
use Rattle.definition.specs.Table.{field_at, field_count}
use Rattle.definition.specs.Shape.{FileShape}
use Rattle.records.specs.Records.{field_offset, record_length}
use Rattle.records.specs.Laws.{field_before, field_within}
use Rattle.values.specs.Values.{stored}
use Rattle.values.specs.Laws.{stored_length}
use Rattle.elements.specs.Elements.{places, named_twice, length_at, length_needed}
use Rattle.elements.proofs.Laws.{places_inside, places_distinct, needed_total}
use Rattle.lists.specs.Parts.{Apart, sets_other, sets_same}
use Rattle.fields.specs.Fields.{field_bytes, front_value, behind, read_out, write_in, fits, read_fields, write_fields, values_allowed}
use Rattle.definition.specs.declared.File.{File}

-- ---- lengths: nothing grows or shrinks
write_in_length : (f : File) (ks values content : List ℕ) → length (write_in f ks values content) ≡ length content
write_in_length f [] values content = refl
write_in_length f (k ∷ ks) values content =
    let v = stored (field_at f k).format (front_value f k values) in
    write_in_length f ks (behind f k values) (sets content (field_offset f k) v) ∙ length-sets content (field_offset f k) v

pub read_fields_length : (f : File) (format content buffer : List ℕ) → length (read_fields f format content buffer) ≡ length buffer
unfolding read_fields
read_fields_length f format content buffer = go (fits f format buffer content)
  where
    go : (b : Bool) → length (cond b (sets buffer 0 (read_out f (places f format) content)) buffer) ≡ length buffer
    go true = length-sets buffer 0 (read_out f (places f format) content)
    go false = refl

pub write_fields_length : (f : File) (format values content : List ℕ) → length (write_fields f format values content) ≡ length content
unfolding write_fields
write_fields_length f format values content = go (fits f format values content)
  where
    go : (b : Bool) → length (cond b (write_in f (places f format) values content) content) ≡ length content
    go true = write_in_length f (places f format) values content
    go false = refl

-- ---- fields that are not named
module _ (f : File) (s : FileShape f) where
  fields_apart : (j k : ℕ) → j < field_count f → k < field_count f → eqb k j ≡ false → Apart (field_offset f j) (length_at f j) (field_offset f k) (length_at f k)
  fields_apart j k p q e = go (outcome (ltb j k)) (outcome (ltb k j))
    where
      go : Outcome (ltb j k) → Outcome (ltb k j) → Apart (field_offset f j) (length_at f j) (field_offset f k) (length_at f k)
      go (holds a) b = inl (field_before f s j k p (ltb-true j k a))
      go (fails a) (holds b) = inr (field_before f s k j q (ltb-true k j b))
      go (fails a) (fails b) = absurd (eqb-false k j e (omega (arith, ltb-false j k a, ltb-false k j b)))

  -- a value in another field
  other_field : (j k : ℕ) → j < field_count f → k < field_count f → eqb k j ≡ false → (v content : List ℕ) → length v ≤ length_at f j → field_bytes f k (sets content (field_offset f j) v) ≡ field_bytes f k content
  other_field j k p q e v content h = sets_other content (field_offset f j) v (field_offset f k) (length_at f k) (go (fields_apart j k p q e))
    where
      go : Apart (field_offset f j) (length_at f j) (field_offset f k) (length_at f k) → Apart (field_offset f j) (length v) (field_offset f k) (length_at f k)
      go (inl b) = inl (omega arith)
      go (inr b) = inr b

  value_most : (j : ℕ) (values : List ℕ) → length (stored (field_at f j).format (front_value f j values)) ≤ length_at f j
  value_most j values = omega (arith, stored_length (field_at f j).format (front_value f j values), length-take (length_at f j) values)

  unnamed_stays : (k : ℕ) → k < field_count f → (ks : List ℕ) → Each (λ j. j < field_count f) ks → any (eqb k) ks ≡ false → (values content : List ℕ) → field_bytes f k (write_in f ks values content) ≡ field_bytes f k content
  unnamed_stays k q [] h e values content = refl
  unnamed_stays k q (j ∷ ks) h e values content =
      let v = stored (field_at f j).format (front_value f j values) in
      unnamed_stays k q ks h.1 (or_right (eqb k j) (any (eqb k) ks) e) (behind f j values) (sets content (field_offset f j) v)
      ∙ other_field j k h.0 q (or_left (eqb k j) (any (eqb k) ks) e) v content (value_most j values)

  pub unnamed_kept : (k : ℕ) → k < field_count f → (format : List ℕ) → any (eqb k) (places f format) ≡ false → (values content : List ℕ) → field_bytes f k (write_fields f format values content) ≡ field_bytes f k content
  unfolding write_fields
  unnamed_kept k q format e values content = go (fits f format values content)
    where
      go : (b : Bool) → field_bytes f k (cond b (write_in f (places f format) values content) content) ≡ field_bytes f k content
      go true = unnamed_stays k q (places f format) (places_inside f format) e values content
      go false = refl

-- ---- no field is named
either_way : (b : Bool) (l : List ℕ) → cond b l l ≡ l
either_way true l = refl
either_way false l = refl

-- nothing is read, every value is allowed, and a record stays as it is, whatever its bytes
module _ (f : File) (format : List ℕ) (none_named : places f format ≡ []) where
  pub read_none : (content buffer : List ℕ) → read_fields f format content buffer ≡ buffer
  unfolding read_fields
  read_none content buffer = rw none_named (either_way (fits f format buffer content) buffer)

  pub write_none : (values content : List ℕ) → write_fields f format values content ≡ content
  unfolding write_fields
  write_none values content = rw none_named (either_way (fits f format values content) content)

  pub allowed_none : (values : List ℕ) → values_allowed f format values ≡ true
  unfolding values_allowed
  allowed_none values = rw (needed_total f format, none_named, le-leb 0 (length values) (omega arith))

-- ---- what was written is read in stored form
-- the values that belong to the fields at some places, one after another, each in stored form
abbrev pub stored_forms : File → List ℕ → List ℕ → List ℕ
stored_forms f [] values = []
stored_forms f (k ∷ ks) values = stored (field_at f k).format (front_value f k values) ++ stored_forms f ks (behind f k values)

module _ (f : File) (s : FileShape f) where
  read_written : (ks : List ℕ) → Each (λ j. j < field_count f) ks → distinct eqb ks ≡ true → (values content : List ℕ) → total (length_at f) ks ≤ length values → record_length f ≤ length content → read_out f ks (write_in f ks values content) ≡ stored_forms f ks values
  read_written [] h d values content p q = refl
  read_written (k ∷ ks) h d values content p q =
      let n = length_at f k in
      let v = stored (field_at f k).format (front_value f k values) in
      let next = sets content (field_offset f k) v in
      let once = not-true (any (eqb k) ks) (and_left (not (any (eqb k) ks)) (distinct eqb ks) d) in
      let others = and_right (not (any (eqb k) ks)) (distinct eqb ks) d in
      let long : length v ≡ n = stored_length (field_at f k).format (front_value f k values) ∙ length-take-le n values (omega arith) in
      let inside : field_offset f k + n ≤ length content = omega (arith, field_within f s k h.0) in
      let here : field_bytes f k (write_in f ks (behind f k values) next) ≡ v = unnamed_stays f s k h.0 ks h.1 once (behind f k values) next ∙ sets_same content (field_offset f k) n v long inside in
      let rest = read_written ks h.1 others (behind f k values) next (omega (arith, length-drop n values)) (omega (arith, length-sets content (field_offset f k) v)) in
      rw (here, rest)

  pub written_read : (format values content buffer : List ℕ) → named_twice f format ≡ false → fits f format values content ≡ true → length_needed f format ≤ length buffer → read_fields f format (write_fields f format values content) buffer ≡ sets buffer 0 (stored_forms f (places f format) values)
  unfolding read_fields write_fields fits
  written_read format values content buffer t h room =
      let ks = places f format in
      let enough = leb-true (length_needed f format) (length values) (and_left _ _ h) in
      let long = leb-true (record_length f) (length content) (and_right (leb (length_needed f format) (length values)) _ h) in
      let whole : record_length f ≤ length (write_in f ks values content) = omega (arith, write_in_length f ks values content) in
      rw (h, le-leb (length_needed f format) (length buffer) room, le-leb (record_length f) (length (write_in f ks values content)) whole)
      (ap (sets buffer 0) (read_written ks (places_inside f format) (places_distinct f format t) values content (omega (arith, needed_total f format)) long))
