-- Laws of a record of nulls: its length, and every field of it is null.
-- Assumes nothing.
use Rattle.std.specs.Prelude.{ℕ, zero, suc, ◌+◌, ◌≤◌, ◌<◌, ◌≡◌, refl, Bool, true, false, List, [], ◌∷◌, ◌++◌, leb, take, drop}
use Rattle.std.proofs.Common.{le_of_suc-le-suc, arith, append_assoc, append-nil, length-append, drop_of_length-le, take_at, le-leb}
use Rattle.std.proofs.Math.ListN.{length, get_or}
use Rattle.std.proofs.lemmas.List.Edits.{sets}
use Rattle.std.proofs.Math.Seq.{sets-eq, length-sets, drop-append-add, get_or-take, length-take-le}
use Rattle.lists.specs.Tests.{cond}
use Rattle.lists.specs.Folds.{total}
use Rattle.definition.specs.Table.{no_field, field_at, field_count, fields_of}
use Rattle.definition.specs.Shape.{FileShape}
use Rattle.records.specs.Records.{field_length, record_length}
use Rattle.records.specs.Laws.{field_offset_is, record_length_is}
use Rattle.values.specs.Values.{null_value}
use Rattle.values.specs.Laws.{null_length}
use Rattle.elements.specs.Elements.{length_at}
use Rattle.fields.specs.Fields.{field_bytes}
use Rattle.nulls.specs.Nulls.{nulls, null_record}
use Rattle.definition.specs.declared.Field.{Field}
use Rattle.definition.specs.declared.File.{File}

pub null_record_length : (f : File) (content : List ℕ) → length (null_record f content) ≡ length content
unfolding null_record
null_record_length f content = go (leb (record_length f) (length content))
  where
    go : (b : Bool) → length (cond b (sets content 0 (nulls (fields_of f))) content) ≡ length content
    go true = length-sets content 0 (nulls (fields_of f))
    go false = refl

pub nulls_length : (gs : List Field) → length (nulls gs) ≡ total field_length gs
nulls_length [] = refl
nulls_length (g ∷ gs) = omega (arith, length-append (null_value g.format g.length) (nulls gs), null_length g.format g.length, nulls_length gs)

pub null_width : (f : File) → length (nulls (fields_of f)) ≡ record_length f
null_width f = rw (record_length_is f) (nulls_length (fields_of f))

null_at : (gs : List Field) (k : ℕ) (rest : List ℕ) → k < length gs → take (field_length (get_or gs k no_field)) (drop (total field_length (take k gs)) (nulls gs ++ rest)) ≡ null_value (get_or gs k no_field).format (field_length (get_or gs k no_field))
null_at [] k rest h = absurd (omega arith)
null_at (g ∷ gs) zero rest h =
    let v = null_value g.format g.length in
    rw (append_assoc v (nulls gs) rest) (take_at v (nulls gs ++ rest) g.length (null_length g.format g.length))
null_at (g ∷ gs) (suc k) rest h =
    let v = null_value g.format g.length in
    let skip : drop (g.length + total field_length (take k gs)) (v ++ (nulls gs ++ rest)) ≡ drop (total field_length (take k gs)) (nulls gs ++ rest) = rw (null_length g.format g.length) at (drop-append-add v (nulls gs ++ rest) (total field_length (take k gs))) in
    rw (append_assoc v (nulls gs) rest, skip) (null_at gs k rest (le_of_suc-le-suc h))

module _ (f : File) (s : FileShape f) where
  pub null_field : (k : ℕ) → k < field_count f → (content : List ℕ) → record_length f ≤ length content → field_bytes f k (null_record f content) ≡ null_value (field_at f k).format (length_at f k)
  unfolding null_record
  null_field k q content h =
      let gs = fields_of f in
      let size : record_length f ≡ total field_length gs = record_length_is f in
      let many : length gs ≡ field_count f = length-take-le (field_count f) f.fields (omega (arith, s.places)) in
      let whole : 0 + length (nulls gs) ≤ length content = omega (arith, nulls_length gs) in
      let g : get_or gs k no_field ≡ field_at f k = get_or-take (field_count f) f.fields k no_field q in
      rw (le-leb (record_length f) (length content) h, sets-eq (nulls gs) content 0 whole, field_offset_is f k) (rw g at (null_at gs k (drop (0 + length (nulls gs)) content) (omega arith)))

-- over a record of the file's length it is the nulls, and nothing else
pub null_record_is : (f : File) (content : List ℕ) → length content ≡ record_length f → null_record f content ≡ nulls (fields_of f)
unfolding null_record
null_record_is f content e =
    let gs = fields_of f in
    let long : 0 + length (nulls gs) ≡ length content = omega (arith, null_width f) in
    rw (le-leb (record_length f) (length content) (omega arith), sets-eq (nulls gs) content 0 (omega arith), drop_of_length-le content {i = 0 + length (nulls gs)} (omega arith))
    (append-nil (nulls gs))
