-- Sizes of any kept file, valid or not: none can overflow.
-- Assumes nothing.
use Rattle.std.specs.Prelude.{ℕ, ◌≤◌, List, [], ◌∷◌}
use Rattle.std.proofs.Common.{mul-le-mul, arith, length-take}
use Rattle.lists.specs.Folds.{Each, each_getD, each_take, total_most}
use Rattle.definition.specs.Table.{no_field, field_at, fields_of, field_count}
use Rattle.definition.specs.Shape.{FieldShape, FileShape}
use Rattle.records.specs.Records.{field_length, record_length, slot_length, file_size}
use Rattle.definition.specs.declared.Field.{Field}
use Rattle.definition.specs.declared.File.{File}

lengths_small : (l : List Field) → Each FieldShape l → Each (λ f. field_length f ≤ 255) l
lengths_small [] h = tt
lengths_small (x ∷ xs) h = (omega (arith, h.0.small_length), lengths_small xs h.1)

pub field_length_most : (f : File) → FileShape f → (k : ℕ) → field_length (field_at f k) ≤ 255
field_length_most f s k = each_getD (λ g. field_length g ≤ 255) f.fields no_field (lengths_small f.fields s.each_field) (omega arith) k

pub record_length_most : (f : File) → FileShape f → record_length f ≤ 4080
unfolding record_length
record_length_most f s =
    omega (
      arith,
      total_most field_length 255 (fields_of f) (lengths_small (fields_of f) (each_take FieldShape (field_count f) f.fields s.each_field)),
      length-take (field_count f) f.fields,
    )

pub file_size_most : (f : File) → FileShape f → file_size f ≤ 267448335
file_size_most f s =
    let m : f.max_isn ≤ 65535 = omega (arith, s.small_max_isn) in
    let w : slot_length f ≤ 4081 = omega (arith, record_length_most f s) in
    mul-le-mul m w
