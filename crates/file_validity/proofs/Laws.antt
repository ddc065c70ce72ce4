-- What a valid file has, for callers: its rules one by one, and different names.
-- Assumes nothing.
use Rattle.std.specs.Prelude.{ℕ, ◌≤◌, ◌<◌, ◌≡◌, true, false, leb, length}
use Rattle.std.proofs.Common.{arith, get_or-take, length-take-le, leb-true}
use Rattle.lists.specs.Tests.{within, within_least, within_most, and_left, and_right}
use Rattle.lists.specs.Folds.{all, distinct, sound, distinct_at}
use Rattle.definition.specs.Table.{max_number, max_isn_limit, max_fields, max_record_length, no_field, field_at, field_count, fields_of, named_alike}
use Rattle.definition.specs.Shape.{FileShape}
use Rattle.definition.specs.declared.File.{File}
use Rattle.records.specs.Records.{record_length}
use Rattle.file_validity.specs.FileValidity.{field_valid, file_valid}

-- ---- a valid file
pub record ValidFile (f : File) : Type 0 where
  pub number_least : 1 ≤ f.number
  pub number_most : f.number ≤ max_number
  pub isn_least : 1 ≤ f.max_isn
  pub isn_most : f.max_isn ≤ max_isn_limit
  pub count_least : 1 ≤ f.count
  pub count_most : f.count ≤ max_fields
  pub fields_sound : sound field_valid named_alike (fields_of f) ≡ true
  pub length_most : record_length f ≤ max_record_length

pub valid_file : (f : File) → file_valid f ≡ true → ValidFile f
unfolding file_valid
valid_file f h =
    let number : within 1 max_number f.number ≡ true = search (and_left, and_right) in
    let isn : within 1 max_isn_limit f.max_isn ≡ true = search (and_left, and_right) in
    let count : within 1 max_fields f.count ≡ true = search (and_left, and_right) in
    let fields : sound field_valid named_alike (fields_of f) ≡ true = search (and_left, and_right) in
    let width : leb (record_length f) max_record_length ≡ true = search (and_left, and_right) in
    record {
      number_least = within_least 1 max_number f.number number;
      number_most = within_most 1 max_number f.number number;
      isn_least = within_least 1 max_isn_limit f.max_isn isn;
      isn_most = within_most 1 max_isn_limit f.max_isn isn;
      count_least = within_least 1 max_fields f.count count;
      count_most = within_most 1 max_fields f.count count;
      fields_sound = fields;
      length_most = leb-true (record_length f) max_record_length width;
    }

-- no two fields of a valid file have one name
pub names_apart : (f : File) → FileShape f → ValidFile f → (k j : ℕ) → k < j → j < field_count f → named_alike (field_at f k) (field_at f j) ≡ false
names_apart f s v k j b h =
    let places : field_count f ≤ length f.fields = omega (arith, s.places) in
    let m : k < field_count f = omega arith in
    let apart = and_right (all field_valid (fields_of f)) (distinct named_alike (fields_of f)) v.fields_sound in
    rw (get_or-take (field_count f) f.fields k no_field m, get_or-take (field_count f) f.fields j no_field h) at
    (distinct_at named_alike (fields_of f) no_field apart k j b (omega (arith, length-take-le (field_count f) f.fields places)))
