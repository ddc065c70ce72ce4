-- The longest definition table that breaks no rule.
-- Assumes nothing.
use Rattle.std.specs.Prelude.{ℕ, zero, suc, ◌+◌, ◌-◌, ◌*◌, ◌≤◌, ◌<◌, ◌≡◌, refl, Bool, true, false, List, ltb, eqb, length, drop, Some, Option, None}
use Rattle.std.proofs.Common.{arith, ap, ◌∙◌, lit≤, length-set, get_or-set_same, ltb-true, ne_eqb}
use Rattle.lists.specs.Tests.{within, cond, within_least, within_most, and_left, and_right}
use Rattle.definition.specs.Table.{max_files, max_fields, beyond, no_definition}
use Rattle.definition.specs.declared.Definition.{Definition}
use Rattle.definition.specs.declared.Field.{Field}
use Rattle.validity.specs.Validity.{valid}
use Rattle.items.specs.Items.{item_of}
use Rattle.items.specs.declared.Item.{Item}
use Rattle.items.specs.declared.Item.TheVariants.{File as item_file, Field as item_field, End as item_end}
use Rattle.reading.specs.Grammar.{room_for_file, room_for_field, add_file, add_field, last_file, broken, proceed, read_from, read_table}
use Rattle.reading.specs.declared.Reading.{Reading}

-- the bytes of fields that the last file may have still
abbrev spare : Definition → ℕ
spare d = cond (eqb d.count 0) 0 (6 * (max_fields - (last_file d).count))

-- each item takes its bytes off those of files and fields that may come still
record Room (at : ℕ) (d : Definition) : Type 0 where
  places : length d.files ≡ max_files
  left : at + 100 * (max_files - d.count) + spare d ≤ 1600

spare_counted : (d : Definition) → 1 ≤ d.count → spare d ≡ 6 * (max_fields - (last_file d).count)
spare_counted d h = ap (λ b. cond b 0 (6 * (max_fields - (last_file d).count))) (ne_eqb d.count 0 (λ e. omega arith))

module _ (at : ℕ) (d : Definition) (r : Room at d) where
  file_room : (number isn : ℕ) → room_for_file d ≡ true → Room (at + 4) (add_file d number isn)
  file_room number isn h =
      let room : d.count < length d.files = omega (arith, ltb-true d.count max_files h, r.places) in
      let last : d.count + 1 - 1 ≡ d.count = omega arith in
      let none : (last_file (add_file d number isn)).count ≡ 0 = rw last (ap (λ f. f.count) (get_or-set_same d.files d.count _ beyond room)) in
      record {
        places = length-set d.files d.count _ ∙ r.places;
        left = omega (arith, r.left, ltb-true d.count max_files h, spare_counted (add_file d number isn) (omega arith), none);
      }

  field_room : (f : Field) → room_for_field d ≡ true → Room (at + 6) (add_field d f)
  field_room f h =
      let count : within 1 max_files d.count ≡ true = search (and_left, and_right) in
      let fields : ltb (last_file d).count max_fields ≡ true = search (and_left, and_right) in
      let least = within_least 1 max_files d.count count in
      let most = within_most 1 max_files d.count count in
      let room : d.count - 1 < length d.files = omega (arith, r.places) in
      let more : (last_file (add_field d f)).count ≡ (last_file d).count + 1 = ap (λ f. f.count) (get_or-set_same d.files (d.count - 1) _ beyond room) in
      record {
        places = length-set d.files (d.count - 1) _ ∙ r.places;
        left = omega (arith, r.left, ltb-true (last_file d).count max_fields fields, spare_counted d least, spare_counted (add_field d f) least, more);
      }

-- ---- a reading that has an end has it within them
data Short : Reading → Type 0 where
  ends : {d : Definition} {e : ℕ} → e ≤ 1601 → Short (record { end = Some e; definition = d })
  refused : Short broken

cond_short : (b : Bool) (r : Reading) → (b ≡ true → Short r) → Short (cond b r broken)
cond_short true r h = h refl
cond_short false r h = refused

from_short : (fuel : ℕ) (bytes : List ℕ) (at : ℕ) (d : Definition) → Room at d → Short (read_from fuel bytes at d)
unfolding read_from
from_short zero bytes at d r = refused
from_short (suc fuel) bytes at d r = go (item_of (drop at bytes)) (from_short fuel bytes)
  where
    go : (i : Option Item) → ((at : ℕ) (d : Definition) → Room at d → Short (read_from fuel bytes at d)) → Short (proceed (read_from fuel bytes) at d i)
    go (Some (item_file n m)) later = cond_short (room_for_file d) _ (λ h. later (at + 4) (add_file d n m) (file_room at d r n m h))
    go (Some (item_field f)) later = cond_short (room_for_field d) _ (λ h. later (at + 6) (add_field d f) (field_room at d r f h))
    go (Some item_end) later = cond_short (valid d) _ (λ h. ends (omega (arith, r.left)))
    go None later = refused

-- sixteen files of sixteen fields, and the end
pub table_most : (bytes : List ℕ) (e : ℕ) → (read_table bytes).end ≡ Some e → e ≤ 1601
unfolding read_table
table_most bytes e = go (read_table bytes) (from_short (length bytes) bytes 0 no_definition (record { places = refl; left = lit≤ tt }))
  where
    go : (r : Reading) → Short r → r.end ≡ Some e → e ≤ 1601
    go r (ends {e = e'} h) q = let same : e' ≡ e = cc in rw (← same) h
    go r refused q = absurd (let z : ◌≡◌ {A = ℕ} 0 1 = cc in omega arith)
