-- A row of slots: where a slot ends, and what is read at its place.
-- Assumes nothing.
use Rattle.std.specs.Prelude.{ℕ, ◌+◌, ◌-◌, ◌*◌, ◌/◌, ◌≤◌, min, ◌≡◌, refl, true, List, eqb, leb, length, get_or}
use Rattle.std.proofs.Common.{mul-le-mul_right, le_of_mul-le-mul_right, div-mul-le_self, le-div_iff_mul-le, arith, le-leb, leb-true}
use Rattle.lists.specs.Tests.{within, within_inside, within_least, within_most, both_ways}
use Rattle.definition.specs.declared.File.{File}
use Rattle.records.specs.Records.{slot_length, slot_offset, file_size}
use Rattle.store.specs.Store.{recorded, slot_count, slot_fits, has_record}

-- a slot ends where the next begins, and no later than the last
module _ (size isn : ℕ) (least : 1 ≤ isn) where
  pub slot_next : (isn - 1) * size + size ≡ (isn + 1 - 1) * size
  slot_next = let e : isn + 1 - 1 ≡ (isn - 1) + 1 = omega arith in rw e (omega arith)

  pub slot_room : (last bytes : ℕ) → isn ≤ last → last * size ≤ bytes → (isn - 1) * size + size ≤ bytes
  slot_room last bytes most room =
      let e : (isn - 1) + 1 ≤ last = omega arith in
      omega (arith, mul-le-mul_right size e)

-- a test of a slot that is one of the row, at its place
module _ (last size : ℕ) (part : List ℕ) (isn at : ℕ) (least : 1 ≤ isn) (most : isn ≤ last) (place : at ≡ (isn - 1) * size) where
  pub recorded_here : recorded last size part isn ≡ eqb (get_or part at 0) 1
  recorded_here = rw (within_inside 1 last isn least most, place)

-- ---- a file's slots are such a row
pub slot_fits_is : (f : File) (part : List ℕ) (isn : ℕ) → slot_fits f part isn ≡ within 1 (slot_count f (length part)) isn
unfolding slot_fits
slot_fits_is f part isn = refl

pub has_record_is : (f : File) (part : List ℕ) → has_record f part ≡ recorded (slot_count f (length part)) (slot_length f) part
unfolding has_record
has_record_is f part = refl

-- they lie within the bytes that they are counted in
pub count_room : (f : File) (bytes : ℕ) → slot_count f bytes * slot_length f ≤ bytes
count_room f bytes =
    let e : slot_count f bytes ≤ bytes / slot_length f = omega arith in
    omega (arith, mul-le-mul_right (slot_length f) e, div-mul-le_self bytes (slot_length f))

-- without division: an ISN is one of theirs if its slot ends within the bytes, and within those that the file takes
pub slot_ends : (f : File) (bytes isn : ℕ) → leb isn (slot_count f bytes) ≡ leb (isn * slot_length f) (min (file_size f) bytes)
slot_ends f bytes isn = both_ways _ _ there back
  where
    there : leb isn (slot_count f bytes) ≡ true → leb (isn * slot_length f) (min (file_size f) bytes) ≡ true
    there h =
        let most = leb-true isn (slot_count f bytes) h in
        let lent : isn * slot_length f ≤ bytes = (le-div_iff_mul-le {k = slot_length f} (omega arith)).0 (omega arith) in
        let own : isn * slot_length f ≤ file_size f = mul-le-mul_right (slot_length f) (omega arith) in
        le-leb (isn * slot_length f) (min (file_size f) bytes) (omega arith)

    back : leb (isn * slot_length f) (min (file_size f) bytes) ≡ true → leb isn (slot_count f bytes) ≡ true
    back h =
        let most = leb-true (isn * slot_length f) (min (file_size f) bytes) h in
        let lent : isn ≤ bytes / slot_length f = (le-div_iff_mul-le {k = slot_length f} (omega arith)).1 (omega arith) in
        let own : isn ≤ f.max_isn = le_of_mul-le-mul_right {k = slot_length f} (omega arith) (omega arith) in
        le-leb isn (slot_count f bytes) (omega arith)

pub slot_inside : (f : File) (part : List ℕ) (isn : ℕ) → slot_fits f part isn ≡ true → slot_offset f isn + slot_length f ≤ length part
unfolding slot_fits
slot_inside f part isn h =
    let last = slot_count f (length part) in
    slot_room (slot_length f) isn (within_least 1 last isn h) last (length part) (within_most 1 last isn h) (count_room f (length part))
