-- Laws of an ISN of a row of slots and of two searches, one after the other.
-- Assumes nothing.
use Rattle.std.specs.Prelude.{ℕ, ◌+◌, ◌-◌, ◌*◌, ◌≤◌, min, ◌≡◌, refl, Bool, not, ◌&&◌, List, [], ◌∷◌, ◌++◌, length, Option, Some, None}
use Rattle.std.proofs.Common.{mul-le-mul, arith, ◌∙◌, le-leb}
use Rattle.lists.specs.Tests.{Outcome, holds, fails, outcome}
use Rattle.lists.specs.Folds.{any}
use Rattle.lists.specs.Numbers.{from_to}
use Rattle.definition.specs.declared.File.{File}
use Rattle.records.specs.Records.{slot_length, file_size}
use Rattle.store.specs.Slots.{slot_next, slot_ends, has_record_is}
use Rattle.search.specs.Search.{first_of}
use Rattle.entries.specs.Entries.{entries, is_of}
use Rattle.entries.specs.declared.Entry.{Entry}
use Rattle.nucleus.specs.declared.Call.{Call}
use Rattle.shares.specs.Chains.{is_free, free_isn}
use Rattle.shares.specs.declared.Share.{Share}
use Rattle.assignment.specs.Assignment.{recorded_at, free_at}

-- ---- a free ISN of a row of slots
-- no slot begins far out
pub offset_most : (isn size : ℕ) → isn ≤ 65536 → size ≤ 4081 → (isn - 1) * size ≤ 267448335
offset_most isn size a b = let e : isn - 1 ≤ 65535 = omega arith in mul-le-mul e b

-- at its place
pub free_here : (room size : ℕ) (part : List ℕ) (file : ℕ) (held : List Entry) (isn at : ℕ) → 1 ≤ isn → at ≡ (isn - 1) * size
    → free_at room size part file held isn ≡ (not (recorded_at room part at (at + size)) && not (any (is_of file isn) held))
free_here room size part file held isn at least place =
    let same : isn + 1 - 1 ≡ isn = omega arith in
    let next : (isn - 1) * size + size ≡ isn * size = slot_next size isn least ∙ rw same refl in
    rw (le-leb 1 isn least, place, next)

-- ---- the first of some numbers that passes
-- tests that agree find the same
first_agree : (p q : ℕ → Bool) → ((n : ℕ) → p n ≡ q n) → (xs : List ℕ) → first_of p xs ≡ first_of q xs
first_agree p q same [] = refl
first_agree p q same (n ∷ ns) = rw (same n, first_agree p q same ns)

-- where they come in two parts
module _ (p : ℕ → Bool) (ys : List ℕ) where
  first_part : (xs : List ℕ) (isn : ℕ) → first_of p xs ≡ Some isn → first_of p (xs ++ ys) ≡ Some isn
  first_part [] isn e = cc
  first_part (n ∷ ns) isn e = go (outcome (p n)) (first_part ns isn)
    where
      go : Outcome (p n) → (first_of p ns ≡ Some isn → first_of p (ns ++ ys) ≡ Some isn) → first_of p ((n ∷ ns) ++ ys) ≡ Some isn
      go (holds t) later = rw t (rw t at e)
      go (fails t) later = rw t (later (rw t at e))

  second_part : (xs : List ℕ) → first_of p xs ≡ None → first_of p (xs ++ ys) ≡ first_of p ys
  second_part [] e = refl
  second_part (n ∷ ns) e = go (outcome (p n)) (second_part ns)
    where
      go : Outcome (p n) → (first_of p ns ≡ None → first_of p (ns ++ ys) ≡ first_of p ys) → first_of p ((n ∷ ns) ++ ys) ≡ first_of p ys
      go (holds t) later = let bad : Some n ≡ None = rw t at e in rw t (cc)
      go (fails t) later = rw t (later (rw t at e))

-- ---- a file's slots are such a row; N1 looks behind the ISN that it last gave, and then round from 1 to that
module _ (f : File) (part : List ℕ) (call : Call) (x : Share) (queue : List ℕ) where
  abbrev pub free_in : ℕ → Bool
  free_in = free_at (min (file_size f) (length part)) (slot_length f) part call.file (entries queue x.count)

  abbrev pub free_behind : Option ℕ
  free_behind = first_of free_in (from_to (x.last_assigned + 1) f.max_isn)

  abbrev pub free_round : Option ℕ
  free_round = first_of free_in (from_to 1 x.last_assigned)

  is_free_is : (isn : ℕ) → is_free f part call x queue isn ≡ free_in isn
  is_free_is isn = rw (has_record_is f part, slot_ends f (length part) isn)

  free_isn_is : free_isn f part call x queue ≡ first_of free_in (from_to (x.last_assigned + 1) f.max_isn ++ from_to 1 x.last_assigned)
  unfolding free_isn
  free_isn_is = first_agree (is_free f part call x queue) free_in is_free_is (from_to (x.last_assigned + 1) f.max_isn ++ from_to 1 x.last_assigned)

  pub found_behind : (isn : ℕ) → free_behind ≡ Some isn → free_isn f part call x queue ≡ Some isn
  found_behind isn e = free_isn_is ∙ first_part free_in (from_to 1 x.last_assigned) (from_to (x.last_assigned + 1) f.max_isn) isn e

  pub none_behind : free_behind ≡ None → free_isn f part call x queue ≡ free_round
  none_behind e = free_isn_is ∙ second_part free_in (from_to 1 x.last_assigned) (from_to (x.last_assigned + 1) f.max_isn) e
