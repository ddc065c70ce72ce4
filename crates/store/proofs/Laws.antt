-- Laws of one file's part: what is read of an ISN after a write there, and after a write elsewhere.
-- Assumes nothing.
use Prim.Native.Nat.{ℕ, zero, suc, ◌+◌, ◌-◌, ◌*◌, ◌/◌, ◌≤◌, ◌<◌}
use Rattle.std.proofs.Common.{le-div_iff_mul-le, arith, ◌∙◌, get_or-set_other}
use Rattle.std.specs.Prelude.{◌≡◌, ◌&&◌, List, [], ◌∷◌, eqb, ltb, length, Some, None}
use Rattle.std.proofs.Math.Path.{refl, sym, ap}
use Rattle.std.proofs.Math.Bool.{true, false}
use Rattle.std.proofs.Math.Logic.{inl, inr}
use Rattle.std.proofs.Math.ListN.{get_or, set, length-set}
use Rattle.std.proofs.Math.Seq.{set-get_or, take_all}
use borrow.Author.Tests.{ltb-true, ltb-false, eq-eqb, eqb-true}
use Rattle.lists.specs.Tests.{cond, within_inside, within_least, within_most, Outcome, holds, fails, outcome, and_left, and_right, and-false}
use Rattle.lists.specs.Folds.{Each}
use Rattle.definition.specs.declared.File.{File}
use Rattle.records.specs.Records.{record_length, slot_length, slot_offset, file_size}
use Rattle.records.specs.Laws.{slot_before}
use Rattle.lists.specs.Numbers.{numbers, each_number}
use Rattle.lists.specs.Pieces.{piece, patch, length_patch, patch_own, patch_set, patch_same, patch_other, piece_first, piece_rest, set_other}
use Rattle.lists.specs.Parts.{length_piece, Apart}
use Rattle.store.specs.Store.{slot_count, slot_fits, has_record, record_of, shown, get, put_record, empty, fresh, cleared, isns_from}
use Rattle.store.specs.Slots.{slot_inside}

-- a 0 that is stored, and one that was there
pub set_zero : (l : List ℕ) (i : ℕ) → get_or (set l i 0) i 0 ≡ 0
set_zero [] i = refl
set_zero (x ∷ xs) zero = refl
set_zero (x ∷ xs) (suc i) = set_zero xs i

pub set_zero_other : (l : List ℕ) (i j : ℕ) → get_or l j 0 ≡ 0 → get_or (set l i 0) j 0 ≡ 0
set_zero_other [] i j h = h
set_zero_other (x ∷ xs) zero zero h = refl
set_zero_other (x ∷ xs) zero (suc j) h = h
set_zero_other (x ∷ xs) (suc i) zero h = h
set_zero_other (x ∷ xs) (suc i) (suc j) h = set_zero_other xs i j h

-- ---- which ISNs have a slot
-- in a part as long as the file, each of its ISNs
pub count_whole : (f : File) (bytes : ℕ) → file_size f ≤ bytes → slot_count f bytes ≡ f.max_isn
count_whole f bytes h =
    let e : f.max_isn ≤ bytes / slot_length f = (le-div_iff_mul-le {k = slot_length f} (omega arith)).1 h in
    omega arith

pub fits_whole : (f : File) (part : List ℕ) (isn : ℕ) → file_size f ≤ length part → 1 ≤ isn → isn ≤ f.max_isn → slot_fits f part isn ≡ true
unfolding slot_fits
fits_whole f part isn h least most = rw (count_whole f (length part) h) (within_inside 1 f.max_isn isn least most)

module _ (f : File) (part : List ℕ) (isn : ℕ) where
  pub fits_least : slot_fits f part isn ≡ true → 1 ≤ isn
  unfolding slot_fits
  fits_least h = within_least 1 (slot_count f (length part)) isn h

  pub fits_most : slot_fits f part isn ≡ true → isn ≤ f.max_isn
  unfolding slot_fits
  fits_most h = omega (arith, within_most 1 (slot_count f (length part)) isn h)

  -- ---- a record that is there
  pub has_fits : has_record f part isn ≡ true → slot_fits f part isn ≡ true
  unfolding has_record slot_fits
  has_fits h = and_left (slot_fits f part isn) (eqb (get_or part (slot_offset f isn) 0) 1) h

  -- ends within the part, and has the file's width
  pub record_inside : has_record f part isn ≡ true → slot_offset f isn + 1 + record_length f ≤ length part
  record_inside h = omega (arith, slot_inside f part isn (has_fits h))

  pub record_of_length : has_record f part isn ≡ true → length (record_of f part isn) ≡ record_length f
  record_of_length h = length_piece (slot_offset f isn + 1) (record_length f) part (record_inside h)

  -- ---- what is shown of an ISN
  pub shown_is : shown f part isn ≡ cond (has_record f part isn) (record_of f part isn) []
  unfolding shown
  shown_is = refl

  pub shown_record : has_record f part isn ≡ true → shown f part isn ≡ record_of f part isn
  unfolding shown
  shown_record h = rw h

  pub shown_none : has_record f part isn ≡ false → shown f part isn ≡ []
  unfolding shown
  shown_none h = rw h

  pub shown_length : has_record f part isn ≡ true → length (shown f part isn) ≡ record_length f
  shown_length h = ap length (shown_record h) ∙ record_of_length h

  -- ---- what `get` says

  pub get_some : has_record f part isn ≡ true → get f part isn ≡ Some (record_of f part isn)
  unfolding get
  get_some h = rw h

  pub get_none : has_record f part isn ≡ false → get f part isn ≡ None
  unfolding get
  get_none h = rw h

  pub get_is : get f part isn ≡ cond (has_record f part isn) (Some (record_of f part isn)) None
  unfolding get
  get_is = refl

  -- no record at an ISN that the file does not have
  pub get_outside : (1 ≤ isn → isn ≤ f.max_isn → ⊥) → get f part isn ≡ None
  get_outside out = go (outcome (has_record f part isn))
    where
      go : Outcome (has_record f part isn) → get f part isn ≡ None
      go (holds h) = absurd (out (fits_least (has_fits h)) (fits_most (has_fits h)))
      go (fails h) = get_none h

  pub some_has : (r : List ℕ) → get f part isn ≡ Some r → has_record f part isn ≡ true
  some_has r e = go (outcome (has_record f part isn))
    where
      go : Outcome (has_record f part isn) → has_record f part isn ≡ true
      go (holds h) = h
      go (fails h) = absurd (let z : ◌≡◌ {A = ℕ} 0 1 = cc (get_none h) in omega arith)

  pub some_record : (r : List ℕ) → get f part isn ≡ Some r → record_of f part isn ≡ r
  some_record r e = cc (get_some (some_has r e))

  -- a record has the file's width
  pub get_length : (r : List ℕ) → get f part isn ≡ Some r → length r ≡ record_length f
  get_length r e = sym (ap length (some_record r e)) ∙ record_of_length (some_has r e)

-- ---- `get` reads no more than the slot
module _ (f : File) (p q : List ℕ) (isn : ℕ) (long : length p ≡ length q) (alike : piece (slot_offset f isn) (slot_length f) p ≡ piece (slot_offset f isn) (slot_length f) q) where
  pub has_alike : has_record f p isn ≡ has_record f q isn
  unfolding has_record
  has_alike =
      let at = slot_offset f isn in
      let first : get_or p at 0 ≡ get_or q at 0 = sym (piece_first at (record_length f) p 0) ∙ ap (λ x. get_or x 0 0) alike ∙ piece_first at (record_length f) q 0 in
      rw (long, first)

  pub get_alike : get f p isn ≡ get f q isn
  unfolding get
  get_alike =
      let at = slot_offset f isn in
      let rest : record_of f p isn ≡ record_of f q isn = sym (piece_rest at (record_length f) p) ∙ ap (piece 1 (record_length f)) alike ∙ piece_rest at (record_length f) q in
      rw (has_alike, rest)

-- slots of different ISNs lie apart
isns_apart : (f : File) (n m : ℕ) → 1 ≤ n → 1 ≤ m → (m ≡ n → ⊥) → Apart (slot_offset f n) (slot_length f) (slot_offset f m) (slot_length f)
isns_apart f n m p q other = go (outcome (ltb n m)) (outcome (ltb m n))
  where
    go : Outcome (ltb n m) → Outcome (ltb m n) → Apart (slot_offset f n) (slot_length f) (slot_offset f m) (slot_length f)
    go (holds a) b = inl (slot_before f n m p (ltb-true n m a))
    go (fails a) (holds b) = inr (slot_before f m n q (ltb-true m n b))
    go (fails a) (fails b) = absurd (other (omega (arith, ltb-false n m a, ltb-false m n b)))

-- a part that was written in the slot of an ISN alone has the other ISNs as they were
module _ (f : File) (p q : List ℕ) (isn : ℕ) (fits : slot_fits f q isn ≡ true) (long : length p ≡ length q)
    (kept : (b m : ℕ) → Apart (slot_offset f isn) (slot_length f) b m → piece b m p ≡ piece b m q) where
  other_kept : (other : ℕ) → (other ≡ isn → ⊥) → get f p other ≡ get f q other
  unfolding has_record
  other_kept zero apart = get_none f p 0 refl ∙ sym (get_none f q 0 refl)
  other_kept (suc n) apart =
      get_alike f p q (suc n) long
      (kept (slot_offset f (suc n)) (slot_length f) (isns_apart f isn (suc n) (fits_least f q isn fits) (omega arith) apart))

-- ---- a record that is put
module _ (f : File) (part : List ℕ) (isn : ℕ) (r : List ℕ) where
  put_puts : slot_fits f part isn ≡ true → length r ≡ record_length f → put_record f part isn r ≡ patch (slot_offset f isn) (slot_length f) part (1 ∷ r)
  unfolding put_record
  put_puts h e = rw (h, eq-eqb (length r) (record_length f) e)

  put_stays : (slot_fits f part isn && eqb (length r) (record_length f)) ≡ false → put_record f part isn r ≡ part
  unfolding put_record
  put_stays h = rw h

  -- the part stays, or the record is put
  by_put : (P : List ℕ → Type 0) → P part → (slot_fits f part isn ≡ true → length r ≡ record_length f → P (patch (slot_offset f isn) (slot_length f) part (1 ∷ r))) → P (put_record f part isn r)
  by_put P stay put = go (outcome (slot_fits f part isn && eqb (length r) (record_length f)))
    where
      go : Outcome (slot_fits f part isn && eqb (length r) (record_length f)) → P (put_record f part isn r)
      go (holds h) =
          let a : slot_fits f part isn ≡ true = and_left (slot_fits f part isn) (eqb (length r) (record_length f)) h in
          let b : length r ≡ record_length f = eqb-true (length r) (record_length f) (and_right (slot_fits f part isn) (eqb (length r) (record_length f)) h) in
          rw (put_puts a b) (put a b)
      go (fails h) = rw (put_stays h) stay

  slot_whole : length r ≡ record_length f → length (1 ∷ r) ≡ slot_length f
  slot_whole e = omega arith

  pub put_length : length (put_record f part isn r) ≡ length part
  put_length = by_put (λ p. length p ≡ length part) refl (λ h e. length_patch (slot_offset f isn) (slot_length f) part (1 ∷ r) (slot_inside f part isn h) (slot_whole e))

  -- bytes outside the slot stay
  pub put_kept : (b m : ℕ) → Apart (slot_offset f isn) (slot_length f) b m → piece b m (put_record f part isn r) ≡ piece b m part
  put_kept b m apart =
      by_put (λ p. piece b m p ≡ piece b m part) refl
      (λ h e. patch_other (slot_offset f isn) (slot_length f) part (1 ∷ r) (slot_inside f part isn h) (slot_whole e) b m apart)

  pub get_put : slot_fits f part isn ≡ true → length r ≡ record_length f → get f (put_record f part isn r) isn ≡ Some r
  unfolding has_record slot_fits
  get_put h e =
      let at = slot_offset f isn in
      let w = record_length f in
      let p = put_record f part isn r in
      let slot : piece at (w + 1) p ≡ 1 ∷ r = rw (put_puts h e) (patch_same at (slot_length f) part (1 ∷ r) (slot_inside f part isn h) (slot_whole e)) in
      let first : get_or p at 0 ≡ 1 = sym (piece_first at w p 0) ∙ ap (λ x. get_or x 0 0) slot in
      let has : has_record f p isn ≡ true = rw (put_length, first, h) in
      get_some f p isn has ∙ ap Some (sym (piece_rest at w p) ∙ ap (piece 1 w) slot ∙ take_all w r (omega arith))

  pub get_put_other : (other : ℕ) → (other ≡ isn → ⊥) → get f (put_record f part isn r) other ≡ get f part other
  get_put_other other apart = go (outcome (slot_fits f part isn))
    where
      go : Outcome (slot_fits f part isn) → get f (put_record f part isn r) other ≡ get f part other
      go (holds h) = other_kept f (put_record f part isn r) part isn h put_length put_kept other apart
      go (fails h) = let stays : (slot_fits f part isn && eqb (length r) (record_length f)) ≡ false = rw h in rw (put_stays stays)

  -- what a caller does who lends the record's bytes on to be written, as a part of the part: behind a first byte of 1 it puts a record
  pub put_lent : slot_fits f part isn ≡ true → length r ≡ record_length f → patch (slot_offset f isn + 1) (record_length f) (set part (slot_offset f isn) 1) r ≡ put_record f part isn r
  put_lent h e = patch_set (slot_offset f isn) (record_length f) part 1 r (omega (arith, slot_inside f part isn h)) ∙ sym (put_puts h e)

  -- and so where there is a record already (A1)
  pub put_over : has_record f part isn ≡ true → length r ≡ record_length f → patch (slot_offset f isn + 1) (record_length f) part r ≡ put_record f part isn r
  unfolding has_record slot_fits
  put_over h e =
      let at = slot_offset f isn in
      let one : get_or part at 0 ≡ 1 = eqb-true (get_or part at 0) 1 (and_right (slot_fits f part isn) (eqb (get_or part at 0) 1) h) in
      let same : set part at 1 ≡ part = ap (set part at) (sym one) ∙ set-get_or part at 0 in
      ap (λ p. patch (at + 1) (record_length f) p r) (sym same) ∙ put_lent (has_fits f part isn h) e

-- a record that is put back where it is changes no byte, whatever its bytes
pub put_own : (f : File) (part : List ℕ) (isn : ℕ) → has_record f part isn ≡ true → put_record f part isn (record_of f part isn) ≡ part
put_own f part isn h =
    sym (put_over f part isn (record_of f part isn) h (record_of_length f part isn h)) ∙ patch_own (slot_offset f isn + 1) (record_length f) part

-- ---- an ISN that is emptied
module _ (f : File) (part : List ℕ) (isn : ℕ) where
  by_empty : (P : List ℕ → Type 0) → P part → (slot_fits f part isn ≡ true → P (set part (slot_offset f isn) 0)) → P (empty f part isn)
  unfolding empty
  by_empty P stay clear = go (outcome (slot_fits f part isn))
    where
      go : Outcome (slot_fits f part isn) → P (empty f part isn)
      go (holds h) = rw h (clear h)
      go (fails h) = rw h stay

  pub empty_length : length (empty f part isn) ≡ length part
  empty_length = by_empty (λ p. length p ≡ length part) refl (λ h. length-set part (slot_offset f isn) 0)

  -- all but the first byte stays
  pub empty_kept : (b m : ℕ) → Apart (slot_offset f isn) 1 b m → piece b m (empty f part isn) ≡ piece b m part
  empty_kept b m apart = by_empty (λ p. piece b m p ≡ piece b m part) refl (λ h. set_other (slot_offset f isn) part 0 b m apart)

  pub empty_record : record_of f (empty f part isn) isn ≡ record_of f part isn
  empty_record = empty_kept (slot_offset f isn + 1) (record_length f) (inl (omega arith))

  pub has_empty : has_record f (empty f part isn) isn ≡ false
  unfolding empty has_record slot_fits
  has_empty = go (outcome (slot_fits f part isn))
    where
      go : Outcome (slot_fits f part isn) → has_record f (empty f part isn) isn ≡ false
      go (holds h) = rw (h, length-set part (slot_offset f isn) 0, set_zero part (slot_offset f isn)) (and-false (slot_fits f part isn))
      go (fails h) = let no : has_record f part isn ≡ false = rw h in rw h no

  pub get_empty : get f (empty f part isn) isn ≡ None
  get_empty = get_none f (empty f part isn) isn has_empty

  pub get_empty_other : (other : ℕ) → (other ≡ isn → ⊥) → get f (empty f part isn) other ≡ get f part other
  unfolding empty
  get_empty_other other apart = go (outcome (slot_fits f part isn))
    where
      near : (b m : ℕ) → Apart (slot_offset f isn) (slot_length f) b m → Apart (slot_offset f isn) 1 b m
      near b m (inl h) = inl (omega arith)
      near b m (inr h) = inr h

      go : Outcome (slot_fits f part isn) → get f (empty f part isn) other ≡ get f part other
      go (holds h) = other_kept f (empty f part isn) part isn h empty_length (λ b m a. empty_kept b m (near b m a)) other apart
      go (fails h) = rw h

-- ---- set-up
module _ (size : ℕ) where
  cleared_length : (isns p : List ℕ) → length (cleared size isns p) ≡ length p
  cleared_length [] p = refl
  cleared_length (n ∷ ns) p = cleared_length ns (set p ((n - 1) * size) 0) ∙ length-set p ((n - 1) * size) 0

  -- a byte that is the first of none of them stays
  cleared_keeps : (j : ℕ) (isns p : List ℕ) → Each (λ n. (n - 1) * size ≡ j → ⊥) isns → get_or (cleared size isns p) j 0 ≡ get_or p j 0
  cleared_keeps j [] p h = refl
  cleared_keeps j (n ∷ ns) p h = cleared_keeps j ns (set p ((n - 1) * size) 0) h.1 ∙ get_or-set_other p ((n - 1) * size) j 0 0 (λ e. h.0 (sym e))

  cleared_zero : (j : ℕ) (isns p : List ℕ) → get_or p j 0 ≡ 0 → get_or (cleared size isns p) j 0 ≡ 0
  cleared_zero j [] p h = h
  cleared_zero j (n ∷ ns) p h = cleared_zero j ns (set p ((n - 1) * size) 0) (set_zero_other p ((n - 1) * size) j h)

  cleared_first : (c k n : ℕ) (p : List ℕ) → k ≤ n → n < k + c → get_or (cleared size (numbers c k) p) ((n - 1) * size) 0 ≡ 0
  cleared_first zero k n p a b = absurd (omega arith)
  cleared_first (suc c) k n p a b = go (outcome (ltb k n)) (λ h. cleared_first c (k + 1) n (set p ((k - 1) * size) 0) h (omega arith))
    where
      go : Outcome (ltb k n) → (k + 1 ≤ n → get_or (cleared size (numbers (suc c) k) p) ((n - 1) * size) 0 ≡ 0) → get_or (cleared size (numbers (suc c) k) p) ((n - 1) * size) 0 ≡ 0
      go (holds h) later = later (omega (arith, ltb-true k n h))
      go (fails h) later =
          let e : n ≡ k = omega (arith, ltb-false k n h) in
          rw e (cleared_zero ((k - 1) * size) (numbers c (k + 1)) (set p ((k - 1) * size) 0) (set_zero p ((k - 1) * size)))

module _ (f : File) (part : List ℕ) where
  pub fresh_length : length (fresh f part) ≡ length part
  unfolding fresh
  fresh_length = cleared_length (slot_length f) (isns_from f part 1) part

  pub get_fresh : (isn : ℕ) → get f (fresh f part) isn ≡ None
  unfolding fresh has_record slot_fits
  get_fresh isn = get_none f (fresh f part) isn (go (outcome (slot_fits f part isn)))
    where
      go : Outcome (slot_fits f part isn) → has_record f (fresh f part) isn ≡ false
      go (fails h) = rw (cleared_length (slot_length f) (isns_from f part 1) part, h)
      go (holds h) =
          let last = slot_count f (length part) in
          let zero = cleared_first (slot_length f) (last + 1 - 1) 1 isn part (within_least 1 last isn h) (omega (arith, within_most 1 last isn h)) in
          rw zero (and-false (slot_fits f (cleared (slot_length f) (isns_from f part 1) part) isn))

  -- "and writes nothing else lent": a byte that is the first of no ISN stays
  pub fresh_kept : (j : ℕ) → ((isn : ℕ) → slot_fits f part isn ≡ true → slot_offset f isn ≡ j → ⊥) → get_or (fresh f part) j 0 ≡ get_or part j 0
  unfolding fresh slot_fits
  fresh_kept j other =
      let last = slot_count f (length part) in
      cleared_keeps (slot_length f) j (isns_from f part 1) part
      (each_number (λ n. (n - 1) * slot_length f ≡ j → ⊥) (last + 1 - 1) 1 (λ n a b. other n (within_inside 1 last n a (omega arith))))
