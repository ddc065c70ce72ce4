-- How `repeated` looks only where it must: a table with a mark for each entry passed. An entry whose mark is not there is like none before it.
-- No public contract speaks of it. Assumes nothing.
use Rattle.std.specs.Prelude.{ℕ, ◌+◌, ◌*◌, ◌/◌, ◌%◌, ◌^◌, ◌<◌, max, ◌≡◌, refl, Bool, true, false, List, [], ◌∷◌, eqb, length, get_or, set}
use Rattle.std.proofs.Math.Nat.{div_self}
use Rattle.std.proofs.Common.{arith, length-set, pow_pos, get_or-set_same, get_or-set_other, eqb-true, eq-eqb}
use Rattle.std.specs.Int.Bits.{bit_or, or_step}
use Rattle.std.proofs.lemmas.Nat.{or_shr}
use Rattle.std.proofs.lemmas.Bool.{eqb-false}
use Rattle.lists.specs.Folds.{all, any}
use Rattle.lists.specs.Tests.{not_both, Outcome, holds, fails, outcome, and_left, and_right}
use Rattle.entries.specs.Entries.{is_of}
use Rattle.entries.specs.declared.Entry.{Entry}

-- the place of an entry's mark
unfoldable pub key : Entry → ℕ
key e = (e.file * 259 + e.isn) % 4096

-- the k-th bit of the table's words
unfoldable pub marked : List ℕ → ℕ → Bool
marked table k = eqb (get_or table (k / 64) 0 / 2 ^ (k % 64) % 2) 1

unfoldable pub set_mark : List ℕ → ℕ → List ℕ
set_mark table k = set table (k / 64) (bit_or (get_or table (k / 64) 0) (2 ^ (k % 64)))

abbrev pub all_marked : List ℕ → List Entry → Bool
all_marked table es = all (λ e. marked table (key e)) es

pub key_small : (e : Entry) → key e < 4096
unfolding key
key_small e = omega arith

-- a bit of two words joined
or_bit : (a b k : ℕ) → bit_or a b / 2 ^ k % 2 ≡ max (a / 2 ^ k % 2) (b / 2 ^ k % 2)
or_bit a b k = rw (or_shr a b k, or_step (a / 2 ^ k) (b / 2 ^ k)) (omega arith)

-- the greater of two bits, where one is 1
max_left : (y : ℕ) → y < 2 → max 1 y ≡ 1
max_left y h = omega arith

max_right : (x : ℕ) → x < 2 → max x 1 ≡ 1
max_right x h = omega arith

-- the mark is there, and those that were there still are
pub set_mark_here : (table : List ℕ) (k : ℕ) → k / 64 < length table → marked (set_mark table k) k ≡ true
unfolding marked set_mark
set_mark_here table k h =
    rw (get_or-set_same table (k / 64) (bit_or (get_or table (k / 64) 0) (2 ^ (k % 64))) 0 h, or_bit (get_or table (k / 64) 0) (2 ^ (k % 64)) (k % 64), div_self (pow_pos (k % 64)))
    (eq-eqb (max (get_or table (k / 64) 0 / 2 ^ (k % 64) % 2) 1) 1 (max_right (get_or table (k / 64) 0 / 2 ^ (k % 64) % 2) (omega arith)))

pub set_mark_kept : (table : List ℕ) (k j : ℕ) → k / 64 < length table → marked table j ≡ true → marked (set_mark table k) j ≡ true
unfolding marked set_mark
set_mark_kept table k j h m = go (outcome (eqb (j / 64) (k / 64)))
  where
    go : Outcome (eqb (j / 64) (k / 64)) → eqb (get_or (set table (k / 64) (bit_or (get_or table (k / 64) 0) (2 ^ (k % 64)))) (j / 64) 0 / 2 ^ (j % 64) % 2) 1 ≡ true
    go (holds e) =
        let same : j / 64 ≡ k / 64 = eqb-true (j / 64) (k / 64) e in
        let was : get_or table (k / 64) 0 / 2 ^ (j % 64) % 2 ≡ 1 = eqb-true _ _ (rw same at m) in
        rw (same, get_or-set_same table (k / 64) (bit_or (get_or table (k / 64) 0) (2 ^ (k % 64))) 0 h, or_bit (get_or table (k / 64) 0) (2 ^ (k % 64)) (j % 64), was)
        (eq-eqb (max 1 (2 ^ (k % 64) / 2 ^ (j % 64) % 2)) 1 (max_left (2 ^ (k % 64) / 2 ^ (j % 64) % 2) (omega arith)))
    go (fails e) = rw (get_or-set_other table (k / 64) (j / 64) (bit_or (get_or table (k / 64) 0) (2 ^ (k % 64))) 0 (eqb-false (j / 64) (k / 64) e)) m

pub all_marked_kept : (table : List ℕ) (k : ℕ) (es : List Entry) → k / 64 < length table → all_marked table es ≡ true → all_marked (set_mark table k) es ≡ true
all_marked_kept table k [] h m = refl
all_marked_kept table k (e ∷ es) h m =
    rw (set_mark_kept table k (key e) h (and_left (marked table (key e)) (all_marked table es) m))
    (all_marked_kept table k es h (and_right (marked table (key e)) (all_marked table es) m))

-- entries of one file and ISN have one mark
alike_key : (e f : Entry) → is_of f.file f.isn e ≡ true → key e ≡ key f
unfolding key
alike_key e f h =
    let p : e.file ≡ f.file = eqb-true _ _ (and_left (eqb e.file f.file) (eqb e.isn f.isn) h) in
    let q : e.isn ≡ f.isn = eqb-true _ _ (and_right (eqb e.file f.file) (eqb e.isn f.isn) h) in
    rw (p, q)

-- no mark, no entry
pub unmarked_none : (table : List ℕ) (f : Entry) (es : List Entry) → all_marked table es ≡ true → marked table (key f) ≡ false → any (is_of f.file f.isn) es ≡ false
unmarked_none table f [] m n = refl
unmarked_none table f (e ∷ es) m n = go (outcome (is_of f.file f.isn e)) (unmarked_none table f es (and_right (marked table (key e)) (all_marked table es) m) n)
  where
    go : Outcome (is_of f.file f.isn e) → any (is_of f.file f.isn) es ≡ false → any (is_of f.file f.isn) (e ∷ es) ≡ false
    go (fails p) r = rw (p, r)
    go (holds p) r = not_both (marked table (key e)) (and_left (marked table (key e)) (all_marked table es) m) (rw (alike_key e f p) n)

pub length_set_mark : (table : List ℕ) (k : ℕ) → length (set_mark table k) ≡ length table
unfolding set_mark
length_set_mark table k = length-set table (k / 64) (bit_or (get_or table (k / 64) 0) (2 ^ (k % 64)))
