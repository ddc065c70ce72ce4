-- One number has one stored form: allowed values of one length that mean the same number are stored alike. So comparing stored bytes, as
-- document 01 does for unique values, is comparing numbers.
-- Assumes nothing.
use Rattle.std.specs.Prelude.{ℕ, suc, ◌-◌, ◌+◌, ◌*◌, ◌/◌, ◌%◌, ◌≤◌, ◌≡◌, refl, Bool, true, false, ◌||◌, List, [], ◌∷◌, ◌++◌, map, eqb, length}
use Rattle.std.proofs.Common.{sym, ap, ◌∙◌, arith, length-append, length-take, drop_of_length-le, leb-true, eqb-true, ne_eqb}
use Rattle.std.proofs.Math.Bool.{or-false}
use Rattle.std.proofs.lemmas.List.{set_split}
use Rattle.std.proofs.lemmas.Bool.{eqb-false}
use Rattle.lists.specs.Tests.{Outcome, holds, fails, outcome, not_both, within_least, within_most, and_left, and_right}
use Rattle.lists.specs.Folds.{all, any}
use Rattle.digits.specs.Digits.{unpacked_digit, digit, halves, front, last, digits, allowed}
use Rattle.values.specs.Values.{not_zero, below_zero, stored_sign, with_sign, stored, unpacked_value, digit_value, number_after, decimal}
use Rattle.definition.specs.declared.Format.TheVariants.{Unpacked, Packed}

-- ---- digits that are read by a rule `value`, each good one as a number below ten of its own
module _
    (good : ℕ → Bool)
    (value : ℕ → ℕ)
    (small : (x : ℕ) → good x ≡ true → value x ≤ 9)
    (own : (x y : ℕ) → good x ≡ true → good y ≡ true → value x ≡ value y → x ≡ y)
  where
    same_digits : (xs ys : List ℕ) (n m : ℕ) → length xs ≡ length ys → all good xs ≡ true → all good ys ≡ true → number_after n (map value xs) ≡ number_after m (map value ys) → (n ≡ m) × (xs ≡ ys)
    same_digits [] [] n m l g h e = (e, refl)
    same_digits [] (y ∷ ys) n m l g h e = absurd (omega arith)
    same_digits (x ∷ xs) [] n m l g h e = absurd (omega arith)
    same_digits (x ∷ xs) (y ∷ ys) n m l g h e =
        let gx = and_left (good x) (all good xs) g in
        let gy = and_left (good y) (all good ys) h in
        let r = same_digits xs ys (n * 10 + value x) (m * 10 + value y) (omega arith) (and_right (good x) (all good xs) g) (and_right (good y) (all good ys) h) e in
        let v : value x ≡ value y = omega (arith, small x gx, small y gy, r.0) in
        (omega (arith, small x gx, small y gy, r.0), rw (own x y gx gy v, r.1))

-- ---- "`U` digits X'30' to X'39'"
unpacked_reads : (b : ℕ) → unpacked_digit b ≡ true → unpacked_value b ≡ b - 0x30
unpacked_reads b h = rw h

unpacked_own : (x y : ℕ) → unpacked_digit x ≡ true → unpacked_digit y ≡ true → unpacked_value x ≡ unpacked_value y → x ≡ y
unpacked_own x y g h e = omega (arith, within_least 0x30 0x39 x g, within_least 0x30 0x39 y h, sym (unpacked_reads x g) ∙ e ∙ unpacked_reads y h)

unpacked_small : (b : ℕ) → unpacked_digit b ≡ true → unpacked_value b ≤ 9
unpacked_small b h = rw (unpacked_reads b h) (omega (arith, within_most 0x30 0x39 b h))

pub unpacked_one_form : (v w : List ℕ) → length v ≡ length w → allowed Unpacked v ≡ true → allowed Unpacked w ≡ true → decimal Unpacked v ≡ decimal Unpacked w → stored Unpacked v ≡ stored Unpacked w
unfolding allowed decimal stored
unpacked_one_form v w l g h e =
    (same_digits unpacked_digit unpacked_value unpacked_small unpacked_own v w 0 0 l g h (ap (λ d. d.magnitude) e)).1

-- ---- packed digits
digit_reads : (h : ℕ) → digit h ≡ true → digit_value h ≡ h
digit_reads h g = rw g

digit_own : (x y : ℕ) → digit x ≡ true → digit y ≡ true → digit_value x ≡ digit_value y → x ≡ y
digit_own x y g h e = sym (digit_reads x g) ∙ e ∙ digit_reads y h

digit_small : (h : ℕ) → digit h ≡ true → digit_value h ≤ 9
digit_small h g = rw (digit_reads h g) (leb-true h 9 g)

halves_length : (bs : List ℕ) → length (halves bs) ≡ 2 * length bs
halves_length [] = refl
halves_length (b ∷ bs) = omega (arith, halves_length bs)

digits_length : (v : List ℕ) → length (digits v) ≡ 2 * (length v - 1) + 1
digits_length v = omega (arith, length-append (halves (front v)) (last v / 16 ∷ []), halves_length (front v), length-take (length v - 1) v)

-- the half bytes of a row, and one more, tell the row
same_halves : (xs ys : List ℕ) (x y : ℕ) → length xs ≡ length ys → halves xs ++ x ∷ [] ≡ halves ys ++ y ∷ [] → (xs ≡ ys) × (x ≡ y)
same_halves [] [] x y l e = (refl, cc)
same_halves [] (b ∷ bs) x y l e = absurd (omega arith)
same_halves (a ∷ us) [] x y l e = absurd (omega arith)
same_halves (a ∷ us) (b ∷ bs) x y l e =
    let high : a / 16 ≡ b / 16 = cc in
    let low : a % 16 ≡ b % 16 = cc in
    let rest : halves us ++ x ∷ [] ≡ halves bs ++ y ∷ [] = cc in
    let r = same_halves us bs x y (omega arith) rest in
    let same : a ≡ b = omega arith in
    (rw (same, r.0), r.1)

-- a row of digits means zero where no digit is another
sum_not_zero : (n d : ℕ) → not_zero (n * 10 + d) ≡ (not_zero d || not_zero n)
sum_not_zero n d = go (outcome (eqb d 0)) (outcome (eqb n 0))
  where
    go : Outcome (eqb d 0) → Outcome (eqb n 0) → not_zero (n * 10 + d) ≡ (not_zero d || not_zero n)
    go (holds p) (holds q) = rw (eqb-true d 0 p, eqb-true n 0 q)
    go (holds p) (fails q) = let f = eqb-false n 0 q in rw (p, q, ne_eqb (n * 10 + d) 0 (λ z. f (omega arith)))
    go (fails p) q = let f = eqb-false d 0 p in rw (p, ne_eqb (n * 10 + d) 0 (λ z. f (omega arith)))

turned : (a b c : Bool) → (a || b || c) ≡ (b || (a || c))
turned true true c = refl
turned true false c = refl
turned false b c = refl

number_not_zero : (ds : List ℕ) (n : ℕ) → all digit ds ≡ true → (any not_zero ds || not_zero n) ≡ not_zero (number_after n (map digit_value ds))
number_not_zero [] n g = refl
number_not_zero (d ∷ ds) n g =
    let e = digit_reads d (and_left (digit d) (all digit ds) g) in
    let later = number_not_zero ds (n * 10 + digit_value d) (and_right (digit d) (all digit ds) g) in
    turned (not_zero d) (any not_zero ds) (not_zero n) ∙ rw (← (sum_not_zero n d), ← later, e)

-- a packed value is below zero where its number is
pub below_zero_decimal : (v : List ℕ) → allowed Packed v ≡ true → below_zero v ≡ (decimal Packed v).negative
unfolding allowed below_zero decimal
below_zero_decimal v a = rw (← (number_not_zero (digits v) 0 (and_left (all digit (digits v)) _ a)), or-false (any not_zero (digits v)))

with_sign_split : (v : List ℕ) (s : ℕ) → 1 ≤ length v → with_sign v s ≡ front v ++ (last v / 16 * 16 + s) ∷ []
with_sign_split v s h = rw (set_split v (length v - 1) (last v / 16 * 16 + s) (omega arith), drop_of_length-le v {i = suc (length v - 1)} (omega arith))

some_byte : (v : List ℕ) → allowed Packed v ≡ true → 1 ≤ length v
unfolding allowed
some_byte [] a = not_both false a refl
some_byte (b ∷ bs) a = omega arith

pub packed_one_form : (v w : List ℕ) → length v ≡ length w → allowed Packed v ≡ true → allowed Packed w ≡ true → decimal Packed v ≡ decimal Packed w → stored Packed v ≡ stored Packed w
unfolding allowed decimal stored
packed_one_form v w l g h e =
    let ds = (same_digits digit digit_value digit_small digit_own (digits v) (digits w) 0 0 (omega (arith, digits_length v, digits_length w)) (and_left (all digit (digits v)) _ g) (and_left (all digit (digits w)) _ h) (ap (λ d. d.magnitude) e)).1 in
    let bs = same_halves (front v) (front w) (last v / 16) (last w / 16) (omega (arith, length-take (length v - 1) v, length-take (length w - 1) w)) ds in
    let below : below_zero v ≡ below_zero w = below_zero_decimal v g ∙ ap (λ d. d.negative) e ∙ sym (below_zero_decimal w h) in
    rw (with_sign_split v (stored_sign v) (some_byte v g), with_sign_split w (stored_sign w) (some_byte w h), bs.0, bs.1, below)
