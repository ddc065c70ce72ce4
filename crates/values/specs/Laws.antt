-- What callers may use of the definitions of `Values`: lengths; the stored form is allowed, stays as it is and means the same number, and goes by
-- what the sign means; a null value is allowed and in stored form.
-- Assumes nothing.
use Rattle.std.specs.Prelude.{ℕ, zero, suc, ◌-◌, ◌+◌, ◌*◌, ◌/◌, ◌%◌, ◌≤◌, ◌<◌, ◌≡◌, refl, Bool, true, false, ◌&&◌, ◌||◌, List, [], ◌∷◌, map, eqb, length, replicate}
use Rattle.std.proofs.Common.{sym, ◌∙◌, le_refl, arith, length-set, get_or-set_same, set-set, ne_eqb, eqb-true}
use Rattle.std.proofs.Math.Bool.{or-false}
use Rattle.std.proofs.lemmas.List.{length-replicate, get_or-replicate, take-set-le}
use Rattle.std.proofs.lemmas.Bool.{eqb-false, not-false}
use Rattle.lists.specs.Tests.{cond, Outcome, holds, fails, outcome, and_left, or_left, or_right, not_both}
use Rattle.lists.specs.Folds.{all, any, Each, each_at, any_append, all_replicate, each_replicate, each_set}
use Rattle.lists.specs.Rest.{take_replicate}
use Rattle.digits.specs.Digits.{unpacked_digit, digit, positive_sign, negative_sign, halves, front, last, digits, sign, allowed}
use Rattle.values.specs.Values.{not_zero, below_zero, stored_sign, with_sign, stored, null_byte, null_value, digit_value, number_after, decimal}
use Rattle.definition.specs.declared.Format.{Format}
use Rattle.definition.specs.declared.Format.TheVariants.{Alphanumeric, Binary, Unpacked, Packed}
use Rattle.digits.specs.Laws.{plain_allowed, binary_allowed, unpacked_allowed, packed_allowed, all_digits}

-- bytes of any value are stored as they are
pub plain_stored : (v : List ℕ) → stored Alphanumeric v ≡ v
unfolding stored
plain_stored v = refl

-- ---- lengths
pub stored_length : (f : Format) (v : List ℕ) → length (stored f v) ≡ length v
unfolding stored
stored_length Alphanumeric v = refl
stored_length Binary v = refl
stored_length Unpacked v = refl
stored_length Packed v = length-set v (length v - 1) (last v / 16 * 16 + stored_sign v)

pub null_length : (f : Format) (n : ℕ) → length (null_value f n) ≡ n
unfolding null_value
null_length Alphanumeric n = length-replicate n 0x20
null_length Binary n = length-replicate n 0
null_length Unpacked n = length-replicate n 0x30
null_length Packed n = length-set (replicate n 0) (n - 1) 0x0F ∙ length-replicate n 0

-- ---- packed digits: both half bytes of every byte but the last, and the high one of the last
pub any_digits : (v : List ℕ) → any not_zero (digits v) ≡ (any not_zero (halves (front v)) || not_zero (last v / 16))
any_digits v = rw (any_append not_zero (halves (front v)) (last v / 16 ∷ []), or-false (not_zero (last v / 16)))

-- a byte that is not zero has a half byte that is not
pub byte_not_zero : (b : ℕ) (bs : List ℕ) → (b ≡ 0 → ⊥) → any not_zero (halves (b ∷ bs)) ≡ true
byte_not_zero b bs h = go (outcome (eqb (b / 16) 0))
  where
    go : Outcome (eqb (b / 16) 0) → any not_zero (halves (b ∷ bs)) ≡ true
    go (holds e) = rw (e, ne_eqb (b % 16) 0 (λ z. h (omega (arith, eqb-true (b / 16) 0 e))))
    go (fails e) = rw e

-- ---- packed bytes with another sign
module _ (v : List ℕ) (s : ℕ) where
  abbrev last_byte : ℕ
  last_byte = last v / 16 * 16 + s

  front_with_sign : front (with_sign v s) ≡ front v
  front_with_sign = rw (length-set v (length v - 1) last_byte) (take-set-le (length v - 1) v (length v - 1) last_byte (le_refl (length v - 1)))

  module _ (h : 1 ≤ length v) where
    last_with_sign : last (with_sign v s) ≡ last_byte
    last_with_sign = rw (length-set v (length v - 1) last_byte) (get_or-set_same v (length v - 1) last_byte 0 (omega arith))

    module _ (k : s < 16) where
      digits_with_sign : digits (with_sign v s) ≡ digits v
      digits_with_sign = let same : last_byte / 16 ≡ last v / 16 = omega arith in rw (front_with_sign, last_with_sign, same)

      sign_with_sign : sign (with_sign v s) ≡ s
      sign_with_sign = let same : last_byte % 16 ≡ s = omega arith in rw (last_with_sign, same)

      with_sign_twice : (t : ℕ) → with_sign (with_sign v s) t ≡ with_sign v t
      with_sign_twice t =
          let same : last_byte / 16 ≡ last v / 16 = omega arith in
          rw (last_with_sign, same, length-set v (length v - 1) last_byte) (set-set v (length v - 1) last_byte (last v / 16 * 16 + t))

-- ---- the stored sign, by two tests: the sign was negative (s), and some digit is not zero (d)
pub stored_sign_below : (v : List ℕ) → stored_sign v < 16
stored_sign_below v = go (below_zero v)
  where
    go : (b : Bool) → cond b 0xD 0xF < 16
    go true = omega arith
    go false = omega arith

sign_allowed : (b : Bool) → (positive_sign (cond b 0xD 0xF) || negative_sign (cond b 0xD 0xF)) ≡ true
sign_allowed true = refl
sign_allowed false = refl

sign_stays : (s d : Bool) → (negative_sign (cond (s && d) 0xD 0xF) && d) ≡ (s && d)
sign_stays true true = refl
sign_stays true false = refl
sign_stays false d = refl

-- where no digit is not zero the number is zero, which is not negative
sign_means : (s d : Bool) (m : ℕ) → (d ≡ false → m ≡ 0) → (negative_sign (cond (s && d) 0xD 0xF) && not_zero m) ≡ (s && not_zero m)
sign_means true true m h = refl
sign_means true false m h = rw (h refl)
sign_means false d m h = refl

number_zero : (ds : List ℕ) → any not_zero ds ≡ false → number_after 0 (map digit_value ds) ≡ 0
number_zero [] h = refl
number_zero (d ∷ ds) h =
    let z : d ≡ 0 = eqb-true d 0 (not-false (eqb d 0) (or_left (not_zero d) (any not_zero ds) h)) in
    rw z (number_zero ds (or_right (not_zero d) (any not_zero ds) h))

-- ---- packed bytes in stored form
module _ (v : List ℕ) (h : 1 ≤ length v) where
  digits_stored : digits (stored Packed v) ≡ digits v
  unfolding stored
  digits_stored = digits_with_sign v (stored_sign v) h (stored_sign_below v)

  sign_stored : sign (stored Packed v) ≡ stored_sign v
  unfolding stored
  sign_stored = sign_with_sign v (stored_sign v) h (stored_sign_below v)

  still_allowed : allowed Packed v ≡ true → allowed Packed (stored Packed v) ≡ true
  still_allowed a =
      let all_are : all digit (digits v) ≡ true = and_left (all digit (digits v)) _ (rw (packed_allowed v) at a) in
      rw (packed_allowed (stored Packed v), digits_stored, sign_stored, all_are) (sign_allowed (below_zero v))

  below_zero_stays : below_zero (stored Packed v) ≡ below_zero v
  unfolding below_zero
  below_zero_stays = rw (sign_stored, digits_stored) (sign_stays (negative_sign (sign v)) (any not_zero (digits v)))

  packed_twice : stored Packed (stored Packed v) ≡ stored Packed v
  unfolding stored
  packed_twice = rw below_zero_stays (with_sign_twice v (stored_sign v) h (stored_sign_below v) (stored_sign v))

  packed_decimal : decimal Packed (stored Packed v) ≡ decimal Packed v
  unfolding decimal below_zero
  packed_decimal =
      rw (
        sign_stored,
        digits_stored,
        sign_means (negative_sign (sign v)) (any not_zero (digits v)) (number_after 0 (map digit_value (digits v))) (number_zero (digits v)),
      )

-- ---- a sign counts by its meaning alone: where two are both negative, or neither is, bytes with the one and with the other have one stored form
-- and mean one number
module _ (s t : ℕ) (j : s < 16) (k : t < 16) (same : negative_sign s ≡ negative_sign t) where
  module _ (v : List ℕ) (h : 1 ≤ length v) where
    negative_alike : negative_sign (sign (with_sign v s)) ≡ negative_sign (sign (with_sign v t))
    negative_alike = rw (sign_with_sign v s h j, sign_with_sign v t h k) same

    digits_alike : digits (with_sign v s) ≡ digits (with_sign v t)
    digits_alike = digits_with_sign v s h j ∙ sym (digits_with_sign v t h k)

    packed_alike : stored Packed (with_sign v s) ≡ stored Packed (with_sign v t)
    unfolding stored below_zero
    packed_alike =
        rw (with_sign_twice v s h j (stored_sign (with_sign v s)), with_sign_twice v t h k (stored_sign (with_sign v t)), negative_alike, digits_alike)

    means_alike : decimal Packed (with_sign v s) ≡ decimal Packed (with_sign v t)
    unfolding decimal
    means_alike = rw (negative_alike, digits_alike)

  pub signs_stored : (v : List ℕ) → stored Packed (with_sign v s) ≡ stored Packed (with_sign v t)
  signs_stored [] = refl
  signs_stored (b ∷ bs) = packed_alike (b ∷ bs) (omega arith)

  pub signs_decimal : (v : List ℕ) → decimal Packed (with_sign v s) ≡ decimal Packed (with_sign v t)
  signs_decimal [] = refl
  signs_decimal (b ∷ bs) = means_alike (b ∷ bs) (omega arith)

-- ---- the stored form of an allowed value is allowed
pub stored_allowed : (f : Format) (v : List ℕ) → allowed f v ≡ true → allowed f (stored f v) ≡ true
unfolding stored
stored_allowed Alphanumeric v a = a
stored_allowed Binary v a = a
stored_allowed Unpacked v a = a
stored_allowed Packed [] a = not_both false (rw (packed_allowed []) at a) refl
stored_allowed Packed (b ∷ bs) a = still_allowed (b ∷ bs) (omega arith) a

-- ---- a stored form is its own stored form, and means the number that was given: of any bytes
pub stored_twice : (f : Format) (v : List ℕ) → stored f (stored f v) ≡ stored f v
unfolding stored
stored_twice Alphanumeric v = refl
stored_twice Binary v = refl
stored_twice Unpacked v = refl
stored_twice Packed [] = refl
stored_twice Packed (b ∷ bs) = packed_twice (b ∷ bs) (omega arith)

pub decimal_stored : (f : Format) (v : List ℕ) → decimal f (stored f v) ≡ decimal f v
unfolding stored
decimal_stored Alphanumeric v = refl
decimal_stored Binary v = refl
decimal_stored Unpacked v = refl
decimal_stored Packed [] = refl
decimal_stored Packed (b ∷ bs) = packed_decimal (b ∷ bs) (omega arith)

-- ---- zeros
all_halves_zeros : (n : ℕ) → all digit (halves (replicate n 0)) ≡ true
all_halves_zeros zero = refl
all_halves_zeros (suc n) = all_halves_zeros n

module _ (n : ℕ) where
  count_zeros : length (replicate n zero) ≡ n
  count_zeros = length-replicate n zero

  last_zeros : last (replicate n 0) ≡ 0
  last_zeros = go (outcome (eqb n 0))
    where
      go : Outcome (eqb n 0) → last (replicate n 0) ≡ 0
      go (holds e) = rw (eqb-true n 0 e)
      go (fails e) =
          let z : n ≡ 0 → ⊥ = eqb-false n 0 e in
          rw count_zeros (get_or-replicate n (n - 1) 0 0 (omega arith))

  all_digits_zeros : all digit (digits (replicate n 0)) ≡ true
  all_digits_zeros = rw (all_digits (replicate n 0), last_zeros, count_zeros, take_replicate (n - 1) n zero (omega arith), all_halves_zeros (n - 1))

  null_packed : null_value Packed n ≡ stored Packed (replicate n 0)
  unfolding null_value stored below_zero
  null_packed = rw (last_zeros, count_zeros)

-- ---- a null value is the stored form of one byte repeated
pub null_form : (f : Format) (n : ℕ) → null_value f n ≡ stored f (replicate n (null_byte f))
unfolding null_value stored
null_form Alphanumeric n = refl
null_form Binary n = refl
null_form Unpacked n = refl
null_form Packed n = null_packed n

-- so it is its own stored form, and it is allowed
pub null_stored : (f : Format) (n : ℕ) → stored f (null_value f n) ≡ null_value f n
null_stored f n = rw (null_form f n) (stored_twice f (replicate n (null_byte f)))

pub null_allowed : (f : Format) (n : ℕ) → 1 ≤ n → allowed f (null_value f n) ≡ true
unfolding null_value
null_allowed Alphanumeric n h = plain_allowed _
null_allowed Binary n h = binary_allowed _
null_allowed Unpacked n h = rw (unpacked_allowed (replicate n 0x30)) (all_replicate unpacked_digit n 0x30 refl)
null_allowed Packed n h =
    let m : 1 ≤ length (replicate n zero) = omega (arith, count_zeros n) in
    rw (null_packed n, packed_allowed (stored Packed (replicate n 0)), digits_stored (replicate n 0) m, sign_stored (replicate n 0) m, all_digits_zeros n) (sign_allowed (below_zero (replicate n 0)))

-- ---- bytes
abbrev pub Bytes : List ℕ → Type 0
Bytes v = Each (λ b. b < 256) v

last_small : (v : List ℕ) → Bytes v → last v < 256
last_small [] h = omega arith
last_small (b ∷ bs) h = each_at (λ x. x < 256) (b ∷ bs) 0 h (length (b ∷ bs) - 1) (omega arith)

pub stored_bytes : (f : Format) (v : List ℕ) → Bytes v → Bytes (stored f v)
unfolding stored
stored_bytes Alphanumeric v h = h
stored_bytes Binary v h = h
stored_bytes Unpacked v h = h
stored_bytes Packed v h = each_set (λ x. x < 256) v (length v - 1) (last v / 16 * 16 + stored_sign v) h (omega (arith, last_small v h, stored_sign_below v))

pub null_bytes : (f : Format) (n : ℕ) → Bytes (null_value f n)
unfolding null_value
null_bytes Alphanumeric n = each_replicate (λ x. x < 256) n 0x20 (omega arith)
null_bytes Binary n = each_replicate (λ x. x < 256) n 0 (omega arith)
null_bytes Unpacked n = each_replicate (λ x. x < 256) n 0x30 (omega arith)
null_bytes Packed n = each_set (λ x. x < 256) (replicate n 0) (n - 1) 0x0F (each_replicate (λ x. x < 256) n 0 (omega arith)) (omega arith)
