-- Bytes as one number, the first the lowest: where two such numbers are the same, the bytes are alike.
-- Assumes nothing.
use Rattle.std.specs.Prelude.{◌≡◌, refl, false, List, [], ◌∷◌, ℕ, zero, suc, ◌+◌, ◌*◌, ◌≤◌, ◌<◌, eqb, length, take, drop, get_or}
use Rattle.std.proofs.Common.{sym, ap, ◌∙◌, not-suc-le-zero, le_of_suc-le-suc, arith, length-drop, get_or-drop, take-add, take_all, take-take, eqb-true, eq-eqb}
use Rattle.lists.specs.Tests.{Outcome, holds, fails, outcome, eqbs, eqbs_self, eqbs_true, both_ways}
use Rattle.lists.specs.Pieces.{piece}
use Rattle.lists.specs.Rest.{drop_more}

unfoldable pub as_number : List ℕ → ℕ
as_number [] = 0
as_number (x ∷ xs) = x + 256 * as_number xs

-- ---- the number of four bytes, and of eight
module _ (l : List ℕ) where
  -- the first byte, and the rest
  number_next : (i next n : ℕ) → i < length l → next ≡ i + 1 → as_number (piece i (suc n) l) ≡ get_or l i 0 + 256 * as_number (piece next n l)
  unfolding as_number
  number_next i next n h e = rw (e, drop_more l i 0 h)

  -- the first four, and the rest
  front : (i n : ℕ) → i + 4 ≤ length l
      → as_number (piece i (suc (suc (suc (suc n)))) l) ≡ get_or l i 0 + get_or l (i + 1) 0 * 256 + get_or l (i + 2) 0 * 65536 + get_or l (i + 3) 0 * 16777216 + as_number (piece (i + 4) n l) * 4294967296
  front i n h =
      let first = number_next i (i + 1) (suc (suc (suc n))) (omega arith) (omega arith) in
      let second = number_next (i + 1) (i + 2) (suc (suc n)) (omega arith) (omega arith) in
      let third = number_next (i + 2) (i + 3) (suc n) (omega arith) (omega arith) in
      let fourth = number_next (i + 3) (i + 4) n (omega arith) (omega arith) in
      omega arith

  pub number_of_four : (i : ℕ) → i + 4 ≤ length l → as_number (piece i 4 l) ≡ get_or l i 0 + get_or l (i + 1) 0 * 256 + get_or l (i + 2) 0 * 65536 + get_or l (i + 3) 0 * 16777216
  unfolding as_number
  number_of_four i h = omega (arith, front i 0 h)

  pub number_of_eight : (i : ℕ) → i + 8 ≤ length l → as_number (piece i 8 l) ≡ as_number (piece i 4 l) + as_number (piece (i + 4) 4 l) * 4294967296
  number_of_eight i h = omega (arith, front i 4 (omega arith), number_of_four i (omega arith))

-- ---- bytes that have the same number are alike
-- what holds of the bytes of every slice
abbrev pub Bytes : List ℕ → Type 0
Bytes l = (i : ℕ) → get_or l i 0 < 256

fronts_alike : (n : ℕ) (xs ys : List ℕ) → Bytes xs → Bytes ys → n ≤ length xs → n ≤ length ys → as_number (take n xs) ≡ as_number (take n ys) → take n xs ≡ take n ys
unfolding as_number
fronts_alike zero xs ys f g h k e = refl
fronts_alike (suc n) [] ys f g h k e = absurd (not-suc-le-zero h)
fronts_alike (suc n) (x ∷ xs) [] f g h k e = absurd (not-suc-le-zero k)
fronts_alike (suc n) (x ∷ xs) (y ∷ ys) f g h k e =
    let first : x ≡ y = omega (arith, f 0, g 0) in
    let rest = fronts_alike n xs ys (λ i. f (suc i)) (λ i. g (suc i)) (le_of_suc-le-suc h) (le_of_suc-le-suc k) (omega (arith, f 0, g 0)) in
    cc

module _ (a b : List ℕ) (f : Bytes a) (g : Bytes b) where
  -- one turn of a loop that compares n bytes at once: what is alike so far, with the n bytes
  pub alike_more : (i n : ℕ) → i + n ≤ length a → i + n ≤ length b → take i a ≡ take i b → as_number (piece i n a) ≡ as_number (piece i n b) → take (i + n) a ≡ take (i + n) b
  alike_more i n h k so_far e =
      let there : (l : List ℕ) → Bytes l → Bytes (drop i l) = λ l t j. rw (get_or-drop i l j 0) (t (i + j)) in
      let more = fronts_alike n (drop i a) (drop i b) (there a f) (there b g) (omega (arith, length-drop i a)) (omega (arith, length-drop i b)) e in
      rw (take-add i n a, take-add i n b, so_far, more)

  -- and its end: the last n bytes, of which some may be among those
  pub alike_all : (i last n : ℕ) → last ≤ i → length a ≡ last + n → length b ≡ last + n → take i a ≡ take i b → eqb (as_number (piece last n a)) (as_number (piece last n b)) ≡ eqbs a b
  alike_all i last n h p q so_far = both_ways _ _ (λ t. rw (whole (eqb-true _ _ t)) (eqbs_self b)) (λ t. eq-eqb _ _ (ap (λ s. as_number (piece last n s)) (eqbs_true a b t)))
    where
      fewer : take last a ≡ take last b
      fewer = sym (take-take last i a h) ∙ ap (take last) so_far ∙ take-take last i b h

      whole : as_number (piece last n a) ≡ as_number (piece last n b) → a ≡ b
      whole e = sym (take_all (last + n) a (omega arith)) ∙ alike_more last n (omega arith) (omega arith) fewer e ∙ take_all (last + n) b (omega arith)

-- lists of which something differs are not alike
pub differ : (a b : List ℕ) (f : List ℕ → ℕ) → (f a ≡ f b → ⊥) → eqbs a b ≡ false
differ a b f h = go (outcome (eqbs a b))
  where
    go : Outcome (eqbs a b) → eqbs a b ≡ false
    go (holds e) = absurd (h (ap f (eqbs_true a b e)))
    go (fails e) = e
