-- Parts of a list: stores of one after another, a part that was lent and came back, blocks of one width.
-- Assumes nothing.
use Rattle.std.specs.Prelude.{ℕ, zero, suc, ◌+◌, ◌-◌, ◌*◌, ◌/◌, ◌≤◌, ◌<◌, min, leb, ◌≡◌, refl, List, [], ◌∷◌, ◌++◌, length, take, drop, set, ◌⊎◌}
use Rattle.std.proofs.Common.{le-div_iff_mul-le, div-lt_iff_lt-mul, le-leb, leb-true, leb-false, arith, sym, ap, ◌∙◌, append_assoc, length-take, length-drop, drop-drop, drop-set-lt, drop_at, take_at, length-take-le, inl, inr}
use Rattle.std.proofs.lemmas.Bool.{lt-leb}
use Rattle.lists.specs.Rest.{take_min}
use Rattle.lists.specs.Tests.{Outcome, holds, fails, outcome}
use Rattle.std.proofs.lemmas.List.Edits.{sets, sets-eq}
use Rattle.std.proofs.lemmas.List.{drop-set-add, take-set-le}
use Rattle.std.proofs.Math.Seq.{take-length}

-- n places from a on, and m places from b on, do not overlap
abbrev pub Apart : ℕ → ℕ → ℕ → ℕ → Type 0
Apart a n b m = (a + n ≤ b) ⊎ (b + m ≤ a)

module _ {A : Type 0} where
  pub sets_append : (l : List A) (a : ℕ) (u v : List A) → sets l a (u ++ v) ≡ sets (sets l a u) (a + length u) v
  sets_append l a [] v =
      let e : a ≡ a + 0 = omega arith in
      ap (λ (k : ℕ). sets l k v) e
  sets_append l a (x ∷ u) v =
      let e : suc a + length u ≡ a + suc (length u) = omega arith in
      sets_append (set l a x) (suc a) u v ∙ ap (λ (k : ℕ). sets (sets l a (x ∷ u)) k v) e

  -- a part `&s[a..a + n]` is lent as `part a n s`, and `&mut s[a..a + n]` comes back as `patched a n s` of what it is then
  abbrev pub part : ℕ → ℕ → List A → List A
  part a n l = take (a + n - a) (drop a l)

  abbrev pub patched : ℕ → ℕ → List A → List A → List A
  patched a n l v = take a l ++ (v ++ drop (a + n - a) (drop a l))

  module _ (a n : ℕ) (l : List A) where
    pub part_take : part a n l ≡ take n (drop a l)
    part_take =
        let e : a + n - a ≡ n = omega arith in
        ap (λ (k : ℕ). take k (drop a l)) e

    module _ (room : a + n ≤ length l) where
      pub length_piece : length (take n (drop a l)) ≡ n
      length_piece = simp (length-take, length-drop) (omega arith)

      pub length_part : length (part a n l) ≡ n
      length_part = simp (length-take, length-drop) (omega arith)

      pub patched_sets : (v : List A) → length v ≡ n → patched a n l v ≡ sets l a v
      patched_sets v e =
          let z : a + n - a ≡ length v = omega arith in
          let whole : a + length v ≤ length l = omega arith in
          ap (λ (k : ℕ). take a l ++ (v ++ drop k (drop a l))) z ∙ ap (λ (r : List A). take a l ++ (v ++ r)) (drop-drop (length v) a l)
          ∙ sym (append_assoc (take a l) v (drop (a + length v) l)) ∙ sym (sets-eq v l a whole)

  -- ---- a piece of a list after stores: elsewhere it is as it was, and where they were made it is what was stored
  pub sets_other : (l : List A) (a : ℕ) (v : List A) (b m : ℕ) → Apart a (length v) b m → take m (drop b (sets l a v)) ≡ take m (drop b l)
  sets_other l a [] b m h = refl
  sets_other l a (x ∷ v) b m (inl h) = sets_other (set l a x) (suc a) v b m (inl (omega arith)) ∙ ap (take m) (drop-set-lt b l a x (omega arith))
  sets_other l a (x ∷ v) b m (inr h) =
      let e : b + (a - b) ≡ a = omega arith in
      sets_other (set l a x) (suc a) v b m (inr (omega arith)) ∙ ap (take m) (rw e at (drop-set-add b l (a - b) x)) ∙ take-set-le m (drop b l) (a - b) x (omega arith)

  pub sets_same : (l : List A) (a n : ℕ) (v : List A) → length v ≡ n → a + n ≤ length l → take n (drop a (sets l a v)) ≡ v
  sets_same l a n v e h =
      let rest = drop (a + length v) l in
      let start : a ≤ length l = omega arith in
      let whole : a + length v ≤ length l = omega arith in
      rw (sets-eq v l a whole, append_assoc (take a l) v rest, drop_at (take a l) (v ++ rest) a (length-take-le a l start)) (take_at v rest n e)

-- ---- a product is compared by a quotient
pub quotient : (count width length : ℕ) → 0 < width → leb count (length / width) ≡ leb (count * width) length
quotient count width length h = go (outcome (leb (count * width) length))
  where
    go : Outcome (leb (count * width) length) → leb count (length / width) ≡ leb (count * width) length
    go (holds e) = le-leb count (length / width) ((le-div_iff_mul-le {k = width} {x = count} {y = length} h).1 (leb-true (count * width) length e)) ∙ sym e
    go (fails e) = lt-leb count (length / width) ((div-lt_iff_lt-mul {k = width} {x = length} {y = count} h).1 (leb-false (count * width) length e)) ∙ sym e

-- ---- a part whose bounds are cut to the list
module _ {A : Type 0} where
  pub take_least : (n : ℕ) (l : List A) → take (min n (length l)) l ≡ take n l
  take_least n l = sym (take_min n (length l) l) ∙ ap (take n) (take-length l)

  pub drop_least : (i : ℕ) (l : List A) → drop (min i (length l)) l ≡ drop i l
  drop_least zero l = let e : min zero (length l) ≡ zero = omega arith in rw e
  drop_least (suc i) [] = let e : min (suc i) zero ≡ zero = omega arith in rw e
  drop_least (suc i) (x ∷ l) = let e : min (suc i) (suc (length l)) ≡ suc (min i (length l)) = omega arith in rw e (drop_least i l)

  pub part_least : (l : List A) (at n : ℕ) (start end : ℕ) → start ≡ min at (length l) → end ≡ start + min n (length l - start) → take (end - start) (drop start l) ≡ take n (drop at l)
  part_least l at n start end p q =
      let size : end - start ≡ min n (length (drop start l)) = omega (arith, length-drop start l) in
      rw size (take_least n (drop start l)) ∙ ap (take n) (ap (λ k. drop k l) p ∙ drop_least at l)
