-- One element of a format buffer after the other: what the buffer says is what its first element says, and what is left of it (`drop 3`) says.
-- And a buffer of one byte.
-- Assumes nothing.
use Rattle.std.specs.List.{position_or_len}
use Rattle.std.specs.Prelude.{ℕ, suc, ◌+◌, ◌-◌, ◌≤◌, ◌<◌, ◌≡◌, Bool, false, ◌&&◌, eqb, get_or, drop, Option, Some, None}
use native.Mathlib.Omega.{arith}
use Rattle.std.proofs.Math.Path.{refl}
use Rattle.std.proofs.Common.{ap, ◌∙◌, length-drop, drop-drop, get_or-drop, lt-ltb, sym}
use Rattle.std.proofs.lemmas.Bool.{le-ltb, ltb-true, ltb-false}
use Rattle.std.proofs.Math.Bool.{and-true}
use mathlib.Core.List.{List, [], ◌∷◌}
use Rattle.std.proofs.Math.ListN.{length}
use Rattle.lists.specs.Folds.{total}
use Rattle.lists.specs.Tests.{cond, Outcome, holds, fails, outcome}
use Rattle.std.proofs.Math.Dec.{ltb}
use Rattle.elements.specs.Search.{first_place}
use Rattle.elements.specs.Elements.{comma, period, names, form, period_alone, field_named, first_named, element, before, places_of, places, length_at, length_of, length_needed}
use Rattle.definition.specs.declared.Name.{Name}
use Rattle.definition.specs.declared.File.{File}

-- ---- the first place that passes a test, as the library's `position` gives it
one_further : (q n : ℕ) → ltb (1 + q) (suc n) ≡ ltb q n
one_further q n = go (outcome (ltb q n))
  where
    go : Outcome (ltb q n) → ltb (1 + q) (suc n) ≡ ltb q n
    go (holds t) = lt-ltb (1 + q) (suc n) (omega (arith, ltb-true q n t)) ∙ sym t
    go (fails t) = le-ltb (1 + q) (suc n) (omega (arith, ltb-false q n t)) ∙ sym t

further : (p q n i : ℕ) → q ≡ 1 + p → cond (ltb p n) (Some (i + 1 + p)) None ≡ cond (ltb q (suc n)) (Some (i + q)) None
further p q n i e = rw (e, one_further p n) (ap (λ k. cond (ltb p n) (Some k) None) (omega arith))

module _ {A : Type 0} (test : A → Bool) where
  place_position : (l : List A) (i : ℕ) → first_place test l i ≡ cond (ltb (position_or_len test l) (length l)) (Some (i + position_or_len test l)) None
  place_position [] i = refl
  place_position (x ∷ xs) i = go (outcome (test x)) (place_position xs (i + 1))
    where
      go : Outcome (test x) → first_place test xs (i + 1) ≡ cond (ltb (position_or_len test xs) (length xs)) (Some (i + 1 + position_or_len test xs)) None → first_place test (x ∷ xs) i ≡ cond (ltb (position_or_len test (x ∷ xs)) (length (x ∷ xs))) (Some (i + position_or_len test (x ∷ xs))) None
      go (holds t) later = let here : i ≡ i + 0 = omega arith in rw (t, ← here, lt-ltb 0 (length (x ∷ xs)) (omega arith))
      go (fails t) later =
          let more : position_or_len test (x ∷ xs) ≡ 1 + position_or_len test xs = rw t refl in
          let left : first_place test (x ∷ xs) i ≡ cond (ltb (position_or_len test xs) (length xs)) (Some (i + 1 + position_or_len test xs)) None = rw t later in
          left ∙ further (position_or_len test xs) (position_or_len test (x ∷ xs)) (length xs) i more

  pub first_position : (l : List A) → first_place test l 0 ≡ cond (ltb (position_or_len test l) (length l)) (Some (position_or_len test l)) None
  first_position l = place_position l 0 ∙ ap (λ k. cond (ltb (position_or_len test l) (length l)) (Some k) None) (omega arith)

-- ---- the first element of some bytes
names_next : (l : List ℕ) → names (drop 3 l) ≡ drop 1 (names l)
names_next [] = refl
names_next (a ∷ []) = refl
names_next (a ∷ b ∷ []) = refl
names_next (a ∷ b ∷ mark ∷ rest) = refl

names_first : (l : List ℕ) → 3 ≤ length l → names l ≡ record { first = get_or l 0 0; second = get_or l 1 0 } ∷ names (drop 3 l)
names_first [] h = absurd (omega arith)
names_first (a ∷ []) h = absurd (omega arith)
names_first (a ∷ b ∷ []) h = absurd (omega arith)
names_first (a ∷ b ∷ mark ∷ rest) h = refl

names_none : (l : List ℕ) → length l < 3 → names l ≡ []
names_none [] h = refl
names_none (a ∷ []) h = refl
names_none (a ∷ b ∷ []) h = refl
names_none (a ∷ b ∷ mark ∷ rest) h = absurd (omega arith)

form_first : (l : List ℕ) → 3 < length l → form l ≡ (eqb (get_or l 2 0) comma && form (drop 3 l))
form_first [] h = absurd (omega arith)
form_first (a ∷ []) h = absurd (omega arith)
form_first (a ∷ b ∷ []) h = absurd (omega arith)
form_first (a ∷ b ∷ mark ∷ []) h = absurd (omega arith)
form_first (a ∷ b ∷ mark ∷ next ∷ rest) h = refl

form_only : (l : List ℕ) → length l ≡ 3 → form l ≡ eqb (get_or l 2 0) period
form_only [] h = absurd (omega arith)
form_only (a ∷ []) h = absurd (omega arith)
form_only (a ∷ b ∷ []) h = absurd (omega arith)
form_only (a ∷ b ∷ mark ∷ []) h = refl
form_only (a ∷ b ∷ mark ∷ next ∷ rest) h = absurd (omega arith)

form_none : (l : List ℕ) → length l < 3 → form l ≡ false
form_none [] h = refl
form_none (a ∷ []) h = refl
form_none (a ∷ b ∷ []) h = refl
form_none (a ∷ b ∷ mark ∷ []) h = absurd (omega arith)
form_none (a ∷ b ∷ mark ∷ next ∷ rest) h = absurd (omega arith)

-- ---- a buffer of one byte
pub alone_only : (l : List ℕ) → length l ≡ 1 → period_alone l ≡ eqb (get_or l 0 0) period
alone_only [] h = absurd (omega arith)
alone_only (a ∷ []) h = and-true (eqb a period)
alone_only (a ∷ b ∷ rest) h = absurd (omega arith)

-- ---- the element at the byte i of a buffer
module _ (format : List ℕ) (i : ℕ) where
  later : drop 3 (drop i format) ≡ drop (i + 3) format
  later = drop-drop 3 i format

  names_later : names (drop (i + 3) format) ≡ drop 1 (names (drop i format))
  names_later = rw (← later) (names_next (drop i format))

  abbrev pub name_at : Name
  name_at = record { first = get_or format i 0; second = get_or format (i + 1) 0 }

  pub names_more : 3 ≤ length format - i → names (drop i format) ≡ name_at ∷ names (drop (i + 3) format)
  names_more h =
      let e : get_or (drop i format) 0 0 ≡ get_or format i 0 = get_or-drop i format 0 0 ∙ ap (λ (j : ℕ). get_or format j 0) (omega arith) in
      rw (← later, ← e, ← (get_or-drop i format 1 0)) (names_first (drop i format) (rw (length-drop i format) h))

  pub names_short : length format - i < 3 → names (drop i format) ≡ []
  names_short h = names_none (drop i format) (rw (length-drop i format) h)

  pub form_more : 3 < length format - i → form (drop i format) ≡ (eqb (get_or format (i + 2) 0) comma && form (drop (i + 3) format))
  form_more h = rw (← later, ← (get_or-drop i format 2 0)) (form_first (drop i format) (rw (length-drop i format) h))

  pub form_last : length format - i ≡ 3 → form (drop i format) ≡ eqb (get_or format (i + 2) 0) period
  form_last h = rw (← (get_or-drop i format 2 0)) (form_only (drop i format) (rw (length-drop i format) h))

  pub form_short : length format - i < 3 → form (drop i format) ≡ false
  form_short h = form_none (drop i format) (rw (length-drop i format) h)

-- ---- the places and their lengths, in a buffer from the byte i on
module _ (f : File) (format : List ℕ) (i : ℕ) where
  pub element_name : 3 ≤ length format - i → element f format i ≡ field_named f (name_at format i)
  unfolding element
  element_name h = rw (names_more format i h)

  pub element_none : length format - i < 3 → element f format i ≡ None
  unfolding element
  element_none h = rw (names_short format i h)

  pub places_step : places f (drop i format) ≡ before (element f format i) (places f (drop (i + 3) format))
  unfolding places element
  places_step = rw (names_later format i) (go (names (drop i format)))
    where
      go : (ns : List Name) → places_of f ns ≡ before (first_named f ns) (places_of f (drop 1 ns))
      go [] = refl
      go (n ∷ ns) = refl

  pub needed_step : length_needed f (drop i format) ≡ length_of f (element f format i) + length_needed f (drop (i + 3) format)
  unfolding length_needed
  needed_step = rw places_step (go (element f format i))
    where
      go : (x : Option ℕ) → total (length_at f) (before x (places f (drop (i + 3) format))) ≡ length_of f x + total (length_at f) (places f (drop (i + 3) format))
      go (Some k) = refl
      go None = omega arith

  -- past the end
  pub places_end : length format ≤ i → places f (drop i format) ≡ []
  unfolding places
  places_end h = let few : length format - i < 3 = omega arith in rw (names_short format i few)

  pub needed_end : length format ≤ i → length_needed f (drop i format) ≡ 0
  unfolding length_needed
  needed_end h = rw (places_end h)
