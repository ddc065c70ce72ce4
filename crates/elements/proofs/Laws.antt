-- Laws of a format buffer for callers: what a name finds; where the places lie; what valid names have, element by element; that the period alone
-- names nothing; that no field comes twice; and how long the values are. One step of a loop over a buffer is in `Steps`.
-- Assumes nothing.
use Rattle.std.specs.Prelude.{ℕ, suc, ◌+◌, ◌-◌, ◌*◌, ◌≤◌, ◌<◌, refl, Bool, true, false, ◌&&◌, leb, get_or, drop, Option, Some, None, is_some}
use native.Mathlib.Omega.{arith}
use Rattle.std.proofs.Math.Path.{◌≡◌, ap}
use Rattle.std.proofs.Common.{sym, length-drop, ◌∙◌}
use Rattle.std.proofs.Math.Bool.{not}
use mathlib.Core.List.{List, [], ◌∷◌}
use Rattle.std.proofs.Math.Dec.{eqb}
use Rattle.std.proofs.Math.ListN.{length, length-take}
use Rattle.std.proofs.Math.Seq.{get_or-take, length-take-le}
use borrow.Author.Tests.{not-true, not-false, eqb-false, leb-true, leb-false}
use Rattle.lists.specs.Tests.{cond, eqbs_true, Outcome, holds, fails, outcome, not_both, and_left, and_right}
use Rattle.lists.specs.Folds.{all, any, total, distinct, Each, distinct_at}
use Rattle.definition.specs.Table.{max_fields, no_field, field_at, field_count, fields_of}
use Rattle.definition.specs.Shape.{FileShape}
use Rattle.elements.specs.Search.{first_found, first_none}
use Rattle.elements.specs.Elements.{comma, period, names, form, has_name, field_named, found, known, period_alone, names_valid, first_named, element, before, places_of, places, named_twice, length_at, length_needed, needed_within}
use Rattle.elements.specs.Lists.{distinct_most}
use Rattle.elements.proofs.Steps.{name_at, names_more, element_name, places_step}
use Rattle.definition.specs.declared.Name.{Name}
use Rattle.definition.specs.declared.File.{File}

-- ---- a field by its name
module _ (f : File) (n : Name) where
  pub named_inside : (k : ℕ) → field_named f n ≡ Some k → k < field_count f
  unfolding field_named
  named_inside k e = omega (arith, (first_found (has_name n) no_field (fields_of f) 0 k e).1, length-take (field_count f) f.fields)

  pub named_found : (k : ℕ) → field_named f n ≡ Some k → has_name n (field_at f k) ≡ true
  unfolding field_named
  named_found k e =
      let z : k - 0 ≡ k = omega arith in
      rw (z, get_or-take (field_count f) f.fields k no_field (named_inside k e)) at (first_found (has_name n) no_field (fields_of f) 0 k e).2

  pub named_nowhere : FileShape f → field_named f n ≡ None → (k : ℕ) → k < field_count f → has_name n (field_at f k) ≡ false
  unfolding field_named
  named_nowhere s e k h =
      let all_there : field_count f ≤ length f.fields = omega (arith, s.places) in
      rw (get_or-take (field_count f) f.fields k no_field h) at
      (first_none (has_name n) no_field (fields_of f) 0 k e (omega (arith, length-take-le (field_count f) f.fields all_there)))

-- ---- the places are those of fields in use
module _ (f : File) where
  places_of_inside : (ns : List Name) → Each (λ k. k < field_count f) (places_of f ns)
  places_of_inside [] = tt
  places_of_inside (n ∷ ns) = go (field_named f n) refl (places_of_inside ns)
    where
      go : (x : Option ℕ) → field_named f n ≡ x → Each (λ k. k < field_count f) (places_of f ns) → Each (λ k. k < field_count f) (before x (places_of f ns))
      go (Some k) e later = (named_inside f n k e, later)
      go None e later = later

  pub places_inside : (format : List ℕ) → Each (λ k. k < field_count f) (places f format)
  unfolding places
  places_inside format = places_of_inside (names format)

  pub places_below : (format : List ℕ) → Each (λ k. k < max_fields) (places f format)
  places_below format = each_more (places f format) (places_inside format)
    where
      each_more : (ks : List ℕ) → Each (λ k. k < field_count f) ks → Each (λ k. k < max_fields) ks
      each_more [] h = tt
      each_more (k ∷ ks) h = (omega (arith, h.0), each_more ks h.1)

  pub element_inside : (format : List ℕ) (at k : ℕ) → element f format at ≡ Some k → k < field_count f
  unfolding element
  element_inside format at = go (names (drop at format))
    where
      go : (ns : List Name) (k : ℕ) → first_named f ns ≡ Some k → k < field_count f
      go [] k e = absurd (let z : ◌≡◌ {A = ℕ} 0 1 = cc in omega arith)
      go (n ∷ ns) k e = named_inside f n k e

-- ---- valid names: nothing but whole elements, and each names a field
pub found_nowhere : (x : Option ℕ) → found x ≡ true → x ≡ None → ⊥
found_nowhere x t e = not_both false (rw e at t) refl

pub form_whole : (l : List ℕ) → form l ≡ true → (1 ≤ length (names l)) × (length (names l) * 3 ≡ length l)
form_whole [] h = not_both false h refl
form_whole (a ∷ []) h = not_both false h refl
form_whole (a ∷ b ∷ []) h = not_both false h refl
form_whole (a ∷ b ∷ mark ∷ []) h = (omega arith, refl)
form_whole (a ∷ b ∷ mark ∷ next ∷ rest) h =
    let r = form_whole (next ∷ rest) (and_right (eqb mark comma) (form (next ∷ rest)) h) in
    (omega arith, omega (arith, r.1))

-- some bytes of a format buffer, from the start of an element on
pub record Whole (f : File) (l : List ℕ) : Type 0 where
  pub elements : length (names l) * 3 ≡ length l
  pub fields : all (known f) (names l) ≡ true

module _ (f : File) where
  pub valid_form : (format : List ℕ) → names_valid f format ≡ true → form format ≡ true
  valid_form format v = and_left (form format) (all (known f) (names format)) v

  pub valid_whole : (format : List ℕ) → names_valid f format ≡ true → Whole f format
  valid_whole format v =
      record {
        elements = (form_whole format (valid_form format v)).1;
        fields = and_right (form format) (all (known f) (names format)) v;
      }

  -- one place for each name
  places_of_all : (ns : List Name) → all (known f) ns ≡ true → length (places_of f ns) ≡ length ns
  places_of_all [] h = refl
  places_of_all (n ∷ ns) h =
      go (field_named f n) (and_left (known f n) (all (known f) ns) h) (places_of_all ns (and_right (known f n) (all (known f) ns) h))
    where
      go : (x : Option ℕ) → found x ≡ true → length (places_of f ns) ≡ length ns → length (before x (places_of f ns)) ≡ length (n ∷ ns)
      go (Some k) t later = ap suc later
      go None t later = not_both false t refl

  pub whole_places : (l : List ℕ) → Whole f l → length (places f l) * 3 ≡ length l
  unfolding places
  whole_places l w = omega (arith, places_of_all (names l) w.fields, w.elements)

  pub valid_places : (format : List ℕ) → names_valid f format ≡ true → (1 ≤ length (places f format)) × (length (places f format) * 3 ≡ length format)
  unfolding places
  valid_places format v =
      let w = valid_whole format v in
      let n = places_of_all (names format) w.fields in
      (omega (arith, n, (form_whole format (valid_form format v)).0), omega (arith, n, w.elements))

-- at each byte that a loop by 3 comes to, a whole element begins that names a field
module _ (f : File) (format : List ℕ) (i : ℕ) (w : Whole f (drop i format)) (h : i < length format) where
  pub whole_fits : 3 ≤ length format - i
  whole_fits = omega (arith, w.elements, length-drop i format)

  pub whole_element : found (element f format i) ≡ true
  whole_element =
      rw (element_name f format i whole_fits)
      (and_left (known f (name_at format i)) (all (known f) (names (drop (i + 3) format))) (rw (names_more format i whole_fits) at w.fields))

  pub whole_next : Whole f (drop (i + 3) format)
  whole_next =
      record {
        elements = omega (arith, w.elements, ap length (names_more format i whole_fits), length-drop i format, length-drop (i + 3) format);
        fields = and_right (known f (name_at format i)) (all (known f) (names (drop (i + 3) format))) (rw (names_more format i whole_fits) at w.fields);
      }

-- ---- the period alone: no field is named, none comes twice (44), and no room is needed (53)
module _ (f : File) (format : List ℕ) (alone : period_alone format ≡ true) where
  pub alone_is : format ≡ period ∷ []
  alone_is = eqbs_true format (period ∷ []) alone

  pub alone_places : places f format ≡ []
  unfolding places
  alone_places = rw alone_is

  pub alone_once : named_twice f format ≡ false
  unfolding named_twice
  alone_once = rw alone_places

  pub alone_needed : length_needed f format ≡ 0
  unfolding length_needed
  alone_needed = rw alone_places

-- ---- no field named twice
module _ (f : File) (format : List ℕ) (t : named_twice f format ≡ false) where
  pub places_distinct : distinct eqb (places f format) ≡ true
  unfolding named_twice
  places_distinct = not-false (distinct eqb (places f format)) t

  pub places_apart : (i j : ℕ) → i < j → j < length (places f format) → get_or (places f format) i 0 ≡ get_or (places f format) j 0 → ⊥
  places_apart i j b k = eqb-false _ _ (distinct_at eqb (places f format) 0 places_distinct i j b k)

  pub places_most : length (places f format) ≤ field_count f
  places_most = distinct_most (field_count f) (places f format) (places_inside f format) places_distinct

-- nor in what is left of the buffer after an element, which does not name that element's field again
module _ (f : File) (format : List ℕ) (i k : ℕ) (e : element f format i ≡ Some k) (t : named_twice f (drop i format) ≡ false) where
  rest_distinct : (not (any (eqb k) (places f (drop (i + 3) format))) && distinct eqb (places f (drop (i + 3) format))) ≡ true
  rest_distinct = rw (places_step f format i, e) at (places_distinct f (drop i format) t)

  pub twice_next : named_twice f (drop (i + 3) format) ≡ false
  unfolding named_twice
  twice_next = ap not (and_right (not (any (eqb k) (places f (drop (i + 3) format)))) (distinct eqb (places f (drop (i + 3) format))) rest_distinct)

  pub place_once : any (eqb k) (places f (drop (i + 3) format)) ≡ false
  place_once = not-true _ (and_left (not (any (eqb k) (places f (drop (i + 3) format)))) (distinct eqb (places f (drop (i + 3) format))) rest_distinct)

-- ---- the bytes of the values
pub needed_total : (f : File) (format : List ℕ) → length_needed f format ≡ total (length_at f) (places f format)
unfolding length_needed
needed_total f format = refl

-- what whether there is an answer says of the room
pub needed_room : (f : File) (format : List ℕ) (room : ℕ) (r : Option ℕ) (t : Bool) → r ≡ needed_within f format room → is_some r ≡ not t → leb (length_needed f format) room ≡ not t
unfolding needed_within
needed_room f format room r t e n = go (leb (length_needed f format) room) (ap is_some (sym e) ∙ n)
  where
    go : (b : Bool) → is_some (cond b (Some (length_needed f format)) None) ≡ not t → b ≡ not t
    go true h = h
    go false h = h

pub needed_fits : (f : File) (format : List ℕ) (room n : ℕ) → needed_within f format room ≡ Some n → (n ≡ length_needed f format) × (n ≤ room)
unfolding needed_within
needed_fits f format room n e = go (outcome (leb (length_needed f format) room))
  where
    go : Outcome (leb (length_needed f format) room) → (n ≡ length_needed f format) × (n ≤ room)
    go (holds t) =
        let same : length_needed f format ≡ n = cc (rw t at e) in
        (sym same, omega (arith, leb-true (length_needed f format) room t))
    go (fails t) = absurd (let z : ◌≡◌ {A = ℕ} 0 1 = cc (rw t at e) in omega arith)

pub needed_too_long : (f : File) (format : List ℕ) (room : ℕ) → needed_within f format room ≡ None → room < length_needed f format
unfolding needed_within
needed_too_long f format room e = go (outcome (leb (length_needed f format) room))
  where
    go : Outcome (leb (length_needed f format) room) → room < length_needed f format
    go (holds t) = absurd (let z : ◌≡◌ {A = ℕ} 0 1 = cc (rw t at e) in omega arith)
    go (fails t) = leb-false (length_needed f format) room t
