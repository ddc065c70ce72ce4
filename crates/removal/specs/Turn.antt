-- One turn of `remove`, which leaves the words and images of the first i entries closed up.
-- Assumes nothing.
use Rattle.std.specs.Prelude.{ℕ, ◌+◌, ◌*◌, ◌≤◌, ◌<◌, ◌≡◌, Bool, true, false, List, [], ◌∷◌, ◌++◌, map, length, drop, get_or, set}
use Rattle.std.proofs.Common.{mul-one, arith, sym, ap, ◌∙◌}
use Rattle.std.proofs.lemmas.List.{map-append, length-map}
use Rattle.std.proofs.Math.Seq.{paste}
use Rattle.entries.specs.Entries.{bit, unpack_of, entries}
use Rattle.entries.specs.Laws.{length_entries, entries_last}
use Rattle.lists.specs.Copies.{at_alike, copy_one}
use Rattle.removal.specs.Closing.{set_count, set_count_most, set_count_last, closed, closed_rest, closed_skip, closed_keep, length_closed}
use Rattle.removal.specs.Removal.{stays, staying}
use Rattle.entries.specs.declared.Entry.{Entry}
use Rattle.removal.specs.declared.Removal.{Removal}

-- for each of the first i entries, whether it stays
abbrev pub flags : Removal → List ℕ → ℕ → List Bool
flags which words i = staying which (entries words i)

pub length_flags : (which : Removal) (words : List ℕ) (i : ℕ) → i ≤ length words → length (flags which words i) ≡ i
length_flags which words i h = length-map (entries words i) (stays which) ∙ omega (arith, length_entries words i)

pub flags_most : (which : Removal) (words : List ℕ) (i : ℕ) → i ≤ length words → set_count (flags which words i) ≤ i
flags_most which words i h = omega (arith, set_count_most (flags which words i), length_flags which words i h)

module _ (which : Removal) (words images : List ℕ) (width i : ℕ) (more : i < length words) (room : (i + 1) * width ≤ length images) where
  abbrev here : List Bool
  here = flags which words i

  size : length here ≡ i
  size = length_flags which words i (omega arith)

  -- the entry to be judged still stands where it was
  pub turn_read : get_or (closed 1 here words) i 0 ≡ get_or words i 0
  turn_read =
      let fits : length here * 1 ≤ length words = omega (arith, size) in
      let least : set_count here ≤ i = flags_most which words i (omega arith) in
      at_alike (closed 1 here words) words i i (closed_rest 1 here words fits i (omega arith)) (omega arith) 0

  module _ (e : Entry) (now : e ≡ unpack_of (get_or words i 0)) where
    turn : flags which words (i + 1) ≡ here ++ stays which e ∷ []
    turn = ap (map (stays which)) (entries_last words i more) ∙ map-append (stays which) (entries words i) (unpack_of (get_or words i 0) ∷ []) ∙ ap (λ x. here ++ stays which x ∷ []) (sym now)

    pub turn_count : set_count (flags which words (i + 1)) ≡ set_count here + bit (stays which e)
    turn_count = ap set_count turn ∙ set_count_last here (stays which e)

    pub stay_queue : stays which e ≡ true → set (closed 1 here words) (set_count here) (get_or (closed 1 here words) i 0) ≡ closed 1 (flags which words (i + 1)) words
    stay_queue s =
        let fits : length here * 1 ≤ length words = omega (arith, size) in
        let next : (length here + 1) * 1 ≤ length words = omega (arith, size) in
        let long : length (closed 1 here words) ≡ length words = length_closed 1 here words fits in
        let least : set_count here ≤ i = flags_most which words i (omega arith) in
        let place : set_count here * 1 ≡ set_count here = mul-one (set_count here) in
        let start : length here * 1 ≡ i = mul-one (length here) ∙ size in
        copy_one (closed 1 here words) i (set_count here) 0 (omega arith) (omega arith) ∙ rw (turn, s, ← (closed_keep 1 here words next), place, start)

    pub stay_images : stays which e ≡ true
        → paste (closed width here images) (set_count here * width) (drop (i * width) (closed width here images)) width ≡ closed width (flags which words (i + 1)) images
    stay_images s =
        let next : (length here + 1) * width ≤ length images = rw size room in
        rw (turn, s, ← (closed_keep width here images next), size)

    pub go_on : {A : Type 0} (n : ℕ) (l : List A) → length here * n ≤ length l → stays which e ≡ false → closed n here l ≡ closed n (flags which words (i + 1)) l
    go_on n l fits s = rw (turn, s) (sym (closed_skip n here l fits))
