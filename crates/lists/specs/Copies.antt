-- Lists that are alike from a place on, and a part of a list copied to an earlier place.
-- Assumes nothing.
use Rattle.std.specs.Prelude.{ℕ, suc, ◌+◌, ◌-◌, ◌≤◌, ◌<◌, ◌≡◌, List, ◌++◌, length, take, drop, get_or, set}
use Rattle.std.proofs.Common.{arith, sym, ◌∙◌, append_assoc, add-one, length-drop, take-append-drop, drop-cons, drop-drop, get_or-drop, take-add}
use Rattle.std.proofs.Math.Seq.{append_snoc, paste, paste-suc}
use Rattle.std.proofs.lemmas.List.Edits.{drop-paste}
use Rattle.std.proofs.lemmas.List.{set_split}

module _ {A : Type 0} where
  -- ---- two lists that are alike from m on
  module _ (xs ys : List A) (m i : ℕ) (alike : drop m xs ≡ drop m ys) (later : m ≤ i) where
    pub rest_alike : drop i xs ≡ drop i ys
    rest_alike =
        let e : m + (i - m) ≡ i = omega arith in
        rw (← e, ← (drop-drop (i - m) m xs), ← (drop-drop (i - m) m ys), alike)

    pub at_alike : (d : A) → get_or xs i d ≡ get_or ys i d
    at_alike d =
        let e : m + (i - m) ≡ i = omega arith in
        rw (← e, ← (get_or-drop m xs (i - m) d), ← (get_or-drop m ys (i - m) d), alike)

  -- ---- a part copied to an earlier place, element by element
  pub copy_turn : (l : List A) (from to j : ℕ) (d : A) → to + j ≤ from + j → from + j < length l
      → set (paste l to (drop from l) j) (to + j) (get_or (paste l to (drop from l) j) (from + j) d) ≡ paste l to (drop from l) (j + 1)
  copy_turn l from to j d h k =
      let room : j ≤ length (drop from l) = omega (arith, length-drop from l) in
      let more : j < length (drop from l) = omega (arith, length-drop from l) in
      let read : get_or (paste l to (drop from l) j) (from + j) d ≡ get_or (drop from l) j d =
      at_alike (paste l to (drop from l) j) l (to + j) (from + j) (drop-paste l to (drop from l) j (omega arith) room) h d ∙ sym (get_or-drop from l j d) in
      rw (read, add-one j) (paste-suc l to (drop from l) j d (omega arith) more)

  -- a part copied to where it is
  pub copy_nothing : (l : List A) (at n : ℕ) → paste l at (drop at l) n ≡ l
  copy_nothing l at n = rw (← (take-add at n l)) (take-append-drop (at + n) l)

  -- one element copied
  pub copy_one : (l : List A) (from to : ℕ) (d : A) → to < length l → from < length l → set l to (get_or l from d) ≡ paste l to (drop from l) 1
  copy_one l from to d h k =
      rw (set_split l to (get_or l from d) h, add-one to, drop-cons l from d k) (sym (append_snoc (take to l) (get_or l from d) (drop (suc to) l)))

  -- a part written behind the first n elements
  pub paste_behind : (l v : List A) (n a m : ℕ) → paste l (n + a) v m ≡ take n l ++ paste (drop n l) a v m
  paste_behind l v n a m =
      let e : n + a + m ≡ n + (a + m) = omega arith in
      rw (take-add n a l, e, ← (drop-drop (a + m) n l)) (simp append_assoc)
