-- A piece of a list, a list with a piece replaced, and what a replacement or a store leaves of the other pieces.
-- Assumes nothing.
use Rattle.std.specs.Prelude.{◌≡◌, refl, List, [], ◌∷◌, ◌++◌, ℕ, zero, suc, ◌+◌, ◌-◌, ◌≤◌, ◌<◌, length, take, drop, get_or, set}
use Rattle.std.proofs.Common.{sym, ap, ◌∙◌, inl, inr, append_assoc, add-one, arith, length-append, length-take, length-drop, take-append-drop, drop-drop, drop-set-lt, take-suc-set, take-take, take_at, drop_at, length-take-le, get_or-take, get_or-drop}
use Rattle.std.proofs.lemmas.List.{drop-set-add, take-set-le}
use Rattle.lists.specs.Parts.{Apart}

module _ {A : Type 0} where
  -- n elements from a on
  abbrev pub piece : ℕ → ℕ → List A → List A
  piece a n l = take n (drop a l)

  -- a list with others in their place. A part `&mut s[a..e]` that was lent comes back so, with n = e - a
  abbrev pub patch : ℕ → ℕ → List A → List A → List A
  patch a n l v = take a l ++ (v ++ drop n (drop a l))

  pub length_patch : (a n : ℕ) (l v : List A) → a + n ≤ length l → length v ≡ n → length (patch a n l v) ≡ length l
  length_patch a n l v h e = simp (length-append, length-take, length-drop) (omega arith)

  -- with the piece that it has
  pub patch_own : (a n : ℕ) (l : List A) → patch a n l (piece a n l) ≡ l
  patch_own a n l = ap (λ r. take a l ++ r) (take-append-drop n (drop a l)) ∙ take-append-drop a l

  -- an element that was stored, and others behind it
  pub patch_set : (a n : ℕ) (l : List A) (x : A) (v : List A) → a < length l → patch (a + 1) n (set l a x) v ≡ patch a (n + 1) l (x ∷ v)
  patch_set a n l x v h =
      let e : a + 1 + n ≡ a + (n + 1) = omega arith in
      rw (drop-drop n (a + 1) (set l a x), drop-drop (n + 1) a l, drop-set-lt (a + 1 + n) l a x (omega arith), e, add-one a, take-suc-set l a x h)
      (append_assoc (take a l) (x ∷ []) (v ++ drop (a + (n + 1)) l))

  -- a piece of a piece
  front_piece : (b n m : ℕ) (l : List A) → b + n ≤ m → piece b n (take m l) ≡ piece b n l
  front_piece zero n m l h = take-take n m l (omega arith)
  front_piece (suc b) n zero l h = absurd (omega arith)
  front_piece (suc b) n (suc m) [] h = refl
  front_piece (suc b) n (suc m) (x ∷ xs) h = front_piece b n m xs (omega arith)

  pub piece_piece : (b n a m : ℕ) (l : List A) → b + n ≤ m → piece b n (piece a m l) ≡ piece (a + b) n l
  piece_piece b n a m l h = front_piece b n m (drop a l) h ∙ ap (take n) (drop-drop b a l)

  -- the first element of a piece, and the rest
  pub piece_first : (a n : ℕ) (l : List A) (d : A) → get_or (piece a (n + 1) l) 0 d ≡ get_or l a d
  piece_first a n l d =
      let e : a + 0 ≡ a = omega arith in
      get_or-take (n + 1) (drop a l) 0 d (omega arith) ∙ get_or-drop a l 0 d ∙ ap (λ i. get_or l i d) e

  pub piece_rest : (a n : ℕ) (l : List A) → piece 1 n (piece a (n + 1) l) ≡ piece (a + 1) n l
  piece_rest a n l = piece_piece 1 n a (n + 1) l (omega arith)

  -- ---- what a patch and a store leave
  module _ (a n : ℕ) (l v : List A) (room : a + n ≤ length l) (whole : length v ≡ n) where
    drop_patch : drop a (patch a n l v) ≡ v ++ drop n (drop a l)
    drop_patch = drop_at (take a l) (v ++ drop n (drop a l)) a (length-take-le a l (omega arith))

    pub patch_same : piece a n (patch a n l v) ≡ v
    patch_same = rw drop_patch (take_at v (drop n (drop a l)) n whole)

    pub patch_behind : (k : ℕ) → drop (a + n + k) (patch a n l v) ≡ drop (a + n + k) l
    patch_behind k =
        let split : (x : List A) → drop (a + n + k) x ≡ drop k (drop n (drop a x)) = λ x. rw (drop-drop n a x, drop-drop k (a + n) x) in
        split (patch a n l v) ∙ rw drop_patch (ap (drop k) (drop_at v (drop n (drop a l)) n whole)) ∙ sym (split l)

    pub patch_other : (b m : ℕ) → Apart a n b m → piece b m (patch a n l v) ≡ piece b m l
    patch_other b m (inl h) = let e : a + n + (b - (a + n)) ≡ b = omega arith in ap (take m) (rw e at (patch_behind (b - (a + n))))
    patch_other b m (inr h) = sym (front_piece b m a (patch a n l v) h) ∙ ap (piece b m) (take_at (take a l) _ a (length-take-le a l (omega arith))) ∙ front_piece b m a l h

  pub set_other : (i : ℕ) (l : List A) (x : A) (b m : ℕ) → Apart i 1 b m → piece b m (set l i x) ≡ piece b m l
  set_other i l x b m (inl h) = ap (take m) (drop-set-lt b l i x (omega arith))
  set_other i l x b m (inr h) =
      let e : b + (i - b) ≡ i = omega arith in
      ap (take m) (rw e at (drop-set-add b l (i - b) x)) ∙ take-set-le m (drop b l) (i - b) x (omega arith)
