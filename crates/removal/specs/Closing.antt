-- Gaps closed: a list in blocks, of which some are kept. One law for words and for images.
-- Assumes nothing.
use Rattle.std.specs.Prelude.{ℕ, suc, ◌+◌, ◌*◌, ◌≤◌, ◌≡◌, Bool}
use Rattle.std.proofs.Common.{mul-le-mul_right, ◌∙◌, length-take, length-drop, take-append-drop, take_at, take-add, drop_at, drop-drop}
use native.Mathlib.Omega.{arith}
use Rattle.std.proofs.Math.Path.{refl, ap}
use Rattle.std.proofs.Math.Bool.{true, false}
use mathlib.Core.List.{List, [], ◌∷◌, ◌++◌, append-nil, append_assoc}
use Rattle.std.proofs.Math.ListN.{length, take, drop, length-append}
use Rattle.std.proofs.Math.Seq.{paste, length-take-le}
use Rattle.lists.specs.Tests.{cond, not_both}
use Rattle.lists.specs.Folds.{all, total}
use Rattle.entries.specs.Entries.{bit}
use Rattle.lists.specs.Copies.{rest_alike}

-- how many flags are set
abbrev pub set_count : List Bool → ℕ
set_count bs = total bit bs

pub set_count_most : (bs : List Bool) → set_count bs ≤ length bs
set_count_most [] = omega arith
set_count_most (true ∷ bs) = omega (arith, set_count_most bs)
set_count_most (false ∷ bs) = omega (arith, set_count_most bs)

pub set_count_last : (bs : List Bool) (b : Bool) → set_count (bs ++ b ∷ []) ≡ set_count bs + bit b
set_count_last [] b = omega arith
set_count_last (c ∷ bs) b = omega (arith, set_count_last bs b)

pub set_count_all : (bs : List Bool) → all (λ b. b) bs ≡ true → set_count bs ≡ length bs
set_count_all [] h = refl
set_count_all (true ∷ bs) h = omega (arith, set_count_all bs h)
set_count_all (false ∷ bs) h = not_both false h refl

module _ {A : Type 0} (n : ℕ) where
  -- of a list in blocks of n elements, those whose flag is set
  abbrev pub picked : List Bool → List A → List A
  picked [] l = []
  picked (b ∷ bs) l = cond b (take n l) [] ++ picked bs (drop n l)

  -- those blocks moved to the front, in order; behind them the list is as it was
  unfoldable pub closed : List Bool → List A → List A
  closed bs l = picked bs l ++ drop (length (picked bs l)) l

  length_picked : (bs : List Bool) (l : List A) → length bs * n ≤ length l → length (picked bs l) ≡ set_count bs * n
  length_picked [] l h = omega arith
  length_picked (b ∷ bs) l h = go b (length_picked bs (drop n l) (simp length-drop (omega arith)))
    where
      go : (b : Bool) → length (picked bs (drop n l)) ≡ set_count bs * n → length (picked (b ∷ bs) l) ≡ set_count (b ∷ bs) * n
      go true i = simp (length-append, length-take, i) (omega arith)
      go false i = i ∙ omega arith

  picked_last : (bs : List Bool) (b : Bool) (l : List A) → picked (bs ++ b ∷ []) l ≡ picked bs l ++ cond b (take n (drop (length bs * n) l)) []
  picked_last [] b l = let e : 0 * n ≡ 0 = omega arith in rw e (append-nil (cond b (take n l) []))
  picked_last (c ∷ bs) b l =
      let e : suc (length bs) * n ≡ n + length bs * n = omega arith in
      rw (picked_last bs b (drop n l), e, drop-drop (length bs * n) n l, append_assoc)

  -- ---- one block further
  module _ (bs : List Bool) (l : List A) (room : length bs * n ≤ length l) where
    ahead : set_count bs * n ≤ length bs * n
    ahead = mul-le-mul_right n (set_count_most bs)

    pub closed_is : closed bs l ≡ picked bs l ++ drop (set_count bs * n) l
    unfolding closed
    closed_is = ap (λ k. picked bs l ++ drop k l) (length_picked bs l room)

    pub closed_front : take (set_count bs * n) (closed bs l) ≡ picked bs l
    closed_front = rw closed_is (take_at (picked bs l) (drop (set_count bs * n) l) (set_count bs * n) (length_picked bs l room))

    -- past what is kept, the list is as it was
    pub closed_rest : (i : ℕ) → set_count bs * n ≤ i → drop i (closed bs l) ≡ drop i l
    closed_rest i h =
        rest_alike (closed bs l) l (set_count bs * n) i (rw closed_is (drop_at (picked bs l) (drop (set_count bs * n) l) (set_count bs * n) (length_picked bs l room))) h

    pub length_closed : length (closed bs l) ≡ length l
    length_closed = rw closed_is (simp (length-append, length-drop, length_picked bs l room) (omega (arith, ahead)))

    pub closed_skip : closed (bs ++ false ∷ []) l ≡ closed bs l
    unfolding closed
    closed_skip = rw (picked_last bs false l, append-nil (picked bs l))

  -- the next block comes to the front
  pub closed_keep : (bs : List Bool) (l : List A) → (length bs + 1) * n ≤ length l
      → paste (closed bs l) (set_count bs * n) (drop (length bs * n) (closed bs l)) n ≡ closed (bs ++ true ∷ []) l
  unfolding closed
  closed_keep bs l more =
      let room : length bs * n ≤ length l = omega arith in
      let here : length bs * n + n ≤ length l = omega arith in
      let block : List A = take n (drop (length bs * n) l) in
      let size : length block ≡ n = simp (length-take, length-drop) (omega arith) in
      let next : length (picked bs l ++ block) ≡ set_count bs * n + n = length-append (picked bs l) block ∙ rw (length_picked bs l room, size) in
      rw (
        closed_front bs l room,
        closed_rest bs l room (length bs * n) (ahead bs l room),
        closed_rest bs l room (set_count bs * n + n) (omega arith),
        closed,
        picked_last bs true l,
        next,
      )

  pub closed_none : (l : List A) → closed [] l ≡ l
  unfolding closed
  closed_none l = refl

  -- all are kept
  picked_all : (bs : List Bool) (l : List A) → all (λ b. b) bs ≡ true → picked bs l ≡ take (length bs * n) l
  picked_all [] l h = let z : 0 * n ≡ 0 = omega arith in rw z
  picked_all (true ∷ bs) l h =
      let z : suc (length bs) * n ≡ n + length bs * n = omega arith in
      rw (z, take-add n (length bs * n) l) (ap (λ t. take n l ++ t) (picked_all bs (drop n l) h))
  picked_all (false ∷ bs) l h = not_both false h refl

  pub closed_all : (bs : List Bool) (l : List A) → length bs * n ≤ length l → all (λ b. b) bs ≡ true → closed bs l ≡ l
  unfolding closed
  closed_all bs l room h = rw (picked_all bs l h, length-take-le (length bs * n) l room) (take-append-drop (length bs * n) l)
