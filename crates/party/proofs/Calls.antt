-- Calls at the front of bytes.
-- Assumes nothing.
use Rattle.std.specs.Prelude.{ℕ, zero, suc, ◌+◌, ◌-◌, ◌*◌, ◌≤◌, ◌<◌, ◌≡◌, refl, Bool, true, false, ◌&&◌, List, [], ◌∷◌, ◌++◌, eqb, leb, length, get_or, take, drop, Option, Some, None}
use Rattle.std.proofs.Common.{arith, sym, ap, ◌∙◌, length-drop, length-take, take_all, eq-eqb, leb-true, leb-false, le-leb}
use Rattle.std.proofs.lemmas.Bool.{eqb-true, eqb-false}
use Rattle.std.proofs.lemmas.List.{get_or-take, drop-take, length-take-le}
use Rattle.std.proofs.Math.Seq.{take-take}
use Rattle.lists.specs.Tests.{cond, Outcome, holds, fails, outcome}
use Rattle.nucleus.specs.Nucleus.{Nucleus, Given}
use Rattle.nucleus.specs.Step.{step}
use Rattle.nucleus.specs.Line.{line}
use Rattle.house.specs.House.{call_length, call_of, well_formed, given_by}
use Rattle.house.proofs.Laws.{formed_format, formed_buffer}
use Rattle.output.specs.Output.{newline, capacity, answered, printed, lines}

-- more fuel than bytes makes no difference
cond_none : {A : Type 0} (b : Bool) (x y : A) → b ≡ true → cond b x y ≡ x
cond_none b x y h = rw h refl

no_bytes : (bytes : List ℕ) (xs : List ℕ) → length bytes ≤ 0 → cond (eqb (length bytes) 0) [] xs ≡ []
no_bytes bytes xs h = cond_none (eqb (length bytes) 0) [] xs (eq-eqb (length bytes) 0 (omega arith))

pub answered_same : (c : Option Given) (n : Nucleus) (later later' : Nucleus → List ℕ) → ((n : Nucleus) → later n ≡ later' n) → answered c later n ≡ answered c later' n
answered_same None n later later' same = refl
answered_same (Some g) n later later' same =
    ap (λ xs. line g.call (step capacity g.call g.format g.buffer n) ++ newline ∷ xs) (same (step capacity g.call g.format g.buffer n).nucleus)

pub enough : (f g : ℕ) (bytes : List ℕ) (n : Nucleus) → length bytes ≤ f → length bytes ≤ g → lines f bytes n ≡ lines g bytes n
unfolding lines
enough zero zero bytes n p q = refl
enough zero (suc g) bytes n p q = sym (no_bytes bytes _ p)
enough (suc f) zero bytes n p q = no_bytes bytes _ q
enough (suc f) (suc g) bytes n p q = go (outcome (eqb (length bytes) 0)) (enough f g (drop call_length bytes))
  where
    go : Outcome (eqb (length bytes) 0)
        → ((n : Nucleus) → length (drop call_length bytes) ≤ f → length (drop call_length bytes) ≤ g → lines f (drop call_length bytes) n ≡ lines g (drop call_length bytes) n)
        → lines (suc f) bytes n ≡ lines (suc g) bytes n
    go (holds h) later = rw h refl
    go (fails h) later =
        let some_left = eqb-false (length bytes) 0 h in
        let less = length-drop call_length bytes in
        rw h (answered_same (call_of bytes) n (lines f (drop call_length bytes)) (lines g (drop call_length bytes))
        (λ m. later m (omega (arith, less, some_left)) (omega (arith, less, some_left))))

-- ---- a call is its first 65 bytes
module _ (xs : List ℕ) where
  front : (i : ℕ) → i < 65 → get_or (take 65 xs) i 0 ≡ get_or xs i 0
  front i h = get_or-take 65 xs i 0 h

  part : (at n k : ℕ) → at + n ≡ 65 → k ≤ n → take k (drop at (take 65 xs)) ≡ take k (drop at xs)
  part at n k h p =
      let cut : drop at (take 65 xs) ≡ take n (drop at xs) = ap (λ m. drop at (take m xs)) (sym h) ∙ drop-take at n xs in
      ap (take k) cut ∙ take-take k n (drop at xs) p

  same_form : 65 ≤ length xs → well_formed (take 65 xs) ≡ well_formed xs
  unfolding well_formed
  same_form h =
      let long : length (take 65 xs) ≡ 65 = length-take-le 65 xs h in
      rw (long, le-leb 65 (length xs) h, front 0 (omega arith), front 12 (omega arith), front 29 (omega arith)) refl

  same_given : well_formed xs ≡ true → given_by (take 65 xs) ≡ given_by xs
  unfolding given_by
  same_given w =
      rw (
        front 0 (omega arith),
        front 1 (omega arith),
        front 2 (omega arith),
        front 3 (omega arith),
        front 4 (omega arith),
        front 5 (omega arith),
        front 6 (omega arith),
        front 7 (omega arith),
        front 8 (omega arith),
        front 9 (omega arith),
        front 10 (omega arith),
        front 11 (omega arith),
        front 12 (omega arith),
        front 29 (omega arith),
        part 13 52 (get_or xs 12 0) refl (omega (arith, formed_format xs w)),
        part 30 35 (get_or xs 29 0) refl (formed_buffer xs w),
      ) refl

  pub call_front : call_of (take call_length xs) ≡ call_of xs
  unfolding call_of
  call_front = go (outcome (leb 65 (length xs)))
    where
      go : Outcome (leb 65 (length xs)) → call_of (take 65 xs) ≡ call_of xs
      go (holds h) = rw (same_form (leb-true 65 (length xs) h)) (whole (outcome (well_formed xs)))
        where
          whole : Outcome (well_formed xs) → cond (well_formed xs) (Some (given_by (take 65 xs))) None ≡ call_of xs
          whole (holds w) = rw w (ap Some (same_given w))
          whole (fails w) = rw w refl
      go (fails h) = rw (take_all 65 xs (omega (arith, leb-false 65 (length xs) h))) refl
