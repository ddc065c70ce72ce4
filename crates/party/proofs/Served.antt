-- One call of the house call list, from its bytes to its line.
-- Assumes nothing.
use Rattle.std.specs.Prelude.{Option as Optional, None, Some, IfSome, min, Bool, true, false, not, ltb, eqb, suc}
use Rattle.std.proofs.Common.{◌≡◌, ℕ, ◌+◌, ◌-◌, ◌≤◌, ◌<◌, refl, List, [], ◌∷◌, ◌++◌, arith, length, take, drop, get_or, sym, ap, ◌∙◌, subst, take_all, append_assoc, ltb-true, ltb-false, ne_eqb, length-take, length-drop}
use Rattle.std.specs.Io.KnownBytes.{Appends}
use Rattle.std.proofs.KnownBytes.{Appends-nil}
use Rattle.lists.specs.Tests.{cond, Outcome, holds, fails, outcome}
use Rattle.nucleus.specs.Nucleus.{Nucleus, Given, given, Result}
use Rattle.nucleus.specs.Step.{step}
use Rattle.nucleus.specs.Line.{line}
use Rattle.house.specs.House.{call_length, buffer_length_at, buffer_at, byte, well_formed, given_by, call_of}
use Rattle.house.proofs.Laws.{formed_length, formed_buffer}
use Rattle.output.specs.Output.{newline, bad, capacity, answered, printed, lines}
use Rattle.party.proofs.Calls.{enough, answered_same, call_front}
use Rattle.party.specs.Serving.{Filled, CallPrinted, lines_of}

-- ---- the lines, call by call
pub no_lines : (xs : List ℕ) (k : Nucleus) → length xs ≡ 0 → lines_of xs k ≡ []
unfolding lines
no_lines xs k h = ap (λ f. lines f xs k) h

a_line : (xs : List ℕ) (k : Nucleus) → 0 < length xs → lines_of xs k ≡ answered (call_of xs) (lines_of (drop call_length xs)) k
unfolding lines
a_line xs k h =
    let some_left : eqb (length xs) 0 ≡ false = ne_eqb (length xs) 0 (λ z. omega (arith, h, z)) in
    let less = length-drop call_length xs in
    enough (length xs) (suc (length xs)) xs k (omega arith) (omega arith)
    ∙ rw some_left (answered_same (call_of xs) k (lines (length xs) (drop call_length xs)) (lines_of (drop call_length xs))
    (λ m. enough (length xs) (length (drop call_length xs)) (drop call_length xs) m (omega (arith, less)) (omega arith)))

-- ---- the bytes of a call, as far as there are
module _ (xs : List ℕ) (r : Optional (List ℕ)) (n : ℕ) (bytes : List ℕ) (long : length bytes ≡ 65) (f : Filled (Some xs) r n bytes) where
  taken : take n xs ≡ take 65 xs
  taken = go (outcome (ltb (length xs) 65))
    where
      go : Outcome (ltb (length xs) 65) → take n xs ≡ take 65 xs
      go (holds h) =
          let less = ltb-true (length xs) 65 h in
          take_all n xs (omega (arith, f.0, long)) ∙ sym (take_all 65 xs (omega arith))
      go (fails h) =
          let whole : n ≡ 65 = omega (arith, f.0, long, ltb-false (length xs) 65 h) in
          ap (λ m. take m xs) whole

  same_call : call_of (take n bytes) ≡ call_of xs
  same_call = ap call_of (f.1 ∙ taken) ∙ call_front xs

-- a good call is whole, and its record buffer is no longer than it may be
call_whole : (xs : List ℕ) (g : Given) → call_of xs ≡ Some g → (call_length ≤ length xs) × (length g.buffer ≤ 35)
unfolding call_of given_by
call_whole xs g = go (outcome (well_formed xs))
  where
    go : Outcome (well_formed xs) → call_of xs ≡ Some g → (call_length ≤ length xs) × (length g.buffer ≤ 35)
    go (holds w) q =
        let there : Some (given_by xs) ≡ Some g = sym (rw w refl) ∙ q in
        let same : given_by xs ≡ g = cc in
        let size = ap (λ g. length g.buffer) same in
        (formed_length xs w, omega (arith, formed_buffer xs w, length-take (byte xs buffer_length_at) (drop buffer_at xs), size))
    go (fails w) q = let bad : None ≡ Some g = sym (rw w refl) ∙ q in absurd (let z : ◌≡◌ {A = ℕ} 0 1 = cc in omega arith)

-- ---- what comes of it
pub served_none : (r₀ r : Optional (List ℕ)) (n : ℕ) (bytes : List ℕ) (a : Optional (List ℕ)) (k : Nucleus) → length bytes ≡ 65 → Filled r₀ r n bytes → n ≡ 0
    → IfSome r₀ (λ xs. Appends a a (lines_of xs k))
served_none None r n bytes a k long f z = tt
served_none (Some xs) r n bytes a k long f z = subst (Appends a a) (sym (no_lines xs k (omega (arith, f.0, long, z)))) (Appends-nil a)

pub served_bad : (r₀ r : Optional (List ℕ)) (n : ℕ) (bytes : List ℕ) (a b : Optional (List ℕ)) (k : Nucleus) → length bytes ≡ 65 → Filled r₀ r n bytes → (n ≡ 0 → ⊥)
    → None ≡ call_of (take n bytes) → Appends a b bad → IfSome r₀ (λ xs. Appends a b (lines_of xs k))
served_bad None r n bytes a b k long f z q w = tt
served_bad (Some xs) r n bytes a b k long f z q w =
    let call : None ≡ call_of xs = q ∙ same_call xs r n bytes long f in
    subst (Appends a b) (sym (a_line xs k (omega (arith, f.0, long, z)) ∙ ap (λ c. answered c (lines_of (drop call_length xs)) k) (sym call))) w

abbrev pub Served : List ℕ → Optional (List ℕ) → Optional (List ℕ) → Optional (List ℕ) → Nucleus → Nucleus → Type 0
Served xs r a b k left =
    (w : List ℕ) × Appends a b w × (call_length ≤ length xs) × (r ≡ Some (drop call_length xs)) × (lines_of xs k ≡ w ++ lines_of (drop call_length xs) left)

pub served : (r₀ r : Optional (List ℕ)) (n : ℕ) (bytes : List ℕ) (a b : Optional (List ℕ)) (k left : Nucleus) (g : Given) → length bytes ≡ 65 → Filled r₀ r n bytes → (n ≡ 0 → ⊥)
    → Some g ≡ call_of (take n bytes) → CallPrinted g.call g.buffer (step capacity g.call g.format g.buffer k) a b left
    → IfSome r₀ (λ xs. Served xs r a b k left)
served None r n bytes a b k left g long f z q p = tt
served (Some xs) r n bytes a b k left g long f z q p = (
  line g.call gone ++ newline ∷ [],
  p.1 whole.1,
  whole.0,
  f.2 ∙ ap (λ m. Some (drop m xs)) all_65,
  a_line xs k (omega (arith, f.0, long, z)) ∙ ap (λ c. answered c (lines_of (drop call_length xs)) k) (sym call)
      ∙ ap (λ m. line g.call gone ++ newline ∷ lines_of (drop call_length xs) m) p.0
      ∙ sym (append_assoc (line g.call gone) (newline ∷ []) (lines_of (drop call_length xs) left)),
)
  where
    gone : Result
    gone = step capacity g.call g.format g.buffer k

    call : Some g ≡ call_of xs
    call = q ∙ same_call xs r n bytes long f

    whole : (call_length ≤ length xs) × (length g.buffer ≤ 35)
    whole = call_whole xs g (sym call)

    all_65 : n ≡ 65
    all_65 = omega (arith, f.0, long, whole.0)
