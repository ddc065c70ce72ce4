-- The calls, one after another, to the end of known bytes.
-- Assumes nothing.
use Rattle.std.specs.Prelude.{Option, None, Some, IfSome}
use Rattle.std.proofs.Common.{◌≡◌, ℕ, ◌+◌, ◌-◌, ◌^◌, ◌≤◌, ◌<◌, refl, List, [], ◌++◌, arith, length, drop, sym, ap, ◌∙◌, subst, append_assoc, length-drop}
use mathlib.Core.List.{append-nil}
use Rattle.std.specs.Io.KnownBytes.{Appends}
use Rattle.std.proofs.KnownBytes.{Appends-nil, Appends-trans}
use Rattle.nucleus.specs.Nucleus.{Nucleus, nucleus}
use Rattle.nucleus.specs.declared.State.{State}
use Rattle.house.specs.House.{call_length}
use Rattle.party.proofs.Served.{Served, no_lines}
use Rattle.party.specs.Serving.{lines_of, OneServed}

-- what is left of the bytes after so many calls, and what is printed so far
abbrev pub Going : Option (List ℕ) → Option (List ℕ) → Nucleus → Option (List ℕ) → Option (List ℕ) → Nucleus → ℕ → Type 0
Going r₀ a₀ k₀ r a k i =
    IfSome r₀ (λ xs. (ys : List ℕ) × (w : List ℕ) × (r ≡ Some ys) × (length ys + i ≤ length xs) × Appends a₀ a w × (lines_of xs k₀ ≡ w ++ lines_of ys k))

pub going_start : (r a : Option (List ℕ)) (k : Nucleus) → Going r a k r a k 0
going_start None a k = tt
going_start (Some xs) a k = (xs, [], refl, omega arith, Appends-nil a, refl)

pub going_on : (r₀ a₀ : Option (List ℕ)) (k₀ : Nucleus) (r a : Option (List ℕ)) (k : Nucleus) (i : ℕ) (r' a' : Option (List ℕ)) (k' : Nucleus)
    → Going r₀ a₀ k₀ r a k i → IfSome r (λ ys. Served ys r' a a' k k') → Going r₀ a₀ k₀ r' a' k' (i + 1)
going_on None a₀ k₀ r a k i r' a' k' g s = tt
going_on (Some xs) a₀ k₀ r a k i r' a' k' g s = (
  drop call_length g.0,
  g.1 ++ v.0,
  v.3,
  omega (arith, g.3, v.2, length-drop call_length g.0),
  Appends-trans a₀ a a' g.1 v.0 g.4 v.1,
  g.5 ∙ ap (λ l. g.1 ++ l) v.4 ∙ sym (append_assoc g.1 v.0 (lines_of (drop call_length g.0) k')),
)
  where
    v : Served g.0 r' a a' k k'
    v = subst (λ r. IfSome r (λ ys. Served ys r' a a' k k')) g.2 s

pub going_ends : (r₀ a₀ : Option (List ℕ)) (k₀ : Nucleus) (r a : Option (List ℕ)) (k : Nucleus) (i : ℕ) (a' : Option (List ℕ))
    → Going r₀ a₀ k₀ r a k i → IfSome r (λ ys. Appends a a' (lines_of ys k)) → IfSome r₀ (λ xs. length xs < 2 ^ 64 → Appends a₀ a' (lines_of xs k₀))
going_ends None a₀ k₀ r a k i a' g s = tt
going_ends (Some xs) a₀ k₀ r a k i a' g s = λ h.
    let last = subst (λ r. IfSome r (λ ys. Appends a a' (lines_of ys k))) g.2 s in
    subst (Appends a₀ a') (sym g.5) (Appends-trans a₀ a a' g.1 (lines_of g.0 k) g.4 last)

-- no bytes have so many calls
pub going_out : (r₀ a₀ : Option (List ℕ)) (k₀ : Nucleus) (r a : Option (List ℕ)) (k : Nucleus) (i : ℕ) → 2 ^ 64 - 1 ≤ i
    → Going r₀ a₀ k₀ r a k i → IfSome r₀ (λ xs. length xs < 2 ^ 64 → Appends a₀ a (lines_of xs k₀))
going_out None a₀ k₀ r a k i far g = tt
going_out (Some xs) a₀ k₀ r a k i far g = λ h.
    let none_left : length g.0 ≡ 0 = omega (arith, g.3, far, h) in
    let all : lines_of xs k₀ ≡ g.1 = g.5 ∙ ap (λ l. g.1 ++ l) (no_lines g.0 k none_left) ∙ append-nil g.1 in
    subst (Appends a₀ a) (sym all) g.4

-- ---- by what serving one answers
module _ (r₀ a₀ : Option (List ℕ)) (k₀ : Nucleus) (r a : Option (List ℕ)) (k : Nucleus) (i : ℕ) (r' a' : Option (List ℕ)) (next : Option State) (store queue images : List ℕ)
    (g : Going r₀ a₀ k₀ r a k i) (s : IfSome r (λ ys. OneServed ys r' a a' k next store queue images)) where
  pub served_on : (state : State) → next ≡ Some state → Going r₀ a₀ k₀ r' a' (nucleus state store queue images) (i + 1)
  served_on state is =
      going_on r₀ a₀ k₀ r a k i r' a' (nucleus state store queue images) g (subst (λ next. IfSome r (λ ys. OneServed ys r' a a' k next store queue images)) is s)

  pub served_last : next ≡ None → IfSome r₀ (λ xs. length xs < 2 ^ 64 → Appends a₀ a' (lines_of xs k₀))
  served_last is = going_ends r₀ a₀ k₀ r a k i a' g (subst (λ next. IfSome r (λ ys. OneServed ys r' a a' k next store queue images)) is s)
