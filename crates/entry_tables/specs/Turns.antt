-- What the loop that makes the table goes by, and what the table holds at a place.
-- Assumes nothing.
use Rattle.std.specs.Prelude.{ℕ, zero, suc, ◌+◌, ◌<◌, ◌≡◌, refl, false, List, [], ◌∷◌, eqb, length, get_or, set, replicate}
use Rattle.std.proofs.Common.{zero-add, arith, sym, ap, ◌∙◌, length-set, ext_get_or, get_or-set_same, get_or-set_other, eqb-true}
use Rattle.std.proofs.lemmas.List.{length-map}
use Rattle.std.proofs.lemmas.Bool.{eqb-false}
use Rattle.lists.specs.Tests.{within, within_above, Outcome, holds, fails, outcome}
use Rattle.lists.specs.Numbers.{numbers, at_number}
use Rattle.definition.specs.declared.File.{File}
use Rattle.entry_tables.specs.Tables.{highest_isn, highest_in}

-- ---- no number is within nothing
pub within_nothing : (n : ℕ) → within 1 0 n ≡ false
within_nothing zero = refl
within_nothing (suc n) = within_above 1 0 (suc n) (omega arith)

-- ---- the table of highest ISNs
length_numbers : (n k : ℕ) → length (numbers n k) ≡ n
length_numbers zero k = refl
length_numbers (suc n) k = ap suc (length_numbers n (k + 1))

pub length_highest : (fs : List File) → length (highest_in fs) ≡ 17
unfolding highest_in
length_highest fs = length-map (numbers 17 0) (highest_isn fs) ∙ length_numbers 17 0

-- of no files
pub highest_none : highest_in [] ≡ replicate 17 0
unfolding highest_in
highest_none = refl

pub highest_at : (fs : List File) (n : ℕ) → n < 17 → get_or (highest_in fs) n 0 ≡ highest_isn fs n
unfolding highest_in
highest_at fs n h = at_number (highest_isn fs) 17 0 n 0 h ∙ ap (highest_isn fs) (zero-add n)

-- one file more, in front; a number past the table changes nothing
pub highest_more : (f : File) (fs : List File) → set (highest_in fs) f.number f.max_isn ≡ highest_in (f ∷ fs)
highest_more f fs =
    ext_get_or 0 (set (highest_in fs) f.number f.max_isn) (highest_in (f ∷ fs)) (long ∙ sym (length_highest (f ∷ fs)))
    (λ i h. let k : i < 17 = omega (arith, long) in go i k (outcome (eqb f.number i)) ∙ sym (highest_at (f ∷ fs) i k))
  where
    long : length (set (highest_in fs) f.number f.max_isn) ≡ 17
    long = length-set (highest_in fs) f.number f.max_isn ∙ length_highest fs

    go : (i : ℕ) → i < 17 → Outcome (eqb f.number i) → get_or (set (highest_in fs) f.number f.max_isn) i 0 ≡ highest_isn (f ∷ fs) i
    go i k (holds t) =
        let e : f.number ≡ i = eqb-true f.number i t in
        rw (t, e) (get_or-set_same (highest_in fs) i f.max_isn 0 (omega (arith, length_highest fs)))
    go i k (fails t) =
        rw t (get_or-set_other (highest_in fs) f.number i f.max_isn 0 (λ e. eqb-false f.number i t (sym e)) ∙ highest_at fs i k)
