-- Half bytes, byte by byte.
-- Assumes nothing.
use Rattle.std.specs.Prelude.{◌≡◌, refl, ℕ, List, [], ◌∷◌, eqb}
use Rattle.std.specs.List.{list_any}
use Rattle.std.proofs.Common.{sym, eqb-true}
use Rattle.std.proofs.lemmas.Bool.{eqb-false}
use Rattle.lists.specs.Tests.{Outcome, holds, fails, outcome}
use Rattle.lists.specs.Folds.{any}
use Rattle.digits.specs.Digits.{halves}
use Rattle.values.specs.Values.{not_zero}
use Rattle.values.specs.Laws.{byte_not_zero}

pub any_halves : (l : List ℕ) → list_any not_zero l ≡ any not_zero (halves l)
any_halves [] = refl
any_halves (b ∷ bs) = go (outcome (eqb b 0)) (any_halves bs)
  where
    go : Outcome (eqb b 0) → list_any not_zero bs ≡ any not_zero (halves bs) → list_any not_zero (b ∷ bs) ≡ any not_zero (halves (b ∷ bs))
    go (holds e) i = rw (eqb-true b 0 e) i
    go (fails e) i = rw e (sym (byte_not_zero b bs (eqb-false b 0 e)))
