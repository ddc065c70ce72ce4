-- Laws of causes: of rows that stand one after another, and of what code learns from a verdict.
-- Assumes nothing.
use Rattle.std.specs.Prelude.{◌≡◌, refl, true, false, List, [], ◌∷◌, ◌++◌, Option, Some, None, Ok, Err}
use Rattle.lists.specs.Tests.{Outcome, holds, fails, outcome}
use Rattle.nucleus.specs.Rows.{Row, first_cause}
use Rattle.nucleus.specs.declared.Response.{Response}
use Rattle.shares.specs.Shares.{verdict}

-- ---- rows one after another
module _ (xs ys : List Row) where
  pub causes_refused : (c : Response) → first_cause xs ≡ Some c → first_cause (xs ++ ys) ≡ Some c
  causes_refused c = go xs
    where
      go : (rows : List Row) → first_cause rows ≡ Some c → first_cause (rows ++ ys) ≡ Some c
      go [] e = cc
      go (r ∷ rows) e = step (outcome r.holds) (go rows)
        where
          step : Outcome r.holds → (first_cause rows ≡ Some c → first_cause (rows ++ ys) ≡ Some c) → first_cause ((r ∷ rows) ++ ys) ≡ Some c
          step (holds t) later = rw t (rw t at e)
          step (fails t) later = rw t (later (rw t at e))

  pub causes_passed : first_cause xs ≡ None → first_cause (xs ++ ys) ≡ first_cause ys
  causes_passed = go xs
    where
      go : (rows : List Row) → first_cause rows ≡ None → first_cause (rows ++ ys) ≡ first_cause ys
      go [] e = refl
      go (r ∷ rows) e = step (outcome r.holds) (go rows)
        where
          step : Outcome r.holds → (first_cause rows ≡ None → first_cause (rows ++ ys) ≡ first_cause ys) → first_cause ((r ∷ rows) ++ ys) ≡ first_cause ys
          step (holds t) later = let bad : Some r.cause ≡ None = rw t at e in rw t (cc)
          step (fails t) later = rw t (later (rw t at e))

-- ---- a row that holds, and one that does not, in front of others
module _ (r : Row) (rows : List Row) where
  pub row_holds : r.holds ≡ true → first_cause (r ∷ rows) ≡ Some r.cause
  row_holds t = rw t

  pub row_fails : r.holds ≡ false → first_cause (r ∷ rows) ≡ first_cause rows
  row_fails t = rw t

-- ---- what a verdict says
module _ (c : Option Response) where
  pub verdict_refused : (cause : Response) → verdict c ≡ Err cause → c ≡ Some cause
  verdict_refused cause e = go c e
    where
      go : (x : Option Response) → verdict x ≡ Err cause → x ≡ Some cause
      go (Some d) h = cc
      go None h = cc

  pub verdict_passed : verdict c ≡ Ok tt → c ≡ None
  verdict_passed e = go c e
    where
      go : (x : Option Response) → verdict x ≡ Ok tt → x ≡ None
      go (Some d) h = cc
      go None h = refl
