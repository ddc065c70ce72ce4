-- What lies at the front of a list.
-- Assumes nothing.
use Rattle.std.specs.Prelude.{ℕ, ◌≤◌, List, length}
use Rattle.std.proofs.Common.{sym, length-take-le}
use Rattle.lines.specs.Lines.{Within}

pub at_front : (n : ℕ) (l : List ℕ) → n ≤ length l → Within n l
at_front n l h = (h, sym (length-take-le n l h))
