-- A copy where both are of one length.
-- Assumes nothing.
use Rattle.std.specs.Prelude.{◌≡◌, List, ℕ, length}
use Rattle.std.proofs.Common.{arith}
use Rattle.lists.specs.Rest.{write_all}
use Rattle.slices.specs.Slices.{copied}

pub copied_whole : (from to : List ℕ) → length from ≡ length to → copied from to ≡ from
unfolding copied
copied_whole from to e = rw (← e) (write_all from to (length from) (omega arith) (omega arith))
