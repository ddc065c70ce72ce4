-- `file_starts` meets its contract. The loop's invariant: the sum is where the next file begins, and every file before it has its start.
-- Assumes nothing.
use Prim.Native.Nat.{ℕ, ◌*◌, ◌≤◌}
use mathlib.Core.Path.{◌≡◌}
use lib.ListN.{length, get_or}
use Rattle.layout.specs.Layout.{file_offset}
use Rattle.hold.proofs.file_starts.Given as goal

abbrev pub invariant-loop-i : goal.invariant-loop-i
invariant-loop-i l = (length l.starts ≡ 17) × (l.sum ≤ 267448335 * l.i) × (l.sum ≡ file_offset l.d l.i) × ((k : ℕ) → k ≤ l.i → get_or l.starts k 0 ≡ file_offset l.d k)
