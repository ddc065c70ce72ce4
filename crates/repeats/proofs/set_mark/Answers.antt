-- `set_mark` meets its contract. Assumes nothing.
use Prim.Native.Nat.{◌%◌, ◌^◌}
use native.Mathlib.Nat.{one-mul}
use native.Mathlib.Omega.{arith}
use lib.Pow.{shl_exact}
use Rattle.repeats.specs.Marks.{set_mark}
use Rattle.repeats.proofs.set_mark.Goals as goal

pub returns : goal.returns
unfolding set_mark
returns c = rw (shl_exact {a = 1} 1 (c.args.k % 64) 64 (omega arith) (omega arith), one-mul (2 ^ (c.args.k % 64)))
