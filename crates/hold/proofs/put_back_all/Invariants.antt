-- `put_back_all` meets its contract. The loop's invariant: what is left to put back makes the same store.
-- Assumes nothing.
use Prim.Native.Nat.{◌*◌}
use mathlib.Core.Path.{◌≡◌}
use lib.ListN.{length, drop}
use Rattle.entries.specs.Entries.{entries}
use Rattle.hold.specs.Hold.{restored}
use Rattle.hold.proofs.put_back_all.Given as goal

abbrev pub invariant-loop-i : goal.invariant-loop-i
invariant-loop-i l = (length l.store ≡ length l.initial.store) × (restored l.d l.width l.user (drop l.i (entries l.queue l.count)) (drop (l.i * l.width) l.images) l.store ≡ restored l.d l.width l.user (entries l.queue l.count) l.images l.initial.store)
