-- `image_length` meets its contract. The loop's invariant: the greater of what was found and of what is left is the maximum.
-- Assumes nothing.
use Prim.Native.Nat.{max}
use mathlib.Core.Path.{◌≡◌}
use lib.ListN.{take, drop}
use Rattle.lists.specs.Folds.{maximum}
use Rattle.records.specs.Records.{record_length}
use Rattle.layout.proofs.image_length.Given as goal

abbrev pub invariant-loop-file : goal.invariant-loop-file
invariant-loop-file l = max l.most (maximum record_length (drop l.file-index (take l.n l.fn.d.files))) ≡ maximum record_length (take l.n l.fn.d.files)
