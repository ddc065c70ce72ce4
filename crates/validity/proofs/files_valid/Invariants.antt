-- `files_valid` meets its contract, as `fields_valid` does.
-- Assumes nothing.
use Prim.Native.Nat.{ℕ}
use mathlib.Core.Path.{◌≡◌}
use mathlib.Core.Bool.{true}
use mathlib.Core.List.{map}
use lib.ListN.{length, take}
use Rattle.lists.specs.Folds.{sound}
use Rattle.definition.specs.Table.{files_of, numbered_alike}
use Rattle.definition.specs.declared.File.{File}
use Rattle.file_validity.specs.FileValidity.{file_valid}
use Rattle.validity.proofs.files_valid.Given as goal

abbrev pub number : File → ℕ
number f = f.number

abbrev pub invariant-loop-i : goal.invariant-loop-i
invariant-loop-i l = (length l.numbers ≡ 16) × (take l.i l.numbers ≡ map number (take l.i (files_of l.fn.d))) × (sound file_valid numbered_alike (take l.i (files_of l.fn.d)) ≡ true)
