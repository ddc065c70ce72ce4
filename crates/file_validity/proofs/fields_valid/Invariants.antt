-- `fields_valid` meets its contract. The loop's invariant: the fields passed are sound, their names are kept as numbers, and their lengths are
-- added up.
-- Assumes nothing.
use Prim.Native.Nat.{ℕ, ◌*◌, ◌≤◌}
use mathlib.Core.Path.{◌≡◌}
use mathlib.Core.Bool.{true}
use mathlib.Core.List.{map}
use lib.ListN.{length, take}
use Rattle.lists.specs.Folds.{total, sound}
use Rattle.definition.specs.Table.{fields_of, named_alike}
use Rattle.definition.specs.declared.Field.{Field}
use Rattle.records.specs.Records.{field_length}
use Rattle.file_validity.specs.FileValidity.{field_valid}
use Rattle.file_validity.specs.Keys.{name_number}
use Rattle.file_validity.proofs.fields_valid.Given as goal

abbrev pub number : Field → ℕ
number g = name_number g.name

abbrev pub invariant-loop-i : goal.invariant-loop-i
invariant-loop-i l = (length l.names ≡ 16) × (l.length ≤ 255 * l.i) × (l.length ≡ total field_length (take l.i (fields_of l.fn.f))) × (take l.i l.names ≡ map number (take l.i (fields_of l.fn.f))) × (sound field_valid named_alike (take l.i (fields_of l.fn.f)) ≡ true)
