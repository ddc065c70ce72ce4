-- A text as the list of its characters' numbers, so that bytes can be written as a person reads them.
-- Assumes nothing.
use Rattle.std.specs.Prelude.{ℕ}
use Prim.Native.Char.{code}
use Prim.Native.String.{String, [], ◌∷◌}
use mathlib.Core.List as list

abbrev pub text : String → list.List ℕ
text [] = list.[]
text (c ∷ s) = list.◌∷◌ (code c) (text s)
