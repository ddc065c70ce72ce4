-- Worked examples: what format and option bytes mean. Assumes nothing.
use Rattle.std.specs.Prelude.{◌≡◌, refl, [], ◌∷◌, map, Some, None}
use Rattle.items.specs.Items.{format_of, option_of}
use Rattle.definition.specs.declared.Format.TheVariants.{Alphanumeric, Binary, Unpacked, Packed}
use Rattle.definition.specs.declared.FieldOption.TheVariants.{Plain, Descriptor, Unique}

formats : map format_of (65 ∷ 66 ∷ 85 ∷ 80 ∷ 67 ∷ 97 ∷ []) ≡ Some Alphanumeric ∷ Some Binary ∷ Some Unpacked ∷ Some Packed ∷ None ∷ None ∷ []
unfolding format_of
formats = refl

options : map option_of (32 ∷ 68 ∷ 85 ∷ 0 ∷ 100 ∷ []) ≡ Some Plain ∷ Some Descriptor ∷ Some Unique ∷ None ∷ None ∷ []
unfolding option_of
options = refl
