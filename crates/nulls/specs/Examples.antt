-- Worked example: what lies past the record stays, and a part that is too short stays as it is. Assumes nothing.
use Rattle.std.specs.Prelude.{◌≡◌, refl, [], ◌∷◌, map}
use Rattle.records.specs.Records.{record_length}
use Rattle.values.specs.Values.{null_value}
use Rattle.nulls.specs.Nulls.{null_record}
use Rattle.fields.specs.Examples.{aa, ab, ac, three, nulled}

nulls_right : map (null_record three) ((1 ∷ 2 ∷ 3 ∷ 4 ∷ 5 ∷ []) ∷ (1 ∷ 2 ∷ 3 ∷ 4 ∷ 5 ∷ 6 ∷ []) ∷ (1 ∷ 2 ∷ 3 ∷ 4 ∷ []) ∷ []) ≡ nulled ∷ (0x20 ∷ 0x20 ∷ 0x00 ∷ 0x0F ∷ 0x30 ∷ 6 ∷ []) ∷ (1 ∷ 2 ∷ 3 ∷ 4 ∷ []) ∷ []
unfolding aa ab ac three nulled null_value record_length null_record
nulls_right = refl
