-- Whoever owns a field, a file or a definition knows its shape. In a proof: `file_known _ _ c.good.0` at a function's first parameter.
-- Assumes nothing.
use mathlib.Core.List.{List, [], ◌∷◌}
use mir.Val.{Val}
use denote.Laws.{Is}
use denote.Shadow.{shadow}
use denote.Array.{each}
use denote.RattleType.{RattleType}
use denote.Struct.Laws as Struct
use Rattle.lists.specs.Folds.{Each}
use Rattle.definition.specs.Shape.{FieldShape, FileShape, DefinitionShape}
use Rattle.definition.specs.declared.Field.{Field}
use Rattle.definition.specs.declared.File.{File}
use Rattle.definition.specs.declared.Definition.{Definition}
use Rattle.definition.specs.contracts.Name as Name'
use Rattle.definition.proofs.Name.TheLaws as Name_laws
use Rattle.definition.specs.contracts.Field as Field'
use Rattle.definition.proofs.Field.TheLaws as Field_laws
use Rattle.definition.specs.contracts.File as File'
use Rattle.definition.proofs.File.TheLaws as File_laws
use Rattle.definition.specs.contracts.Definition as Definition'
use Rattle.definition.proofs.Definition.TheLaws as Definition_laws

-- an array's owner knows its length, and of each element what the element's owner would
each_known : (R : RattleType) (P : R.Denot → Type 0) → ((x : R.Denot) (vs : List Val) → Is R x vs → P x) → (xs : List R.Denot) (us : List Val) → shadow (each R.Denot R.own_val xs us) → Each P xs
each_known R P h [] us s = tt
each_known R P h (x ∷ xs) [] s = absurd s
each_known R P h (x ∷ xs) (u ∷ us) s = (h x (u ∷ []) s.0, each_known R P h xs us s.1)

pub field_known : (f : Field) (vs : List Val) → Is Field'.the_row f vs → FieldShape f
field_known f vs is =
    let k = Struct.owed Field'.the_type Field_laws.the_laws f vs is in
    let n = Struct.owed Name'.the_type Name_laws.the_laws f.name _ k.0 in
    record { name_first = n.0.1; name_second = n.1.0.1; small_length = k.1.0.1 }

pub file_known : (f : File) (vs : List Val) → Is File'.the_row f vs → FileShape f
file_known f vs is =
    let k = Struct.owed File'.the_type File_laws.the_laws f vs is in
    record {
      small_number = k.0.1;
      small_max_isn = k.1.0.1;
      small_count = k.1.1.0.1;
      places = k.1.1.1.0.1.0.1;
      each_field = each_known Field'.the_row FieldShape field_known f.fields _ k.1.1.1.0.1.1;
    }

pub definition_known : (d : Definition) (vs : List Val) → Is Definition'.the_row d vs → DefinitionShape d
definition_known d vs is =
    let k = Struct.owed Definition'.the_type Definition_laws.the_laws d vs is in
    record {
      small_count = k.0.1;
      places = k.1.0.1.0.1;
      each_file = each_known File'.the_row FileShape file_known d.files _ k.1.0.1.1;
    }
