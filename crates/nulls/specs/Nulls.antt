-- A record of null values (document 01: "Unnamed fields are null").
use Rattle.std.specs.Prelude.{ℕ, List, [], ◌∷◌, ◌++◌, leb, length}
use Rattle.std.proofs.lemmas.List.Edits.{sets}
use Rattle.lists.specs.Tests.{cond}
use Rattle.definition.specs.Table.{fields_of}
use Rattle.records.specs.Records.{record_length}
use Rattle.values.specs.Values.{null_value}
use Rattle.definition.specs.declared.Field.{Field}
use Rattle.definition.specs.declared.File.{File}

abbrev pub nulls : List Field → List ℕ
nulls [] = []
nulls (g ∷ gs) = null_value g.format g.length ++ nulls gs

unfoldable pub null_record : File → List ℕ → List ℕ
null_record f content = cond (leb (record_length f) (length content)) (sets content 0 (nulls (fields_of f))) content
