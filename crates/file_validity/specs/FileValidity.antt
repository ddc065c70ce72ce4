-- Which files of a kept definition are valid: any value, also one that nobody read from bytes (document 01, 'Files and their definition').
use Rattle.std.specs.Prelude.{ℕ, Bool, ◌&&◌, ◌||◌, leb}
use Rattle.lists.specs.Tests.{within}
use Rattle.lists.specs.Folds.{sound}
use Rattle.definition.specs.Table.{max_number, max_isn_limit, max_fields, max_record_length, max_length, fields_of, named_alike}
use Rattle.records.specs.Records.{record_length}
use Rattle.definition.specs.declared.Name.{Name}
use Rattle.definition.specs.declared.Field.{Field}
use Rattle.definition.specs.declared.File.{File}

abbrev pub capital : ℕ → Bool
capital b = within 65 90 b

abbrev pub digit : ℕ → Bool
digit b = within 48 57 b

-- "name (2 bytes: a capital letter, then a capital or digit, ASCII)"
unfoldable pub name_valid : Name → Bool
name_valid n = capital n.first && (capital n.second || digit n.second)

-- "greatest lengths .. The least is 1."
unfoldable pub field_valid : Field → Bool
field_valid f = name_valid f.name && within 1 (max_length f.format) f.length

-- "A file has 1 to 16 fields, no name twice, at most 512 bytes together (its width)."
unfoldable pub file_valid : File → Bool
file_valid f =
    within 1 max_number f.number &&
    within 1 max_isn_limit f.max_isn &&
    within 1 max_fields f.count &&
    sound field_valid named_alike (fields_of f) &&
    leb (record_length f) max_record_length
