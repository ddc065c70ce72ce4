-- Which kept definitions are valid: any value, also one that nobody read from bytes (document 01, 'Files and their definition').
use Rattle.std.specs.Prelude.{Bool, ◌&&◌}
use Rattle.lists.specs.Tests.{within}
use Rattle.lists.specs.Folds.{sound}
use Rattle.definition.specs.Table.{max_files, files_of, numbered_alike}
use Rattle.definition.specs.declared.Definition.{Definition}
use Rattle.file_validity.specs.FileValidity.{file_valid}

-- "A table has a file or more, no file number twice."
unfoldable pub valid : Definition → Bool
valid d = within 1 max_files d.count && sound file_valid numbered_alike (files_of d)
