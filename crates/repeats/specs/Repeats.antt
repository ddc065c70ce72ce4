-- A file and ISN in two entries (document 01, 'Well made': "no file and ISN in two").
use Rattle.std.specs.Prelude.{Bool, not, List}
use Rattle.lists.specs.Folds.{distinct}
use Rattle.entries.specs.Entries.{is_of}
use Rattle.entries.specs.declared.Entry.{Entry}

abbrev pub alike : Entry → Entry → Bool
alike e f = is_of f.file f.isn e

unfoldable pub repeated : List Entry → Bool
repeated es = not (distinct alike es)
