-- The record of an ISN with the named fields replaced (document 01, 'Hold, change, end').
use Rattle.std.specs.Prelude.{ℕ, List}
use Rattle.lists.specs.Tests.{cond}
use Rattle.definition.specs.declared.File.{File}
use Rattle.store.specs.Store.{has_record, record_of, put_record}
use Rattle.fields.specs.Fields.{write_fields}

-- "A1 replaces the named fields": in a file's part of the store, of an ISN that has a record
unfoldable pub amended : File → List ℕ → ℕ → List ℕ → List ℕ → List ℕ
amended f part isn format values = cond (has_record f part isn) (put_record f part isn (write_fields f format values (record_of f part isn))) part
