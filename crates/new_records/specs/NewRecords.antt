-- The record to be added at an ISN, made at the front of a lent place over what lies in the ISN's slot.
use Rattle.std.specs.Prelude.{ℕ, min, List, ◌++◌, length, take, drop}
use Rattle.definition.specs.declared.File.{File}
use Rattle.fields.specs.Fields.{write_fields}
use Rattle.nulls.specs.Nulls.{null_record}
use Rattle.store.specs.Store.{record_of}

module _ (f : File) (part : List ℕ) where
  -- as many bytes as the slot has behind its first, and the place has room for
  unfoldable pub new_length : ℕ → ℕ → ℕ
  new_length isn room = min (length (record_of f part isn)) room

  -- the place with a record of that length at its front, null but for the named fields
  unfoldable pub with_new : List ℕ → List ℕ → ℕ → List ℕ → List ℕ
  with_new format buffer isn scratch =
      write_fields f format buffer (null_record f (take (new_length isn (length scratch)) (record_of f part isn)))
      ++ drop (new_length isn (length scratch)) scratch
