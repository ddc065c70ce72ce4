-- What a caller knows of an amended part.
-- Assumes nothing.
use Rattle.std.specs.Prelude.{ℕ, ◌≡◌, true, false, List}
use Rattle.std.proofs.Math.Path.{refl}
use Rattle.lists.specs.Tests.{cond}
use Rattle.definition.specs.declared.File.{File}
use Rattle.store.specs.Store.{has_record, record_of, put_record}
use Rattle.fields.specs.Fields.{write_fields}
use Rattle.amendment.specs.Amendment.{amended}

module _ (f : File) (part : List ℕ) (isn : ℕ) (format values : List ℕ) where
  pub amended_is : amended f part isn format values ≡ cond (has_record f part isn) (put_record f part isn (write_fields f format values (record_of f part isn))) part
  unfolding amended
  amended_is = refl

  pub amended_record : has_record f part isn ≡ true → amended f part isn format values ≡ put_record f part isn (write_fields f format values (record_of f part isn))
  unfolding amended
  amended_record h = rw h

  pub amended_none : has_record f part isn ≡ false → amended f part isn format values ≡ part
  unfolding amended
  amended_none h = rw h
