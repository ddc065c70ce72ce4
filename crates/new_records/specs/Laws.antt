-- A place that has room for a file's record gets the whole new record.
-- Assumes nothing.
use Rattle.std.specs.Prelude.{ℕ, ◌+◌, ◌≤◌, ◌≡◌, List, take, drop}
use native.Mathlib.Omega.{arith}
use Rattle.std.proofs.Common.{◌∙◌, take_at}
use Rattle.std.proofs.Math.ListN.{length, length-take}
use Rattle.std.proofs.Math.Seq.{take-length}
use Rattle.definition.specs.declared.File.{File}
use Rattle.records.specs.Records.{record_length, slot_offset}
use Rattle.fields.specs.Fields.{write_fields}
use Rattle.fields.specs.Laws.{write_fields_length}
use Rattle.nulls.specs.Nulls.{null_record}
use Rattle.nulls.specs.Laws.{null_record_length}
use Rattle.store.specs.Store.{record_of}
use Rattle.shares.specs.Chains.{added}
use Rattle.new_records.specs.NewRecords.{new_length, with_new}

module _ (f : File) (part : List ℕ) (isn : ℕ) where
  pub new_length_most : (room : ℕ) → new_length f part isn room ≤ room
  unfolding new_length
  new_length_most room = omega arith

  pub new_is_added : (format buffer scratch made : List ℕ) (n : ℕ)
      → n ≡ new_length f part isn (length scratch)
      → made ≡ with_new f part format buffer isn scratch
      → record_length f ≤ length scratch
      → take n made ≡ added f part format buffer isn
  unfolding new_length with_new added
  new_is_added format buffer scratch made n e d h =
      let old = record_of f part isn in
      let short = length-take (record_length f) (drop (slot_offset f isn + 1) part) in
      let whole : new_length f part isn (length scratch) ≡ length old = omega (arith, short) in
      rw (e, d, whole, take-length old)
      (take_at (write_fields f format buffer (null_record f old)) (drop (length old) scratch) (length old)
      (write_fields_length f format buffer (null_record f old) ∙ null_record_length f old))
