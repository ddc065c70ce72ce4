-- `put_nulls` meets its contract. The loop's invariant: the nulls of the fields that are left, stored from here on, make the whole.
-- Assumes nothing.
use mathlib.Core.Path.{◌≡◌}
use lib.ListN.{length, drop}
use lib.Seq.{sets}
use Rattle.definition.specs.Table.{fields_of}
use Rattle.records.specs.Records.{field_offset}
use Rattle.nulls.specs.Nulls.{nulls}
use Rattle.nulls.proofs.put_nulls.Given as goal

abbrev pub invariant-loop-k : goal.invariant-loop-k
invariant-loop-k l = (length l.content ≡ length l.initial.content) × (sets l.content (field_offset l.f l.k) (nulls (drop l.k (fields_of l.f))) ≡ sets l.initial.content 0 (nulls (fields_of l.f)))
