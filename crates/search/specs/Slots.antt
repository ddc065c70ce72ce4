-- `elsewhere`, read off a row of slots: the field's bytes lie within the slot.
-- Assumes nothing.
use Rattle.std.specs.Prelude.{ℕ, ◌+◌, ◌-◌, ◌*◌, ◌≤◌, ◌<◌, ◌≡◌, not, ◌&&◌, List, eqb}
use Rattle.std.proofs.Common.{arith, sym, ap, ◌∙◌, lt-ltb}
use Rattle.std.proofs.Math.Bool.{false}
use Rattle.std.proofs.Math.ListN.{length}
use Rattle.lists.specs.Tests.{within_inside, Outcome, holds, fails, outcome, and-false, eqbs, eqbs_true}
use Rattle.lists.specs.Folds.{any, any_agree, any_none}
use Rattle.definition.specs.Table.{field_at, field_count}
use Rattle.definition.specs.Shape.{FileShape}
use Rattle.definition.specs.declared.File.{File}
use Rattle.records.specs.Records.{field_length, field_offset, record_length, slot_length, slot_offset}
use Rattle.records.specs.Laws.{field_within}
use Rattle.lists.specs.Parts.{length_piece}
use Rattle.lists.specs.Pieces.{piece_piece}
use Rattle.store.specs.Store.{slot_count, isns_from, has_record, record_of, field_value}
use Rattle.search.specs.Search.{has_field, held, has_value, elsewhere}
use Rattle.store.specs.Slots.{has_record_is, slot_inside}
use Rattle.store.proofs.Laws.{has_fits}

-- a test of a slot that is one of the row, at its place
pub held_here : (last size : ℕ) (part : List ℕ) (isn at : ℕ) → 1 ≤ isn → isn ≤ last → at ≡ (isn - 1) * size → (other offset : ℕ) (value : List ℕ) → held last size part other offset value isn ≡ (not (eqb isn other) && has_field part at offset value)
held_here last size part isn at least most place other offset value = rw (within_inside 1 last isn least most, place)

module _ (f : File) (s : FileShape f) (part : List ℕ) (k isn : ℕ) (value : List ℕ) (in_use : k < field_count f) where
  pub elsewhere_row : length value ≡ field_length (field_at f k)
      → any (held (slot_count f (length part)) (slot_length f) part isn (field_offset f k) value) (isns_from f part 1) ≡ elsewhere f part k isn value
  unfolding elsewhere
  elsewhere_row e = rw (lt-ltb k (field_count f) in_use) (any_agree _ (has_value f part k isn value) agree (isns_from f part 1))
    where
      agree : (other : ℕ) → held (slot_count f (length part)) (slot_length f) part isn (field_offset f k) value other ≡ has_value f part k isn value other
      agree other = rw (e, has_record_is f part, piece_piece (field_offset f k) (field_length (field_at f k)) (slot_offset f other + 1) (record_length f) part (field_within f s k in_use))

  -- no record has a value of another length there
  pub elsewhere_misfit : (length value ≡ field_length (field_at f k) → ⊥) → elsewhere f part k isn value ≡ false
  unfolding elsewhere
  elsewhere_misfit other = rw (lt-ltb k (field_count f) in_use) (any_none (has_value f part k isn value) none (isns_from f part 1))
    where
      none : (m : ℕ) → has_value f part k isn value m ≡ false
      none m = go (outcome (has_record f part m)) (outcome (eqbs (field_value f k (record_of f part m)) value))
        where
          go : Outcome (has_record f part m) → Outcome (eqbs (field_value f k (record_of f part m)) value) → has_value f part k isn value m ≡ false
          go (fails a) b = rw a (and-false (not (eqb m isn)))
          go (holds a) (fails b) = rw (a, b) (and-false (not (eqb m isn)))
          go (holds a) (holds b) =
              let room = slot_inside f part m (has_fits f part m a) in
              let whole : length (record_of f part m) ≡ record_length f = length_piece (slot_offset f m + 1) (record_length f) part (omega arith) in
              let long = length_piece (field_offset f k) (field_length (field_at f k)) (record_of f part m) (omega (arith, field_within f s k in_use)) in
              absurd (other (sym (ap length (eqbs_true (field_value f k (record_of f part m)) value b)) ∙ long))
