-- One element of a format buffer after the other: what is read, written and allowed from the byte i on is what the element at i says, and what is
-- left of the buffer says of what is left of the values.
-- Assumes nothing.
use Rattle.std.specs.Prelude.{ℕ, ◌+◌, ◌≤◌, ◌<◌, ◌≡◌, refl, ◌&&◌, List, [], ◌++◌, length, drop, Option, Some, None}
use Rattle.std.proofs.Common.{arith, drop-drop}
use Rattle.definition.specs.Table.{field_count}
use Rattle.definition.specs.Shape.{FileShape}
use Rattle.records.specs.Records.{record_length}
use Rattle.records.specs.Laws.{field_within}
use Rattle.values.specs.Laws.{plain_stored}
use Rattle.digits.specs.Laws.{plain_allowed}
use Rattle.elements.specs.Elements.{element, before, places, length_of, length_needed}
use Rattle.elements.proofs.Steps.{places_step, needed_step}
use Rattle.elements.proofs.Laws.{element_inside}
use Rattle.lists.specs.Parts.{length_piece}
use Rattle.fields.specs.Fields.{span_of, span_bytes, span_written, span_allowed, read_out, write_in, allowed_in}
use Rattle.fields.specs.declared.Span.{Span}
use Rattle.definition.specs.declared.File.{File}

-- a field that was found lies within the record
span_inside : (f : File) → FileShape f → (x : Option ℕ) → ((k : ℕ) → x ≡ Some k → k < field_count f) → (span_of f x).start + (span_of f x).length ≤ record_length f
span_inside f s (Some k) h = field_within f s k (h k refl)
span_inside f s None h = omega arith

span_length : (f : File) (x : Option ℕ) → length_of f x ≡ (span_of f x).length
span_length f (Some k) = refl
span_length f None = refl

module _ (f : File) (format : List ℕ) (i : ℕ) where
  -- the span of the element at i
  abbrev pub turn_span : Span
  turn_span = span_of f (element f format i)

  pub turn_inside : FileShape f → turn_span.start + turn_span.length ≤ record_length f
  turn_inside s = span_inside f s (element f format i) (element_inside f format i)

  -- what is read of it is as long as the field
  pub turn_bytes : FileShape f → (content : List ℕ) → record_length f ≤ length content → length (span_bytes turn_span content) ≡ turn_span.length
  turn_bytes s content h = length_piece turn_span.start turn_span.length content (omega (arith, turn_inside s))

  pub needed_turn : length_needed f (drop i format) ≡ turn_span.length + length_needed f (drop (i + 3) format)
  needed_turn = rw (← (span_length f (element f format i))) (needed_step f format i)

  pub read_turn : (content : List ℕ) → read_out f (places f (drop i format)) content ≡ span_bytes turn_span content ++ read_out f (places f (drop (i + 3) format)) content
  read_turn content = rw (places_step f format i) (go (element f format i))
    where
      go : (x : Option ℕ) → read_out f (before x (places f (drop (i + 3) format))) content ≡ span_bytes (span_of f x) content ++ read_out f (places f (drop (i + 3) format)) content
      go (Some k) = refl
      go None = refl

  module _ (values : List ℕ) (at : ℕ) where
    pub write_turn : (content : List ℕ) → write_in f (places f (drop i format)) (drop at values) content ≡ write_in f (places f (drop (i + 3) format)) (drop (at + turn_span.length) values) (span_written turn_span (drop at values) content)
    write_turn content = rw (places_step f format i, ← (drop-drop turn_span.length at values)) (go (element f format i))
      where
        go : (x : Option ℕ) → write_in f (before x (places f (drop (i + 3) format))) (drop at values) content ≡ write_in f (places f (drop (i + 3) format)) (drop (span_of f x).length (drop at values)) (span_written (span_of f x) (drop at values) content)
        go (Some k) = refl
        go None = rw (plain_stored [])

    pub allowed_turn : allowed_in f (places f (drop i format)) (drop at values) ≡ (span_allowed turn_span (drop at values) && allowed_in f (places f (drop (i + 3) format)) (drop (at + turn_span.length) values))
    allowed_turn = rw (places_step f format i, ← (drop-drop turn_span.length at values)) (go (element f format i))
      where
        go : (x : Option ℕ) → allowed_in f (before x (places f (drop (i + 3) format))) (drop at values) ≡ (span_allowed (span_of f x) (drop at values) && allowed_in f (places f (drop (i + 3) format)) (drop (span_of f x).length (drop at values)))
        go (Some k) = refl
        go None = rw (plain_allowed [])
