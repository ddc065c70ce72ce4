-- `fields_valid` meets its contract. The loop's invariant: the fields passed are sound, their names are kept as numbers, and their lengths are
-- added up.
-- Assumes nothing.
use Rattle.std.proofs.Common.{ℕ, ◌+◌, ◌≤◌, ◌<◌, ◌≡◌, sym, ap, ◌∙◌, true, arith, add-one, eqb, length, take, set, length-set, length-take, get_or, get_or-take, take_all}
use Rattle.lists.specs.Folds.{Each, each_at, each_take, sound}
use Rattle.lists.specs.Every.{each_with}
use Rattle.lists.specs.Rows.{row_next}
use Rattle.definition.specs.Table.{no_field, field_at, field_count, fields_of, named_alike}
use Rattle.definition.specs.Shape.{FieldShape, FileShape}
use Rattle.definition.specs.declared.File.{File}
use Rattle.records.specs.Records.{field_length, record_length}
use Rattle.records.specs.Laws.{record_length_is}
use Rattle.records.specs.Bounds.{field_length_most}
use Rattle.file_validity.specs.FileValidity.{field_valid}
use Rattle.file_validity.specs.Keys.{same_number, sound_so_far, alike_here, alike_by_key, kept_more}
use Rattle.definition.proofs.Known.{file_known}
use Rattle.file_validity.proofs.fields_valid.Invariants.{number}
use Rattle.file_validity.proofs.fields_valid.Goals as goal

-- of fields of bytes, those are named alike whose numbers are the same
agree : (f : File) → FileShape f → (i : ℕ) → i < field_count f → Each (λ x. eqb (number (field_at f i)) (number x) ≡ named_alike x (field_at f i)) (take i (fields_of f))
agree f s i h =
    let y = field_at f i in
    let m : FieldShape y = each_at FieldShape f.fields no_field s.each_field i (omega (arith, s.places)) in
    each_with FieldShape (λ x. eqb (number y) (number x) ≡ named_alike x y)
    (λ x k. same_number x.name y.name k.name_first k.name_second m.name_first m.name_second)
    (take i (fields_of f))
    (each_take FieldShape i (fields_of f) (each_take FieldShape (field_count f) f.fields s.each_field))

-- the field that the loop is at
here : (f : File) (n i : ℕ) → i < length (take n f.fields) → get_or (take n f.fields) i no_field ≡ field_at f i
here f n i h = get_or-take n f.fields i no_field (omega (arith, length-take n f.fields))

pub returns-then-among : goal.returns-then-among
returns-then-among c =
    let f = c.args.f in
    let s : FileShape f = file_known _ _ c.well_formed.0 in
    let more : c.loop-i.i < field_count f = omega (arith, length-take (field_count f) f.fields) in
    let fits : field_count f ≤ length f.fields = omega (arith, s.places) in
    let name = c.name_number-name.ensures ∙ ap number (here f c.field_count-n.result c.loop-i.i c.loop-i-test.true) in
    let found = rw name at (sym c.among.ensures ∙ c.if-among.true) in
    let key = alike_by_key field_valid named_alike (field_count f) f.fields no_field fits c.loop-i.i more number c.loop-i.names c.loop-i.invariant.3 (agree f s c.loop-i.i more) in
    rw (alike_here field_valid named_alike (field_count f) f.fields no_field fits c.loop-i.i more (sym key ∙ found))

pub overflow_add-length : goal.overflow_add-length
overflow_add-length c =
    let f = c.args.f in
    omega (arith, field_length_most f (file_known _ _ c.well_formed.0) c.loop-i.i, ap field_length (here f c.field_count-n.result c.loop-i.i c.loop-i-test.true))

pub loop-i-preserved : goal.loop-i-preserved
loop-i-preserved c =
    let f = c.args.f in
    let s : FileShape f = file_known _ _ c.well_formed.0 in
    let more : c.loop-i.i < field_count f = omega (arith, length-take (field_count f) f.fields) in
    let fits : field_count f ≤ length f.fields = omega (arith, s.places) in
    let at = here f c.field_count-n.result c.loop-i.i c.loop-i-test.true in
    let name = c.name_number-name.ensures ∙ ap number at in
    let yes = sym (c.field_valid.ensures ∙ ap field_valid at) ∙ c.if-not-field_valid.false in
    let none = rw name at (sym c.among.ensures ∙ c.if-among.false) in
    let key = alike_by_key field_valid named_alike (field_count f) f.fields no_field fits c.loop-i.i more number c.loop-i.names c.loop-i.invariant.3 (agree f s c.loop-i.i more) in
    let sum = row_next field_length (field_count f) f.fields no_field fits c.loop-i.i more in (
      length-set c.loop-i.names c.loop-i.i _ ∙ c.loop-i.invariant.0,
      omega (arith, field_length_most f s c.loop-i.i, ap field_length at),
      rw (add-one c.loop-i.i) (omega (arith, sum, ap field_length at)),
      ap (λ k. take (c.loop-i.i + 1) (set c.loop-i.names c.loop-i.i k)) name ∙ kept_more field_valid named_alike (field_count f) f.fields no_field fits c.loop-i.i more number c.loop-i.names c.loop-i.invariant.3 (omega arith),
      sound_so_far field_valid named_alike (field_count f) f.fields no_field fits c.loop-i.i more c.loop-i.invariant.4 yes (sym key ∙ none),
    )

pub returns : goal.returns
returns c =
    let f = c.args.f in
    let all : take c.loop-i.i (fields_of f) ≡ fields_of f = take_all c.loop-i.i (fields_of f) (omega (arith, length-take (field_count f) f.fields, length-take c.field_count-n.result f.fields)) in
    let whole : c.loop-i.length ≡ record_length f = rw all at c.loop-i.invariant.2 ∙ sym (record_length_is f) in
    let yes : sound field_valid named_alike (fields_of f) ≡ true = rw all at c.loop-i.invariant.4 in
    rw (whole, yes)
