-- `files_valid` meets its contract, as `fields_valid` does.
-- Assumes nothing.
use Rattle.std.proofs.Common.{ℕ, ◌+◌, set, ◌≤◌, ◌<◌, ◌≡◌, sym, ap, ◌∙◌, arith, eqb, length, take, get_or, get_or-take, length-set, length-take, take_all}
use Rattle.lists.specs.Tests.{eqb_comm}
use Rattle.lists.specs.Folds.{Each, each_index}
use Rattle.definition.specs.Table.{beyond, file_at, file_count, files_of, numbered_alike}
use Rattle.definition.specs.Shape.{DefinitionShape}
use Rattle.definition.specs.declared.Definition.{Definition}
use Rattle.file_validity.specs.FileValidity.{file_valid}
use Rattle.file_validity.specs.Keys.{sound_so_far, unsound_here, alike_here, alike_by_key, kept_more}
use Rattle.definition.proofs.Known.{definition_known}
use Rattle.validity.proofs.files_valid.Invariants.{number}
use Rattle.validity.proofs.files_valid.Goals as goal

agree : (d : Definition) (i : ℕ) → Each (λ x. eqb (number (file_at d i)) (number x) ≡ numbered_alike x (file_at d i)) (take i (files_of d))
agree d i =
    each_index (λ x. eqb (number (file_at d i)) (number x) ≡ numbered_alike x (file_at d i)) beyond (take i (files_of d))
    (λ k h. eqb_comm (number (file_at d i)) (number (get_or (take i (files_of d)) k beyond)))

-- the file that the loop is at
here : (d : Definition) (n i : ℕ) → i < length (take n d.files) → get_or (take n d.files) i beyond ≡ file_at d i
here d n i h = get_or-take n d.files i beyond (omega (arith, length-take n d.files))

pub returns-then-not-file_valid : goal.returns-then-not-file_valid
returns-then-not-file_valid c =
    let d = c.args.d in
    let s : DefinitionShape d = definition_known _ _ c.well_formed.0 in
    let more : c.loop-i.i < file_count d = omega (arith, length-take (file_count d) d.files) in
    let fits : file_count d ≤ length d.files = omega (arith, s.places) in
    let no = sym (c.file_valid.ensures ∙ ap file_valid (here d c.file_count-n.result c.loop-i.i c.loop-i-test.true)) ∙ c.if-not-file_valid.true in
    rw (unsound_here file_valid numbered_alike (file_count d) d.files beyond fits c.loop-i.i more no)

pub returns-then-among : goal.returns-then-among
returns-then-among c =
    let d = c.args.d in
    let s : DefinitionShape d = definition_known _ _ c.well_formed.0 in
    let more : c.loop-i.i < file_count d = omega (arith, length-take (file_count d) d.files) in
    let fits : file_count d ≤ length d.files = omega (arith, s.places) in
    let key = alike_by_key file_valid numbered_alike (file_count d) d.files beyond fits c.loop-i.i more number c.loop-i.numbers c.loop-i.invariant.1 (agree d c.loop-i.i) in
    let name = c.from-number.ensures ∙ ap number (here d c.file_count-n.result c.loop-i.i c.loop-i-test.true) in
    let found = rw name at (sym c.among.ensures ∙ c.if-among.true) in
    rw (alike_here file_valid numbered_alike (file_count d) d.files beyond fits c.loop-i.i more (sym key ∙ found))

pub loop-i-preserved : goal.loop-i-preserved
loop-i-preserved c =
    let d = c.args.d in
    let s : DefinitionShape d = definition_known _ _ c.well_formed.0 in
    let more : c.loop-i.i < file_count d = omega (arith, length-take (file_count d) d.files) in
    let fits : file_count d ≤ length d.files = omega (arith, s.places) in
    let at = here d c.file_count-n.result c.loop-i.i c.loop-i-test.true in
    let key = alike_by_key file_valid numbered_alike (file_count d) d.files beyond fits c.loop-i.i more number c.loop-i.numbers c.loop-i.invariant.1 (agree d c.loop-i.i) in
    let yes = sym (c.file_valid.ensures ∙ ap file_valid at) ∙ c.if-not-file_valid.false in
    let name = c.from-number.ensures ∙ ap number at in
    let none = rw name at (sym c.among.ensures ∙ c.if-among.false) in (
      length-set c.loop-i.numbers c.loop-i.i _ ∙ c.loop-i.invariant.0,
      ap (λ k. take (c.loop-i.i + 1) (set c.loop-i.numbers c.loop-i.i k)) name ∙ kept_more file_valid numbered_alike (file_count d) d.files beyond fits c.loop-i.i more number c.loop-i.numbers c.loop-i.invariant.1 (omega arith),
      sound_so_far file_valid numbered_alike (file_count d) d.files beyond fits c.loop-i.i more c.loop-i.invariant.2 yes (sym key ∙ none),
    )

pub returns : goal.returns
returns c =
    let d = c.args.d in
    let all : take c.loop-i.i (files_of d) ≡ files_of d = take_all c.loop-i.i (files_of d) (omega (arith, length-take (file_count d) d.files, length-take c.file_count-n.result d.files)) in
    sym (rw all at c.loop-i.invariant.2)
