-- `place_found` meets its contract: the file's part of the store lies where `file_part` has it. Assumes nothing.
use Rattle.std.specs.Prelude.{Some}
use Prim.Native.Nat.{ℕ, ◌+◌, ◌-◌, ◌*◌, ◌≤◌}
use native.Mathlib.Omega.{arith}
use borrow.Author.Rules.{rules}
use mathlib.Core.Path.{◌≡◌, sym, ap, ◌∙◌}
use mathlib.Core.Bool.{true}
use mathlib.Core.List.{List}
use lib.ListN.{take, drop, length-take}
use Rattle.lists.specs.Tests.{within}
use Rattle.definition.specs.Table.{file_at, file_or_none}
use Rattle.definition.specs.Shape.{DefinitionShape, file_or_none_at}
use Rattle.definition.specs.declared.Definition.{Definition}
use Rattle.definition.specs.declared.File.{File}
use Rattle.definition.proofs.Known.{definition_known}
use Rattle.records.specs.Records.{file_size}
use Rattle.layout.specs.Layout.{file_offset, store_size, image_length, place}
use Rattle.store.specs.Files.{file_part_is}
use Rattle.entries.specs.Entries.{entries}
use Rattle.committed.specs.Committed.{committed_version, version_place}
use Rattle.committed.specs.declared.Version.{Version}
use Rattle.committed.specs.declared.Place.{Place}
use Rattle.usability.specs.Parts.{store_size_bounded, found_inside, part_ends}
use Rattle.committed_places.specs.Places.{place_found}
use Rattle.committed_places.proofs.place_found.Goals as goal
use Rattle.committed_places.proofs.place_found.Goals.{In-Some, After-contains}

-- an ISN that is one of the file's
module _ (d : Definition) (count number isn : ℕ) (store queue images : List ℕ) (i : ℕ) where
  handed : (f : File) (width start size : ℕ) (version : Version) → f ≡ file_at d i → width ≡ image_length d → start ≡ file_offset d i → size ≡ file_size (file_at d i)
      → version ≡ committed_version (entries queue count) number isn → within 1 (file_at d i).max_isn isn ≡ true
      → (p : Place) → p ≡ version_place f start (take size (drop start store)) images width version isn → p ≡ place_found d count number isn store queue images (Some i)
  unfolding place_found
  handed f width start size version same_file same_width_lem same_start same_size same_version inside p e =
      e ∙ rw (inside, file_part_is d i store, same_file, same_width_lem, same_start, same_size, same_version)

shape : (c : In-Some) → DefinitionShape c.args.d
shape c = definition_known _ _ c.well_formed.0

there : (c : In-Some) → place c.args.d c.args.file ≡ Some c.in-Some.i
there c = sym c.place.ensures ∙ c.in-Some.is

-- the file that is handed on
file_is : (c : In-Some) (f : File) → f ≡ file_or_none c.args.d c.in-Some.i → f ≡ file_at c.args.d c.in-Some.i
file_is c f e = e ∙ file_or_none_at c.args.d c.in-Some.i (found_inside c.args.d (shape c) _ _ (there c))

-- the part begins at the file's offset, has the file's size and ends within the store
ends : (c : In-Some) (f : File) (start size : ℕ) → f ≡ file_or_none c.args.d c.in-Some.i → start ≡ file_offset c.args.d c.in-Some.i → size ≡ file_size f
    → (size ≡ file_size (file_at c.args.d c.in-Some.i)) × (start + size ≤ store_size c.args.d)
ends c f start size same_file same_start same_size =
    let all = same_size ∙ ap file_size (file_is c f same_file) in
    (all, omega (arith, all, same_start, part_ends c.args.d (shape c) _ _ (there c)))

-- and no store is too large for a number
bounded : (c : In-Some) → store_size c.args.d ≤ 16 * 267448335
bounded c = store_size_bounded c.args.d (shape c)

pub returns-in_default : goal.returns-in_default
unfolding place_found
returns-in_default c = rw (← c.place.ensures, c.in_default.is) c.no_place.ensures

-- whether the ISN is one of the file's, as the code asks and as the definition does
asked : (c : After-contains) → c.file_at-f.result ≡ file_at c.args.d c.in-Some.i → c.contains.result ≡ within 1 (file_at c.args.d c.in-Some.i).max_isn c.args.isn
asked c same_file =
    let test : c.contains.result ≡ within 1 c.file_at-f.result.max_isn c.args.isn = search rules in
    test ∙ ap (λ (f : File). within 1 f.max_isn c.args.isn) same_file

pub returns-then-not-contains : goal.returns-then-not-contains
unfolding place_found
returns-then-not-contains c =
    let at = goal.at.returns-then-not-contains c in
    rw (there at.In-Some, sym (asked at.After-contains (file_is at.In-Some _ c.file_at-f.ensures)) ∙ c.if-not-contains.true) c.no_place-then-not-contains.ensures

pub overflow_add-end : goal.overflow_add-end
overflow_add-end c =
    let k = (goal.at.overflow_add-end c).In-Some in
    omega (arith, ends k _ _ _ c.file_at-f.ensures c.file_offset-start.ensures c.file_size.ensures, bounded k)

pub slice_bounds-version_place-end : goal.slice_bounds-version_place-end
slice_bounds-version_place-end c =
    let k = (goal.at.slice_bounds-version_place-end c).In-Some in
    omega (arith, ends k _ _ _ c.file_at-f.ensures c.file_offset-start.ensures c.file_size.ensures, c.requires)

pub version_place-requires : goal.version_place-requires
version_place-requires c =
    let k = (goal.at.version_place-requires c).In-Some in
    let start = c.file_offset-start.result in
    let size = c.file_size.result in
    let cut = length-take (start + size - start) (drop start c.args.store.now) in
    omega (arith, cut, ends k _ _ _ c.file_at-f.ensures c.file_offset-start.ensures c.file_size.ensures, bounded k)

pub returns : goal.returns
returns c =
    let a = c.args in
    let k = (goal.at.returns c).In-Some in
    let f = file_is k _ c.file_at-f.ensures in
    let start = c.file_offset-start.result in
    let end = ends k _ _ _ c.file_at-f.ensures c.file_offset-start.ensures c.file_size.ensures in
    let size : start + c.file_size.result - start ≡ file_size (file_at a.d c.in-Some.i) = omega (arith, end) in
    let inside = sym (asked (goal.at.returns c).After-contains f) ∙ c.if-not-contains.false in
    rw (there k)
    (handed a.d a.count a.file a.isn a.store.now a.queue.now a.images.now c.in-Some.i _ _ _ _ _ f c.image_length-width.ensures c.file_offset-start.ensures size
    c.committed_version-version.ensures inside _ c.version_place.ensures)
