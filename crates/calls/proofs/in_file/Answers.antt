-- `in_file` meets its contract: the file's part of the store lies where `file_part` has it. Assumes nothing.
use Rattle.std.specs.Prelude.{Some}
use native.Mathlib.Omega.{arith}
use mathlib.Core.Path.{◌≡◌, sym, ap, ◌∙◌}
use Prim.Native.Nat.{ℕ, ◌+◌, ◌-◌, ◌*◌, ◌≤◌}
use mathlib.Core.Bool.{false}
use mathlib.Core.List.{List, ◌++◌}
use lib.ListN.{take, drop}
use Rattle.definition.specs.Table.{file_at, file_or_none}
use Rattle.definition.specs.Shape.{DefinitionShape, file_or_none_at}
use Rattle.definition.specs.declared.Definition.{Definition}
use Rattle.definition.specs.declared.File.{File}
use Rattle.definition.proofs.Known.{definition_known}
use Rattle.records.specs.Records.{file_size}
use Rattle.layout.specs.Layout.{file_offset, store_size, image_length, place}
use Rattle.store.specs.Files.{file_part_is, with_part_is}
use Rattle.nucleus.specs.declared.Call.{Call}
use Rattle.nucleus.specs.declared.Command.{Command}
use Rattle.shares.specs.declared.Share.{Share}
use Rattle.shares.specs.declared.Done.{Done}
use Rattle.file_commands.specs.FileCommands.{Left, left, on_file}
use Rattle.understanding.specs.Understanding.{isn_refused}
use Rattle.usability.specs.Parts.{store_size_bounded, found_inside, part_ends}
use Rattle.calls.specs.Commands.{in_file}
use Rattle.calls.proofs.in_file.Goals as goal
use Rattle.calls.proofs.in_file.Goals.{In-Some}

-- what `on_file` left of the part, in the store
module _ (call : Call) (most clock : ℕ) (x : Share) (d : Definition) (store queue images format buffer : List ℕ) (command : Command) (i : ℕ) where
  handed : (f : File) (width start size : ℕ) → f ≡ file_at d i → width ≡ image_length d → start ≡ file_offset d i → size ≡ file_size (file_at d i)
      → isn_refused command call (file_at d i).max_isn ≡ false
      → (done : Done) (part' queue' images' buffer' : List ℕ)
      → left done part' queue' images' buffer' ≡ on_file call most width clock x f (take size (drop start store)) queue images format buffer command
      → left done (take start store ++ (part' ++ drop size (drop start store))) queue' images' buffer' ≡ in_file call most clock x d store queue images format buffer (Some i) command
  unfolding in_file
  handed f width start size same_file same_width_lem same_start same_size valid done part' queue' images' buffer' e =
      ap (λ (l : Left). left l.done (take start store ++ (l.store ++ drop size (drop start store))) l.queue l.images l.buffer) e
      ∙ rw (valid, with_part_is d i store, file_part_is d i store, same_file, same_width_lem, same_start, same_size)

shape : (c : In-Some) → DefinitionShape c.args.d
shape c = definition_known _ _ c.well_formed.1.1.1.1.1.0

there : (c : In-Some) → place c.args.d c.args.call.file ≡ Some c.in-Some.i
there c = sym c.requires.found_value ∙ c.in-Some.is

-- the file that is handed on
file_is : (c : In-Some) (f : File) → f ≡ file_or_none c.args.d c.in-Some.i → f ≡ file_at c.args.d c.in-Some.i
file_is c f e = e ∙ file_or_none_at c.args.d c.in-Some.i (found_inside c.args.d (shape c) _ _ (there c))

-- the part begins at the file's offset, has the file's size and ends within the store
ends : (c : In-Some) (f : File) (start size : ℕ) → f ≡ file_or_none c.args.d c.in-Some.i → start ≡ file_offset c.args.d c.in-Some.i → size ≡ file_size f
    → (size ≡ file_size (file_at c.args.d c.in-Some.i)) × (start + size ≤ store_size c.args.d)
ends c f start size same_file same_start same_size =
    let all = same_size ∙ ap file_size (file_is c f same_file) in
    (all, omega (arith, all, same_start, part_ends c.args.d (shape c) _ _ (there c)))

-- and no store is too large for a number
bounded : (c : In-Some) → store_size c.args.d ≤ 16 * 267448335
bounded c = store_size_bounded c.args.d (shape c)

pub returns-in_default : goal.returns-in_default
unfolding in_file
returns-in_default c = rw (c.in_default.is, c.refused.ensures)

pub returns-then-isn_refused : goal.returns-then-isn_refused
unfolding in_file
returns-then-isn_refused c =
    let a = c.args in
    let f = file_is (goal.at.returns-then-isn_refused c).In-Some _ c.file_at-f.ensures in
    let yes = ap (λ f. isn_refused a.command a.call f.max_isn) (sym f) ∙ sym c.isn_refused.ensures ∙ c.if-isn_refused.true in
    rw (c.in-Some.is, yes, c.refused-then-isn_refused.ensures)

pub overflow_add-end : goal.overflow_add-end
overflow_add-end c =
    let k = (goal.at.overflow_add-end c).In-Some in
    omega (arith, ends k _ _ _ c.file_at-f.ensures c.file_offset-start.ensures c.file_size.ensures, bounded k)

pub slice_bounds-on_file-count : goal.slice_bounds-on_file-count
slice_bounds-on_file-count c =
    let k = (goal.at.slice_bounds-on_file-count c).In-Some in
    omega (arith, ends k _ _ _ c.file_at-f.ensures c.file_offset-start.ensures c.file_size.ensures)

pub slice_bounds-on_file-start : goal.slice_bounds-on_file-start
slice_bounds-on_file-start c =
    let k = (goal.at.slice_bounds-on_file-start c).In-Some in
    omega (arith, ends k _ _ _ c.file_at-f.ensures c.file_offset-start.ensures c.file_size.ensures, c.requires.d_in_bounds)

pub slice_bounds-on_file-end : goal.slice_bounds-on_file-end
slice_bounds-on_file-end c =
    let k = (goal.at.slice_bounds-on_file-end c).In-Some in
    omega (arith, ends k _ _ _ c.file_at-f.ensures c.file_offset-start.ensures c.file_size.ensures, c.requires.d_in_bounds)

pub returns : goal.returns
unfolding in_file
returns c =
    let a = c.args in
    let k = (goal.at.returns c).In-Some in
    let f = file_is k _ c.file_at-f.ensures in
    let start = c.file_offset-start.result in
    let end = ends k _ _ _ c.file_at-f.ensures c.file_offset-start.ensures c.file_size.ensures in
    let size : start + c.file_size.result - start ≡ file_size (file_at a.d c.in-Some.i) = omega (arith, end) in
    let no = ap (λ f. isn_refused a.command a.call f.max_isn) (sym f) ∙ sym c.isn_refused.ensures ∙ c.if-isn_refused.false in
    rw c.in-Some.is
    (handed a.call a.most a.clock a.share a.d a.store.now a.queue.now a.images.now a.format.now a.buffer.now a.command c.in-Some.i
    c.file_at-f.result _ _ _ f c.image_length-width.ensures c.file_offset-start.ensures size no _ _ _ _ _ c.on_file.ensures)
