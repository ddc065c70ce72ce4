-- `ri` meets its contract: for ISN 0 all entries that are not changed go, and for any other it is a command about a file. Assumes nothing.
use Rattle.std.specs.Prelude.{Option}
use Prim.Native.Nat.{ℕ}
use mathlib.Core.Path.{◌≡◌, sym, ap, ◌∙◌}
use mathlib.Core.Bool.{true, false}
use mathlib.Core.List.{List}
use lib.Dec.{eqb}
use borrow.Author.Tests.{eq-eqb, ne_eqb}
use Rattle.lists.specs.Tests.{cond}
use Rattle.definition.specs.declared.Definition.{Definition}
use Rattle.layout.specs.Layout.{image_length, place}
use Rattle.nucleus.specs.declared.Call.{Call}
use Rattle.nucleus.specs.declared.Command.TheVariants.{Ri}
use Rattle.shares.specs.Outcomes.{ri_done, ri_queue, ri_images}
use Rattle.shares.specs.declared.Done.{Done}
use Rattle.shares.specs.declared.Share.{Share}
use Rattle.file_commands.specs.FileCommands.{Left, left}
use Rattle.calls.specs.Commands.{in_file, about_file, performed}
use Rattle.calls.proofs.ri.Goals as goal

module _ (call : Call) (most clock : ℕ) (x : Share) (d : Definition) (store queue images format buffer : List ℕ) where
  -- what RI of ISN 0 leaves, by the length of an image
  abbrev of_all : ℕ → Left
  of_all width = left (ri_done call x queue images width) store (ri_queue call x queue images width) (ri_images call x queue images width) buffer

  of_ri : {b : _} → eqb call.isn 0 ≡ b → cond b (of_all (image_length d)) (about_file call most clock x d store queue images format buffer Ri) ≡ performed call most clock x d store queue images format buffer Ri
  unfolding performed
  of_ri e = ap (λ b. cond b (of_all (image_length d)) (about_file call most clock x d store queue images format buffer Ri)) (sym e)

  all_released : eqb call.isn 0 ≡ true → (width : ℕ) → width ≡ image_length d → (made : Done) (queue' images' : List ℕ)
      → made ≡ ri_done call x queue images width → queue' ≡ ri_queue call x queue images width → images' ≡ ri_images call x queue images width
      → left made store queue' images' buffer ≡ performed call most clock x d store queue images format buffer Ri
  all_released zero width same_width_lem made queue' images' same_done same_queue same_images =
      (λ i. left (same_done i) store (same_queue i) (same_images i) buffer) ∙ ap of_all same_width_lem ∙ of_ri zero

  one_released : eqb call.isn 0 ≡ false → (found : Option ℕ) → found ≡ place d call.file → (l : Left) → l ≡ in_file call most clock x d store queue images format buffer found Ri
      → l ≡ performed call most clock x d store queue images format buffer Ri
  one_released one found same_found l e = e ∙ ap (λ at. in_file call most clock x d store queue images format buffer at Ri) same_found ∙ of_ri one

pub returns-then-call-eq0 : goal.returns-then-call-eq0
returns-then-call-eq0 c =
    let a = c.args in
    all_released a.call a.most a.clock a.share a.d a.store.now a.queue.now a.images.now a.format.now a.buffer.now
    (eq-eqb _ _ c.if-call-eq0.true) _ c.image_length.ensures _ _ _ c.ri.ensures.value c.ri.ensures.queue_after c.ri.ensures.images_after

pub returns : goal.returns
returns c =
    let a = c.args in
    one_released a.call a.most a.clock a.share a.d a.store.now a.queue.now a.images.now a.format.now a.buffer.now
    (ne_eqb _ _ c.if-call-eq0.false) _ c.requires.found_value _ c.in_file.ensures
