use Prim.Native.Nat.{ℕ}
use mathlib.Core.Path.{◌≡◌, refl, sym, ap, ◌∙◌}
use mathlib.Core.Bool.{true, false}
use mathlib.Core.List.{List, [], ◌∷◌}
use Rattle.lists.specs.Tests.{not_both}
use Rattle.definition.specs.declared.Definition.{Definition}
use Rattle.nucleus.specs.Commands.{one_of}
use Rattle.nucleus.specs.declared.Call.{Call}
use Rattle.nucleus.specs.declared.Command.{Command}
use Rattle.nucleus.specs.declared.Command.TheVariants.{Hi, Ri, L1, L4, A1, E1, N1, N2, Et, Bt, Re, Op, Cl, Pe}
use Rattle.shares.specs.declared.Share.{Share}
use Rattle.options.proofs.Groups.{in_group}
use Rattle.layout.specs.Layout.{image_length}
use Rattle.hold.specs.Hold.{restore}
use Rattle.removal.specs.declared.Removal.TheVariants.{All}
use Rattle.shares.specs.Chains.{left_queue, left_images}
use Rattle.shares.specs.Outcomes.{et_done, et_queue, et_images, bt_done}
use Rattle.shares.specs.declared.Done.{Done}
use Rattle.file_commands.specs.FileCommands.{Left, left}
use Rattle.calls.specs.Commands.{in_file, about_file, performed}
use Rattle.calls.proofs.perform.Goals as goal
use Rattle.calls.proofs.perform.Goals.{Start}

-- the commands about a file, but RI
abbrev files : List Command
files = Hi ∷ L1 ∷ L4 ∷ A1 ∷ E1 ∷ N1 ∷ N2 ∷ []

module _ (call : Call) (most clock : ℕ) (x : Share) (d : Definition) (store queue images format buffer : List ℕ) where
  of_file : (c : Command) → one_of files c ≡ true → performed call most clock x d store queue images format buffer c ≡ about_file call most clock x d store queue images format buffer c
  unfolding performed
  of_file Hi h = refl
  of_file Ri h = not_both false h refl
  of_file L1 h = refl
  of_file L4 h = refl
  of_file A1 h = refl
  of_file E1 h = refl
  of_file N1 h = refl
  of_file N2 h = refl
  of_file Et h = not_both false h refl
  of_file Bt h = not_both false h refl
  of_file Re h = not_both false h refl
  of_file Op h = not_both false h refl
  of_file Cl h = not_both false h refl
  of_file Pe h = not_both false h refl

  -- what ET and BT left, by the length of an image that the code has
  module _ (width : ℕ) (same_width_lem : width ≡ image_length d) (made : Done) (store' queue' images' : List ℕ) where
    ended : made ≡ et_done call x queue images width buffer → queue' ≡ et_queue call x queue images width buffer → images' ≡ et_images call x queue images width buffer
        → left made store queue' images' buffer ≡ performed call most clock x d store queue images format buffer Et
    unfolding performed
    ended same_done same_queue same_images =
        (λ i. left (same_done i) store (same_queue i) (same_images i) buffer)
        ∙ ap (λ w. left (et_done call x queue images w buffer) store (et_queue call x queue images w buffer) (et_images call x queue images w buffer) buffer) same_width_lem

    backed_out : made ≡ bt_done call x queue images width → store' ≡ restore d width call.user queue images x.count store → queue' ≡ left_queue x queue images width (All call.user) → images' ≡ left_images x queue images width (All call.user)
        → left made store' queue' images' buffer ≡ performed call most clock x d store queue images format buffer Bt
    unfolding performed
    backed_out same_done same_Store same_queue same_images =
        (λ i. left (same_done i) (same_Store i) (same_queue i) (same_images i) buffer)
        ∙ ap (λ w. left (bt_done call x queue images w) (restore d w call.user queue images x.count store) (left_queue x queue images w (All call.user)) (left_images x queue images w (All call.user)) buffer) same_width_lem

-- what a command left, where the command is told
abbrev on : (s : Start) → Command → Left
on s c =
    performed s.args.call s.args.most s.args.clock s.args.share s.args.d s.args.store.now s.args.queue.now s.args.images.now s.args.format.now s.args.buffer.now c

as_told : (s : Start) (c : Command) (l : Left) → l ≡ on s c → s.args.command ≡ c → l ≡ on s s.args.command
as_told s c l e told = e ∙ sym (ap (on s) told)

pub returns-in-Et : goal.returns-in-Et
returns-in-Et c =
    let a = c.args in
    as_told (goal.at.returns-in-Et c).Start Et _
    (ended a.call a.most a.clock a.share a.d a.store.now a.queue.now a.images.now a.format.now a.buffer.now _ c.image_length.ensures _ a.store.now _ _ c.et.ensures.value c.et.ensures.queue_after c.et.ensures.images_after)
    c.in-Et.is

pub returns-in-Bt : goal.returns-in-Bt
returns-in-Bt c =
    let a = c.args in
    as_told (goal.at.returns-in-Bt c).Start Bt _
    (backed_out a.call a.most a.clock a.share a.d a.store.now a.queue.now a.images.now a.format.now a.buffer.now _ c.image_length-in-Bt.ensures _ _ _ _ c.bt.ensures.value c.bt.ensures.store_after c.bt.ensures.queue_after c.bt.ensures.images_after)
    c.in-Bt.is

pub returns-in-Re : goal.returns-in-Re
unfolding performed
returns-in-Re c =
    as_told (goal.at.returns-in-Re c).Start Re _ (λ i. left (c.re.ensures.value i) c.args.store.now c.args.queue.now c.args.images.now (c.re.ensures.buffer_after i)) c.in-Re.is

pub returns-in-Op : goal.returns-in-Op
unfolding performed
returns-in-Op c =
    as_told (goal.at.returns-in-Op c).Start Op _ (λ i. left (c.op.ensures i) c.args.store.now c.args.queue.now c.args.images.now c.args.buffer.now) c.in-Op.is

pub returns-in-Cl : goal.returns-in-Cl
unfolding performed
returns-in-Cl c =
    as_told (goal.at.returns-in-Cl c).Start Cl _ (λ i. left (c.cl.ensures i) c.args.store.now c.args.queue.now c.args.images.now c.args.buffer.now) c.in-Cl.is

pub returns-in-Pe : goal.returns-in-Pe
unfolding performed
returns-in-Pe c =
    as_told (goal.at.returns-in-Pe c).Start Pe _ (λ i. left (c.pe.ensures i) c.args.store.now c.args.queue.now c.args.images.now c.args.buffer.now) c.in-Pe.is

pub returns-in-Ri : goal.returns-in-Ri
unfolding performed
returns-in-Ri c =
    as_told (goal.at.returns-in-Ri c).Start Ri _ c.ri.ensures c.in-Ri.is

pub returns-in-Hi : goal.returns-in-Hi
unfolding performed
returns-in-Hi c =
    let a = c.args in
    let there : true ≡ one_of files a.command = search (in_group files a.command) in
    c.in_file.ensures ∙ ap (λ at. in_file a.call a.most a.clock a.share a.d a.store.now a.queue.now a.images.now a.format.now a.buffer.now at a.command) c.requires.found_value
    ∙ sym (of_file a.call a.most a.clock a.share a.d a.store.now a.queue.now a.images.now a.format.now a.buffer.now a.command (sym there))
