-- `on_file` meets its contract: each command gives what its definition has, and a command about no file is refused. Assumes nothing.
use Prim.Native.Nat.{ℕ}
use mathlib.Core.Path.{◌≡◌, refl, sym, ap, ◌∙◌}
use mathlib.Core.Bool.{true, false}
use mathlib.Core.List.{List, [], ◌∷◌}
use Rattle.lists.specs.Tests.{not_both}
use Rattle.definition.specs.declared.File.{File}
use Rattle.nucleus.specs.Commands.{one_of}
use Rattle.nucleus.specs.Responses.{refused}
use Rattle.nucleus.specs.declared.Call.{Call}
use Rattle.nucleus.specs.declared.Command.{Command}
use Rattle.nucleus.specs.declared.Command.TheVariants.{Hi, Ri, L1, L4, A1, E1, N1, N2, Et, Bt, Re, Op, Cl, Pe}
use Rattle.nucleus.specs.declared.Response.TheVariants.{CommandUnknown}
use Rattle.shares.specs.Shares.{done}
use Rattle.shares.specs.declared.Share.{Share}
use Rattle.options.proofs.Groups.{in_group}
use Rattle.file_commands.specs.FileCommands.{Left, left, on_file}
use Rattle.file_commands.proofs.on_file.Goals as goal
use Rattle.file_commands.proofs.on_file.Goals.{Start}

-- the commands that are about no file
abbrev others : List Command
others = Et ∷ Bt ∷ Re ∷ Op ∷ Cl ∷ Pe ∷ []

module _ (call : Call) (most width clock : ℕ) (x : Share) (f : File) (part queue images format buffer : List ℕ) where
  none_of_file : (c : Command) → one_of others c ≡ true
      → on_file call most width clock x f part queue images format buffer c ≡ left (done (refused CommandUnknown) x) part queue images buffer
  unfolding on_file
  none_of_file Hi h = not_both false h refl
  none_of_file Ri h = not_both false h refl
  none_of_file L1 h = not_both false h refl
  none_of_file L4 h = not_both false h refl
  none_of_file A1 h = not_both false h refl
  none_of_file E1 h = not_both false h refl
  none_of_file N1 h = not_both false h refl
  none_of_file N2 h = not_both false h refl
  none_of_file Et h = refl
  none_of_file Bt h = refl
  none_of_file Re h = refl
  none_of_file Op h = refl
  none_of_file Cl h = refl
  none_of_file Pe h = refl

-- what a command left, where the command is told
abbrev on : Start → Command → Left
on s c =
    on_file s.args.call s.args.most s.args.width s.args.clock s.args.share s.args.f s.args.part.now s.args.queue.now s.args.images.now s.args.format.now s.args.buffer.now
    c

as_told : (s : Start) (c : Command) (l : Left) → l ≡ on s c → s.args.command ≡ c → l ≡ on s s.args.command
as_told s c l e told = e ∙ sym (ap (on s) told)

pub returns-in-Hi : goal.returns-in-Hi
unfolding on_file
returns-in-Hi c =
    as_told (goal.at.returns-in-Hi c).Start Hi _
    (λ i. left (c.hi.ensures.value i) c.args.part.now (c.hi.ensures.queue_after i) c.args.images.now c.args.buffer.now) c.in-Hi.is

pub returns-in-Ri : goal.returns-in-Ri
unfolding on_file
returns-in-Ri c =
    as_told (goal.at.returns-in-Ri c).Start Ri _
    (λ i. left (c.ri.ensures.value i) c.args.part.now (c.ri.ensures.queue_after i) (c.ri.ensures.images_after i) c.args.buffer.now) c.in-Ri.is

pub returns-in-L1 : goal.returns-in-L1
unfolding on_file
returns-in-L1 c =
    as_told (goal.at.returns-in-L1 c).Start L1 _
    (λ i. left (c.l1.ensures.value i) c.args.part.now c.args.queue.now c.args.images.now (c.l1.ensures.buffer_after i)) c.in-L1.is

pub returns-in-L4 : goal.returns-in-L4
unfolding on_file
returns-in-L4 c =
    as_told (goal.at.returns-in-L4 c).Start L4 _
    (λ i. left (c.l4.ensures.value i) c.args.part.now (c.l4.ensures.queue_after i) c.args.images.now (c.l4.ensures.buffer_after i)) c.in-L4.is

pub returns-in-A1 : goal.returns-in-A1
unfolding on_file
returns-in-A1 c =
    as_told (goal.at.returns-in-A1 c).Start A1 _
    (λ i. left (c.a1.ensures.value i) (c.a1.ensures.part_after i) (c.a1.ensures.queue_after i) (c.a1.ensures.images_after i) c.args.buffer.now) c.in-A1.is

pub returns-in-E1 : goal.returns-in-E1
unfolding on_file
returns-in-E1 c =
    as_told (goal.at.returns-in-E1 c).Start E1 _
    (λ i. left (c.e1.ensures.value i) (c.e1.ensures.part_after i) (c.e1.ensures.queue_after i) (c.e1.ensures.images_after i) c.args.buffer.now) c.in-E1.is

pub returns-in-N1 : goal.returns-in-N1
unfolding on_file
returns-in-N1 c =
    as_told (goal.at.returns-in-N1 c).Start N1 _
    (λ i. left (c.n1.ensures.value i) (c.n1.ensures.part_after i) (c.n1.ensures.queue_after i) (c.n1.ensures.images_after i) c.args.buffer.now) c.in-N1.is

pub returns-in-N2 : goal.returns-in-N2
unfolding on_file
returns-in-N2 c =
    as_told (goal.at.returns-in-N2 c).Start N2 _
    (λ i. left (c.n2.ensures.value i) (c.n2.ensures.part_after i) (c.n2.ensures.queue_after i) (c.n2.ensures.images_after i) c.args.buffer.now) c.in-N2.is

pub returns-in-Et : goal.returns-in-Et
unfolding on_file
returns-in-Et c =
    let a = c.args in
    rw (none_of_file a.call a.most a.width a.clock a.share a.f a.part.now a.queue.now a.images.now a.format.now a.buffer.now a.command (sym (in_group others a.command c.in-Et.in-Et-own.keys9)), c.refused.ensures)
