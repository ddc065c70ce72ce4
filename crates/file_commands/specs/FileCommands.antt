-- Each command about a file on the parts that code has in hand: what it gives back, and what it leaves in what it is lent.
use Rattle.std.specs.Prelude.{ℕ, List}
use Rattle.definition.specs.declared.File.{File}
use Rattle.nucleus.specs.Responses.{refused}
use Rattle.nucleus.specs.Target.{isn_in}
use Rattle.nucleus.specs.declared.Call.{Call}
use Rattle.nucleus.specs.declared.Command.{Command}
use Rattle.nucleus.specs.declared.Command.TheVariants.{Hi, Ri, L1, L4, A1, E1, N1, N2, Et, Bt, Re, Op, Cl, Pe}
use Rattle.nucleus.specs.declared.Response.TheVariants.{CommandUnknown}
use Rattle.shares.specs.Shares.{done}
use Rattle.shares.specs.Chains.{e1_cause, a1_cause, n1_cause, n2_cause, replaced, added, free_isn}
use Rattle.shares.specs.Outcomes.{hi_done, hi_queue, ri_done, ri_queue, ri_images, l1_done, l1_buffer, l4_done, l4_queue, l4_buffer, put_part, erased_part, changed_done, assigned_done, changed_queue, changed_images}
use Rattle.shares.specs.declared.Share.{Share}
use Rattle.shares.specs.declared.Done.{Done}

-- `store`: all of it, or the part of the file that a command is about
pub record Left : Type 0 where
  pub done : Done
  pub store : List ℕ
  pub queue : List ℕ
  pub images : List ℕ
  pub buffer : List ℕ

abbrev pub left : Done → List ℕ → List ℕ → List ℕ → List ℕ → Left
left d store queue images buffer = record { done = d; store = store; queue = queue; images = images; buffer = buffer }

-- ---- commands about a file, on its part of the store
module _ (call : Call) (most width clock : ℕ) (x : Share) (f : File) (part queue images format buffer : List ℕ) where
  -- a command without a file
  abbrev none_here : Left
  none_here = left (done (refused CommandUnknown) x) part queue images buffer

  unfoldable pub on_file : Command → Left
  on_file Hi = left (hi_done call x queue most clock) part (hi_queue call x queue most f part) images buffer
  on_file Ri = left (ri_done call x queue images width) part (ri_queue call x queue images width) (ri_images call x queue images width) buffer
  on_file L1 = left (l1_done call x f part format buffer queue images width) part queue images (l1_buffer call x f part format buffer queue images width)
  on_file L4 =
      left (l4_done call x f part format buffer queue most clock) part (l4_queue call x f part format buffer queue most) images
      (l4_buffer call x f part format buffer queue most)
  on_file A1 =
      let cause = a1_cause f part call x queue images width most format buffer in
      left (changed_done cause f part call.isn call x queue clock) (put_part cause f part call.isn (replaced f part format buffer call.isn))
      (changed_queue cause f part call.isn call x queue clock) (changed_images cause f part call.isn call x queue clock width images) buffer
  on_file E1 =
      let cause = e1_cause call x queue f part most in
      left (changed_done cause f part call.isn call x queue clock) (erased_part cause f part call.isn)
      (changed_queue cause f part call.isn call x queue clock) (changed_images cause f part call.isn call x queue clock width images) buffer
  on_file N1 =
      let isn = isn_in (free_isn f part call x queue) in
      let cause = n1_cause f part call x queue images width most format buffer (free_isn f part call x queue) in
      left (assigned_done cause f part isn call x queue clock) (put_part cause f part isn (added f part format buffer isn))
      (changed_queue cause f part isn call x queue clock) (changed_images cause f part isn call x queue clock width images) buffer
  on_file N2 =
      let cause = n2_cause f part call x queue images width most format buffer in
      left (changed_done cause f part call.isn call x queue clock) (put_part cause f part call.isn (added f part format buffer call.isn))
      (changed_queue cause f part call.isn call x queue clock) (changed_images cause f part call.isn call x queue clock width images) buffer
  on_file Et = none_here
  on_file Bt = none_here
  on_file Re = none_here
  on_file Op = none_here
  on_file Cl = none_here
  on_file Pe = none_here
