-- Each command on the parts that code has in hand, from 17 on: commands about a file by `file_commands`, and the others.
use Rattle.std.specs.Prelude.{ℕ, List, eqb, Option, Some, None}
use Rattle.lists.specs.Tests.{cond}
use Rattle.definition.specs.Table.{file_at}
use Rattle.definition.specs.declared.Definition.{Definition}
use Rattle.layout.specs.Layout.{image_length, place}
use Rattle.store.specs.Store.{file_part, with_part}
use Rattle.hold.specs.Hold.{restore}
use Rattle.removal.specs.declared.Removal.TheVariants.{All}
use Rattle.nucleus.specs.Responses.{refused}
use Rattle.nucleus.specs.declared.Call.{Call}
use Rattle.nucleus.specs.declared.Command.{Command}
use Rattle.nucleus.specs.declared.Command.TheVariants.{Hi, Ri, L1, L4, A1, E1, N1, N2, Et, Bt, Re, Op, Cl, Pe}
use Rattle.nucleus.specs.declared.Response.{Response}
use Rattle.nucleus.specs.declared.Response.TheVariants.{FileUnknown, IsnInvalid}
use Rattle.shares.specs.Shares.{done}
use Rattle.shares.specs.Chains.{left_queue, left_images}
use Rattle.shares.specs.Outcomes.{ri_done, ri_queue, ri_images, et_done, et_queue, et_images, bt_done, re_done, re_after, op_done, cl_done, pe_done}
use Rattle.shares.specs.declared.Share.{Share}
use Rattle.file_commands.specs.FileCommands.{Left, left, on_file}
use Rattle.understanding.specs.Understanding.{isn_refused}

-- ---- any command, on the whole store
module _ (call : Call) (most clock : ℕ) (x : Share) (d : Definition) (store queue images format buffer : List ℕ) where
  abbrev width : ℕ
  width = image_length d

  abbrev refusing : Response → Left
  refusing cause = left (done (refused cause) x) store queue images buffer

  abbrev pub with_store_of : ℕ → Left → Left
  with_store_of i l = left l.done (with_part d i store l.store) l.queue l.images l.buffer

  -- 17 and 113, and then the command on its file
  unfoldable pub in_file : Option ℕ → Command → Left
  in_file None c = refusing FileUnknown
  in_file (Some i) c =
      cond (isn_refused c call (file_at d i).max_isn) (refusing IsnInvalid)
      (with_store_of i (on_file call most width clock x (file_at d i) (file_part d i store) queue images format buffer c))

  abbrev pub about_file : Command → Left
  about_file c = in_file (place d call.file) c

  unfoldable pub performed : Command → Left
  performed Hi = about_file Hi
  performed Ri =
      cond (eqb call.isn 0)
      (left (ri_done call x queue images width) store (ri_queue call x queue images width) (ri_images call x queue images width) buffer)
      (about_file Ri)
  performed L1 = about_file L1
  performed L4 = about_file L4
  performed A1 = about_file A1
  performed E1 = about_file E1
  performed N1 = about_file N1
  performed N2 = about_file N2
  performed Et =
      left (et_done call x queue images width buffer) store (et_queue call x queue images width buffer) (et_images call x queue images width buffer) buffer
  performed Bt =
      left (bt_done call x queue images width) (restore d width call.user queue images x.count store) (left_queue x queue images width (All call.user))
      (left_images x queue images width (All call.user)) buffer
  performed Re = left (re_done x buffer) store queue images (re_after x buffer)
  performed Op = left (op_done call x) store queue images buffer
  performed Cl = left (cl_done x) store queue images buffer
  performed Pe = left (pe_done x) store queue images buffer
