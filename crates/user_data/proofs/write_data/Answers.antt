-- `write_data` meets its contract: what is written is all that there is of the data.
-- Assumes nothing.
use Prim.Native.Nat.{min}
use native.Mathlib.Nat.{zero-add}
use native.Mathlib.Omega.{arith}
use mathlib.Core.Path.{◌≡◌, sym, ap, ◌∙◌}
use lib.ListN.{length, take}
use lib.Seq.{length-take-le, sets-eq}
use borrow.Author.Rules.{rules}
use Rattle.lists.specs.Parts.{take_least}
use Rattle.nucleus.specs.Nucleus.{max_et_data}
use Rattle.nucleus.proofs.Known.{data_places}
use Rattle.user_data.proofs.write_data.Goals as goal

pub returns : goal.returns
returns c =
    let a = c.args in
    let n = c.min-n.result in
    let b = a.held.bytes in
    let places : length b ≡ max_et_data = data_places a.held _ c.well_formed.0 in
    let long : n ≡ min a.held.length max_et_data = search rules in
    let size = length-take-le n b (omega (arith, places, long)) in
    let all = ap (λ k. take k b) (long ∙ ap (min a.held.length) (sym places)) ∙ take_least a.held.length b in
    rw (c.copy_from_slice.ensures.after, ← all, sets-eq (take n b) a.buffer.now 0 (omega (arith, size, long)), zero-add, size)
