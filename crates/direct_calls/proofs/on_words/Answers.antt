-- `on_words` meets its contract: the first n words are lent to the call, and the others lie behind what it leaves of them. Assumes nothing.
use native.Mathlib.Omega.{arith}
use mathlib.Core.Path.{sym}
use lib.Seq.{length-take-le}
use Rattle.direct_calls.specs.Laws.{with_others}
use Rattle.direct_calls.proofs.on_words.Goals as goal

pub slice_bounds-step-end-2 : goal.slice_bounds-step-end-2
slice_bounds-step-end-2 c =
    let fit = c.min-end.ensures in
    sym (length-take-le _ c.args.words.now (omega (arith, fit)))

pub returns : goal.returns
returns c =
    let a = c.args in
    with_others a.n c.min-end.result a.call a.format.now a.buffer.now a.state a.store.now a.words.now a.images.now _ c.min-end.ensures c.step.ensures
