-- `place_on_words` meets its contract: the first n words are lent on. Assumes nothing.
use native.Mathlib.Omega.{arith}
use mathlib.Core.Path.{sym}
use lib.Seq.{length-take-le}
use Rattle.direct_calls.specs.PlaceLaws.{placed_front}
use Rattle.direct_calls.proofs.place_on_words.Goals as goal

pub slice_bounds-committed_place-end : goal.slice_bounds-committed_place-end
slice_bounds-committed_place-end c =
    let fit = c.min-end.ensures in
    sym (length-take-le _ c.args.words.now (omega (arith, fit)))

pub returns : goal.returns
returns c =
    let a = c.args in
    placed_front a.file a.isn a.n c.min-end.result a.state a.store.now a.words.now a.images.now _ c.min-end.ensures c.committed_place.ensures
