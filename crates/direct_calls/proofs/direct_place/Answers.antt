-- `direct_place` meets its contract: the entries go out into words, and the place is looked for on these.
use native.Mathlib.Omega.{arith}
use lib.ListN.{length}
use Rattle.database.proofs.Laws.{fitting_size, fitting_most}
use Rattle.direct_calls.specs.PlaceLaws.{placed_directly}
use Rattle.direct_calls.proofs.direct_place.Goals as goal

pub words_out-requires : goal.words_out-requires
words_out-requires c =
    (omega (arith, c.fitting-n.ensures, fitting_size c.args.capacity (length c.args.queue.now)), omega (arith, c.fitting-n.ensures, fitting_most c.args.capacity (length c.args.queue.now)))

pub returns : goal.returns
returns c =
    placed_directly c.args.file c.args.isn c.args.capacity c.args.store.now c.args.queue.now c.args.images.now c.fitting-n.result _ _ c.fitting-n.ensures c.words_out.ensures c.args.state _ c.place_on_words.ensures
