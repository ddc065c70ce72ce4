-- `direct_call` meets its contract: the entries go out into words, the call works on these, and what it leaves of them comes back.
use native.Mathlib.Omega.{arith}
use lib.ListN.{length}
use Rattle.database.proofs.Laws.{fitting_size, fitting_most}
use Rattle.direct_calls.specs.Laws.{directly}
use Rattle.direct_calls.proofs.direct_call.Goals as goal

pub words_out-requires : goal.words_out-requires
words_out-requires c =
    (omega (arith, c.fitting-n.ensures, fitting_size c.args.capacity (length c.args.queue.now)), omega (arith, c.fitting-n.ensures, fitting_most c.args.capacity (length c.args.queue.now)))

pub words_in-requires : goal.words_in-requires
words_in-requires c =
    (omega (arith, c.fitting-n.ensures, fitting_size c.args.capacity (length c.args.queue.now)), omega (arith, c.fitting-n.ensures, fitting_most c.args.capacity (length c.args.queue.now)))

pub returns : goal.returns
returns c =
    directly c.args.capacity c.args.call c.args.format.now c.args.buffer.now c.args.state c.args.store.now c.args.queue.now c.args.images.now c.fitting-n.result _ _ _ c.fitting-n.ensures
    c.words_out.ensures (omega arith) (omega (arith, c.fitting-n.ensures, fitting_most c.args.capacity (length c.args.queue.now))) _ _ _ _ _ _ c.on_words-r.ensures c.words_in.ensures
