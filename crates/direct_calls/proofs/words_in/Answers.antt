-- `words_in` meets its contract: one more turn of the loop.
use native.Mathlib.Omega.{arith}
use Rattle.entries.specs.Entries.{unpack_of}
use Rattle.direct_calls.proofs.Front.{one_more}
use Rattle.direct_calls.proofs.words_in.Goals as goal

pub loop-i-preserved : goal.loop-i-preserved
loop-i-preserved c = rw (c.loop-i.invariant, c.unpack.ensures) (one_more unpack_of 0 c.loop-i.i c.args.words.now c.args.queue.now (omega arith) (omega arith))
