-- `words_out` meets its contract: one more turn of the loop.
use native.Mathlib.Omega.{arith}
use Rattle.entries.specs.Entries.{pack_of}
use Rattle.direct_calls.proofs.Front.{one_more}
use Rattle.direct_calls.proofs.words_out.Goals as goal

pub loop-i-preserved : goal.loop-i-preserved
loop-i-preserved c = rw (c.loop-i.invariant, c.pack.ensures) (one_more pack_of _ c.loop-i.i c.args.queue.now c.args.words.now (omega arith) (omega arith))
