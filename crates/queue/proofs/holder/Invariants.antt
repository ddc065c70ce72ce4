-- `holder` meets its contract. The loop's invariant: what is sought in the whole queue is sought from here on.
-- Assumes nothing.
use Rattle.std.specs.Prelude.{◌≡◌, drop}
use Rattle.entries.specs.Entries.{entries}
use Rattle.queue.specs.Queue.{seek}
use Rattle.queue.proofs.holder.Given as goal

abbrev pub invariant-loop-i : goal.invariant-loop-i
invariant-loop-i l = seek l.file l.isn (entries l.queue l.count) 0 ≡ seek l.file l.isn (drop l.i (entries l.queue l.count)) l.i
