-- `words_in` meets its contract. The loop's invariant: up to `i` what was copied stands, from `i` on the old elements.
use mathlib.Core.Path.{◌≡◌}
use Rattle.direct_calls.specs.DirectCalls.{unpacked_front}
use Rattle.direct_calls.proofs.words_in.Given as goal

abbrev pub invariant-loop-i : goal.invariant-loop-i
invariant-loop-i l = l.queue ≡ unpacked_front l.i l.words l.initial.queue
