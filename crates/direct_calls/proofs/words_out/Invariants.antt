-- `words_out` meets its contract. The loop's invariant: up to `i` what was copied stands, from `i` on the old elements.
use mathlib.Core.Path.{◌≡◌}
use Rattle.direct_calls.specs.DirectCalls.{packed_front}
use Rattle.direct_calls.proofs.words_out.Given as goal

abbrev pub invariant-loop-i : goal.invariant-loop-i
invariant-loop-i l = l.words ≡ packed_front l.i l.queue l.initial.words
