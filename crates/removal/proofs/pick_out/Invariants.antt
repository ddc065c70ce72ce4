-- `pick_out` meets its contract. The loop's invariant: what was written and what is left to be written make the whole.
-- Assumes nothing.
use Rattle.std.proofs.Common.{◌≡◌, ◌+◌, ◌≤◌, length}
use Rattle.std.proofs.lemmas.List.Edits.{sets}
use Rattle.removal.specs.Removal.{picked_out}
use Rattle.removal.proofs.Picking.{unpicked}
use Rattle.removal.proofs.pick_out.Given as goal

abbrev pub invariant-loop-word : goal.invariant-loop-word
invariant-loop-word l = (l.written ≤ length l.initial.out)
    × (l.written + length (unpicked l.which l.queue l.count (length l.initial.out) l.word-index l.written) ≡ length (picked_out l.queue l.count l.which (length l.initial.out)))
    × (sets l.out l.written (unpicked l.which l.queue l.count (length l.initial.out) l.word-index l.written) ≡ sets l.initial.out 0 (picked_out l.queue l.count l.which (length l.initial.out)))
