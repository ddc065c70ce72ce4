-- Worked examples: the file and ISN of the first entry stand in the second too, in another only the ISN does. Assumes nothing.
use Rattle.std.specs.Prelude.{◌≡◌, refl, true, false, not, ◌&&◌, [], ◌∷◌}
use Rattle.repeats.specs.Repeats.{repeated}
use Rattle.entries.specs.declared.Entry.{Entry}

first : Entry
first = record { user = 1; file = 16; isn = 4095; changed = true; existed = false }

again : Entry
again = record { user = 32; file = 16; isn = 4095; changed = false; existed = true }

other : Entry
other = record { user = 1; file = 1; isn = 4095; changed = true; existed = false }

twice : (repeated (first ∷ other ∷ again ∷ []) && not (repeated (first ∷ other ∷ []))) ≡ true
unfolding first again other repeated
twice = refl
