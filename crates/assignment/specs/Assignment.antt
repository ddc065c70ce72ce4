-- A free ISN of a row of slots, which have so many bytes: their room.
use Rattle.std.specs.Prelude.{ℕ, ◌-◌, ◌*◌, Bool, not, ◌&&◌, List, eqb, leb, get_or}
use Rattle.lists.specs.Folds.{any}
use Rattle.entries.specs.Entries.{is_of}
use Rattle.entries.specs.declared.Entry.{Entry}

-- whether the slot from a place to the next one's ends within the room, and has a record
abbrev pub recorded_at : ℕ → List ℕ → ℕ → ℕ → Bool
recorded_at room part at next = leb next room && eqb (get_or part at 0) 1

-- whether the ISN has a slot within the room, and a record there
abbrev pub recorded_within : ℕ → ℕ → List ℕ → ℕ → Bool
recorded_within room size part isn = (leb 1 isn && leb (isn * size) room) && eqb (get_or part ((isn - 1) * size) 0) 1

-- no record there, and nobody holds the ISN
abbrev pub free_at : ℕ → ℕ → List ℕ → ℕ → List Entry → ℕ → Bool
free_at room size part file held isn = not (recorded_within room size part isn) && not (any (is_of file isn) held)
