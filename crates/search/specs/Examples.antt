-- Worked examples: the definitions computed on the file and part of the store's examples.
-- Assumes nothing.
use Rattle.std.specs.Prelude.{ℕ, ◌≡◌, refl, Bool, true, false, List, [], ◌∷◌, Option, Some, None}
use Rattle.lists.specs.Folds.{all}
use Rattle.records.specs.Records.{field_offset, record_length}
use Rattle.lists.specs.Tests.{eqbs}
use Rattle.store.specs.Store.{slot_fits, has_record, fresh}
use Rattle.search.specs.Search.{lowest, elsewhere}
use Rattle.store.specs.Examples.{paper, part}

-- ---- what is found, as numbers
at : Option ℕ → List ℕ
at (Some n) = n ∷ []
at None = []

truth : Bool → List ℕ
truth true = 1 ∷ []
truth false = []

record Row : Type 0 where
  given : List ℕ
  expected : List ℕ

rows : List Row
rows =
    -- the lowest record at or above
    record { given = at (lowest paper part 0); expected = 1 ∷ [] } ∷
    record { given = at (lowest paper part 1); expected = 1 ∷ [] } ∷
    record { given = at (lowest paper part 2); expected = 3 ∷ [] } ∷
    record { given = at (lowest paper part 3); expected = 3 ∷ [] } ∷
    record { given = at (lowest paper part 4); expected = [] } ∷
    record { given = at (lowest paper (fresh paper part) 0); expected = [] } ∷
    -- a value elsewhere: not at the ISN itself, not where there is no record, not in another field
    record { given = truth (elsewhere paper part 0 2 (50 ∷ [])); expected = 1 ∷ [] } ∷
    record { given = truth (elsewhere paper part 0 1 (50 ∷ [])); expected = [] } ∷
    record { given = truth (elsewhere paper part 0 1 (51 ∷ [])); expected = [] } ∷
    record { given = truth (elsewhere paper part 1 1 (69 ∷ 70 ∷ [])); expected = 1 ∷ [] } ∷
    record { given = truth (elsewhere paper part 1 1 (69 ∷ [])); expected = [] } ∷
    record { given = truth (elsewhere paper part 2 1 []); expected = [] } ∷ []

right : Row → Bool
right r = eqbs r.given r.expected

rows_right : all right rows ≡ true
unfolding paper part at truth rows right slot_fits has_record lowest elsewhere fresh field_offset record_length
rows_right = refl
