-- The record as a part, on the words of a queue's first entries, and for a state as a caller keeps it (document 02, No. 8).
use Rattle.std.specs.Prelude.{ℕ, List, take}
use Rattle.entries.specs.declared.Entry.{Entry}
use Rattle.committed.specs.declared.Place.{Place}
use Rattle.nucleus.specs.Nucleus.{nucleus}
use Rattle.nucleus.specs.Committed.{committed_place}
use Rattle.nucleus.specs.declared.State.{State}
use Rattle.database.specs.Database.{database, direct_place}
use Rattle.kept_states.specs.KeptStates.{thawed}
use Rattle.kept_states.specs.declared.KeptState.{KeptState}

abbrev pub place_on_words : ℕ → State → ℕ → ℕ → List ℕ → List ℕ → List ℕ → Place
place_on_words n s file isn store ws images = committed_place (nucleus s store (take n ws) images) file isn n

-- with the state as a caller keeps it
unfoldable pub kept_place : ℕ → KeptState → ℕ → ℕ → List ℕ → List Entry → List ℕ → Place
kept_place capacity k file isn store queue images = direct_place capacity (database (thawed k) store queue images) file isn

unfoldable pub kept_place_on_words : ℕ → KeptState → ℕ → ℕ → List ℕ → List ℕ → List ℕ → Place
kept_place_on_words n k file isn store ws images = place_on_words n (thawed k) file isn store ws images
