-- Set-up with the state as a caller keeps it, through the definition of set-up, and the bytes that a table asks for.
use Rattle.std.specs.Prelude.{ℕ, ◌*◌, List, eqb, ltb, length, Option, Some, None}
use Rattle.lists.specs.Tests.{cond}
use Rattle.layout.specs.Layout.{store_size, image_length}
use Rattle.reading.specs.Grammar.{read_table}
use Rattle.entries.specs.declared.Entry.{Entry}
use Rattle.nucleus.specs.Nucleus.{max_capacity}
use Rattle.nucleus.specs.Responses.{number}
use Rattle.database.specs.Database.{SetUpDatabase, set_up_database}
use Rattle.kept_states.specs.KeptStates.{frozen}
use Rattle.kept_states.specs.declared.KeptState.{KeptState}
use Rattle.kept_setup.specs.declared.KeptNucleus.{KeptNucleus}

-- ---- set-up
-- the response's number, the state as it is kept, and the store; all else that is lent stays as it is
pub record KeptMade : Type 0 where
  pub response : ℕ
  pub state : KeptState
  pub store : List ℕ

abbrev pub kept_nucleus : KeptState → ℕ → KeptNucleus
kept_nucleus state response = record { state = state; response = response }

abbrev pub kept_made : KeptNucleus → List ℕ → KeptMade
kept_made r store = record { response = r.response; state = r.state; store = store }

abbrev pub kept_made_of : SetUpDatabase → KeptMade
kept_made_of s = record { response = number s.response; state = frozen s.database.state; store = s.database.store }

unfoldable pub kept_set_up : ℕ → List ℕ → List Entry → List ℕ → List ℕ → KeptMade
kept_set_up capacity store queue images table = kept_made_of (set_up_database capacity store queue images table)

-- ---- sizes: none for a table that set-up refuses with 10
abbrev pub of_table : Option ℕ → ℕ → ℕ → ℕ
of_table None size bytes = 0
of_table (Some end) size bytes = cond (eqb end size) bytes 0

unfoldable pub store_bytes : List ℕ → ℕ
store_bytes table = of_table (read_table table).end (length table) (store_size (read_table table).definition)

unfoldable pub image_bytes : ℕ → List ℕ → ℕ
image_bytes capacity table = cond (ltb max_capacity capacity) 0 (of_table (read_table table).end (length table) (capacity * image_length (read_table table).definition))
