-- What the journal is fed: each call of a list with its buffers, and the number and ISN that answered it.
use Rattle.std.specs.Prelude.{ℕ, List, [], ◌∷◌}
use Rattle.nucleus.specs.Responses.{number}
use Rattle.nucleus.specs.Nucleus.{Given}
use Rattle.claim.specs.Journal.{Journal, fed}
use Rattle.claim.specs.Run.{World, call_given, called}

pub record Answered : Type 0 where
  pub given : Given
  pub response : ℕ
  pub isn : ℕ

-- a list of calls, and what the nucleus answers
abbrev pub answers : ℕ → List Given → World → List Answered
answers capacity [] w = []
answers capacity (g ∷ gs) w =
    record { given = g; response = number (call_given capacity g w).answer.response; isn = (call_given capacity g w).answer.isn } ∷ answers capacity gs (called capacity g w)

abbrev pub fed_all : List Answered → Journal → Journal
fed_all [] j = j
fed_all (a ∷ more) j = fed_all more (fed a.given.call a.given.format a.given.buffer a.response a.isn j)
