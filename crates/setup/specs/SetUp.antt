-- What set-up gives, as code answers it.
use Rattle.std.specs.Prelude.{List, ℕ}
use Rattle.nucleus.specs.Nucleus.{nucleus}
use Rattle.nucleus.specs.Step.{SetUp}
use Rattle.nucleus.specs.declared.Response.{Response}
use Rattle.nucleus.specs.declared.State.{State}
use Rattle.setup.specs.declared.Nucleus.{Nucleus}

abbrev pub made : Response → State → Nucleus
made response state = record { response = response; state = state }

-- beside the lent store, queue and images
abbrev pub set_up_to : Nucleus → List ℕ → List ℕ → List ℕ → SetUp
set_up_to m store queue images = record { response = m.response; nucleus = nucleus m.state store queue images }
