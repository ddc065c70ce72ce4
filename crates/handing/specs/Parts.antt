-- A nucleus from the parts that code has in hand.
use Rattle.std.specs.Prelude.{ℕ, List}
use Rattle.definition.specs.declared.Definition.{Definition}
use Rattle.nucleus.specs.Nucleus.{Nucleus, nucleus}
use Rattle.nucleus.specs.declared.EtData.{EtData}
use Rattle.nucleus.specs.declared.User.{User}
use Rattle.nucleus.specs.declared.WaitQueue.{WaitQueue}
use Rattle.handing.specs.declared.Standing.{Standing}

abbrev pub parts : Definition → ℕ → List User → List EtData → List ℕ → ℕ → WaitQueue → List ℕ → List ℕ → List ℕ → Nucleus
parts d clock users kept assigned count line store queue images =
    nucleus (record { definition = d; clock = clock; users = users; et_data = kept; last_assigned = assigned; count = count; wait_queue = line }) store queue images

-- the same with what a back-out may change in one value
abbrev pub nucleus_of : Definition → ℕ → Standing → List EtData → List ℕ → List ℕ → List ℕ → List ℕ → Nucleus
nucleus_of d clock s kept assigned store queue images = parts d clock s.users kept assigned s.count s.wait_queue store queue images
