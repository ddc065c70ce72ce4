-- Whoever owns a state knows the shape of its definition, and that it has all users and the ET data of each. In a proof: `state_known _ _ c.good.0` at a function's first parameter.
-- Assumes nothing.
use mathlib.Core.Path.{◌≡◌}
use mathlib.Core.List.{List}
use mir.Val.{Val}
use lib.ListN.{length}
use denote.Laws.{Is}
use denote.Struct.Laws as Struct
use Rattle.definition.specs.Shape.{DefinitionShape}
use Rattle.definition.proofs.Known.{definition_known}
use Rattle.nucleus.specs.Nucleus.{max_users}
use Rattle.nucleus.specs.declared.State.{State}
use Rattle.nucleus.specs.contracts.State as State'
use Rattle.nucleus.proofs.State.TheLaws as State_laws

pub record StateShape (s : State) : Type 0 where
  pub definition : DefinitionShape s.definition
  pub users : length s.users ≡ max_users
  pub held : length s.et_data ≡ max_users

pub state_known : (s : State) (vs : List Val) → Is State'.the_row s vs → StateShape s
state_known s vs is =
    let k = Struct.owed State'.the_type State_laws.the_laws s vs is in
    record {
      definition = definition_known s.definition _ k.0;
      users = k.1.1.0.1.0.1;
      held = k.1.1.1.0.1.0.1;
    }
