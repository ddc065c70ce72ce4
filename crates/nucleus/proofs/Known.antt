-- Whoever owns ET data knows how many bytes it has. In a proof: `data_places c.args.x _ c.good.0` at a first parameter `x`.
-- Assumes nothing.
use mathlib.Core.Path.{◌≡◌}
use mathlib.Core.List.{List}
use mir.Val.{Val}
use lib.ListN.{length}
use denote.Laws.{Is}
use denote.Struct.Laws as Struct
use Rattle.nucleus.specs.Nucleus.{max_et_data}
use Rattle.nucleus.specs.declared.EtData.{EtData}
use Rattle.nucleus.specs.contracts.EtData as EtData'
use Rattle.nucleus.proofs.EtData.TheLaws as EtData_laws

pub data_places : (e : EtData) (vs : List Val) → Is EtData'.the_row e vs → length e.bytes ≡ max_et_data
data_places e vs is =
    let k = Struct.owed EtData'.the_type EtData_laws.the_laws e vs is in
    k.1.0.1.0.1
