-- Whoever owns a kept file knows that it has sixteen places. In a proof: `places c.args.k _ c.good.0` at a first parameter `k`.
-- Assumes nothing.
use mathlib.Core.Path.{◌≡◌}
use mathlib.Core.List.{List}
use mir.Val.{Val}
use lib.ListN.{length}
use denote.Laws.{Is}
use denote.Struct.Laws as Struct
use Rattle.kept_tables.specs.declared.KeptFile.{KeptFile}
use Rattle.kept_tables.specs.contracts.KeptFile as KeptFile'
use Rattle.kept_tables.proofs.KeptFile.TheLaws as KeptFile_laws

pub places : (k : KeptFile) (vs : List Val) → Is KeptFile'.the_row k vs → length k.fields ≡ 16
places k vs is =
    let known = Struct.owed KeptFile'.the_type KeptFile_laws.the_laws k vs is in
    known.1.1.1.0.1.0.1
