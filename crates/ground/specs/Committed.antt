-- A version of a record as a slot of the abstract machine.
use Rattle.std.specs.Prelude.{ℕ, List, Some, None}
use Rattle.lists.specs.Tests.{cond}
use Rattle.definition.specs.declared.File.{File}
use Rattle.committed.specs.Committed.{version_there, version_bytes}
use Rattle.committed.specs.declared.Version.{Version}
use Rattle.transactions.specs.Slots.{Slot}

-- a version as a slot: its record, or none
abbrev pub version_slot : File → List ℕ → List ℕ → ℕ → Version → ℕ → Slot
version_slot f part images width v isn = cond (version_there f part images width v isn) (Some (version_bytes f part images width v isn)) None
