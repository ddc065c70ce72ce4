-- The changes of the journal as the abstract machine's kinds of change: what each makes of the slot at a key, where it may be made, and which
-- unique fields it judges ("N1 and N2 judge every unique field, A1 the named ones").
use Rattle.std.specs.Prelude.{ℕ, Bool, true, false, ◌&&◌, List, map, eqb, length, Some, None}
use Rattle.lists.specs.Folds.{any}
use Rattle.definition.specs.declared.Definition.{Definition}
use Rattle.records.specs.Records.{record_length}
use Rattle.elements.specs.Elements.{places}
use Rattle.transactions.specs.Slots.{Slot}
use Rattle.transactions.specs.Machine.{Change as MachineChange}
use Rattle.ground.specs.Keys.{key, key_file, file_of, known}
use Rattle.ground.specs.Ground.{Updates}
use Rattle.claim.specs.Journal.{Update, replace, erase, add, Change, apply}

-- a change of a record of the file
pub record FileUpdate : Type 0 where
  pub file : ℕ
  pub update : Update

-- A1 needs a record of the file's width
abbrev pub has_width : ℕ → Slot → Bool
has_width n None = false
has_width n (Some r) = eqb (length r) n

abbrev pub suits : Definition → ℕ → Update → Slot → Bool
suits d file (replace format values) x = has_width (record_length (file_of d file)) x
suits d file erase x = true
suits d file (add format values) x = true

abbrev pub judged_by : Definition → ℕ → Update → ℕ → Bool
judged_by d file (replace format values) k = any (eqb k) (places (file_of d file) format)
judged_by d file erase k = true
judged_by d file (add format values) k = true

abbrev pub updates : Definition → Updates
updates d = record {
  Update = FileUpdate;
  apply = λ k c x. apply (file_of d (key_file k)) c.update x;
  may = λ c k x. known d k && eqb (key_file k) c.file && suits d c.file c.update x;
  judges = λ c k. judged_by d c.file c.update k;
}

-- a change of the journal as the machine has it
abbrev pub as_change : Change → MachineChange FileUpdate
as_change c = record {
  user = c.user;
  key = key c.file c.isn;
  update = record { file = c.file; update = c.update };
  uncommitted = c.uncommitted;
}

abbrev pub logged : List Change → List (MachineChange FileUpdate)
logged cs = map as_change cs
