-- What is kept of a state is the state: frozen and thawed again it is what it was, where the unused places of its table are empty, and so is one whose
-- table did not change.
-- Assumes nothing.
use Rattle.std.specs.Prelude.{ℕ, ◌≡◌, false, List, map}
use Rattle.std.proofs.Common.{sym}
use Rattle.lists.specs.Tests.{cond}
use Rattle.definition.specs.Table.{no_definition}
use Rattle.definition.specs.declared.Definition.{Definition}
use Rattle.kept_tables.specs.KeptTables.{kept_files_of, files_known, frozen_file}
use Rattle.kept_tables.specs.Laws.{Tidy, frozen_known, files_back, seen, files_unseen, known_unseen}
use Rattle.kept_tables.specs.declared.KeptFile.{KeptFile}
use Rattle.nucleus.specs.declared.State.{State}
use Rattle.kept_states.specs.KeptStates.{thawed_table, thawed, frozen, with_kept_table}
use Rattle.kept_states.specs.declared.KeptState.{KeptState}

table_back : (d : Definition) → Tidy d → thawed_table d.count (map frozen_file d.files) ≡ d
unfolding thawed_table
table_back d t = rw (frozen_known d.count d.files) (λ i. record { count = d.count; files = files_back d t i })

pub state_back : (s : State) → Tidy s.definition → thawed (frozen s) ≡ s
unfolding thawed frozen
state_back s t = λ i. record { definition = table_back s.definition t i; clock = s.clock; users = s.users; et_data = s.et_data; last_assigned = s.last_assigned; count = s.count; wait_queue = s.wait_queue }

pub thawed_with : (k : KeptState) (s : State) → s.definition ≡ (thawed k).definition → thawed (with_kept_table k s) ≡ s
unfolding thawed with_kept_table
thawed_with k s e = λ i. record { definition = sym e i; clock = s.clock; users = s.users; et_data = s.et_data; last_assigned = s.last_assigned; count = s.count; wait_queue = s.wait_queue }

-- a table with an unknown byte in use
pub thawed_none : (k : KeptState) → files_known k.count k.files ≡ false → (thawed k).definition ≡ no_definition
unfolding thawed thawed_table
thawed_none k e = rw e

-- what stands behind a count, of files or of a file's fields, is not looked at
pub table_unseen : (count : ℕ) (files other : List KeptFile) → map seen (kept_files_of count files) ≡ map seen (kept_files_of count other) → thawed_table count files ≡ thawed_table count other
unfolding thawed_table
table_unseen count files other same = λ i. cond (known_unseen count files other same i) (record { count = count; files = files_unseen count files other same i }) no_definition
