-- Requirement 3 (document 01): a backed-out transaction never was, and no unique value is in two records of its file then.
--
-- For every definition table, capacity and lent store, queue and images for which set-up answers 0; for every list of calls, each with its
-- own format and record buffer; and for every list of BTs of different users whom the journal then has in a transaction: after the calls and those
-- BTs the nucleus has the records that the journal has with those users' open changes struck. With no BT at all this is the first half of the
-- requirement: after every list of calls the nucleus has the records of the journal.
use Rattle.std.specs.Prelude.{ℕ, ◌<◌, ◌≡◌, ◌≢◌, true, List, map, eqb, Some}
use Rattle.lists.specs.Folds.{all, distinct}
use Rattle.definition.specs.Table.{field_at, field_count}
use Rattle.definition.specs.declared.FieldOption.TheVariants.{Unique}
use Rattle.definition.specs.declared.File.{File}
use Rattle.definition.specs.declared.Definition.{Definition}
use Rattle.layout.specs.Layout.{place, file_found}
use Rattle.store.specs.Store.{field_value}
use Rattle.reading.specs.Grammar.{read_table}
use Rattle.nucleus.specs.Nucleus.{Given}
use Rattle.entries.specs.declared.Entry.{Entry}
use Rattle.database.specs.Database.{set_up_database}
use Rattle.nucleus.specs.declared.Response.TheVariants.{Good}
use Rattle.claim.specs.Journal.{Journal, in_transaction, record_told}
use Rattle.claim.specs.Run.{World, BackOut, run, begin, back_outs, struck_all, record_in}

-- ---- equal records: "Equal are, in each file, the ISNs with a record and its bytes"
abbrev pub SameRecords : Definition → List ℕ → Journal → Type 0
SameRecords d store j = (file isn : ℕ) → record_in d store file isn ≡ record_told d j file isn

-- ---- no unique value twice
abbrev pub file_numbered : Definition → ℕ → File
file_numbered d file = file_found d (place d file)

abbrev pub UniqueValues : Definition → List ℕ → Type 0
UniqueValues d store =
    (file isn other k : ℕ) (a b : List ℕ)
    → isn ≢ other
    → record_in d store file isn ≡ Some a
    → record_in d store file other ≡ Some b
    → k < field_count (file_numbered d file)
    → (field_at (file_numbered d file) k).option ≡ Unique
    → field_value (file_numbered d file) k a ≢ field_value (file_numbered d file) k b

-- ---- the claim
abbrev pub users_of : List BackOut → List ℕ
users_of bs = map (λ (b : BackOut). b.user) bs

-- one BT of each of any users whom the journal has in a transaction, in any order
pub record Chosen (bs : List BackOut) (j : Journal) : Type 0 where
  pub different : distinct eqb (users_of bs) ≡ true
  pub active : all (in_transaction j) (users_of bs) ≡ true

pub record NeverWas (capacity : ℕ) (d : Definition) (bs : List BackOut) (w : World) : Type 0 where
  pub same_records : SameRecords d (back_outs capacity bs w.database).store (struck_all bs w.journal)
  pub unique_values : UniqueValues d (back_outs capacity bs w.database).store

-- "The book of requirement 3 has the set-up's table": files and fields are those that set-up read
abbrev pub Requirement3 : Type 0
Requirement3 =
    (capacity : ℕ) (table store : List ℕ) (queue : List Entry) (images : List ℕ) (calls : List Given) (bs : List BackOut)
    → (set_up_database capacity store queue images table).response ≡ Good
    → Chosen bs (run capacity calls (begin capacity store queue images table)).journal
    → NeverWas capacity (read_table table).definition bs (run capacity calls (begin capacity store queue images table))
