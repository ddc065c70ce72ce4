-- The ground on which the abstract machine of `transactions` stands: the keys of the table, the flat store, the unique fields of a file. The kinds
-- of change are a parameter (`Updates`): what a command does to a record is said above this crate.
use Rattle.std.specs.Prelude.{ℕ, ◌≡◌, Bool, true, false, List, eqb, Some}
use Rattle.lists.specs.Folds.{any}
use Rattle.lists.specs.Sift.{sift}
use Rattle.definition.specs.Table.{field_at, field_count, is_unique}
use Rattle.definition.specs.declared.File.{File}
use Rattle.definition.specs.declared.Definition.{Definition}
use Rattle.lists.specs.Numbers.{numbers}
use Rattle.store.specs.Store.{field_value}
use Rattle.transactions.specs.Slots.{Bytes, Slot}
use Rattle.transactions.specs.Machine.{Ground, Machine}
use Rattle.ground.specs.Keys.{key_file, file_of, keys, known}
use Rattle.ground.specs.Store.{get, put, fit, fresh_store}
use Rattle.ground.specs.Queue.{queue_of}

-- ---- the unique fields of a file, by their places
unfoldable pub uniques : File → List ℕ
uniques f = sift (λ j. is_unique (field_at f j).option) (numbers (field_count f) 0)

-- ---- kinds of change: what each makes of the slot at a key, where it may be made, which unique fields it judges
pub record Updates : Type 1 where
  pub Update : Type 0
  pub apply : ℕ → Update → Slot → Slot
  pub may : Update → ℕ → Slot → Bool
  pub judges : Update → ℕ → Bool

-- over the bytes that were lent at set-up
abbrev pub ground : Definition → Updates → List ℕ → Ground
ground d U lent = record {
  Store = List ℕ;
  get = get d;
  put = put d;
  fresh = fresh_store d lent;
  fit = fit d;
  keys = keys d;
  file = key_file;
  fields = λ F. uniques (file_of d F);
  value = λ F j r. field_value (file_of d F) j r;
  Update = U.Update;
  apply = U.apply;
  may = U.may;
  judges = U.judges;
}

-- store, queue and images, read as the machine
abbrev pub machine : (d : Definition) (U : Updates) (lent store words images : List ℕ) → ℕ → Machine (ground d U lent)
machine d U lent store words images count = record { store = store; queue = queue_of d words images count }

-- what is asked of the kinds of change
pub record UpdateLaws (d : Definition) (U : Updates) : Type 0 where
  pub may_known : (c : U.Update) (k : ℕ) (x : Slot) → U.may c k x ≡ true → known d k ≡ true
  pub may_fit : (c : U.Update) (k : ℕ) (x : Slot) → U.may c k x ≡ true → fit d k (U.apply k c x) ≡ true
  pub kept : (c : U.Update) (k : ℕ) (x : Slot) (r : Bytes) (j : ℕ) → U.may c k x ≡ true → U.apply k c x ≡ Some r
      → any (eqb j) (uniques (file_of d (key_file k))) ≡ true → U.judges c j ≡ false
      → (o : Bytes) × (x ≡ Some o) × (field_value (file_of d (key_file k)) j o ≡ field_value (file_of d (key_file k)) j r)
