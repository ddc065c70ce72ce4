-- The flat store, read as the store of the abstract machine: a slot for each key of the table. Bytes that a store lacks count as 0, so that every
-- list of bytes is a store; of one that is long enough (`whole_long`) nothing is added.
use Rattle.std.specs.Prelude.{ℕ, ◌-◌, Bool, true, false, ◌&&◌, List, [], ◌∷◌, ◌++◌, eqb, length, replicate, Option, Some, None}
use Rattle.definition.specs.Table.{file_at, file_count}
use Rattle.definition.specs.declared.File.{File}
use Rattle.definition.specs.declared.Definition.{Definition}
use Rattle.records.specs.Records.{record_length}
use Rattle.layout.specs.Layout.{store_size, place, isn_found}
use Rattle.lists.specs.Numbers.{numbers}
use Rattle.store.specs.Store.{get as get_record, put_record, empty, fresh, file_part, with_part}
use Rattle.transactions.specs.Slots.{Slot}
use Rattle.ground.specs.Keys.{key_file, key_isn}

unfoldable pub whole : Definition → List ℕ → List ℕ
whole d store = store ++ replicate (store_size d - length store) 0

-- ---- what stands at a key
abbrev pub get_at : Definition → Option ℕ → ℕ → List ℕ → Slot
get_at d (Some i) isn store = get_record (file_at d i) (file_part d i store) isn
get_at d None isn store = None

unfoldable pub get : Definition → List ℕ → ℕ → Slot
get d store k = get_at d (place d (key_file k)) (key_isn k) (whole d store)

-- ---- a record put at a key, or none
abbrev pub put_in : File → List ℕ → ℕ → Slot → List ℕ
put_in f part isn None = empty f part isn
put_in f part isn (Some r) = put_record f part isn r

abbrev pub put_at : Definition → Option ℕ → ℕ → Slot → List ℕ → List ℕ
put_at d (Some i) isn x store = with_part d i store (put_in (file_at d i) (file_part d i store) isn x)
put_at d None isn x store = store

unfoldable pub put : Definition → List ℕ → ℕ → Slot → List ℕ
put d store k x = put_at d (place d (key_file k)) (key_isn k) x (whole d store)

-- ---- the form that a key asks: it is one of the table's, and a record has the file's width
abbrev pub fit_width : File → Slot → Bool
fit_width f None = true
fit_width f (Some r) = eqb (length r) (record_length f)

abbrev pub fit_at : Definition → Option ℕ → ℕ → Slot → Bool
fit_at d (Some i) isn x = isn_found d (Some i) isn && fit_width (file_at d i) x
fit_at d None isn x = false

unfoldable pub fit : Definition → ℕ → Slot → Bool
fit d k x = fit_at d (place d (key_file k)) (key_isn k) x

-- ---- "Set-up puts 0 in every first byte of an ISN": of one file after the other
abbrev pub fresh_at : Definition → ℕ → List ℕ → List ℕ
fresh_at d i store = with_part d i store (fresh (file_at d i) (file_part d i store))

abbrev pub fresh_from : Definition → List ℕ → List ℕ → List ℕ
fresh_from d [] store = store
fresh_from d (i ∷ is) store = fresh_from d is (fresh_at d i store)

unfoldable pub fresh_store : Definition → List ℕ → List ℕ
fresh_store d store = fresh_from d (numbers (file_count d) 0) (whole d store)
