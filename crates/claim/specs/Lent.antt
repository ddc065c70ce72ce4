-- What was lent at set-up, and what of it nothing touches (document 01: "Bytes and entries past these sizes are never touched").
use Rattle.std.specs.Prelude.{ℕ, ◌*◌, ◌≡◌, List, length, drop}
use Rattle.definition.specs.declared.Definition.{Definition}
use Rattle.layout.specs.Layout.{store_size, image_length}
use Rattle.reading.specs.Grammar.{read_table}

-- the table that set-up read; store, queue and image buffer as they were lent to it. The queue is a list of entries, and in proofs one of words
pub record Lent (A : Type 0) : Type 0 where
  pub definition : Definition
  pub store : List ℕ
  pub queue : List A
  pub images : List ℕ

abbrev pub lent_at : {A : Type 0} → List ℕ → List ℕ → List A → List ℕ → Lent A
lent_at table store queue images = record { definition = (read_table table).definition; store = store; queue = queue; images = images }

-- as long as it was, and past the first `size` as it was
pub record Alike {A : Type 0} (size : ℕ) (new old : List A) : Type 0 where
  pub same_length : length new ≡ length old
  pub same_past : drop size new ≡ drop size old

-- the three beside what was lent: sizes are those of document 01, "H entries", "H times the greatest width"
pub record Past {A : Type 0} (capacity : ℕ) (d : Definition) (lent : Lent A) (store : List ℕ) (queue : List A) (images : List ℕ) : Type 0 where
  pub store_past : Alike (store_size d) store lent.store
  pub queue_past : Alike capacity queue lent.queue
  pub images_past : Alike (capacity * image_length d) images lent.images
