-- What holds of machine and journal after any operations: for any users, backing them out of the one gives what the other has without them.
use Rattle.std.proofs.Math.Path.{◌≡◌}
use Rattle.std.specs.Prelude.{Bool, ℕ, Some}
use Rattle.std.proofs.Math.Bool.{true, false}
use Rattle.std.proofs.Math.Dec.{eqb}
use Rattle.lists.specs.Folds.{any, all}
use Rattle.transactions.specs.Slots.{Bytes, Slot}
use Rattle.transactions.specs.Machine.{Ground, Machine, Journal}
use Rattle.transactions.specs.View.{Single, at}
use Rattle.transactions.specs.Effect.{told, view, fitting}

module _ (G : Ground) where
  open G use {keys, file, fields, value}

  -- two slots share no unique value of file `F`
  abbrev pub Apart : ℕ → Slot → Slot → Type 0
  Apart F x y = (a b : Bytes) (d : ℕ) → x ≡ Some a → y ≡ Some b → any (eqb d) (fields F) ≡ true → value F d a ≡ value F d b → ⊥

  -- two keys of one file
  pub record Two (k j : ℕ) : Type 0 where
    pub one : any (eqb k) keys ≡ true
    pub two : any (eqb j) keys ≡ true
    pub unlike : eqb k j ≡ false
    pub same : file k ≡ file j

  -- what holds of machine and journal after any list of operations
  pub record Invariant (m : Machine G) (b : Journal G) : Type 0 where
    pub single : (k : ℕ) → Single (at k m.queue)
    pub fits : all (fitting G) m.queue ≡ true
    pub agree : (P : ℕ → Bool) (k : ℕ) → view G P k m ≡ told G P k b
    pub apart : (P : ℕ → Bool) (k j : ℕ) → Two k j → Apart (file k) (view G P k m) (view G P j m)
