-- What stands at a key once the users that a test picks are backed out: of the machine (`view`), of the journal (`told`).
use Rattle.std.specs.Prelude.{Bool, ◌||◌, ℕ, None}
use Rattle.std.proofs.Math.Bool.{not}
use Rattle.transactions.specs.Slots.{Slot}
use Rattle.transactions.specs.Machine.{Entry, Ground, Machine, Journal, strike, replay}
use Rattle.transactions.specs.View.{back}

module _ (G : Ground) where
  open G use {get, fit}

  -- what the journal tells of a key once the users that `P` picks are struck
  abbrev pub told : (ℕ → Bool) → ℕ → Journal G → Slot
  told P k b = replay G k None (strike G P b)

  -- what stands at a key once the users that `P` picks are backed out
  abbrev pub view : (ℕ → Bool) → ℕ → Machine G → Slot
  view P k m = back k P (get m.store k) m.queue

  -- an image has the form of its key's slots
  abbrev pub fitting : Entry → Bool
  fitting e = not e.changed || fit e.key e.image
