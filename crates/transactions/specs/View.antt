-- What the hold queue puts back at a key for the users that a test picks.
use Rattle.std.specs.Prelude.{◌≡◌, Bool, true, false, not, cond, ◌&&◌, ◌||◌, List, [], ◌∷◌, ℕ, eqb}
use Rattle.lists.specs.Sift.{sift}
use Rattle.transactions.specs.Slots.{Slot}
use Rattle.transactions.specs.Machine.{Entry, at_key, with_hold}

-- no key twice: at a key stands one entry or none
pub data Single : List Entry → Type 0 where
  nobody : Single []
  holder : (e : Entry) → Single (e ∷ [])

-- the entries at a key
abbrev pub at : ℕ → List Entry → List Entry
at k q = sift (at_key k) q

-- the slot `x` at key `k`, with what the queue puts back for the users that `P` picks
abbrev pub hit : (ℕ → Bool) → Entry → Bool
hit P e = e.changed && P e.user

abbrev pub back : ℕ → (ℕ → Bool) → Slot → List Entry → Slot
back k P x [] = x
back k P x (e ∷ q) = back k P (cond (at_key k e && hit P e) e.image x) q

-- the same over the entries at one key
abbrev pub backs : (ℕ → Bool) → Slot → List Entry → Slot
backs P x [] = x
backs P x (e ∷ q) = backs P (cond (hit P e) e.image x) q

abbrev pub plus : (ℕ → Bool) → ℕ → ℕ → Bool
plus P u v = P v || eqb v u

abbrev pub less : (ℕ → Bool) → ℕ → ℕ → Bool
less P u v = P v && not (eqb v u)

-- the holder, once the key is held
pub record Held (u k : ℕ) (q : List Entry) : Type 0 where
  pub who : Entry
  pub alone : at k (with_hold u k q) ≡ who ∷ []
  pub his : who.user ≡ u
  pub here : at_key k who ≡ true

-- nobody is backed out
abbrev pub stay : ℕ → Bool
stay v = false
