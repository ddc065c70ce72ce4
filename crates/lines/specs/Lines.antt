-- Bytes written into a lent buffer: at a place, and at its front.
use Rattle.std.specs.Prelude.{ℕ, ◌+◌, ◌≤◌, ◌≡◌, List, ◌++◌, leb, length, take, drop}
use Rattle.std.proofs.lemmas.List.Edits.{sets}
use Rattle.lists.specs.Tests.{cond}

-- so many lie at the front of a list. The second part follows from the first, and is what a caller has to show who lends them
abbrev pub Within : ℕ → List ℕ → Type 0
Within n l = (n ≤ length l) × (n ≡ length (take n l))

-- ---- bytes at a place of a lent buffer: the place behind them, and what is in the buffer then
abbrev pub Put : List ℕ → ℕ → List ℕ → ℕ → List ℕ → Type 0
Put old at new end left = (end ≡ at + length new) × (left ≡ sets old at new)

-- ---- bytes at the front of a lent buffer: all of them, or where it is too short none
unfoldable pub put_length : List ℕ → List ℕ → ℕ
put_length new old = cond (leb (length new) (length old)) (length new) 0

unfoldable pub put_front : List ℕ → List ℕ → List ℕ
put_front new old = cond (leb (length new) (length old)) (new ++ drop (length new) old) old

abbrev pub Front : List ℕ → List ℕ → ℕ → List ℕ → Type 0
Front new old end left = (end ≡ put_length new old) × (left ≡ put_front new old)
