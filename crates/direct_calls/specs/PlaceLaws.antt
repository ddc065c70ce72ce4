-- What the steps to a record's place come to together: entries out into words, and the place on these.
-- Assumes nothing.
use Rattle.std.specs.Prelude.{ℕ, min, ◌≡◌, List, length, take}
use Rattle.std.proofs.Math.Path.{sym, ap}
use Rattle.std.proofs.Common.{◌∙◌}
use Rattle.lists.specs.Parts.{take_least}
use Rattle.entries.specs.declared.Entry.{Entry}
use Rattle.committed.specs.declared.Place.{Place}
use Rattle.nucleus.specs.Nucleus.{nucleus}
use Rattle.nucleus.specs.Committed.{committed_place}
use Rattle.nucleus.specs.declared.State.{State}
use Rattle.database.specs.Database.{database, fitting_in, words, direct_place}
use Rattle.database.proofs.Laws.{place_fits}
use Rattle.kept_states.specs.KeptStates.{thawed}
use Rattle.kept_states.specs.declared.KeptState.{KeptState}
use Rattle.direct_calls.specs.DirectCalls.{packed_front}
use Rattle.direct_calls.specs.Places.{place_on_words, kept_place, kept_place_on_words}
use Rattle.direct_calls.specs.Laws.{front_words}

module _ (file isn : ℕ) where
  -- the first n words, lent as as many as there are
  pub placed_front : (n k : ℕ) (s : State) (store ws images : List ℕ) (p : Place) → k ≡ min n (length ws)
      → p ≡ committed_place (nucleus s store (take k ws) images) file isn n → p ≡ place_on_words n s file isn store ws images
  placed_front n k s store ws images p fit placed =
      placed ∙ ap (λ l. committed_place (nucleus s store l images) file isn n) (ap (λ (m : ℕ). take m ws) fit ∙ take_least n ws)

  pub placed_thawed : (n : ℕ) (k : KeptState) (s : State) (store ws images : List ℕ) (p : Place) → s ≡ thawed k
      → p ≡ place_on_words n s file isn store ws images → p ≡ kept_place_on_words n k file isn store ws images
  unfolding kept_place_on_words
  placed_thawed n k s store ws images p same placed = placed ∙ ap (λ t. place_on_words n t file isn store ws images) same

  module _ (capacity : ℕ) (store : List ℕ) (queue : List Entry) (images : List ℕ) (n : ℕ) (blank ws : List ℕ) (fit : n ≡ fitting_in capacity queue) (out : ws ≡ packed_front n queue blank) where
    pub placed_directly : (s : State) (p : Place) → p ≡ place_on_words n s file isn store ws images → p ≡ direct_place capacity (database s store queue images) file isn
    unfolding direct_place
    placed_directly s p placed =
        placed ∙ ap (λ l. committed_place (nucleus s store l images) file isn n) (front_words capacity n queue blank ws fit out)
        ∙ ap (λ (m : ℕ). committed_place (nucleus s store (words m queue) images) file isn m) fit ∙ sym (place_fits capacity file isn (database s store queue images))

    pub kept_placed : (k : KeptState) (p : Place) → p ≡ kept_place_on_words n k file isn store ws images → p ≡ kept_place capacity k file isn store queue images
    unfolding kept_place kept_place_on_words
    kept_placed k p placed = placed_directly (thawed k) p placed
