-- Whether what is lent is too short, by the number of entries that the queue has. And it is long enough where it is not too short.
-- Assumes nothing.
use Rattle.std.specs.Prelude.{ℕ, ◌*◌, ◌≤◌, ◌≡◌, refl, Bool, false, not, ◌||◌, List, ltb, length}
use Rattle.std.proofs.Common.{ltb-false}
use Rattle.lists.specs.Tests.{within, or_left, or_right}
use Rattle.definition.specs.declared.Definition.{Definition}
use Rattle.layout.specs.Layout.{store_size, image_length}
use Rattle.nucleus.specs.Nucleus.{max_capacity}
use Rattle.nucleus.specs.WellMade.{too_short}

unfoldable pub too_short_for : Definition → ℕ → List ℕ → ℕ → List ℕ → Bool
too_short_for d capacity store entries images =
    not (within 1 max_capacity capacity)
    || ltb entries capacity
    || ltb (length store) (store_size d)
    || ltb (length images) (capacity * image_length d)

pub too_short_is : (d : Definition) (capacity : ℕ) (store queue images : List ℕ) → too_short d capacity store queue images ≡ too_short_for d capacity store (length queue) images
unfolding too_short too_short_for
too_short_is d capacity store queue images = refl

module _ (d : Definition) (capacity : ℕ) (store queue images : List ℕ) (long : too_short d capacity store queue images ≡ false) where
  abbrev tests : too_short d capacity store queue images ≡ false → ((not (within 1 max_capacity capacity) || ltb (length queue) capacity) || ltb (length store) (store_size d)) ≡ false
  unfolding too_short
  tests h = or_left _ (ltb (length images) (capacity * image_length d)) h

  pub store_long : store_size d ≤ length store
  store_long = ltb-false (length store) (store_size d) (or_right (not (within 1 max_capacity capacity) || ltb (length queue) capacity) _ (tests long))

  pub queue_long : capacity ≤ length queue
  queue_long = ltb-false (length queue) capacity (or_right (not (within 1 max_capacity capacity)) _ (or_left _ (ltb (length store) (store_size d)) (tests long)))
