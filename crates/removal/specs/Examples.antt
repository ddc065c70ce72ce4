-- Worked examples: removals, computed by the definitions. Assumes nothing.
use Rattle.std.specs.Prelude.{ℕ, ◌≡◌, refl, Bool, true, false, ◌&&◌, List, [], ◌∷◌, eqb, get_or}
use Rattle.lists.specs.Folds.{all}
use Rattle.lists.specs.Tests.{eqbs}
use Rattle.entries.specs.Entries.{pack_of, unpack_of, entries}
use Rattle.removal.specs.Closing.{closed}
use Rattle.removal.specs.Removal.{remove_queue, remove_images, remove_count, picked_out}
use Rattle.removal.specs.declared.Removal.{Removal}
use Rattle.removal.specs.declared.Removal.TheVariants.{One, Unchanged, All}
use Rattle.images.specs.Examples.{queue, words, images}

-- ---- a removal, how many it leaves, and the images after it
record Row : Type 0 where
  count : ℕ
  which : Removal
  left : ℕ
  after : List ℕ

rows : List Row
rows =
    record { count = 4; which = One 1 7; left = 3; after = 20 ∷ 21 ∷ 30 ∷ 31 ∷ 40 ∷ 41 ∷ 40 ∷ 41 ∷ [] } ∷
    record { count = 4; which = One 2 7; left = 3; after = 10 ∷ 11 ∷ 20 ∷ 21 ∷ 40 ∷ 41 ∷ 40 ∷ 41 ∷ [] } ∷
    record { count = 4; which = One 3 7; left = 4; after = images } ∷
    record { count = 4; which = Unchanged 1; left = 3; after = 10 ∷ 11 ∷ 20 ∷ 21 ∷ 40 ∷ 41 ∷ 40 ∷ 41 ∷ [] } ∷
    record { count = 4; which = Unchanged 2; left = 4; after = images } ∷
    record { count = 4; which = All 1; left = 2; after = 20 ∷ 21 ∷ 40 ∷ 41 ∷ 30 ∷ 31 ∷ 40 ∷ 41 ∷ [] } ∷
    record { count = 2; which = All 1; left = 1; after = 20 ∷ 21 ∷ 20 ∷ 21 ∷ 30 ∷ 31 ∷ 40 ∷ 41 ∷ [] } ∷
    record { count = 5; which = All 1; left = 5; after = images } ∷ []

right : Row → Bool
right r =
    eqb (remove_count words images r.count 2 r.which) r.left && eqbs (remove_images words images r.count 2 r.which) r.after

rows_right : all right rows ≡ true
unfolding queue words images rows right pack_of unpack_of entries remove_count remove_images closed
rows_right = refl

-- the entries move as their images do
queue_after : entries (remove_queue words images 4 2 (All 2)) 2
    ≡ record { user = 1; file = 1; isn = 7; changed = true; existed = true } ∷ record { user = 1; file = 2; isn = 7; changed = false; existed = true } ∷ []
unfolding queue words images pack_of unpack_of entries remove_queue closed
queue_after = refl

-- ---- picked out, oldest first, no more than there are places for
record Picking : Type 0 where
  count : ℕ
  which : Removal
  places : ℕ
  words : List ℕ

pickings : List Picking
pickings =
    record { count = 4; which = All 1; places = 4; words = get_or words 0 0 ∷ get_or words 2 0 ∷ [] } ∷
    record { count = 4; which = All 1; places = 1; words = get_or words 0 0 ∷ [] } ∷
    record { count = 2; which = All 1; places = 4; words = get_or words 0 0 ∷ [] } ∷
    record { count = 5; which = Unchanged 1; places = 4; words = get_or words 2 0 ∷ [] } ∷
    record { count = 4; which = One 2 7; places = 4; words = get_or words 2 0 ∷ [] } ∷
    record { count = 4; which = One 3 7; places = 4; words = [] } ∷ []

pickings_right : all (λ p. eqbs (picked_out words p.count p.which p.places) p.words) pickings ≡ true
unfolding queue words pickings pack_of unpack_of picked_out
pickings_right = refl
