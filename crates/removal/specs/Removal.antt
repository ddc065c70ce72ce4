-- Entries leave the hold queue (document 01: "removal closes the gap"; an image moves with its entry).
use Rattle.std.specs.Prelude.{ℕ, ◌*◌, Bool, not, ◌&&◌, List, map, eqb, leb, length, take}
use Rattle.lists.specs.Tests.{cond}
use Rattle.lists.specs.Sift.{sift}
use Rattle.entries.specs.Entries.{is_of, unpack_of, entries}
use Rattle.removal.specs.Closing.{closed, set_count}
use Rattle.entries.specs.declared.Entry.{Entry}
use Rattle.removal.specs.declared.Removal.{Removal}
use Rattle.removal.specs.declared.Removal.TheVariants.{One, Unchanged, All}

-- whether an entry goes
abbrev pub goes : Removal → Entry → Bool
goes (One file isn) e = is_of file isn e
goes (Unchanged user) e = eqb e.user user && not e.changed
goes (All user) e = eqb e.user user

abbrev pub stays : Removal → Entry → Bool
stays which e = not (goes which e)

-- for each entry, whether it stays
abbrev pub staying : Removal → List Entry → List Bool
staying which es = map (stays which) es

-- whether the queue has `count` entries and the buffer an image for each
abbrev pub fits : List ℕ → List ℕ → ℕ → ℕ → Bool
fits words images count width = leb count (length words) && leb (count * width) (length images)

-- what stays moves to the front, a word or an image of `width` bytes for each entry; past that nothing is written
module _ (words images : List ℕ) (count width : ℕ) (which : Removal) where
  unfoldable pub remove_queue : List ℕ
  remove_queue = cond (fits words images count width) (closed 1 (staying which (entries words count)) words) words

  unfoldable pub remove_images : List ℕ
  remove_images = cond (fits words images count width) (closed width (staying which (entries words count)) images) images

  -- how many entries are left
  unfoldable pub remove_count : ℕ
  remove_count = cond (fits words images count width) (set_count (staying which (entries words count))) count

-- ---- the words of the entries that go, oldest first, as many as there are places for
abbrev pub going : Removal → List ℕ → List ℕ
going which words = sift (λ w. goes which (unpack_of w)) words

unfoldable pub picked_out : List ℕ → ℕ → Removal → ℕ → List ℕ
picked_out words count which places = take places (going which (take count words))
