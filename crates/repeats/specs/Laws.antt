-- What a queue without repeats has. Assumes nothing.
use Rattle.std.specs.Prelude.{ℕ, ◌<◌, ◌≡◌, false, List, length, get_or}
use Rattle.std.proofs.lemmas.Bool.{not-false}
use Rattle.lists.specs.Folds.{distinct, distinct_at}
use Rattle.entries.specs.Laws.{no_entry}
use Rattle.repeats.specs.Repeats.{alike, repeated}
use Rattle.entries.specs.declared.Entry.{Entry}

-- no file and ISN in two entries
pub not_repeated : (es : List Entry) → repeated es ≡ false → (i j : ℕ) → i < j → j < length es → alike (get_or es i no_entry) (get_or es j no_entry) ≡ false
unfolding repeated
not_repeated es h i j b k = distinct_at alike es no_entry (not-false (distinct alike es) h) i j b k
