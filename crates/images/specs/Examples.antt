-- Worked examples: images that count, computed by the definitions. Assumes nothing.
use Rattle.std.specs.Prelude.{ℕ, ◌≡◌, refl, Bool, true, false, List, [], ◌∷◌, map}
use Rattle.lists.specs.Folds.{all}
use Rattle.entries.specs.Entries.{pack_of, unpack_of, entries}
use Rattle.images.specs.Images.{image_has}
use Rattle.entries.specs.declared.Entry.{Entry}

-- users 1 and 2 hold ISNs of files 1 and 2; images of two bytes, named after their entries
unfoldable pub queue : List Entry
queue =
    record { user = 1; file = 1; isn = 7; changed = true; existed = true } ∷
    record { user = 2; file = 1; isn = 8; changed = true; existed = false } ∷
    record { user = 1; file = 2; isn = 7; changed = false; existed = true } ∷
    record { user = 2; file = 1; isn = 9; changed = true; existed = true } ∷ []

unfoldable pub words : List ℕ
words = map pack_of queue

unfoldable pub images : List ℕ
images = 10 ∷ 11 ∷ 20 ∷ 21 ∷ 30 ∷ 31 ∷ 40 ∷ 41 ∷ []

-- ---- a user, a file, an offset and a value, and whether an image that counts has it there
record Case : Type 0 where
  user : ℕ
  file : ℕ
  offset : ℕ
  value : List ℕ
  found : Bool

cases : List Case
cases =
    record { user = 2; file = 1; offset = 0; value = 10 ∷ 11 ∷ []; found = true } ∷
    record { user = 2; file = 1; offset = 1; value = 11 ∷ []; found = true } ∷
    record { user = 1; file = 1; offset = 0; value = 10 ∷ 11 ∷ []; found = false } ∷
    record { user = 2; file = 2; offset = 0; value = 10 ∷ []; found = false } ∷
    record { user = 1; file = 1; offset = 0; value = 20 ∷ []; found = false } ∷
    record { user = 2; file = 2; offset = 0; value = 30 ∷ []; found = false } ∷
    record { user = 1; file = 1; offset = 1; value = 41 ∷ []; found = true } ∷
    record { user = 2; file = 1; offset = 1; value = 11 ∷ 20 ∷ []; found = false } ∷ []

agree : Bool → Bool → Bool
agree true b = b
agree false true = false
agree false false = true

case_right : Case → Bool
case_right c = agree (image_has (entries words 4) images 2 c.user c.file c.offset c.value) c.found

cases_right : all case_right cases ≡ true
unfolding queue words images cases case_right agree pack_of unpack_of entries image_has
cases_right = refl
