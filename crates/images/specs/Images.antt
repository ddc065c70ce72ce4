-- Entries with their images (document 01: "Image buffer: H times the greatest width, one image an entry, moving with it").
use Rattle.std.specs.Prelude.{ℕ, Bool, not, ◌&&◌, List, [], ◌∷◌, eqb, length, take, drop}
use Rattle.lists.specs.Tests.{eqbs}
use Rattle.lists.specs.Folds.{any}
use Rattle.entries.specs.declared.Entry.{Entry}

-- ---- entries with their images
pub record Hold : Type 0 where
  pub entry : Entry
  pub image : List ℕ

abbrev pub hold_of : Entry → List ℕ → Hold
hold_of e b = record { entry = e; image = b }

abbrev pub with_images : ℕ → List Entry → List ℕ → List Hold
with_images width [] images = []
with_images width (e ∷ es) images = hold_of e (take width images) ∷ with_images width es (drop width images)

-- ---- unique values (document 01: "an image of another user's changed entry in that file has it there and a record was there before")
abbrev pub counts : ℕ → ℕ → Entry → Bool
counts user file e = not (eqb e.user user) && (eqb e.file file && (e.changed && e.existed))

-- the bytes stand in the list at an offset
abbrev pub has_at : ℕ → List ℕ → List ℕ → Bool
has_at offset value image = eqbs (take (length value) (drop offset image)) value

abbrev pub taken_by : ℕ → ℕ → ℕ → List ℕ → Hold → Bool
taken_by user file offset value h = counts user file h.entry && has_at offset value h.image

unfoldable pub image_has : List Entry → List ℕ → ℕ → ℕ → ℕ → ℕ → List ℕ → Bool
image_has es images width user file offset value = any (taken_by user file offset value) (with_images width es images)
