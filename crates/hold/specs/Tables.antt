-- The back-out by tables that are made once: the numbers of the files, and where each begins in the store.
-- Assumes nothing.
use Rattle.std.specs.Prelude.{ℕ, ◌+◌, ◌≤◌, ◌<◌, ◌≡◌, refl, List, [], ◌∷◌, map, eqb, length, take, drop, Option, Some, None}
use Rattle.std.proofs.Common.{arith, sym, ◌∙◌, take_all}
use Rattle.std.proofs.Math.Path.{ap}
use Rattle.std.proofs.Math.ListN.{length-take}
use borrow.Author.Tests.{lt-leb, le-leb}
use Rattle.lists.specs.Tests.{cond, Outcome, holds, fails, outcome}
use Rattle.lists.specs.Folds.{total}
use Rattle.definition.specs.Table.{file_count, files_of}
use Rattle.definition.specs.Shape.{DefinitionShape}
use Rattle.records.specs.Records.{file_size}
use Rattle.layout.specs.Layout.{file_offset, store_size, seek, place}
use Rattle.layout.specs.Laws.{place_found}
use Rattle.definition.specs.declared.File.{File}
use Rattle.definition.specs.declared.Definition.{Definition}
use Rattle.entries.specs.declared.Entry.{Entry}
use Rattle.hold.specs.Hold.{put_back, put_back_at, put_back_of, undone, restored}

abbrev pub file_number : File → ℕ
file_number f = f.number

-- the place of the first number from here on that is the one sought
abbrev pub seek_number : ℕ → List ℕ → ℕ → Option ℕ
seek_number n [] i = None
seek_number n (m ∷ ms) i = cond (eqb m n) (Some i) (seek_number n ms (i + 1))

-- the place of the file in which an entry is undone
abbrev pub undone_at : List ℕ → ℕ → Entry → Option ℕ
undone_at numbers user e = cond (undone user e) (seek_number e.file numbers 0) None

-- ---- by their numbers files are found where `seek` finds them
seek_numbers : (n : ℕ) (fs : List File) (i : ℕ) → seek_number n (map file_number fs) i ≡ seek n fs i
seek_numbers n [] i = refl
seek_numbers n (f ∷ fs) i = ap (cond (eqb f.number n) (Some i)) (seek_numbers n fs (i + 1))

module _ (d : Definition) where
  undone_place : (user : ℕ) (e : Entry) → undone_at (map file_number (files_of d)) user e ≡ cond (undone user e) (place d e.file) None
  unfolding place
  undone_place user e = ap (λ t. cond (undone user e) t None) (seek_numbers e.file (files_of d) 0)

  -- where a file is found it is one in use
  pub undone_found : DefinitionShape d → (user : ℕ) (e : Entry) (i : ℕ) → undone_at (map file_number (files_of d)) user e ≡ Some i → i < file_count d
  undone_found s user e i found = go (outcome (undone user e)) (sym (undone_place user e) ∙ found)
    where
      go : Outcome (undone user e) → cond (undone user e) (place d e.file) None ≡ Some i → i < file_count d
      go (holds t) h = (place_found d s e.file i (rw t at h)).0
      go (fails t) h = absurd (let z : ◌≡◌ {A = ℕ} 0 1 = cc (rw t at h) in omega arith)

  -- what an entry puts back, in a store that is long enough
  pub put_back_undone : (user : ℕ) (e : Entry) (image store : List ℕ) → store_size d ≤ length store
      → put_back_of d user e image store ≡ put_back_at d (undone_at (map file_number (files_of d)) user e) e image store
  unfolding put_back
  put_back_undone user e image store room =
      rw (undone_place user e, le-leb (store_size d) (length store) room) (go (outcome (undone user e)))
    where
      go : Outcome (undone user e) → cond (undone user e) (put_back_at d (place d e.file) e image store) store ≡ put_back_at d (cond (undone user e) (place d e.file) None) e image store
      go (holds t) = rw t
      go (fails t) = rw t

  -- behind the last file the store ends
  pub store_end : file_offset d (file_count d) ≡ store_size d
  unfolding file_offset store_size
  store_end = ap (total file_size) (take_all (file_count d) (files_of d) (omega (arith, length-take (file_count d) d.files)))

  -- a store that is too short stays as it is
  put_back_short : (user : ℕ) (e : Entry) (image store : List ℕ) → length store < store_size d → put_back_of d user e image store ≡ store
  unfolding put_back
  put_back_short user e image store short = rw (lt-leb (store_size d) (length store) short) (go (outcome (undone user e)))
    where
      go : Outcome (undone user e) → cond (undone user e) store store ≡ store
      go (holds t) = rw t
      go (fails t) = rw t

  pub restored_short : (width user : ℕ) (es : List Entry) (images store : List ℕ) → length store < store_size d → restored d width user es images store ≡ store
  restored_short width user [] images store short = refl
  restored_short width user (e ∷ es) images store short =
      ap (restored d width user es (drop width images)) (put_back_short user e (take width images) store short) ∙ restored_short width user es (drop width images) store short
