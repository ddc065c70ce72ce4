-- What a version that has a record says of its bytes.
-- Assumes nothing.
use Rattle.std.specs.Prelude.{ℕ, ◌+◌, ◌*◌, ◌≤◌, ◌≡◌, true, List, drop}
use Rattle.std.proofs.Common.{arith, ◌∙◌, length-take}
use Rattle.std.proofs.Math.Path.{refl}
use Rattle.std.proofs.Math.Bool.{false}
use Rattle.std.proofs.Math.ListN.{length, length-drop}
use borrow.Author.Tests.{leb-true}
use Rattle.lists.specs.Tests.{not_both}
use Rattle.definition.specs.declared.File.{File}
use Rattle.records.specs.Records.{record_length}
use Rattle.store.proofs.Laws.{shown_length}
use Rattle.committed.specs.Committed.{image_inside, version_there, version_bytes}
use Rattle.committed.specs.declared.Version.{Version}
use Rattle.committed.specs.declared.Version.TheVariants.{Stored, Imaged, Absent}

module _ (f : File) (part images : List ℕ) (width isn : ℕ) where
  pub version_length : (v : Version) → version_there f part images width v isn ≡ true → length (version_bytes f part images width v isn) ≡ record_length f
  unfolding version_there version_bytes
  version_length Stored there = shown_length f part isn there
  version_length (Imaged i) there =
      let inside : i * width + record_length f ≤ length images = leb-true _ _ there in
      rw there (length-take (record_length f) (drop (i * width) images) ∙ omega (arith, length-drop (i * width) images))
  version_length Absent there = not_both false there refl
