-- The part that is a whole record (document 02, No. 8): the bytes where it lies are those of the version that is shown, and none where none is.
-- Assumes nothing.
use Rattle.std.specs.Prelude.{ℕ, ◌+◌, ◌≤◌, ◌≡◌, true, false, List, [], length, drop}
use Rattle.std.proofs.Common.{arith, sym}
use Rattle.std.proofs.Math.Path.{refl}
use Rattle.std.proofs.Math.ListN.{length-take}
use Rattle.lists.specs.Tests.{Outcome, holds, fails, outcome}
use Rattle.lists.specs.Pieces.{piece, piece_piece}
use Rattle.definition.specs.Table.{file_at}
use Rattle.definition.specs.declared.File.{File}
use Rattle.definition.specs.declared.Definition.{Definition}
use Rattle.records.specs.Records.{record_length, slot_offset, file_size}
use Rattle.layout.specs.Layout.{file_offset}
use Rattle.store.specs.Store.{has_record, file_part}
use Rattle.store.proofs.Laws.{record_inside, shown_record, shown_none}
use Rattle.committed.specs.Committed.{image_inside, version_there, version_bytes, version_place, bytes_at}
use Rattle.committed.specs.declared.Version.{Version}
use Rattle.committed.specs.declared.Version.TheVariants.{Stored, Imaged, Absent}

-- no bytes of a version without a record
pub absent_bytes : (f : File) (part images : List ℕ) (width : ℕ) (v : Version) (isn : ℕ)
    → version_there f part images width v isn ≡ false → version_bytes f part images width v isn ≡ []
unfolding version_there version_bytes
absent_bytes f part images width Stored isn h = shown_none f part isn h
absent_bytes f part images width (Imaged i) isn h = rw h
absent_bytes f part images width Absent isn h = refl

-- of a file whose part lies at an offset of the store
module _ (f : File) (offset size : ℕ) (store images : List ℕ) (width isn : ℕ) where
  abbrev part : List ℕ
  part = piece offset size store

  stored_bytes : has_record f part isn ≡ true → piece (offset + (slot_offset f isn + 1)) (record_length f) store ≡ version_bytes f part images width Stored isn
  unfolding version_bytes
  stored_bytes t =
      let short : slot_offset f isn + 1 + record_length f ≤ size = omega (arith, record_inside f part isn t, length-take size (drop offset store)) in
      rw (shown_record f part isn t) (sym (piece_piece (slot_offset f isn + 1) (record_length f) offset size store short))

  lies : (v : Version) → bytes_at (version_place f offset part images width v isn) store images ≡ version_bytes f part images width v isn
  unfolding bytes_at version_place version_bytes
  lies Stored = go (outcome (has_record f part isn))
    where
      go : Outcome (has_record f part isn) → bytes_at (version_place f offset part images width Stored isn) store images ≡ version_bytes f part images width Stored isn
      go (holds t) = rw t (stored_bytes t)
      go (fails t) = rw t (sym (shown_none f part isn t))
  lies (Imaged i) = go (outcome (image_inside f (length images) width i))
    where
      go : Outcome (image_inside f (length images) width i)
          → bytes_at (version_place f offset part images width (Imaged i) isn) store images ≡ version_bytes f part images width (Imaged i) isn
      go (holds t) = rw t
      go (fails t) = rw t
  lies Absent = refl

pub place_bytes : (d : Definition) (i : ℕ) (store images : List ℕ) (width : ℕ) (v : Version) (isn : ℕ)
    → bytes_at (version_place (file_at d i) (file_offset d i) (file_part d i store) images width v isn) store images
    ≡ version_bytes (file_at d i) (file_part d i store) images width v isn
unfolding file_part
place_bytes d i store images width v isn = lies (file_at d i) (file_offset d i) (file_size (file_at d i)) store images width isn v
