-- The whole record as a part (document 02, No. 8): "a piece of the image buffer or of the store, uncopied (no call; no bytes where `C` gets 11, 12, 17
-- or 113)". Said here is where it lies; `bytes_at` of `committed` has the bytes of a place.
use Rattle.std.specs.Prelude.{ℕ, Option, Some, None}
use Rattle.lists.specs.Tests.{cond, within}
use Rattle.definition.specs.Table.{file_at}
use Rattle.definition.specs.declared.Definition.{Definition}
use Rattle.layout.specs.Layout.{file_offset, place}
use Rattle.store.specs.Store.{file_part}
use Rattle.committed.specs.Committed.{committed_version, no_place, version_place}
use Rattle.committed.specs.declared.Place.{Place}
use Rattle.nucleus.specs.Nucleus.{Nucleus, entries_of, width_of}
use Rattle.nucleus.specs.Rows.{first_cause, rows_usable}
use Rattle.nucleus.specs.declared.Response.{Response}

-- 11 and 12
abbrev pub place_unless : Option Response → Place → Place
place_unless (Some cause) p = no_place
place_unless None p = p

module _ (n : Nucleus) (file isn : ℕ) where
  abbrev d : Definition
  d = n.state.definition

  -- 17, and 113 twice: of an ISN that is not the file's, and of one without a record
  abbrev pub place_in : Option ℕ → Place
  place_in (Some i) =
      cond (within 1 (file_at d i).max_isn isn)
      (version_place (file_at d i) (file_offset d i) (file_part d i n.store) n.images (width_of n) (committed_version (entries_of n) file isn) isn)
      no_place
  place_in None = no_place

  unfoldable pub committed_place : ℕ → Place
  committed_place capacity = place_unless (first_cause (rows_usable capacity n)) (place_in (place d file))
