-- The place of a record, over the parts of a nucleus that code has in hand.
use Rattle.std.specs.Prelude.{ℕ, List, Option, Some, None}
use Rattle.lists.specs.Tests.{cond, within}
use Rattle.definition.specs.Table.{file_at}
use Rattle.definition.specs.declared.Definition.{Definition}
use Rattle.layout.specs.Layout.{file_offset, image_length}
use Rattle.store.specs.Store.{file_part}
use Rattle.entries.specs.Entries.{entries}
use Rattle.committed.specs.Committed.{committed_version, no_place, version_place}
use Rattle.committed.specs.declared.Place.{Place}

-- 17 and 113
unfoldable pub place_found : Definition → ℕ → ℕ → ℕ → List ℕ → List ℕ → List ℕ → Option ℕ → Place
place_found d count file isn store queue images (Some i) =
    cond (within 1 (file_at d i).max_isn isn)
    (version_place (file_at d i) (file_offset d i) (file_part d i store) images (image_length d) (committed_version (entries queue count) file isn) isn)
    no_place
place_found d count file isn store queue images None = no_place
