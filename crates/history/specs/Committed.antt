-- The record as ended transactions left it (document 02, No. 8), read off a nucleus.
use Rattle.std.specs.Prelude.{ℕ, List, Option, None}
use Rattle.lists.specs.Tests.{cond, within}
use Rattle.definition.specs.declared.Definition.{Definition}
use Rattle.layout.specs.Layout.{image_length, place, file_found}
use Rattle.entries.specs.declared.Entry.{Entry}
use Rattle.committed.specs.Committed.{committed_version}
use Rattle.committed.specs.declared.Version.{Version}
use Rattle.ground.specs.Committed.{version_slot}
use Rattle.nucleus.specs.Nucleus.{Nucleus, entries_of}
use Rattle.nucleus.specs.Target.{part_in}
use Rattle.history.specs.Kept.{definition_of}

-- ---- the record, of a table with store and images: its version in the file that was found
abbrev pub committed_at : Definition → List ℕ → List ℕ → ℕ → Version → Option ℕ → Option (List ℕ)
committed_at d store images isn v x =
    cond (within 1 (file_found d x).max_isn isn) (version_slot (file_found d x) (part_in d x store) images (image_length d) v isn) None

-- with the entries in use
abbrev pub committed_in : Definition → List ℕ → List ℕ → ℕ → ℕ → List Entry → Option (List ℕ)
committed_in d store images file isn es = committed_at d store images isn (committed_version es file isn) (place d file)

abbrev pub committed_of : Nucleus → ℕ → ℕ → Option (List ℕ)
committed_of n file isn = committed_in (definition_of n) n.store n.images file isn (entries_of n)
