-- The back-out (document 01, 'Hold, change, end').
use Rattle.std.specs.Prelude.{ℕ, ◌*◌, Bool, ◌&&◌, List, [], ◌∷◌, eqb, leb, length, take, drop, Option, Some, None}
use Rattle.lists.specs.Tests.{cond}
use Rattle.definition.specs.Table.{file_at}
use Rattle.records.specs.Records.{record_length}
use Rattle.layout.specs.Layout.{store_size, place}
use Rattle.store.specs.Store.{put_record, empty, file_part, with_part}
use Rattle.entries.specs.Entries.{entries}
use Rattle.definition.specs.declared.File.{File}
use Rattle.definition.specs.declared.Definition.{Definition}
use Rattle.entries.specs.declared.Entry.{Entry}

-- ---- "A back-out puts every changed entry's image back, or makes its ISN empty where no record was"
-- of one entry, in its file's part of the store
unfoldable pub put_back_in : File → Entry → List ℕ → List ℕ → List ℕ
put_back_in f e image part = cond e.existed (put_record f part e.isn (take (record_length f) image)) (empty f part e.isn)

abbrev pub put_back_at : Definition → Option ℕ → Entry → List ℕ → List ℕ → List ℕ
put_back_at d (Some i) e image store = with_part d i store (put_back_in (file_at d i) e image (file_part d i store))
put_back_at d None e image store = store

-- in the store, where it is as long as the table asks
unfoldable pub put_back : Definition → Entry → List ℕ → List ℕ → List ℕ
put_back d e image store = cond (leb (store_size d) (length store)) (put_back_at d (place d e.file) e image store) store

-- an entry of a user, where it is changed
abbrev pub undone : ℕ → Entry → Bool
undone user e = eqb e.user user && e.changed

abbrev pub put_back_of : Definition → ℕ → Entry → List ℕ → List ℕ → List ℕ
put_back_of d user e image store = cond (undone user e) (put_back d e image store) store

-- of all his entries, oldest first; each has its image in a block of `width` bytes
abbrev pub restored : Definition → ℕ → ℕ → List Entry → List ℕ → List ℕ → List ℕ
restored d width user [] images store = store
restored d width user (e ∷ es) images store = restored d width user es (drop width images) (put_back_of d user e (take width images) store)

unfoldable pub restore : Definition → ℕ → ℕ → List ℕ → List ℕ → ℕ → List ℕ → List ℕ
restore d width user queue images count store =
    cond (leb (count * width) (length images)) (restored d width user (entries queue count) images store) store
