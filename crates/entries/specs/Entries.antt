-- Entries of the hold queue (document 01: "the hold queue is a lent list of entries (user, file, ISN, changed or not, record there before or not),
-- oldest first"). How an entry lies in its word is said by `pack_of` and `unpack_of`; everything else speaks of lists of entries.
use Rattle.std.specs.Prelude.{ℕ, ◌+◌, ◌*◌, ◌/◌, ◌%◌, Bool, true, false, ◌&&◌, List, map, eqb, take}
use Rattle.entries.specs.declared.Entry.{Entry}

-- ---- an entry and its word
abbrev pub bit : Bool → ℕ
bit true = 1
bit false = 0

unfoldable pub pack_of : Entry → ℕ
pack_of e = e.user + e.file * 256 + e.isn * 65536 + bit e.changed * 4294967296 + bit e.existed * 8589934592

-- bits above those of an entry are not looked at
unfoldable pub unpack_of : ℕ → Entry
unpack_of w = record {
  user = w % 256;
  file = w / 256 % 256;
  isn = w / 65536 % 65536;
  changed = eqb (w / 4294967296 % 2) 1;
  existed = eqb (w / 8589934592 % 2) 1;
}

-- the entries in use: those of the first `count` words, or of all where there are fewer
unfoldable pub entries : List ℕ → ℕ → List Entry
entries words count = map unpack_of (take count words)

-- whether an entry is of a file and an ISN
abbrev pub is_of : ℕ → ℕ → Entry → Bool
is_of file isn e = eqb e.file file && eqb e.isn isn
