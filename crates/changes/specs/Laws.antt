-- What a change makes of the entries, and whether one is changed already.
-- Assumes nothing.
use Rattle.std.specs.Prelude.{ℕ, ◌<◌, ◌≡◌, Bool, List, length, get_or, set}
use Rattle.std.proofs.Common.{arith, sym, ap, ◌∙◌, length-set}
use Rattle.std.proofs.lemmas.Bool.{lt-leb}
use Rattle.entries.specs.Entries.{pack_of, unpack_of, entries}
use Rattle.entries.specs.Laws.{Shape, unpack_pack, unpack_shape, no_entry, length_entries, entry_at, entries_set}
use Rattle.changes.specs.Changes.{as_changed, change, settled}
use Rattle.entries.specs.declared.Entry.{Entry}

changed_shape : (existed : Bool) (e : Entry) → Shape e → Shape (as_changed existed e)
changed_shape existed e s = record { user = s.user; file = s.file; isn = s.isn }

-- one entry changed, the others as they were
pub entries_change : (words : List ℕ) (count at : ℕ) (existed : Bool) → at < count → entries (change words at existed) count ≡ set (entries words count) at (as_changed existed (get_or (entries words count) at no_entry))
unfolding change
entries_change words count at existed h =
    entries_set words count at (pack_of (as_changed existed (unpack_of (get_or words at 0)))) h
    ∙ ap (set (entries words count) at)
    (unpack_pack (as_changed existed (unpack_of (get_or words at 0))) (changed_shape existed (unpack_of (get_or words at 0)) (unpack_shape (get_or words at 0)))
    ∙ ap (as_changed existed) (sym (entry_at words count at h)))

pub length_change : (words : List ℕ) (at : ℕ) (existed : Bool) → length (change words at existed) ≡ length words
unfolding change
length_change words at existed = length-set words at (pack_of (as_changed existed (unpack_of (get_or words at 0))))

-- whether an entry in use is changed already
pub settled_at : (words : List ℕ) (count at : ℕ) → at < length (entries words count) → settled words at ≡ (get_or (entries words count) at no_entry).changed
unfolding settled
settled_at words count at h =
    let long : at < length words = omega (arith, length_entries words count) in
    let inside : at < count = omega (arith, length_entries words count) in
    rw (lt-leb (length words) at long, entry_at words count at inside)
