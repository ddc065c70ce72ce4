-- Worked examples: an entry and its word, computed by the definitions. Assumes nothing.
use Rattle.std.specs.Prelude.{◌≡◌, refl, true, false}
use Rattle.entries.specs.Entries.{pack_of, unpack_of}
use Rattle.entries.specs.declared.Entry.{Entry}

first : Entry
first = record { user = 1; file = 16; isn = 4095; changed = true; existed = false }

-- an entry as a word, and back; a bit that no entry uses is not looked at
word : pack_of first ≡ 0x1_0FFF_1001
unfolding first pack_of
word = refl

back : unpack_of 0x1_0FFF_1001 ≡ first
unfolding first unpack_of
back = refl

more_bits : unpack_of 0xF000_0001_0FFF_1001 ≡ first
unfolding first unpack_of
more_bits = refl
