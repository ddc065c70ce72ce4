-- A call on the words of a queue's first entries.
use Rattle.std.specs.Prelude.{ℕ, List, ◌++◌, map, take, drop}
use Rattle.entries.specs.Entries.{pack_of, unpack_of}
use Rattle.entries.specs.declared.Entry.{Entry}
use Rattle.nucleus.specs.Nucleus.{Nucleus, nucleus, Result, resulting}
use Rattle.nucleus.specs.Step.{step}
use Rattle.nucleus.specs.declared.Call.{Call}

-- the words with the first n entries of the queue in front
abbrev pub packed_front : ℕ → List Entry → List ℕ → List ℕ
packed_front n queue ws = map pack_of (take n queue) ++ drop n ws

-- the queue with the entries of the first n words in front
abbrev pub unpacked_front : ℕ → List ℕ → List Entry → List Entry
unpacked_front n ws queue = map unpack_of (take n ws) ++ drop n queue

-- the words that a call did not work on stay behind those that it left
abbrev pub with_rest : List ℕ → Result → Result
with_rest rest r = resulting r.answer (nucleus r.nucleus.state r.nucleus.store (r.nucleus.queue ++ rest) r.nucleus.images) r.buffer

-- a call on the first n words
abbrev pub on_words : ℕ → Call → List ℕ → List ℕ → Nucleus → Result
on_words n call format buffer k = with_rest (drop n k.queue) (step n call format buffer (nucleus k.state k.store (take n k.queue) k.images))
