-- What `partycall` writes for what it reads (document 01, 'The house call list'), whole.
use Rattle.std.specs.Prelude.{ℕ, zero, suc, ◌*◌, List, [], ◌∷◌, ◌++◌, eqb, length, take, drop, replicate, Option, Some, None}
use Rattle.lists.specs.Tests.{cond}
use Rattle.reading.specs.Grammar.{read_table}
use Rattle.nucleus.specs.Responses.{number}
use Rattle.nucleus.specs.Nucleus.{Nucleus, Given, Result}
use Rattle.nucleus.specs.Step.{step, SetUp, set_up}
use Rattle.nucleus.specs.Line.{line}
use Rattle.nucleus.specs.Text.{text}
use Rattle.house.specs.House.{call_length, call_of}

-- "It has a store of 32768 bytes and H 64"
abbrev pub store_length : ℕ
store_length = 32768

abbrev pub capacity : ℕ
capacity = 64

-- "Image buffer: H times the greatest width", which is at most 512
abbrev pub images_length : ℕ
images_length = capacity * 512

abbrev pub newline : ℕ
newline = 10

-- "prints `bad` and stops"
abbrev pub bad : List ℕ
bad = text "bad" ++ newline ∷ []

-- ---- the calls
-- a call's line, and what comes of what it leaves
abbrev pub printed : Given → (Nucleus → List ℕ) → Result → List ℕ
printed g later r = line g.call r ++ newline ∷ later r.nucleus

abbrev pub answered : Option Given → (Nucleus → List ℕ) → Nucleus → List ℕ
answered None later n = bad
answered (Some g) later n = printed g later (step capacity g.call g.format g.buffer n)

-- calls to the end of the bytes; `fuel` bounds their number: the count of the bytes is enough
unfoldable pub lines : ℕ → List ℕ → Nucleus → List ℕ
lines zero bytes n = []
lines (suc fuel) bytes n = cond (eqb (length bytes) 0) [] (answered (call_of bytes) (lines fuel (drop call_length bytes)) n)

-- ---- the whole
-- "A bad table, one too large for the store"
abbrev pub begun : SetUp → List ℕ → List ℕ
begun s calls = cond (eqb (number s.response) 0) (lines (length calls) calls s.nucleus) bad

-- "a definition table, which ends with its kind 0, then calls"
abbrev pub output_at : Option ℕ → List ℕ → List ℕ
output_at None input = bad
output_at (Some end) input =
    begun (set_up capacity (replicate store_length 0) (replicate capacity 0) (replicate images_length 0) (take end input)) (drop end input)

unfoldable pub output : List ℕ → List ℕ
output input = output_at (read_table input).end input
