-- What the loop of `partycall` reads and writes, where the bytes of its reader and of its writer are known.
use Rattle.std.specs.Prelude.{ℕ, ◌+◌, ◌-◌, ◌≤◌, ◌<◌, ◌≡◌, min, List, [], ◌∷◌, ◌++◌, length, take, drop, get_or, Option, None, Some, IfSome}
use Rattle.std.specs.Io.KnownBytes.{Appends}
use Rattle.reading.specs.Grammar.{read_table}
use Rattle.nucleus.specs.Nucleus.{Nucleus, Result, nucleus}
use Rattle.nucleus.specs.Line.{line}
use Rattle.nucleus.specs.declared.Call.{Call}
use Rattle.nucleus.specs.declared.State.{State}
use Rattle.house.specs.House.{call_length, rest_of_item}
use Rattle.output.specs.Output.{newline, lines}

-- so many bytes were read to the front of a buffer: as many as it has room for, or all that were left
abbrev pub Filled : Option (List ℕ) → Option (List ℕ) → ℕ → List ℕ → Type 0
Filled old new n buffer = IfSome old (λ xs. (n ≡ min (length buffer) (length xs)) × (take n buffer ≡ take n xs) × (new ≡ Some (drop n xs)))

-- ---- the items of a table
-- an item lay at the front of the bytes, and lies behind a place of the table now
abbrev pub ItemRead : List ℕ → Option (List ℕ) → ℕ → ℕ → List ℕ → List ℕ → Type 0
ItemRead xs left at next old new =
    (n : ℕ) × (rest_of_item (get_or xs 0 0) ≡ Some n) × (next ≡ at + 1 + n) × (1 + n ≤ length xs)
    × (take next new ≡ take at old ++ take (1 + n) xs) × (left ≡ Some (drop (1 + n) xs))

-- no item lies there: its kind is unknown, it is cut, or there is no room for it
abbrev pub NoItem : List ℕ → ℕ → Type 0
NoItem xs room = (n : ℕ) → rest_of_item (get_or xs 0 0) ≡ Some n → min (length xs) room < 1 + n

-- the only place where a good table may end; it is read as far as that
abbrev pub TableRead : List ℕ → Option (List ℕ) → ℕ → List ℕ → Type 0
TableRead xs left n table = (take n table ≡ take n xs) × ((e : ℕ) → (read_table xs).end ≡ Some e → e ≡ n) × (left ≡ Some (drop n xs))

-- there is none, or it was read
abbrev pub TableFound : List ℕ → Option (List ℕ) → Option ℕ → List ℕ → Type 0
TableFound xs left None table = (e : ℕ) → (read_table xs).end ≡ Some e → ⊥
TableFound xs left (Some n) table = TableRead xs left n table

-- ---- the calls
-- a call that leaves so much has printed its line, where its record buffer is one of the house call list
abbrev pub CallPrinted : Call → List ℕ → Result → Option (List ℕ) → Option (List ℕ) → Nucleus → Type 0
CallPrinted call buffer r old new left = (r.nucleus ≡ left) × (length buffer ≤ 35 → Appends old new (line call r ++ newline ∷ []))

-- what calls to the end of the bytes print
abbrev pub lines_of : List ℕ → Nucleus → List ℕ
lines_of xs n = lines (length xs) xs n

-- one call was served: it was the last, or what is printed goes on with the next
abbrev pub OneServed : List ℕ → Option (List ℕ) → Option (List ℕ) → Option (List ℕ) → Nucleus → Option State → List ℕ → List ℕ → List ℕ → Type 0
OneServed xs left old new n None store queue images = Appends old new (lines_of xs n)
OneServed xs left old new n (Some state) store queue images =
    (w : List ℕ) × Appends old new w × (call_length ≤ length xs) × (left ≡ Some (drop call_length xs))
    × (lines_of xs n ≡ w ++ lines_of (drop call_length xs) (nucleus state store queue images))
