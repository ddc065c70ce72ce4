-- What stands at a key: a record's bytes, or none.
use Rattle.std.specs.Prelude.{List, ℕ, Option}

abbrev pub Bytes : Type 0
Bytes = List ℕ

abbrev pub Slot : Type 0
Slot = Option Bytes
