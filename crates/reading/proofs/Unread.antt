-- What is left of a table that was read up to a place: one law for each way on from there.
-- Assumes nothing.
use Rattle.std.specs.Prelude.{Some, None}
use mathlib.Core.Path.{◌≡◌, refl}
use mathlib.Core.Bool.{true, false}
use mathlib.Core.List.{List}
use Prim.Native.Nat.{ℕ, zero, suc, ◌+◌, ◌≤◌, ◌<◌}
use native.Mathlib.Omega.{arith}
use lib.ListN.{length, drop, length-drop, drop_of_length-le}
use Rattle.definition.specs.Table.{no_definition}
use Rattle.items.specs.Laws.{item_fits, item_none}
use Rattle.items.specs.Items.{item_of}
use Rattle.reading.specs.Grammar.{room_for_file, room_for_field, add_file, add_field, broken, ended, proceed, read_from, read_table}
use Rattle.definition.specs.declared.Definition.{Definition}
use Rattle.definition.specs.declared.Field.{Field}
use Rattle.items.specs.declared.Item.TheVariants.{File as item_file, Field as item_field, End as item_end}

-- ---- reading goes on at `at` with d: enough fuel is left, and what comes of it is the whole reading
pub record Pending (bytes : List ℕ) (at : ℕ) (d : Definition) : Type 0 where
  pub fuel : ℕ
  pub enough : length bytes ≤ at + fuel
  pub same : read_from fuel bytes at d ≡ read_table bytes

pub start : (bytes : List ℕ) → Pending bytes 0 no_definition
unfolding read_table
start bytes = record { fuel = length bytes; enough = omega arith; same = refl }

module _ (bytes : List ℕ) (at : ℕ) (d : Definition) (p : Pending bytes at d) where
  -- past the bytes there is no item
  pub past : length bytes ≤ at → broken ≡ read_table bytes
  unfolding read_from
  past h = go p.fuel p.same
    where
      go : (k : ℕ) → read_from k bytes at d ≡ read_table bytes → broken ≡ read_table bytes
      go zero e = e
      go (suc k) e = rw (drop_of_length-le bytes h, item_none) at e

  -- before their end some fuel is left, and the item there decides
  pub record Next : Type 0 where
    pub fuel : ℕ
    pub enough : length bytes ≤ at + suc fuel
    pub same : proceed (read_from fuel bytes) at d (item_of (drop at bytes)) ≡ read_table bytes

  next : at < length bytes → Next
  unfolding read_from
  next h = go p.fuel p.enough p.same
    where
      go : (k : ℕ) → length bytes ≤ at + k → read_from k bytes at d ≡ read_table bytes → Next
      go zero n e = absurd (omega arith)
      go (suc k) n e = record { fuel = k; enough = n; same = e }

  module _ (h : at < length bytes) where
    pub at_broken : item_of (drop at bytes) ≡ None → broken ≡ read_table bytes
    at_broken i = rw i at (next h).same

    pub at_end : item_of (drop at bytes) ≡ Some item_end → ended d (at + 1) ≡ read_table bytes
    at_end i = rw i at (next h).same

    module _ (n m : ℕ) (i : item_of (drop at bytes) ≡ Some (item_file n m)) where
      pub file_full : room_for_file d ≡ false → broken ≡ read_table bytes
      file_full r = rw (i, r) at (next h).same

      pub file_more : room_for_file d ≡ true → Pending bytes (at + 4) (add_file d n m)
      file_more r = record { fuel = (next h).fuel; enough = omega (arith, (next h).enough); same = rw (i, r) at (next h).same }

      pub file_inside : at + 4 ≤ length bytes
      file_inside = omega (arith, rw i at (item_fits (drop at bytes)), length-drop at bytes)

    module _ (f : Field) (i : item_of (drop at bytes) ≡ Some (item_field f)) where
      pub field_full : room_for_field d ≡ false → broken ≡ read_table bytes
      field_full r = rw (i, r) at (next h).same

      pub field_more : room_for_field d ≡ true → Pending bytes (at + 6) (add_field d f)
      field_more r = record { fuel = (next h).fuel; enough = omega (arith, (next h).enough); same = rw (i, r) at (next h).same }

      pub field_inside : at + 6 ≤ length bytes
      field_inside = omega (arith, rw i at (item_fits (drop at bytes)), length-drop at bytes)
