-- Laws of reading: what was read is valid, so reading and judging agree, and it ends within the bytes.
-- Assumes nothing.
use Prim.Native.Nat.{ℕ, zero, suc, ◌+◌, ◌-◌, ◌≤◌}
use Rattle.std.proofs.Common.{arith, length-drop}
use Rattle.std.specs.Prelude.{◌≡◌, Bool, true, false, List, length, drop, Some, Option, None}
use Rattle.lists.specs.Tests.{cond, Outcome, holds, fails, outcome}
use Rattle.definition.specs.Table.{no_definition}
use Rattle.validity.specs.Validity.{valid}
use Rattle.items.specs.Items.{item_of}
use Rattle.items.specs.Laws.{item_size, item_fits}
use Rattle.reading.specs.Grammar.{room_for_file, room_for_field, add_file, add_field, broken, ended, proceed, read_from, read_table}
use Rattle.definition.specs.declared.Definition.{Definition}
use Rattle.items.specs.declared.Item.{Item}
use Rattle.items.specs.declared.Item.TheVariants.{File as item_file, Field as item_field, End as item_end}
use Rattle.reading.specs.declared.Reading.{Reading}

-- ---- a reading that has an end has a valid definition, and ends within the bytes; one that is broken has no file
pub data Sound (bytes : List ℕ) : Reading → Type 0 where
  whole : {d : Definition} {e : ℕ} → valid d ≡ true → e ≤ length bytes → Sound bytes (record { end = Some e; definition = d })
  refused : Sound bytes broken

module _ (bytes : List ℕ) where
  ended_sound : (d : Definition) (e : ℕ) → e ≤ length bytes → Sound bytes (ended d e)
  ended_sound d e h = go (outcome (valid d))
    where
      go : Outcome (valid d) → Sound bytes (ended d e)
      go (holds v) = rw v (whole v h)
      go (fails v) = rw v refused

  cond_sound : (b : Bool) (r : Reading) → Sound bytes r → Sound bytes (cond b r broken)
  cond_sound true r s = s
  cond_sound false r s = refused

  module _ (on : ℕ → Definition → Reading) (later : (at : ℕ) (d : Definition) → Sound bytes (on at d)) where
    proceed_sound : (at : ℕ) (d : Definition) (i : Option Item) → item_size i ≤ length bytes - at → Sound bytes (proceed on at d i)
    proceed_sound at d (Some (item_file n m)) h = cond_sound (room_for_file d) (on (at + 4) (add_file d n m)) (later (at + 4) (add_file d n m))
    proceed_sound at d (Some (item_field f)) h = cond_sound (room_for_field d) (on (at + 6) (add_field d f)) (later (at + 6) (add_field d f))
    proceed_sound at d (Some item_end) h = ended_sound d (at + 1) (omega arith)
    proceed_sound at d None h = refused

  from_sound : (fuel at : ℕ) (d : Definition) → Sound bytes (read_from fuel bytes at d)
  unfolding read_from
  from_sound zero at d = refused
  from_sound (suc fuel) at d =
      proceed_sound (read_from fuel bytes) (from_sound fuel) at d (item_of (drop at bytes)) (rw (length-drop at bytes) at (item_fits (drop at bytes)))

  pub read_sound : Sound bytes (read_table bytes)
  unfolding read_table
  read_sound = from_sound (length bytes) 0 no_definition

  pub read_valid : (e : ℕ) → (read_table bytes).end ≡ Some e → valid (read_table bytes).definition ≡ true
  read_valid e = go (read_table bytes) read_sound
    where
      go : (r : Reading) → Sound bytes r → r.end ≡ Some e → valid r.definition ≡ true
      go r (whole v h) q = v
      go r refused q = absurd (let z : ◌≡◌ {A = ℕ} 0 1 = cc in omega arith)

  pub read_within : (e : ℕ) → (read_table bytes).end ≡ Some e → e ≤ length bytes
  read_within e = go (read_table bytes) read_sound
    where
      go : (r : Reading) → Sound bytes r → r.end ≡ Some e → e ≤ length bytes
      go r (whole {e = e'} v h) q = let same : e' ≡ e = cc in rw (← same) h
      go r refused q = absurd (let z : ◌≡◌ {A = ℕ} 0 1 = cc in omega arith)
