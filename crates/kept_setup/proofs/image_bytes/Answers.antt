-- `image_bytes` meets its contract. Assumes nothing.
use Rattle.std.specs.Prelude.{Option}
use Prim.Native.Nat.{ℕ, ◌*◌}
use mathlib.Core.Path.{◌≡◌, sym, ap, ◌∙◌}
use mathlib.Core.List.{List}
use borrow.Author.Tests.{eq-eqb, ne_eqb, lt-ltb, le-ltb}
use Rattle.layout.specs.Layout.{image_length}
use Rattle.reading.specs.Grammar.{read_table}
use Rattle.reading.specs.declared.Reading.{Reading}
use Rattle.kept_setup.specs.KeptSetup.{image_bytes}
use Rattle.kept_setup.proofs.image_bytes.Goals as goal

-- where the table ends, as it was read
ends : (t : List ℕ) (x : Reading) → x ≡ read_table t → (e : Option ℕ) → x.end ≡ e → (read_table t).end ≡ e
ends t x same e h = ap (λ (y : Reading). y.end) (sym same) ∙ h

pub returns-then-capacity-gt-MAX_CAPACITY : goal.returns-then-capacity-gt-MAX_CAPACITY
unfolding image_bytes
returns-then-capacity-gt-MAX_CAPACITY c = rw (lt-ltb _ _ c.if-capacity-gt-MAX_CAPACITY.true)

pub returns-in_default : goal.returns-in_default
unfolding image_bytes
returns-in_default c = rw (le-ltb _ _ c.if-capacity-gt-MAX_CAPACITY.false, ends _ _ c.read-read.ensures _ c.in_default.is)

pub returns-then-at-table : goal.returns-then-at-table
unfolding image_bytes
returns-then-at-table c = rw (le-ltb _ _ c.if-capacity-gt-MAX_CAPACITY.false, ends _ _ c.read-read.ensures _ c.in-Some.is, ne_eqb _ _ c.if-at-table.true)

pub image_room-requires : goal.image_room-requires
image_room-requires c = c.if-capacity-gt-MAX_CAPACITY.false

pub returns : goal.returns
unfolding image_bytes
returns c =
    let same = c.read-read.ensures in
    let a = c.args in
    rw (le-ltb _ _ c.if-capacity-gt-MAX_CAPACITY.false, ends _ _ same _ c.in-Some.is, eq-eqb _ _ c.if-at-table.false, c.image_room.ensures) (ap (λ (x : Reading). a.capacity * image_length x.definition) same)
