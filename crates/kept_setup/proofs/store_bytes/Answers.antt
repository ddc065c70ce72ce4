-- `store_bytes` meets its contract. Assumes nothing.
use Rattle.std.specs.Prelude.{Option}
use Prim.Native.Nat.{ℕ}
use mathlib.Core.Path.{◌≡◌, sym, ap, ◌∙◌}
use mathlib.Core.List.{List}
use borrow.Author.Tests.{eq-eqb, ne_eqb}
use Rattle.layout.specs.Layout.{store_size}
use Rattle.reading.specs.Grammar.{read_table}
use Rattle.reading.specs.declared.Reading.{Reading}
use Rattle.kept_setup.specs.KeptSetup.{store_bytes}
use Rattle.kept_setup.proofs.store_bytes.Goals as goal

-- where the table ends, as it was read
ends : (t : List ℕ) (x : Reading) → x ≡ read_table t → (e : Option ℕ) → x.end ≡ e → (read_table t).end ≡ e
ends t x same e h = ap (λ (y : Reading). y.end) (sym same) ∙ h

pub returns-in_default : goal.returns-in_default
unfolding store_bytes
returns-in_default c = rw (ends _ _ c.read-read.ensures _ c.in_default.is)

pub returns-then-at-table : goal.returns-then-at-table
unfolding store_bytes
returns-then-at-table c = rw (ends _ _ c.read-read.ensures _ c.in-Some.is, ne_eqb _ _ c.if-at-table.true)

pub returns : goal.returns
unfolding store_bytes
returns c =
    let same = c.read-read.ensures in
    rw (ends _ _ same _ c.in-Some.is, eq-eqb _ _ c.if-at-table.false, c.store_size.ensures) (ap (λ (x : Reading). store_size x.definition) same)
