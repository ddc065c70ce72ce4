-- `set_up_for` meets its contract: at each `return`, for any queue that has as many entries. Assumes nothing.
use Rattle.std.specs.Prelude.{Option}
use mathlib.Core.Path.{◌≡◌, sym, ap, ◌∙◌}
use mathlib.Core.Bool.{Bool, true, false}
use mathlib.Core.List.{List}
use Prim.Native.Nat.{ℕ}
use lib.ListN.{length, replicate, length-replicate}
use borrow.Author.Tests.{eq-eqb, ne_eqb}
use Rattle.definition.specs.declared.Definition.{Definition}
use Rattle.reading.specs.Grammar.{read_table}
use Rattle.reading.specs.declared.Reading.{Reading}
use Rattle.nucleus.specs.WellMade.{too_short}
use Rattle.lists.specs.Numbers.{numbers}
use Rattle.definition.specs.Table.{file_count}
use Rattle.nucleus.specs.Nucleus.{nucleus, fresh_state}
use Rattle.nucleus.specs.Step.{SetUp, freshened, set_up}
use Rattle.nucleus.specs.declared.Response.TheVariants.{Good}
use Rattle.usability.specs.Sizes.{too_short_for, too_short_is, store_long}
use Rattle.setup.proofs.set_up_for.Goals as goal

-- where the table ends, as it was read
ends : (t : List ℕ) (x : Reading) → x ≡ read_table t → (e : Option ℕ) → x.end ≡ e → (read_table t).end ≡ e
ends t x same e h = ap (λ (y : Reading). y.end) (sym same) ∙ h

holds_of : (t : List ℕ) (x : Reading) → x ≡ read_table t → (f : Definition → Bool) (b : Bool) → f x.definition ≡ b → f (read_table t).definition ≡ b
holds_of t x same f b h = ap (λ (y : Reading). f y.definition) (sym same) ∙ h

abbrev set_up_good : List ℕ → List ℕ → List ℕ → Definition → SetUp
set_up_good store queue images d = record { response = Good; nucleus = nucleus (fresh_state d) (freshened d (numbers (file_count d) 0) store) queue images }

-- too short for the entries is too short for any queue that has as many
judged : (d : Definition) (capacity : ℕ) (store queue images : List ℕ) (entries : ℕ) (x b : Bool) → length queue ≡ entries → x ≡ too_short_for d capacity store entries images → x ≡ b → too_short d capacity store queue images ≡ b
judged d capacity store queue images entries x b e is was = too_short_is d capacity store queue images ∙ ap (λ (m : ℕ). too_short_for d capacity store m images) e ∙ sym is ∙ was

pub returns-in_default : goal.returns-in_default
unfolding set_up
returns-in_default c queue e =
    let broken = ends _ _ c.read-read.ensures _ c.in_default.is in
    rw (broken, c.refused.ensures)

pub returns-then-at-table : goal.returns-then-at-table
unfolding set_up
returns-then-at-table c queue e =
    let at = ends _ _ c.read-read.ensures _ c.in-Some.is in
    let more = ne_eqb _ _ c.if-at-table.true in
    rw (at, more, c.refused-then-at-table.ensures)

pub returns-then-too_short_for : goal.returns-then-too_short_for
unfolding set_up
returns-then-too_short_for c queue e =
    let a = c.args in
    let at = ends _ _ c.read-read.ensures _ c.in-Some.is in
    let whole = eq-eqb _ _ c.if-at-table.false in
    let short = judged _ _ _ queue _ _ _ _ e c.too_short_for.ensures c.if-too_short_for.true in
    rw (at, whole, holds_of _ _ c.read-read.ensures (λ d. too_short d a.capacity a.store.now queue a.images.now) true short, c.refused-then-too_short_for.ensures)

pub freshen-requires : goal.freshen-requires
freshen-requires c =
    let a = c.args in
    store_long _ a.capacity a.store.now (replicate a.entries 0) a.images.now
    (judged _ _ _ (replicate a.entries 0) _ _ _ _ (length-replicate a.entries 0) c.too_short_for.ensures c.if-too_short_for.false)

pub returns : goal.returns
unfolding set_up
returns c queue e =
    let a = c.args in
    let same = c.read-read.ensures in
    let at = ends _ _ same _ c.in-Some.is in
    let whole = eq-eqb _ _ c.if-at-table.false in
    let long = judged _ _ _ queue _ _ _ _ e c.too_short_for.ensures c.if-too_short_for.false in
    rw (at, whole, holds_of _ _ same (λ d. too_short d a.capacity a.store.now queue a.images.now) false long, c.fresh_state.ensures, c.freshen.ensures)
    (ap (λ (x : Reading). set_up_good a.store.now queue a.images.now x.definition) same)
