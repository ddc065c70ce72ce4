-- `committed_place` meets its contract: no bytes where the state or what is lent cannot be used. Assumes nothing.
use Rattle.std.specs.Prelude.{Option, Some, None}
use Rattle.std.specs.Result.{is_err}
use Prim.Native.Nat.{ℕ}
use mathlib.Core.Path.{◌≡◌, refl, sym, ap, ◌∙◌}
use mathlib.Core.Bool.{true, false}
use Rattle.lists.specs.Tests.{not_both}
use Rattle.layout.specs.Layout.{place}
use Rattle.committed.specs.Committed.{no_place}
use Rattle.committed.specs.declared.Place.{Place}
use Rattle.nucleus.specs.Nucleus.{Nucleus, nucleus}
use Rattle.nucleus.specs.Rows.{first_cause, rows_usable}
use Rattle.nucleus.specs.Committed.{place_unless, place_in, committed_place}
use Rattle.nucleus.specs.declared.Response.{Response}
use Rattle.shares.specs.Shares.{verdict}
use Rattle.usability.proofs.Laws.{usable_long}
use Rattle.usability.specs.Sizes.{store_long}
use Rattle.committed_places.specs.Places.{place_found}
use Rattle.committed_places.proofs.committed_place.Goals as goal
use Rattle.committed_places.proofs.committed_place.Goals.{After-is_err}

-- no cause where nothing is refused, and no bytes where anything is
passes : (x : Option Response) → is_err (verdict x) ≡ false → x ≡ None
passes (Some cause) h = not_both true refl h
passes None h = refl

refuses : (x : Option Response) → is_err (verdict x) ≡ true → (p : Place) → place_unless x p ≡ no_place
refuses (Some cause) h p = refl
refuses None h p = not_both false h refl

module _ (n : Nucleus) (file isn capacity : ℕ) where
  placed_in : first_cause (rows_usable capacity n) ≡ None
      → (p : Place) → p ≡ place_found n.state.definition n.state.count file isn n.store n.queue n.images (place n.state.definition file)
      → p ≡ committed_place n file isn capacity
  unfolding committed_place place_found
  placed_in usable p placed = placed ∙ sym (rw usable (go (place n.state.definition file)))
    where
      go : (x : Option ℕ) → place_in n file isn x ≡ place_found n.state.definition n.state.count file isn n.store n.queue n.images x
      go (Some i) = refl
      go None = refl

asked : (c : After-is_err) → let a = c.args in
    c.is_err.result ≡ is_err (verdict (first_cause (rows_usable a.capacity (nucleus a.state a.store.now a.queue.now a.images.now))))
asked c = c.is_err.ensures.value ∙ ap is_err c.usable.ensures

passed : (c : After-is_err) → c.is_err.result ≡ false → let a = c.args in
    first_cause (rows_usable a.capacity (nucleus a.state a.store.now a.queue.now a.images.now)) ≡ None
passed c fine = passes _ (sym (asked c) ∙ fine)

pub returns-then-is_err : goal.returns-then-is_err
unfolding committed_place
returns-then-is_err c = c.no_place.ensures ∙ sym (refuses _ (sym (asked (goal.at.returns-then-is_err c).After-is_err) ∙ c.if-is_err.true) _)

pub place_found-requires : goal.place_found-requires
place_found-requires c =
    let a = c.args in
    let n = nucleus a.state a.store.now a.queue.now a.images.now in
    store_long _ _ _ _ _ (usable_long a.capacity n (passed (goal.at.place_found-requires c).After-is_err c.if-is_err.false))

pub returns : goal.returns
returns c =
    let a = c.args in
    placed_in (nucleus a.state a.store.now a.queue.now a.images.now) a.file a.isn a.capacity (passed (goal.at.returns c).After-is_err c.if-is_err.false) _ c.place_found.ensures
