-- `usable` meets its contract: each `return` names the test that led there.
-- Assumes nothing.
use Rattle.std.specs.Prelude.{Err}
use mathlib.Core.Path.{◌≡◌, sym, ◌∙◌}
use mathlib.Core.Bool.{true, false}
use borrow.Author.Tests.{lt-leb, le-leb}
use Rattle.lists.specs.Folds.{all}
use Rattle.validity.specs.Validity.{valid}
use Rattle.nucleus.specs.Nucleus.{Nucleus, nucleus, entries_of}
use Rattle.nucleus.specs.WellMade.{well_made, entry_made}
use Rattle.nucleus.specs.Rows.{first_cause, rows_usable}
use Rattle.nucleus.specs.declared.Response.TheVariants.{StateInvalid}
use Rattle.shares.specs.Shares.{verdict}
use Rattle.entry_tables.specs.Laws.{entries_judged}
use Rattle.entry_tables.specs.Tables.{entry_fits, highest_isns}
use Rattle.usability.proofs.Laws.{table_refused, sizes_refused, state_refused, state_passed, too_many, two_alike, entries_badly, users_badly, assigned_badly, data_badly, line_badly, all_made}
use Rattle.usability.proofs.Known.{state_known}
use Rattle.usability.proofs.usable.Goals as goal
use Rattle.usability.proofs.usable.Goals.{Else-too_short, else-state-capacity-via-then-state-capacity+then-not-repeated+then-entries_made+then-users_made+then-assigned_made+then-data_made+else-waiters_made, else-state-capacity-via-then-state-capacity+then-not-repeated+then-entries_made+then-users_made+then-assigned_made+else-data_made, else-state-capacity-via-then-state-capacity+then-not-repeated+then-entries_made+then-users_made+else-assigned_made, else-state-capacity-via-then-state-capacity+then-not-repeated+then-entries_made+else-users_made, else-state-capacity-via-then-state-capacity+then-not-repeated+else-entries_made, else-state-capacity-via-then-state-capacity+else-not-repeated, else-state-capacity-via-else-state-capacity}

-- ---- what is known past the first two rows
module _ (c : Else-too_short) where
  abbrev lent : Nucleus
  lent = nucleus c.args.state c.args.store.now c.args.queue.now c.args.images.now

  table_valid : valid c.args.state.definition ≡ true
  table_valid = sym c.valid.ensures ∙ c.if-not-valid.false

  badly : well_made c.args.capacity lent ≡ false → Err StateInvalid ≡ verdict (first_cause (rows_usable c.args.capacity lent))
  badly w = state_refused c.args.capacity lent table_valid (sym c.too_short.ensures ∙ c.if-too_short.false) w

  -- the entries, judged by the tables
  entries_are : all (entry_fits (highest_isns c.args.state.definition) c.args.state.users) (entries_of lent) ≡ all (entry_made c.args.state) (entries_of lent)
  entries_are = entries_judged c.args.state (state_known c.args.state _ c.well_formed.0).definition table_valid (entries_of lent)

pub returns-then-not-valid : goal.returns-then-not-valid
returns-then-not-valid c =
    let a = c.args in
    table_refused _ (nucleus a.state a.store.now a.queue.now a.images.now) (sym c.valid.ensures ∙ c.if-not-valid.true)

pub returns-then-too_short : goal.returns-then-too_short
returns-then-too_short c =
    let a = c.args in
    sizes_refused _ (nucleus a.state a.store.now a.queue.now a.images.now) (sym c.valid.ensures ∙ c.if-not-valid.false) (sym c.too_short.ensures ∙ c.if-too_short.true)

pub returns-then-waiters_made : goal.returns-then-waiters_made
returns-then-waiters_made c =
    let at = (goal.at.returns-then-waiters_made c).Else-too_short in
    let few = le-leb _ _ c.if-state-capacity.true in
    let single = sym c.repeated.ensures ∙ c.if-not-repeated.true in
    let made = sym (c.entries_made.ensures ∙ entries_are at) ∙ c.if-entries_made.true in
    let users = sym c.users_made.ensures ∙ c.if-users_made.true in
    let assigned = sym c.assigned_made.ensures ∙ c.if-assigned_made.true in
    let held = sym c.data_made.ensures ∙ c.if-data_made.true in
    let line = sym c.waiters_made.ensures ∙ c.if-waiters_made.true in
    state_passed _ (lent at) (table_valid at) (sym c.too_short.ensures ∙ c.if-too_short.false)
    (all_made _ (lent at) (table_valid at) few single made users assigned held line)

pub returns-else-state-capacity : goal.returns-else-state-capacity
returns-else-state-capacity c =
    let at = (goal.at.returns-else-state-capacity c).Else-too_short in
    badly at
    (elim c.else-state-capacity.branch [
      | else-state-capacity-via-then-state-capacity+then-not-repeated+then-entries_made+then-users_made+then-assigned_made+then-data_made+else-waiters_made w ↦ line_badly _ (lent at) (sym w.waiters_made.ensures ∙ w.if-waiters_made.false)
      | else-state-capacity-via-then-state-capacity+then-not-repeated+then-entries_made+then-users_made+then-assigned_made+else-data_made w ↦ data_badly _ (lent at) (sym w.data_made.ensures ∙ w.if-data_made.false)
      | else-state-capacity-via-then-state-capacity+then-not-repeated+then-entries_made+then-users_made+else-assigned_made w ↦ assigned_badly _ (lent at) (sym w.assigned_made.ensures ∙ w.if-assigned_made.false)
      | else-state-capacity-via-then-state-capacity+then-not-repeated+then-entries_made+else-users_made w ↦ users_badly _ (lent at) (sym w.users_made.ensures ∙ w.if-users_made.false)
      | else-state-capacity-via-then-state-capacity+then-not-repeated+else-entries_made w ↦ entries_badly _ (lent at) (sym (w.entries_made.ensures ∙ entries_are at) ∙ w.if-entries_made.false)
      | else-state-capacity-via-then-state-capacity+else-not-repeated w ↦ two_alike _ (lent at) (sym w.repeated.ensures ∙ w.if-not-repeated.false)
      | else-state-capacity-via-else-state-capacity w ↦ too_many _ (lent at) (lt-leb _ _ w.if-state-capacity.false)
    ])
