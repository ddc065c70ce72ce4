-- What the rows of 11 and 12 come to, test by test; and what a nucleus that passes them has.
-- Assumes nothing.
use Rattle.std.specs.Prelude.{ℕ, ◌≡◌, Bool, true, ◌&&◌, List, [], ◌∷◌, leb, None, Ok, Err}
use Rattle.std.proofs.Math.Path.{sym}
use Rattle.std.proofs.Common.{◌∙◌}
use Rattle.std.proofs.Math.Bool.{false, not, and_assoc}
use Rattle.std.proofs.lemmas.Bool.{not-false}
use Rattle.lists.specs.Tests.{and-false}
use Rattle.lists.specs.Folds.{all}
use Rattle.definition.specs.Table.{files_of}
use Rattle.definition.specs.declared.Definition.{Definition}
use Rattle.validity.specs.Validity.{valid}
use Rattle.repeats.specs.Repeats.{repeated}
use Rattle.nucleus.specs.Nucleus.{Nucleus, entries_of}
use Rattle.nucleus.specs.WellMade.{too_short, well_made, entry_made, user_made, assigned_made, data_made}
use Rattle.nucleus.specs.Rows.{Row, row, first_cause, rows_usable}
use Rattle.nucleus.specs.declared.Response.TheVariants.{BufferTooShort, StateInvalid}
use Rattle.waiters_made.specs.Waiting.{waiters_fit, waiters_judged}
use Rattle.shares.specs.Shares.{verdict, Verdict}
use Rattle.shares.proofs.Laws.{row_passed}

fails_left : (a b : Bool) → a ≡ false → (a && b) ≡ false
fails_left a b e = rw e

fails_right : (a b : Bool) → b ≡ false → (a && b) ≡ false
fails_right a b e = rw e (and-false a)

fails_last : (a b c : Bool) → (b && c) ≡ false → (a && b && c) ≡ false
fails_last a b c e = and_assoc a b c ∙ fails_right a (b && c) e

module _ (capacity : ℕ) (n : Nucleus) where
  abbrev d : Definition
  d = n.state.definition

  abbrev judged : Verdict
  judged = verdict (first_cause (rows_usable capacity n))

  abbrev short : Bool
  short = too_short d capacity n.store n.queue n.images

  -- ---- the rows, one after another
  pub table_refused : valid d ≡ false → Err StateInvalid ≡ judged
  unfolding rows_usable
  table_refused v = rw v

  module _ (v : valid d ≡ true) where
    pub sizes_refused : short ≡ true → Err BufferTooShort ≡ judged
    unfolding rows_usable
    sizes_refused s = rw (v, s)

    pub state_refused : short ≡ false → well_made capacity n ≡ false → Err StateInvalid ≡ judged
    unfolding rows_usable
    state_refused s w = rw (v, s, w)

    pub state_passed : short ≡ false → well_made capacity n ≡ true → (Ok tt) ≡ judged
    unfolding rows_usable
    state_passed s w = rw (v, s, w)

  -- ---- the tests of the last row: each by itself makes a state badly made
  pub too_many : leb n.state.count capacity ≡ false → well_made capacity n ≡ false
  unfolding well_made
  too_many e = search (fails_left, fails_right)

  pub two_alike : repeated (entries_of n) ≡ true → well_made capacity n ≡ false
  unfolding well_made
  two_alike e = let f : not (repeated (entries_of n)) ≡ false = rw e in search (fails_left, fails_right)

  pub entries_badly : all (entry_made n.state) (entries_of n) ≡ false → well_made capacity n ≡ false
  unfolding well_made
  entries_badly e = search (fails_left, fails_right)

  pub users_badly : all (user_made n.state.clock) n.state.users ≡ false → well_made capacity n ≡ false
  unfolding well_made
  users_badly e = search (fails_left, fails_right)

  pub assigned_badly : assigned_made n.state.last_assigned (files_of d) ≡ false → well_made capacity n ≡ false
  unfolding well_made
  assigned_badly e = search (fails_left, fails_right)

  pub data_badly : all data_made n.state.et_data ≡ false → well_made capacity n ≡ false
  unfolding well_made
  data_badly e = search (fails_left, fails_right)

  pub line_badly : waiters_fit n.state.users n.state.wait_queue (entries_of n) ≡ false → well_made capacity n ≡ false
  unfolding well_made
  line_badly e = let f = sym (waiters_judged n) ∙ e in search (fails_last)

  -- and all together make it well made
  pub all_made : valid d ≡ true → leb n.state.count capacity ≡ true → repeated (entries_of n) ≡ false → all (entry_made n.state) (entries_of n) ≡ true
      → all (user_made n.state.clock) n.state.users ≡ true → assigned_made n.state.last_assigned (files_of d) ≡ true → all data_made n.state.et_data ≡ true
      → waiters_fit n.state.users n.state.wait_queue (entries_of n) ≡ true → well_made capacity n ≡ true
  unfolding well_made
  all_made v c r e u a m w = rw (v, c, r, e, u, a, m) (sym (waiters_judged n) ∙ w)

-- ---- what a nucleus that is usable has
module _ (capacity : ℕ) (n : Nucleus) (usable : first_cause (rows_usable capacity n) ≡ None) where
  abbrev rest : List Row
  rest = row BufferTooShort (too_short n.state.definition capacity n.store n.queue n.images) ∷ row StateInvalid (not (well_made capacity n)) ∷ []

  valid_first : not (valid n.state.definition) ≡ false
  unfolding rows_usable
  valid_first = row_passed (row StateInvalid (not (valid n.state.definition))) rest usable

  pub usable_valid : valid n.state.definition ≡ true
  usable_valid = not-false (valid n.state.definition) valid_first

  pub usable_long : too_short n.state.definition capacity n.store n.queue n.images ≡ false
  unfolding rows_usable
  usable_long = row_passed (row BufferTooShort (too_short n.state.definition capacity n.store n.queue n.images)) (row StateInvalid (not (well_made capacity n)) ∷ []) (rw valid_first at usable)
