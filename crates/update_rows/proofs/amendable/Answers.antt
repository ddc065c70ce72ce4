-- `amendable` meets its contract: past the rows of a record that is to be made those of a change decide.
-- Assumes nothing.
use mathlib.Core.Path.{◌≡◌, sym, ◌∙◌}
use mathlib.Core.List.{[], ◌∷◌, ◌++◌}
use borrow.Author.Rules.{rules}
use Rattle.nucleus.specs.Rows.{first_cause}
use Rattle.shares.specs.Causes.{causes_refused, causes_passed, verdict_refused, verdict_passed}
use Rattle.shares.specs.Chains.{row_scratch, rows_brought}
use Rattle.change_rows.specs.ChangeRows.{rows_changed}
use Rattle.update_rows.specs.UpdateRows.{row_taken, rows_amended}
use Rattle.update_rows.proofs.amendable.Goals as goal

pub returns-in_err-changeable : goal.returns-in_err-changeable
returns-in_err-changeable c =
    let a = c.args in
    let made = row_scratch a.f ∷ rows_brought a.f a.format.now a.buffer.now in
    let next = rows_changed a.f a.part.now a.call a.share a.queue.now a.most in
    let last = row_taken a.f a.part.now a.call a.share a.queue.now a.most a.images.now a.width a.format.now a.buffer.now in
    let first = causes_passed made (next ++ last ∷ []) (verdict_passed _ (sym c.in_ok-storable.ensures)) in
    let then = causes_refused next (last ∷ []) _ (verdict_refused _ _ (sym c.in_err-changeable.ensures)) in
    let why : first_cause (rows_amended a.f a.part.now a.call a.share a.queue.now a.most a.images.now a.width a.format.now a.buffer.now) ≡ _ = first ∙ then in
    rw why (search rules)
