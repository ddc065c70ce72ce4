-- `write_span` meets its contract.
-- Assumes nothing.
use mathlib.Core.Path.{◌≡◌, sym, ap, ◌∙◌}
use lib.ListN.{length, take, drop}
use borrow.Author.Tests.{eq-eqb}
use Rattle.values.specs.Values.{stored}
use Rattle.values.specs.Laws.{stored_length}
use Rattle.lists.specs.Parts.{part, part_take, length_piece, length_part, patched_sets}
use Rattle.fields.proofs.write_span.Goals as goal

pub returns : goal.returns
returns c =
    let a = c.args in
    let start = a.s.start in
    let n = a.s.length in
    let kind = a.s.format in
    let values = a.values.now in
    let content = a.content.now in
    let value = take n (drop a.at values) in
    let both : length (part a.at n values) ≡ length (part start n content) = length_part a.at n values c.requires.length_in_bounds_2 ∙ sym (length_part start n content c.requires.length_in_bounds) in
    let form : c.put_stored.new.to ≡ stored kind (part a.at n values) = rw (eq-eqb _ _ both) at c.put_stored.ensures in
    let given : c.put_stored.new.to ≡ stored kind value = form ∙ ap (stored kind) (part_take a.at n values) in
    rw given (patched_sets start n content c.requires.length_in_bounds (stored kind value) (stored_length kind value ∙ length_piece a.at n values c.requires.length_in_bounds_2))
