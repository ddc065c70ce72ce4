-- `taken_in` meets its contract: a record that is there has the file's width, for which there is room, and what is judged is the record that
-- A1 makes.
-- Assumes nothing.
use Prim.Native.Nat.{ℕ, ◌≤◌}
use native.Mathlib.Omega.{arith}
use mathlib.Core.Path.{◌≡◌, sym, ap, ◌∙◌}
use mathlib.Core.List.{List, ◌++◌}
use lib.ListN.{length, take, drop}
use lib.Seq.{length-take-le, take_at}
use Rattle.store.proofs.Laws.{shown_record, shown_length}
use Rattle.shares.specs.Chains.{replaced}
use Rattle.update_rows.proofs.taken_in.Goals as goal
use Rattle.update_rows.proofs.taken_in.Goals.{After-record_part-old, After-replace}

abbrev size : (c : After-record_part-old) → ℕ
size c = length c.record_part-old.result.now

abbrev size_2 : (c : After-replace) → ℕ
size_2 c = length c.record_part-old.result.now

room : (c : After-record_part-old) → size c ≤ length c.args.scratch.now
room c =
    omega (arith, c.requires.f_in_bounds, ap length c.record_part-old.ensures, shown_length c.args.f c.args.part.now c.args.call.isn c.requires.isn_value)

-- the place that is lent has as many bytes
lent : (c : After-record_part-old) → length (take (size c) c.args.scratch.now) ≡ size c
lent c = length-take-le (size c) c.args.scratch.now (room c)

-- what is made there
abbrev made : (c : After-replace) → List ℕ
made c = c.replace.new.content

made_size : (c : After-replace) → length (made c) ≡ size_2 c
made_size c =
    let whole = shown_length c.args.f c.args.part.now c.args.call.isn c.requires.isn_value in
    c.replace.auto.content ∙ length-take-le (size_2 c) c.args.scratch.now (omega (arith, c.requires.f_in_bounds, ap length c.record_part-old.ensures, whole))

made_is : (c : After-replace) → let a = c.args in made c ≡ replaced a.f a.part.now a.format.now a.buffer.now a.call.isn
unfolding replaced
made_is c =
    let a = c.args in
    rw (c.record_part-old.ensures, shown_record a.f a.part.now a.call.isn c.requires.isn_value) at c.replace.ensures

front : (c : After-replace) → take (size_2 c) (made c ++ drop (size_2 c) c.args.scratch.now) ≡ made c
front c = take_at (made c) _ _ (made_size c)

pub slice_bounds-replace-end-2 : goal.slice_bounds-replace-end-2
slice_bounds-replace-end-2 c = sym (lent (goal.at.slice_bounds-replace-end-2 c).After-record_part-old)

pub replace-requires : goal.replace-requires
replace-requires c = lent (goal.at.replace-requires c).After-record_part-old

pub slice_bounds-content-end-2 : goal.slice_bounds-content-end-2
slice_bounds-content-end-2 c = sym (ap length (front (goal.at.slice_bounds-content-end-2 c).After-replace) ∙ made_size (goal.at.slice_bounds-content-end-2 c).After-replace)

pub returns : goal.returns
returns c = rw (← (made_is (goal.at.returns c).After-replace), ← (front (goal.at.returns c).After-replace)) c.taken.ensures
