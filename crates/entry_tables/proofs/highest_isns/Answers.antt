-- `highest_isns` meets its contract. The loop's invariant: the table has the files from here on.
-- Assumes nothing.
use native.Mathlib.Omega.{arith}
use Prim.Native.Nat.{ℕ, ◌+◌, ◌-◌, ◌≤◌, ◌<◌}
use mathlib.Core.Path.{◌≡◌, sym, ap, ◌∙◌}
use mathlib.Core.List.{◌∷◌}
use lib.ListN.{length, drop, get_or}
use lib.Seq.{set_out}
use Rattle.definition.specs.Table.{beyond, files_of, file_count}
use Rattle.definition.specs.Shape.{file_next, no_file_left}
use Rattle.definition.proofs.Known.{definition_known}
use Rattle.entry_tables.specs.Tables.{highest_in}
use Rattle.entry_tables.specs.Turns.{highest_none, highest_more, length_highest}
use Rattle.entry_tables.proofs.highest_isns.Goals as goal
use Rattle.entry_tables.proofs.highest_isns.Goals.{Start}

-- one turn, at the file before the i-th
turn : (c : Start) (i : ℕ) → 0 < i → i ≤ file_count c.args.d → drop (i - 1) (files_of c.args.d) ≡ get_or c.args.d.files (i - 1) beyond ∷ drop i (files_of c.args.d)
turn c i h k =
    let next : i - 1 + 1 ≡ i = omega arith in
    rw next at (file_next c.args.d (definition_known _ _ c.well_formed.0) (i - 1) (omega arith))

pub loop-i-init : goal.loop-i-init
loop-i-init c =
    let all = c.file_count-i.ensures in
    (omega arith, sym (ap highest_in (no_file_left c.args.d c.file_count-i.result (omega arith)) ∙ highest_none))

pub loop-i-preserved-then-number-lt-NUMBERS : goal.loop-i-preserved-then-number-lt-NUMBERS
loop-i-preserved-then-number-lt-NUMBERS c =
    let i = c.loop-i.i in
    let d = c.args.d in
    (omega arith, rw (c.loop-i.invariant.1, c.from-number.ensures) (highest_more _ (drop i (files_of d)) ∙ sym (ap highest_in (turn (goal.at.loop-i-preserved-then-number-lt-NUMBERS c).Start i (omega arith) (omega arith)))))

pub loop-i-preserved : goal.loop-i-preserved
loop-i-preserved c =
    let i = c.loop-i.i in
    let d = c.args.d in
    let past : length (highest_in (drop i (files_of d))) ≤ (get_or d.files (i - 1) beyond).number = omega (arith, length_highest (drop i (files_of d)), c.from-number.ensures) in
    (omega arith, c.loop-i.invariant.1 ∙ sym (set_out (highest_in (drop i (files_of d))) _ (get_or d.files (i - 1) beyond).max_isn past) ∙ highest_more _ (drop i (files_of d)) ∙ sym (ap highest_in (turn (goal.at.loop-i-preserved c).Start i (omega arith) (omega arith))))
