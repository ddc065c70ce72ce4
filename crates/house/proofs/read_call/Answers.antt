-- `read_call` meets its contract: what a well-formed call has, and the two parts of its bytes.
-- Assumes nothing.
use Rattle.std.proofs.Common.{arith, sym, ◌∙◌, ◌≡◌, ℕ, ◌≤◌, ◌+◌, ◌-◌, true}
use Rattle.house.specs.House.{call_of, given_by, well_formed}
use Rattle.house.proofs.Laws.{formed_length, formed_kind, formed_format, formed_buffer, formed_lengths, formed_sent}
use Rattle.house.proofs.read_call.Goals as goal
use Rattle.house.proofs.read_call.Goals.{Else-not-well_formed}

formed : (c : Else-not-well_formed) → well_formed c.args.bytes.now ≡ true
formed c = sym c.well_formed-2.ensures ∙ c.if-not-well_formed.false

pub returns-then-not-well_formed-clause-result_value : goal.returns-then-not-well_formed-clause-result_value
unfolding call_of
returns-then-not-well_formed-clause-result_value c = rw (sym c.well_formed-2.ensures ∙ c.if-not-well_formed.true)

pub bounds-bytes-12 : goal.bounds-bytes-12
bounds-bytes-12 c = omega (arith, formed_length c.args.bytes.now (formed (goal.at.bounds-bytes-12 c).Else-not-well_formed))

pub bounds-bytes-29 : goal.bounds-bytes-29
bounds-bytes-29 c = omega (arith, formed_length c.args.bytes.now (formed (goal.at.bounds-bytes-29 c).Else-not-well_formed))

pub arguments-requires-clause-in_bounds : goal.arguments-requires-clause-in_bounds
arguments-requires-clause-in_bounds c = formed_length c.args.bytes.now (formed (goal.at.arguments-requires-clause-in_bounds c).Else-not-well_formed)

pub arguments-requires-clause-bound : goal.arguments-requires-clause-bound
arguments-requires-clause-bound c = formed_kind c.args.bytes.now (formed (goal.at.arguments-requires-clause-bound c).Else-not-well_formed)

pub slice_bounds-result-end : goal.slice_bounds-result-end
slice_bounds-result-end c =
    let w = formed (goal.at.slice_bounds-result-end c).Else-not-well_formed in
    omega (arith, formed_length c.args.bytes.now w, formed_format c.args.bytes.now w)

pub slice_bounds-result-end-2 : goal.slice_bounds-result-end-2
slice_bounds-result-end-2 c =
    let w = formed (goal.at.slice_bounds-result-end-2 c).Else-not-well_formed in
    omega (arith, formed_length c.args.bytes.now w, formed_buffer c.args.bytes.now w)

-- the part between the places, by its length
part_length : (at n b : ℕ) → n ≡ b → at + n - at ≡ b
part_length at n b e = omega (arith, e)

pub returns-clause-result_value : goal.returns-clause-result_value
unfolding given_by
returns-clause-result_value c =
    let bytes = c.args.bytes.now in
    rw (c.arguments.ensures, part_length 13 _ _ c.from-format_end.ensures, part_length 30 _ _ c.from-buffer_end.ensures)
    (formed_sent bytes (formed (goal.at.returns-clause-result_value c).Else-not-well_formed))

pub returns-clause-lengths : goal.returns-clause-lengths
unfolding given_by
returns-clause-lengths c =
    let bytes = c.args.bytes.now in
    rw (part_length 13 _ _ c.from-format_end.ensures, part_length 30 _ _ c.from-buffer_end.ensures)
    (formed_lengths bytes (formed (goal.at.returns-clause-lengths c).Else-not-well_formed))
