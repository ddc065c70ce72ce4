-- A line of a call with a record buffer of the house call list has room. Assumes nothing.
use Rattle.std.proofs.Common.{◌≡◌, ◌+◌, ◌<◌, arith, length, length-set, length-take, subst}
use Rattle.std.specs.Prelude.{OnOk, set}
use Rattle.std.specs.Io.KnownBytes.{Appends}
use Rattle.nucleus.specs.Line.{line_of}
use Rattle.output.specs.Output.{newline}
use Rattle.lines.specs.Writing.{line_most}
use Rattle.party.proofs.Printing.{line_size, line_out}
use Rattle.party.proofs.print_line.Given.{Over}
use Rattle.party.proofs.print_line.Goals as goal
use Rattle.party.proofs.print_line.Goals.{After-line-n}

fits : (g : Over) (c : After-line-n g) → length (line_of c.args.call c.args.answer c.args.buffer.now) < 155
fits g c = omega (arith, line_most c.args.call c.args.answer c.args.buffer.now, c.requires)

size : (g : Over) (c : After-line-n g) → c.line-n.result ≡ length (line_of c.args.call c.args.answer c.args.buffer.now)
size g c = line_size _ _ c.line-n.new.out _ (fits g c) c.line-n.ensures.value c.line-n.ensures.out_after

pub bounds-line-n : goal.bounds-line-n
bounds-line-n g c = let k = (goal.at.bounds-line-n g c).After-line-n in omega (arith, size g k, fits g k)

pub slice_bounds-line-end-2 : goal.slice_bounds-line-end-2
slice_bounds-line-end-2 g c =
    let k = (goal.at.slice_bounds-line-end-2 g c).After-line-n in
    omega (arith, size g k, fits g k, length-set c.line-n.new.out c.line-n.result newline, c.line-n.auto.out)

pub slice_bounds-write_all-end : goal.slice_bounds-write_all-end
slice_bounds-write_all-end g c =
    let k = (goal.at.slice_bounds-write_all-end g c).After-line-n in
    let out = set c.line-n.new.out c.line-n.result newline in
    omega (arith, size g k, fits g k, length-take (c.line-n.result + 1) out, length-set c.line-n.new.out c.line-n.result newline, c.line-n.auto.out)

pub returns : goal.returns
returns g c =
    let k = (goal.at.returns g c).After-line-n in
    let out = line_out _ _ c.line-n.new.out _ (fits g k) c.line-n.ensures.value c.line-n.ensures.out_after in
    subst (λ bytes. OnOk c.write_all.result (Appends (g.W.Write.contents c.args.out.now) (g.W.Write.contents c.write_all.new.self) bytes)) out c.write_all.ensures.bytes
