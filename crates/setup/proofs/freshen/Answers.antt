-- `freshen` meets its contract: what is left to be made empty are the files from `i` on. Assumes nothing.
use native.Mathlib.Omega.{arith}
use mathlib.Core.Path.{◌≡◌, refl}
use Prim.Native.Nat.{zero, suc, ◌+◌, ◌-◌}
use Rattle.definition.specs.Table.{file_count}
use Rattle.setup.proofs.freshen.Goals as goal

pub loop-i-init : goal.loop-i-init
loop-i-init c =
    let n : c.file_count-n.result ≡ file_count c.args.d = c.file_count-n.ensures in
    let all : c.file_count-n.result - 0 ≡ file_count c.args.d = omega (arith, n) in
    (n, refl, rw all)

pub freshen_file-requires : goal.freshen_file-requires
freshen_file-requires c = record { i_bound = omega (arith, c.loop-i.invariant.0); d_in_bounds = omega (arith, c.loop-i.invariant.1, c.requires) }

pub loop-i-preserved : goal.loop-i-preserved
loop-i-preserved c =
    let d = c.args.d in
    let n = c.file_count-n.result in
    let i = c.loop-i.i in
    let more : n - i ≡ suc (n - (i + 1)) = omega (arith, c.loop-i-test.true) in
    (c.loop-i.invariant.0, omega (arith, c.freshen_file.auto.store, c.loop-i.invariant.1), rw c.freshen_file.ensures (rw more at c.loop-i.invariant.2))

pub shape_of-store : goal.shape_of-store
shape_of-store c = c.loop-i.invariant.1

pub returns : goal.returns
returns c =
    let none : c.file_count-n.result - c.loop-i.i ≡ zero = omega arith in
    rw none at c.loop-i.invariant.2
