-- `image_room` meets its contract: the product is small. Assumes nothing.
use Prim.Native.Nat.{◌*◌, ◌≤◌}
use native.Mathlib.Omega.{arith}
use native.Mathlib.Nat.{mul-le-mul}
use mathlib.Core.Path.{ap}
use Rattle.definition.proofs.Known.{definition_known}
use Rattle.kept_setup.proofs.Laws.{image_length_most}
use Rattle.kept_setup.proofs.image_room.Goals as goal

pub overflow_mul-result : goal.overflow_mul-result
overflow_mul-result c =
    let width : c.image_length.result ≤ 4080 = omega (arith, c.image_length.ensures, image_length_most c.args.d (definition_known _ _ c.well_formed.0)) in
    let most : c.args.capacity * c.image_length.result ≤ 256 * 4080 = mul-le-mul c.requires width in
    omega (arith, most)

pub returns : goal.returns
returns c = ap (λ w. c.args.capacity * w) c.image_length.ensures
