-- `halves_allowed` meets its contract: of each byte both half bytes are looked at. Assumes nothing.
use Rattle.std.proofs.Common.{rules, tests, ◌∙◌, ◌&&◌, ◌/◌, ◌%◌}
use Rattle.std.proofs.lemmas.Iterator.{YieldsList-from_slice}
use Rattle.std.proofs.lemmas.Iterator.Search.{all_from_yields_List}
use Rattle.digits.specs.Digits.{digit}
use Rattle.digits.proofs.Bytes.{all_halves}
use Rattle.digits.proofs.halves_allowed.Goals as goal

pub returns : goal.returns
returns c =
    all_from_yields_List (λ b. digit (b / 16) && digit (b % 16)) _ _ c.all.result c.all.ensures.ran (YieldsList-from_slice c.args.bytes.now cc) (λ x b q k. search (rules, tests))
    ∙ all_halves c.args.bytes.now
