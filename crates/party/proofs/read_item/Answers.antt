-- An item's kind and body lie where they were read to. Assumes nothing.
use Rattle.std.proofs.Common.{◌∙◌, arith, sym}
use Rattle.party.proofs.Items.{item_read}
use Rattle.party.proofs.read_item.Goals as goal

pub returns-clause-item : goal.returns-clause-item
returns-clause-item g c =
    item_read _ _ _ _ _ _ _ _ _ _ _ _ (omega arith) (omega arith) (omega arith) c.read_full.auto.buffer c.read_full-2.auto.buffer c.if-branch-ne1.false c.if-branch-n.false
    c.in_ok-read_full.ensures.bytes c.in_ok-read_full-2.ensures.bytes (sym c.rest_of_item.ensures ∙ c.in-Some.is)
