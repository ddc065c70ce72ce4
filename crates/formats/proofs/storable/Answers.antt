-- `storable` meets its contract.
-- Assumes nothing.
use borrow.Author.Tests.{lt-ltb, le-ltb}
use Rattle.formats.proofs.storable.Goals as goal

pub returns-then-record_length-gt-MAX_RECORD_LENGTH : goal.returns-then-record_length-gt-MAX_RECORD_LENGTH
returns-then-record_length-gt-MAX_RECORD_LENGTH c = rw (← c.record_length.ensures, lt-ltb _ _ c.if-record_length-gt-MAX_RECORD_LENGTH.true)

pub returns : goal.returns
returns c = rw (← c.record_length.ensures, le-ltb _ _ c.if-record_length-gt-MAX_RECORD_LENGTH.false) c.brought.ensures
