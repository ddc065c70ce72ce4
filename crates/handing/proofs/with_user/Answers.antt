-- `with_user` meets its contract: past the last place nothing is set.
-- Assumes nothing.
use mathlib.Core.Path.{sym}
use lib.Seq.{set_out}
use borrow.Author.Rules.{rules}
use Rattle.handing.proofs.with_user.Goals as goal

pub returns-then-to-lt-MAX_USERS : goal.returns-then-to-lt-MAX_USERS
returns-then-to-lt-MAX_USERS c = rw c.place-to.ensures

pub returns-else-to-lt-MAX_USERS : goal.returns-else-to-lt-MAX_USERS
returns-else-to-lt-MAX_USERS c = rw (← c.place-to.ensures) (sym (set_out _ _ _ (search rules)))
