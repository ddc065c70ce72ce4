-- Whoever has an entry in the line is in it.
-- Assumes nothing.
use Rattle.std.specs.Prelude.{ℕ, ◌+◌, ◌≡◌, refl, List, [], ◌∷◌, eqb, ltb}
use Rattle.std.proofs.Common.{zero-add, arith, lt-ltb}
use Rattle.lists.specs.Tests.{Outcome, holds, fails, outcome}
use Rattle.lists.specs.Folds.{any, total}
use Rattle.entries.specs.declared.Entry.{Entry}
use Rattle.queue.specs.Queue.{one_of, held_by}
use Rattle.nucleus.specs.Waiters.{is_user}

any_total : (es : List Entry) (u : ℕ) → ltb 0 (total (one_of u) es) ≡ any (is_user u) es
any_total [] u = refl
any_total (e ∷ es) u = go (outcome (eqb e.user u)) (any_total es u)
  where
    go : Outcome (eqb e.user u) → ltb 0 (total (one_of u) es) ≡ any (is_user u) es → ltb 0 (total (one_of u) (e ∷ es)) ≡ any (is_user u) (e ∷ es)
    go (holds t) i = rw t (lt-ltb 0 (1 + total (one_of u) es) (omega arith))
    go (fails t) i = rw (t, zero-add (total (one_of u) es)) i

pub any_held : (es : List Entry) (u : ℕ) → ltb 0 (held_by es u) ≡ any (is_user u) es
unfolding held_by
any_held es u = any_total es u
