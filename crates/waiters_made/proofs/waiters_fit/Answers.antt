-- `waiters_fit` meets its contract. The loop's invariant: what is asked of all who wait is asked from here on.
-- Assumes nothing.
use Prim.Native.Nat.{ℕ, ◌+◌, ◌-◌, ◌≤◌}
use mathlib.Core.List.{List}
use native.Mathlib.Omega.{arith}
use mathlib.Core.Path.{◌≡◌, sym, ap, ◌∙◌}
use mathlib.Core.Bool.{Bool, true, false, ◌&&◌}
use lib.ListN.{length, drop, get_or}
use borrow.Author.Rules.{rules}
use Rattle.lists.specs.Tests.{within_below, within_above}
use Rattle.lists.specs.Folds.{all}
use Rattle.lists.specs.Rest.{read_within}
use Rattle.entries.specs.Entries.{entries}
use Rattle.entries.proofs.Chains.{entry_taken, none_taken_left}
use Rattle.nucleus.specs.Users.{fresh_user}
use Rattle.nucleus.specs.declared.User.{User}
use Rattle.waiters_made.specs.Waiting.{session_of, waiter_fits, unfit_number, unfit_session, fit_by_rest}
use Rattle.waiters_made.proofs.waiters_fit.Goals as goal
use Rattle.waiters_made.proofs.waiters_fit.Goals.{After-unpack-w, After-waits_well}

-- what the waiter of this turn says of all
turn : (c : After-unpack-w) (b : Bool) → waiter_fits c.args.users (entries c.args.places.now c.args.waiting) (entries c.args.queue.now c.args.count) c.unpack-w.result ≡ b
    → all (waiter_fits c.args.users (entries c.args.places.now c.args.waiting) (entries c.args.queue.now c.args.count)) (entries c.args.places.now c.args.waiting)
    ≡ (b && all (waiter_fits c.args.users (entries c.args.places.now c.args.waiting) (entries c.args.queue.now c.args.count)) (drop (c.loop-word.word-index + 1) (entries c.args.places.now c.args.waiting)))
turn c b e = c.loop-word.invariant ∙ rw (entry_taken c.args.places.now c.args.waiting c.min-n.result c.min-n.ensures c.loop-word.word-index c.loop-word-test.true, ← c.unpack-w.ensures, e)

-- his session, in the table of users
session_is : (users : List User) (u v : ℕ) (beyond : User) → length users ≡ 32 → v ≡ u → 1 ≤ u → u ≤ 32 → session_of users u ≡ (get_or users (v - 1) beyond).session
session_is users u v beyond many same least most = rw same (ap (λ u. u.session) (read_within users (u - 1) fresh_user beyond (omega arith)))

-- what is left of the judgement decides
decided : (c : After-waits_well) → waiter_fits c.args.users (entries c.args.places.now c.args.waiting) (entries c.args.queue.now c.args.count) c.unpack-w.result ≡ c.waits_well.result
decided c =
    fit_by_rest _ _ _ _ (omega arith) (omega arith) (session_is c.args.users c.unpack-w.result.user c.from-user.result _ (search rules) (omega arith) (omega arith) (omega arith) ∙ c.if-not-users-user.false)
    ∙ sym c.waits_well.ensures

pub returns-then-user-lt1 : goal.returns-then-user-lt1
returns-then-user-lt1 c = sym (turn (goal.at.returns-then-user-lt1 c).After-unpack-w false (unfit_number _ _ _ _ (within_below 1 32 c.unpack-w.result.user (omega arith))))

pub returns-then-user-gt-MAX_USERS : goal.returns-then-user-gt-MAX_USERS
returns-then-user-gt-MAX_USERS c = sym (turn (goal.at.returns-then-user-gt-MAX_USERS c).After-unpack-w false (unfit_number _ _ _ _ (within_above 1 32 c.unpack-w.result.user (omega arith))))

pub returns-then-not-users-user : goal.returns-then-not-users-user
returns-then-not-users-user c =
    let least : 1 ≤ c.unpack-w.result.user = omega arith in
    let most : c.unpack-w.result.user ≤ 32 = omega arith in
    let none = session_is c.args.users c.unpack-w.result.user c.from-user.result _ (search rules) (omega arith) least most ∙ c.if-not-users-user.true in
    sym (turn (goal.at.returns-then-not-users-user c).After-unpack-w false (unfit_session _ _ _ _ least most none))

pub returns-then-not-waits_well : goal.returns-then-not-waits_well
returns-then-not-waits_well c =
    let at = goal.at.returns-then-not-waits_well c in
    sym (turn at.After-unpack-w false (decided at.After-waits_well ∙ c.if-not-waits_well.true))

pub loop-word-preserved : goal.loop-word-preserved
loop-word-preserved c =
    let at = goal.at.loop-word-preserved c in
    turn at.After-unpack-w true (decided at.After-waits_well ∙ c.if-not-waits_well.false)

pub returns : goal.returns
returns c = sym (c.loop-word.invariant ∙ rw (none_taken_left c.args.places.now c.args.waiting c.min-n.result c.min-n.ensures c.loop-word.word-index c.loop-word-test.false))
