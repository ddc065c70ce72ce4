-- `entries_fit` meets its contract. The loop's invariant: what is asked of all entries is asked from here on.
-- Assumes nothing.
use Prim.Native.Nat.{◌+◌, ◌-◌}
use mathlib.Core.Path.{◌≡◌, sym, ap, ◌∙◌}
use mathlib.Core.Bool.{Bool, true, false, ◌&&◌}
use lib.ListN.{length, drop, get_or}
use Rattle.lists.specs.Tests.{within_below, within_above}
use Rattle.lists.specs.Folds.{all}
use Rattle.lists.specs.Rest.{read_within}
use Rattle.entries.specs.Entries.{entries}
use Rattle.entries.proofs.Chains.{entry_taken, none_taken_left}
use Rattle.nucleus.specs.Users.{is_active, fresh_user}
use Rattle.nucleus.specs.declared.User.{User}
use Rattle.entry_tables.specs.Tables.{entry_fits}
use Rattle.entry_tables.specs.Laws.{unfit_isn, unfit_user, fit_by_user}
use native.Mathlib.Omega.{arith}
use borrow.Author.Rules.{rules}
use Rattle.entry_tables.proofs.entries_fit.Goals as goal
use Rattle.entry_tables.proofs.entries_fit.Goals.{After-unpack-e, Else-user-gt-MAX_USERS}

turn : (c : After-unpack-e) (b : Bool) → entry_fits c.args.highest.now c.args.users c.unpack-e.result ≡ b
    → all (entry_fits c.args.highest.now c.args.users) (entries c.args.queue.now c.args.count)
    ≡ (b && all (entry_fits c.args.highest.now c.args.users) (drop (c.loop-word.word-index + 1) (entries c.args.queue.now c.args.count)))
turn c b e = c.loop-word.invariant ∙ rw (entry_taken c.args.queue.now c.args.count c.min-n.result c.min-n.ensures c.loop-word.word-index c.loop-word-test.true, ← c.unpack-e.ensures, e)

pub returns-then-not-within_file : goal.returns-then-not-within_file
returns-then-not-within_file c = sym (turn (goal.at.returns-then-not-within_file c).After-unpack-e false (unfit_isn _ _ _ (sym c.within_file.ensures ∙ c.if-not-within_file.true)))

pub returns-then-user-lt1 : goal.returns-then-user-lt1
returns-then-user-lt1 c = sym (turn (goal.at.returns-then-user-lt1 c).After-unpack-e false (unfit_user _ _ _ (within_below 1 32 c.unpack-e.result.user (omega arith))))

pub returns-then-user-gt-MAX_USERS : goal.returns-then-user-gt-MAX_USERS
returns-then-user-gt-MAX_USERS c = sym (turn (goal.at.returns-then-user-gt-MAX_USERS c).After-unpack-e false (unfit_user _ _ _ (within_above 1 32 c.unpack-e.result.user (omega arith))))

-- whether the user is in a transaction decides
decided : (c : Else-user-gt-MAX_USERS) (beyond : User) (b : Bool) → is_active (get_or c.args.users (c.from-user.result - 1) beyond) ≡ b
    → entry_fits c.args.highest.now c.args.users c.unpack-e.result ≡ b
decided c beyond b e =
    let users = c.args.users in
    let u = c.unpack-e.result.user in
    let many : length users ≡ 32 = search rules in
    let at : c.from-user.result ≡ u = omega arith in
    let active = rw at at e in
    fit_by_user _ _ _ (sym c.within_file.ensures ∙ c.if-not-within_file.false) (omega arith) (omega arith)
    ∙ ap is_active (read_within users (u - 1) fresh_user beyond (omega (arith, many)))
    ∙ active

pub returns-then-not-users-user : goal.returns-then-not-users-user
returns-then-not-users-user c = sym (turn (goal.at.returns-then-not-users-user c).After-unpack-e false (decided (goal.at.returns-then-not-users-user c).Else-user-gt-MAX_USERS _ false c.if-not-users-user.true))

pub loop-word-preserved : goal.loop-word-preserved
loop-word-preserved c = turn (goal.at.loop-word-preserved c).After-unpack-e true (decided (goal.at.loop-word-preserved c).Else-user-gt-MAX_USERS _ true c.if-not-users-user.false)

pub returns : goal.returns
returns c = sym (c.loop-word.invariant ∙ rw (none_taken_left c.args.queue.now c.args.count c.min-n.result c.min-n.ensures c.loop-word.word-index c.loop-word-test.false))
