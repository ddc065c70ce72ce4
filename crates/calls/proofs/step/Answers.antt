-- `step` meets its contract: each row that refuses, and the command where none does. Assumes nothing.
use Rattle.std.specs.Prelude.{None, Ok}
use mathlib.Core.Path.{◌≡◌, sym, ap, ◌∙◌}
use native.Mathlib.Omega.{arith}
use Prim.Native.Nat.{ℕ, ◌≤◌}
use lib.ListN.{length}
use mathlib.Core.Bool.{false}
use mathlib.Core.List.{List}
use Rattle.lists.specs.Tests.{within_least, within_most}
use Rattle.layout.specs.Layout.{store_size}
use Rattle.nucleus.specs.Commands.{direct_commands}
use Rattle.nucleus.specs.Nucleus.{Nucleus, nucleus, Result, resulting}
use Rattle.nucleus.specs.WellMade.{too_short}
use Rattle.nucleus.specs.Rows.{first_cause, rows_usable}
use Rattle.nucleus.specs.Responses.{refused}
use Rattle.nucleus.specs.declared.Command.{Command}
use Rattle.nucleus.specs.declared.Response.{Response}
use Rattle.nucleus.specs.declared.State.{State}
use Rattle.shares.specs.Causes.{verdict_refused, verdict_passed}
use Rattle.usability.proofs.Laws.{usable_valid, usable_long}
use Rattle.usability.specs.Sizes.{store_long, queue_long}
use Rattle.understanding.specs.Understanding.{understood_as}
use Rattle.understanding.proofs.Laws.{refused_cause, understood_plain}
use Rattle.calls.specs.Outcome.{outcome}
use Rattle.calls.specs.declared.Outcome.{Outcome}
use Rattle.calls.specs.StepLaws.{step_unusable, step_misunderstood, refused_through, performed_through}
use Rattle.calls.proofs.step.Goals as goal
use Rattle.calls.proofs.step.Goals.{After-admit-admitted}

-- a refusal that the code gives back
given_back : (state : State) (store queue images buffer : List ℕ) (cause : Response) (o : Outcome) (whole : Result)
    → o ≡ outcome (refused cause) state → resulting (refused cause) (nucleus state store queue images) buffer ≡ whole
    → resulting o.answer (nucleus o.state store queue images) buffer ≡ whole
given_back state store queue images buffer cause o whole e same = ap (λ (o : Outcome). resulting o.answer (nucleus o.state store queue images) buffer) e ∙ same

abbrev begun : (c : After-admit-admitted) → Nucleus
begun c = nucleus c.args.state c.args.store.now c.args.queue.now c.args.images.now

abbrev asked : (c : After-admit-admitted) → Command
asked c = c.in-Ok.command

understood : (c : After-admit-admitted) → understood_as direct_commands c.args.call ≡ Ok (asked c)
understood c = sym c.understand.ensures ∙ c.in-Ok.is

usable : (c : After-admit-admitted) → first_cause (rows_usable c.args.capacity (begun c)) ≡ None
usable c = verdict_passed (first_cause (rows_usable c.args.capacity (begun c))) (sym c.usable.ensures ∙ c.in_default.is)

user_in : (c : After-admit-admitted) → (1 ≤ c.args.call.user) × (c.args.call.user ≤ 32)
user_in c =
    let inside = (understood_plain direct_commands c.args.call (asked c) (understood c)).user in
    (within_least 1 32 c.args.call.user inside, within_most 1 32 c.args.call.user inside)

-- what was lent is as long as it was, and so long enough
long : (c : After-admit-admitted) → too_short c.args.state.definition c.args.capacity c.args.store.now c.args.queue.now c.args.images.now ≡ false
long c = usable_long c.args.capacity (begun c) (usable c)

store_in : (c : After-admit-admitted) → store_size c.args.state.definition ≤ length c.admit-admitted.new.store
store_in c = omega (arith, store_long _ _ _ _ _ (long c), c.admit-admitted.auto.store)

queue_in : (c : After-admit-admitted) → c.args.capacity ≤ length c.admit-admitted.new.queue
queue_in c = omega (arith, queue_long _ _ _ _ _ (long c), c.admit-admitted.auto.queue)

pub returns-in-Err : goal.returns-in-Err
returns-in-Err c =
    let a = c.args in
    let n = nucleus a.state a.store.now a.queue.now a.images.now in
    let cause = c.in-Err.cause in
    let e = verdict_refused (first_cause (rows_usable a.capacity n)) cause (sym c.usable.ensures ∙ c.in-Err.is) in
    given_back _ _ _ _ _ cause _ _ c.refused.ensures (sym (step_unusable a.capacity a.call a.format.now a.buffer.now n cause e))

pub returns-in-Err-understand : goal.returns-in-Err-understand
returns-in-Err-understand c =
    let a = c.args in
    let n = nucleus a.state a.store.now a.queue.now a.images.now in
    let cause = c.in-Err-understand.cause in
    let fit = verdict_passed (first_cause (rows_usable a.capacity n)) (sym c.usable.ensures ∙ c.in_default.is) in
    let e = refused_cause direct_commands a.call cause (sym c.understand.ensures ∙ c.in-Err-understand.is) in
    given_back _ _ _ _ _ cause _ _ c.refused-in-Err-understand.ensures (sym (step_misunderstood a.capacity a.call a.format.now a.buffer.now n fit cause e))

pub returns-in-Err-verdict : goal.returns-in-Err-verdict
returns-in-Err-verdict c =
    let a = c.args in
    let k = (goal.at.returns-in-Err-verdict c).After-admit-admitted in
    let cause = c.in-Err-verdict.cause in
    let e = c.admit-admitted.ensures a.state.et_data a.state.last_assigned in
    given_back _ _ _ _ _ cause _ _ c.refused-in-Err-verdict.ensures
    (refused_through a.capacity a.call a.format.now a.buffer.now a.state a.store.now a.queue.now a.images.now _ _ _ _ _ (asked k) (usable k) (understood k) c.admit-admitted.result.verdict cause e c.in-Err-verdict.is)

pub serve_lined-requires : goal.serve_lined-requires
serve_lined-requires c =
    let k = (goal.at.serve_lined-requires c).After-admit-admitted in
    record { le_user = user_in k; definition_value = usable_valid c.args.capacity (begun k) (usable k); definition_in_bounds = (store_in k, queue_in k) }

pub shape_of-store : goal.shape_of-store
shape_of-store c = c.serve_lined.auto.store ∙ c.admit-admitted.auto.store

pub returns : goal.returns
returns c =
    let a = c.args in
    let k = (goal.at.returns c).After-admit-admitted in
    let e = c.admit-admitted.ensures a.state.et_data a.state.last_assigned in
    c.serve_lined.ensures
    ∙ performed_through a.capacity a.call a.format.now a.buffer.now a.state a.store.now a.queue.now a.images.now _ _ _ _ _ (asked k) (usable k) (understood k) c.admit-admitted.result.verdict e c.in_default-verdict.is
