-- What `perform` comes to, over shares: a share put back, and a command as the cause that refuses it, if any, beside its effect. The laws of the
-- commands are in LawsHolding.antt and after.
-- Assumes nothing.
use Rattle.std.specs.Prelude.{ℕ, ◌-◌, ◌≡◌, refl, false, List, [], ◌∷◌, ◌++◌, Option, Some, None}
use Rattle.std.proofs.Common.{sym, ap, ◌∙◌, set-set}
use Rattle.std.proofs.Math.ListN.{set}
use Rattle.std.proofs.lemmas.List.{set-get_or}
use Rattle.lists.specs.Tests.{Outcome, holds, fails, outcome}
use Rattle.definition.specs.declared.Definition.{Definition}
use Rattle.layout.specs.Layout.{place}
use Rattle.store.specs.Store.{file_part, with_part}
use Rattle.store.specs.Files.{part_own}
use Rattle.nucleus.specs.Responses.{refused}
use Rattle.nucleus.specs.Users.{fresh_user}
use Rattle.nucleus.specs.Nucleus.{Nucleus, nucleus, Request, Result, resulting, beyond_data, with_user, with_data, with_last_assigned, with_count}
use Rattle.nucleus.specs.Target.{assigned_in}
use Rattle.nucleus.specs.Rows.{Row, first_cause, rows_last}
use Rattle.nucleus.specs.Effects.{effect}
use Rattle.nucleus.specs.Step.{perform}
use Rattle.nucleus.specs.declared.Call.{Call}
use Rattle.nucleus.specs.declared.EtData.{EtData}
use Rattle.nucleus.specs.declared.Response.{Response}
use Rattle.nucleus.specs.declared.State.{State}
use Rattle.nucleus.specs.declared.User.{User}
use Rattle.shares.specs.Shares.{share, share_of, share_with_count, share_with_assigned, assigned_with, with_share, done_unless, kept_by}
use Rattle.shares.specs.declared.Share.{Share}
use Rattle.shares.specs.declared.Done.{Done}

-- what a command gives back, on the nucleus that it was called on
abbrev pub result_on : Call → Nucleus → Done → List ℕ → List ℕ → List ℕ → List ℕ → Result
result_on call n d store queue images buffer = resulting d.answer (nucleus (with_share call d.share n.state) store queue images) buffer

-- ---- a share that is put back
module _ (call : Call) (s : State) where
  abbrev x : Share
  x = share_of call s

  abbrev u : ℕ
  u = call.user

  assigned_kept : assigned_with s.last_assigned (place s.definition call.file) x.last_assigned ≡ s.last_assigned
  assigned_kept = go (place s.definition call.file)
    where
      go : (at : Option ℕ) → assigned_with s.last_assigned at (assigned_in s.last_assigned at) ≡ s.last_assigned
      go (Some i) = set-get_or s.last_assigned i 0
      go None = refl

  -- whose user, ET data and count changed
  pub share_back : (user : User) (held : EtData) (count : ℕ) → with_share call (share user held x.last_assigned count x.waits) s ≡ with_user u user (with_data u held (with_count count s))
  unfolding with_share
  share_back user held count = λ i. record {
    definition = s.definition;
    clock = s.clock;
    users = set s.users (u - 1) user;
    et_data = set s.et_data (u - 1) held;
    last_assigned = assigned_kept i;
    count = count;
    wait_queue = s.wait_queue;
  }

  data_kept : (user : User) (count : ℕ) → with_user u user (with_data u x.et_data (with_count count s)) ≡ with_user u user (with_count count s)
  data_kept user count = λ i. record {
    definition = s.definition;
    clock = s.clock;
    users = set s.users (u - 1) user;
    et_data = set-get_or s.et_data (u - 1) beyond_data i;
    last_assigned = s.last_assigned;
    count = count;
    wait_queue = s.wait_queue;
  }

  user_kept : (count : ℕ) → with_user u x.user (with_count count s) ≡ with_count count s
  user_kept count = λ i. record {
    definition = s.definition;
    clock = s.clock;
    users = set-get_or s.users (u - 1) fresh_user i;
    et_data = s.et_data;
    last_assigned = s.last_assigned;
    count = count;
    wait_queue = s.wait_queue;
  }

  -- user and count
  pub user_back : (user : User) (count : ℕ) → with_share call (share user x.et_data x.last_assigned count x.waits) s ≡ with_user u user (with_count count s)
  user_back user count = share_back user x.et_data count ∙ data_kept user count

  -- count alone
  pub count_back : (count : ℕ) → with_share call (share_with_count count x) s ≡ with_count count s
  count_back count = user_back x.user count ∙ user_kept count

  -- nothing
  pub share_kept : with_share call x s ≡ s
  share_kept = count_back s.count

  -- with the ISN that N1 gave
  pub assigned_back : (i : ℕ) → place s.definition call.file ≡ Some i → (y : Share) (isn : ℕ) → with_share call (share_with_assigned isn y) s ≡ with_last_assigned i isn (with_share call y s)
  unfolding with_share
  assigned_back i there y isn =
      let e : assigned_with s.last_assigned (place s.definition call.file) isn
      ≡ set (assigned_with s.last_assigned (place s.definition call.file) y.last_assigned) i isn
      = rw there (sym (set-set s.last_assigned i y.last_assigned isn)) in
      λ j. record {
        definition = s.definition;
        clock = s.clock;
        users = set s.users (u - 1) y.user;
        et_data = set s.et_data (u - 1) y.et_data;
        last_assigned = e j;
        count = y.count;
        wait_queue = s.wait_queue;
      }

-- what is left on a state that is the same as another
pub on_state : {s t : State} {store queue images : List ℕ} → t ≡ s → nucleus s store queue images ≡ nucleus t store queue images
on_state {store = store} {queue = queue} {images = images} e = ap (λ s. nucleus s store queue images) (sym e)

-- ---- rows that all fail: so do the last of them
pub last_passed : (xs ys : List Row) → first_cause (xs ++ ys) ≡ None → first_cause ys ≡ None
last_passed [] ys e = e
last_passed (r ∷ xs) ys e = go (outcome r.holds) (last_passed xs ys)
  where
    go : Outcome r.holds → (first_cause (xs ++ ys) ≡ None → first_cause ys ≡ None) → first_cause ys ≡ None
    go (holds t) later = let bad : Some r.cause ≡ None = rw t at e in cc
    go (fails t) later = later (rw t at e)

pub row_passed : (r : Row) (rows : List Row) → first_cause (r ∷ rows) ≡ None → r.holds ≡ false
row_passed r rows e = go (outcome r.holds)
  where
    go : Outcome r.holds → r.holds ≡ false
    go (holds t) = let bad : Some r.cause ≡ None = rw t at e in cc
    go (fails t) = t

-- ---- a command
-- what a command does not change, whether it is refused or not
pub kept_same : {A : Type 0} (c : Option Response) (old : A) → kept_by c old old ≡ old
kept_same (Some cause) old = refl
kept_same None old = refl

-- a file's part that is kept where a cause refuses: so is the store
pub part_kept : (d : Definition) (i : ℕ) (store : List ℕ) (cause : Option Response) (new : List ℕ)
    → with_part d i store (kept_by cause (file_part d i store) new) ≡ kept_by cause store (with_part d i store new)
part_kept d i store (Some cause) new = part_own d i store
part_kept d i store None new = refl

module _ (call : Call) (n : Nucleus) where
  -- what a call leaves that changes nothing
  pub nothing_done : n ≡ nucleus (with_share call (share_of call n.state) n.state) n.store n.queue n.images
  nothing_done = on_state (share_kept call n.state)

  -- refused with a cause, or the effect: parts that a refused call leaves are as they were
  pub performed_as : (r : Request) (c : Option Response) (d : Done) (store queue images after : List ℕ)
      → first_cause (rows_last r n) ≡ c
      → (c ≡ None → effect r n ≡ result_on call n d store queue images after)
      → perform r n ≡ result_on call n (done_unless c (share_of call n.state) d) (kept_by c n.store store) (kept_by c n.queue queue) (kept_by c n.images images) (kept_by c r.buffer after)
  unfolding perform
  performed_as r (Some cause) d store queue images after e f = rw e (ap (λ m. resulting (refused cause) m r.buffer) nothing_done)
  performed_as r None d store queue images after e f = rw e (f refl)
