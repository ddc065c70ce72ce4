-- Requirement 3 and the statements beside it, proved.
-- Assumes nothing.
use Rattle.std.specs.Prelude.{ℕ, ◌-◌, ◌≤◌, ◌≡◌, true, not, Option, Some, None}
use Rattle.std.proofs.Common.{arith, sym, subst, ◌∙◌, inl, inr, get_or-set_same}
use Rattle.std.proofs.Math.Path.{refl, ap}
use Rattle.std.proofs.Math.Bool.{false}
use mathlib.Core.List.{List, [], ◌∷◌, ◌++◌, map}
use Rattle.std.proofs.Math.Dec.{eqb}
use Rattle.std.proofs.Math.ListN.{length, length-map}
use borrow.Author.Tests.{not-true}
use Rattle.lists.specs.Tests.{eqb_self, within, within_least, within_most, and_left, and_right}
use Rattle.lists.specs.Folds.{any}
use Rattle.lists.specs.Numbers.{numbers, in_numbers}
use Rattle.lists.specs.Sift.{sift, sift_map, any_sift, all_sift, distinct_sift, elem_both}
use Rattle.definition.specs.declared.Definition.{Definition}
use Rattle.nucleus.specs.Commands.{direct_commands, code, command_of, has_option}
use Rattle.nucleus.specs.Users.{is_active, is_ready}
use Rattle.nucleus.specs.Responses.{number}
use Rattle.nucleus.specs.Nucleus.{Nucleus, Given, max_users, user_of}
use Rattle.entries.specs.declared.Entry.{Entry}
use Rattle.database.specs.Database.{in_words, direct_call, set_up_database}
use Rattle.nucleus.specs.declared.Call.{Call}
use Rattle.nucleus.specs.declared.Command.{Command}
use Rattle.nucleus.specs.declared.Command.TheVariants.{N1, N2, Et, Bt, Pe}
use Rattle.nucleus.specs.declared.Response.TheVariants.{Good}
use Rattle.claim.specs.Journal.{Journal, Change, Member, new_member, member, in_transaction, commits, add, apply, is_early, hold_of, log_clock, log_left_by, log_let_go, log_change, log_hold, log_mark, log_update, log_accepted, log_answered, log_end, log_ready, fed, replayed, record_told}
use Rattle.claim.specs.Run.{World, BackOut, call_given, called, run, begin, bt, back_outs, struck_all}
use Rattle.claim.specs.Answers.{Answered, answers}
use Rattle.claim.specs.Lent.{Lent, Alike}
use Rattle.claim.specs.Claim.{SameRecords, UniqueValues, users_of, Chosen, Requirement3}
use Rattle.claim.specs.Statements.{unusable, NeverUnusable, StaysUsable, SameTransactions, BackOutsAccepted, BackOutsAreCalls, BackOutsAreFed, JournalOfAnswers, record_added, AddedTold, NeverTouched, response_to, of_others, IsEt, IsBt, changes_of, ReadyEnds, EveryoneListed, bytes_of, CommittedPart, CommittedRead}
use Rattle.history.specs.Kept.{Kept, member_of}
use Rattle.history.specs.HandLogs.{spared_let_go}
use Rattle.history.proofs.People.{transaction_is, member_is, ready_started}
use Rattle.history.proofs.Passing.{Passed}
use Rattle.history.proofs.Standing.{well_made_kept, long_kept}
use Rattle.history.proofs.Sizes.{alike_self, alike_then}
use Rattle.history.proofs.EntryLists.{passed_called, usable_called, inside_called, queue_called, lent_words, passed_set_up}
use Rattle.history.proofs.Records.{same_records, unique_values}
use Rattle.history.proofs.Resting.{past_clock, told_then, passed_then, performed_good, bt_performed, et_performed}
use Rattle.history.specs.Ready.{Awaited, awaited_still, awaited_then, awaited_past, awaited_fed}
use Rattle.history.proofs.Committed.{committed_left, part_bytes}
use Rattle.history.proofs.CommittedReads.{committed_reads}
use Rattle.history.proofs.BackingOut.{passed_back_outs, queue_back_outs, accepted_back_outs, fed_back_outs}

-- ---- a list of calls
module _ (capacity : ℕ) (lent : Lent ℕ) where
  abbrev InWords : World → Type 0
  InWords w = Passed capacity lent (in_words capacity w.database) w.journal

  passed_next : (g : Given) (w : World) → InWords w → InWords (called capacity g w)
  unfolding direct_call
  passed_next g w p = passed_called capacity lent w.database w.journal p g.call g.format g.buffer

  passed_run : (gs : List Given) (w : World) → InWords w → InWords (run capacity gs w)
  unfolding run
  passed_run [] w p = p
  passed_run (g ∷ gs) w p = passed_run gs (called capacity g w) (passed_next g w p)

  usable_run : (gs : List Given) (w : World) → InWords w → any (λ (a : Answered). unusable a.response) (answers capacity gs w) ≡ false
  unfolding direct_call
  usable_run [] w p = refl
  usable_run (g ∷ gs) w p =
      rw (usable_called capacity lent w.database w.journal p g.call g.format g.buffer) (usable_run gs (called capacity g w) (passed_next g w p))

  queue_run : (gs : List Given) (w : World) → InWords w → Alike capacity (run capacity gs w).database.queue w.database.queue
  unfolding run
  queue_run [] w p = alike_self capacity w.database.queue
  queue_run (g ∷ gs) w p = alike_then capacity _ _ _
      (queue_run gs (called capacity g w) (passed_next g w p))
      (queue_called capacity lent w.database w.journal p g.call g.format g.buffer)

-- ---- after a set-up that answers 0
module _ (capacity : ℕ) (table store : List ℕ) (queue : List Entry) (images : List ℕ) (calls : List Given) (good : (set_up_database capacity store queue images table).response ≡ Good) where
  abbrev lent : Lent ℕ
  lent = lent_words capacity table store queue images good

  abbrev first_world : World
  first_world = begin capacity store queue images table

  abbrev last_world : World
  last_world = run capacity calls first_world

  passed_start : InWords capacity lent first_world
  passed_start = passed_set_up capacity table store queue images good

  passed_end : InWords capacity lent last_world
  passed_end = passed_run capacity lent calls first_world passed_start

  module _ (bs : List BackOut) (chosen : Chosen bs last_world.journal) where
    kept_end : Kept capacity lent (in_words capacity (back_outs capacity bs last_world.database)) (struck_all bs last_world.journal)
    kept_end = (passed_back_outs capacity lent bs last_world.database last_world.journal passed_end chosen).kept

    -- the queue past H, from set-up on
    queue_end : Alike capacity (back_outs capacity bs last_world.database).queue queue
    unfolding set_up_database
    queue_end = alike_then capacity _ _ _
        (queue_back_outs capacity lent bs last_world.database last_world.journal passed_end chosen)
        (queue_run capacity lent calls first_world passed_start)

-- ---- the claim
pub backed_out_never_was : Requirement3
backed_out_never_was capacity table store queue images calls bs good chosen =
    let lent = lent_words capacity table store queue images good in
    let w = run capacity calls (begin capacity store queue images table) in
    let m = in_words capacity (back_outs capacity bs w.database) in
    let j = struck_all bs w.journal in
    let k = kept_end capacity table store queue images calls good bs chosen in
    record {
      same_records = subst (λ d. SameRecords d m.store j) k.sized.same_table (same_records capacity lent m j k);
      unique_values = subst (λ d. UniqueValues d m.store) k.sized.same_table (unique_values capacity lent m j k);
    }

-- ---- and the statements beside it
pub never_unusable : NeverUnusable
never_unusable capacity table store queue images calls good =
    usable_run capacity (lent_words capacity table store queue images good) calls (begin capacity store queue images table)
    (passed_start capacity table store queue images calls good)

pub stays_usable : StaysUsable
stays_usable capacity table store queue images calls good =
    let lent = lent_words capacity table store queue images good in
    let w = run capacity calls (begin capacity store queue images table) in
    let p = passed_end capacity table store queue images calls good in
    let k = p.kept in
    record {
      same_table = k.sized.same_table;
      made = well_made_kept capacity lent (in_words capacity w.database) w.journal k p.lined;
      long = rw k.sized.same_table at (long_kept capacity lent (in_words capacity w.database) w.journal k);
    }

pub same_transactions : SameTransactions
same_transactions capacity table store queue images calls u good =
    let w = run capacity calls (begin capacity store queue images table) in
    transaction_is w.database.state.users u w.journal (passed_end capacity table store queue images calls good).kept.told.same_members

pub back_outs_accepted : BackOutsAccepted
back_outs_accepted capacity table store queue images calls bs good chosen =
    accepted_back_outs capacity (lent_words capacity table store queue images good) bs (run capacity calls (begin capacity store queue images table))
    (passed_end capacity table store queue images calls good) chosen

pub back_outs_are_calls : BackOutsAreCalls
unfolding run
back_outs_are_calls capacity [] w = refl
back_outs_are_calls capacity (b ∷ bs) w = back_outs_are_calls capacity bs (called capacity (bt b) w)

pub back_outs_are_fed : BackOutsAreFed
back_outs_are_fed capacity table store queue images calls bs good chosen =
    fed_back_outs capacity (lent_words capacity table store queue images good) bs (run capacity calls (begin capacity store queue images table))
    (passed_end capacity table store queue images calls good) chosen

pub journal_of_answers : JournalOfAnswers
unfolding run
journal_of_answers capacity [] w = refl
journal_of_answers capacity (g ∷ gs) w = journal_of_answers capacity gs (called capacity g w)

-- a call of a command that was answered 0
fed_good : (c : Command) (call : Call) (format buffer : List ℕ) (isn : ℕ) (j : Journal) → command_of direct_commands call.command ≡ Some c
    → fed call format buffer 0 isn j ≡ log_accepted c call format buffer isn (log_clock call.clock (log_left_by (Some c) call j))
unfolding fed
fed_good c call format buffer isn j known = ap (λ x. log_answered x call format buffer 0 isn (log_clock call.clock (log_left_by x call j))) known

-- the last change of a list
module _ (d : Definition) (call : Call) (format buffer : List ℕ) (isn : ℕ) where
  last_added : (cs : List Change) (x : Option (List ℕ))
      → replayed d call.file isn x (cs ++ record { user = call.user; file = call.file; isn = isn; update = add format buffer; uncommitted = true } ∷ [])
      ≡ Some (record_added d call format buffer)
  unfolding apply
  last_added [] x = rw (eqb_self call.file, eqb_self isn)
  last_added (c ∷ cs) x = last_added cs _

  told_added : (i : Journal) → record_told d (log_update call isn (add format buffer) i) call.file isn ≡ Some (record_added d call format buffer)
  unfolding log_change record_told
  told_added i = last_added (log_mark call.file isn (log_hold call.user call.file isn i)).changes None

pub added_told : AddedTold
unfolding command_of
added_told d j call format buffer isn (inl e) =
    ap (λ (i : Journal). record_told d i call.file isn) (fed_good N1 call format buffer isn j (ap (command_of direct_commands) e)) ∙ told_added d call format buffer isn _
added_told d j call format buffer isn (inr e) =
    ap (λ (i : Journal). record_told d i call.file isn) (fed_good N2 call format buffer isn j (ap (command_of direct_commands) e)) ∙ told_added d call format buffer isn _

pub never_touched : NeverTouched
never_touched capacity table store queue images calls bs good chosen =
    let s = (kept_end capacity table store queue images calls good bs chosen).sized in
    let past = rw s.same_table at s.past in
    record {
      store_past = past.store_past;
      queue_past = queue_end capacity table store queue images calls good bs chosen;
      images_past = past.images_past;
    }

-- ---- a user whom a PE answered 0 has set ready
module _ (capacity : ℕ) (lent : Lent ℕ) where
  -- he is in a transaction, and so he is after the clock of any call
  module _ (w : World) (p : InWords capacity lent w) (g : Given) (ready : (member w.journal g.call.user).ready ≡ true) (inside : within 1 max_users g.call.user ≡ true) where
    abbrev n : Nucleus
    n = in_words capacity w.database

    abbrev u : ℕ
    u = g.call.user

    abbrev u_least : 1 ≤ u
    u_least = within_least 1 max_users u inside

    -- with the line that its command leaves
    module _ (c : Command) where
      abbrev then : Nucleus
      then = past_clock capacity lent n w.journal p g.call g.format g.buffer c

      abbrev told : Journal
      told = told_then capacity lent n w.journal p g.call g.format g.buffer c

      clock_awaited : Awaited u w.journal told
      clock_awaited =
          awaited_past u u_least (Some c) g.call w.journal ready (ready_started n.state.users u w.journal p.kept.told.same_members ready)

      active_then : is_active (user_of then u) ≡ true
      active_then =
          let q = passed_then capacity lent n w.journal p g.call g.format g.buffer c in
          let x = user_of then u in
          let same = sym (member_is then.state.users u told q.kept.told.same_members) ∙ clock_awaited.same_member in
          and_left (is_active x) (is_ready x) (ap (λ (m : Member). m.ready) same ∙ ready)

    et_accepted : IsEt g → response_to capacity g w ≡ 0
    unfolding direct_call command_of has_option
    et_accepted e =
        ap number
        (performed_good capacity lent n w.journal p g.call g.format g.buffer Et (active_then Et) refl refl (rw e.command) (rw e.option) inside
        (et_performed capacity g.call g.format g.buffer (then Et) e.fits))

    bt_accepted : IsBt g → response_to capacity g w ≡ 0
    unfolding direct_call command_of has_option
    bt_accepted e =
        ap number
        (performed_good capacity lent n w.journal p g.call g.format g.buffer Bt (active_then Bt) refl refl (rw e.command) (rw e.option) inside
        (bt_performed capacity g.call g.format g.buffer (then Bt)))

    -- what ET makes of his changes
    et_log : IsEt g → (called capacity g w).journal ≡ log_let_go (hold_of u) (log_end u (told Et))
    unfolding command_of
    et_log e =
        let r = (call_given capacity g w).answer in
        ap (λ k. fed g.call g.format g.buffer k r.isn w.journal) (et_accepted e)
        ∙ fed_good Et g.call g.format g.buffer r.isn w.journal (ap (command_of direct_commands) e.command)

    et_told : IsEt g → changes_of u (called capacity g w).journal ≡ map (commits u) (changes_of u w.journal)
    unfolding log_end
    et_told e =
        ap (changes_of u) (et_log e) ∙ ap (sift (λ (c : Change). eqb c.user u)) (spared_let_go (hold_of u) (log_end u (told Et))).same_changes
        ∙ sift_map (λ (c : Change). eqb c.user u) (commits u) (λ c. refl) (told Et).changes ∙ ap (map (commits u)) (clock_awaited Et).same_changes

  -- calls of others
  awaited_run : (v : ℕ) → 1 ≤ v → (gs : List Given) (w : World) → InWords capacity lent w → (member w.journal v).ready ≡ true → of_others v gs ≡ true
      → Awaited v w.journal (run capacity gs w).journal
  unfolding run direct_call
  awaited_run v least [] w p ready others = awaited_still v w.journal
  awaited_run v least (g ∷ gs) w p ready others =
      let r = (call_given capacity g w).answer in
      let apart = not-true (eqb g.call.user v) (and_left (not (eqb g.call.user v)) (of_others v gs) others) in
      let known : is_early (number r.response) ≡ false → 1 ≤ g.call.user = λ late. within_least 1 max_users g.call.user (inside_called capacity lent w.database w.journal p g.call g.format g.buffer late) in
      let first = awaited_fed v least g.call g.format g.buffer r.isn apart (number r.response) w.journal ready
      (ready_started (in_words capacity w.database).state.users v w.journal p.kept.told.same_members ready) known in
      awaited_then v w.journal (called capacity g w).journal _ first
      (awaited_run v least gs (called capacity g w) (passed_next capacity lent g w p) (ap (λ (m : Member). m.ready) first.same_member ∙ ready)
      (and_right (not (eqb g.call.user v)) (of_others v gs) others))

  -- PE itself
  module _ (w : World) (p : InWords capacity lent w) (g : Given) (command : g.call.command ≡ code Pe) (good : response_to capacity g w ≡ 0) where
    pe_inside : within 1 max_users g.call.user ≡ true
    unfolding direct_call
    pe_inside = inside_called capacity lent w.database w.journal p g.call g.format g.buffer (ap is_early good)

    pe_log : (called capacity g w).journal ≡ log_ready g.call.user (told_then capacity lent (in_words capacity w.database) w.journal p g.call g.format g.buffer Pe)
    unfolding command_of
    pe_log =
        let r = (call_given capacity g w).answer in
        ap (λ k. fed g.call g.format g.buffer k r.isn w.journal) good
        ∙ fed_good Pe g.call g.format g.buffer r.isn w.journal (ap (command_of direct_commands) command)

    pe_ready : (member (called capacity g w).journal g.call.user).ready ≡ true
    unfolding log_ready
    pe_ready =
        let n = in_words capacity w.database in
        let j = told_then capacity lent n w.journal p g.call g.format g.buffer Pe in
        let m = past_clock capacity lent n w.journal p g.call g.format g.buffer Pe in
        let k = (passed_then capacity lent n w.journal p g.call g.format g.buffer Pe).kept in
        let full : length j.members ≡ max_users = ap length k.told.same_members ∙ length-map m.state.users member_of ∙ k.people.user_count in
        ap (λ (i : Journal). (member i g.call.user).ready) pe_log
        ∙ ap (λ (x : Member). x.ready)
        (get_or-set_same j.members (g.call.user - 1) _ new_member
        (omega (arith, full, within_least 1 max_users g.call.user pe_inside, within_most 1 max_users g.call.user pe_inside)))

pub ready_ends : ReadyEnds
ready_ends capacity table store queue images calls others pe good command accepted apart =
    let lent = lent_words capacity table store queue images good in
    let w = run capacity calls (begin capacity store queue images table) in
    let p = passed_end capacity table store queue images calls good in
    let u = pe.call.user in
    let before = called capacity pe w in
    let now = run capacity others before in
    let inside = pe_inside capacity lent w p pe command accepted in
    let started = passed_next capacity lent pe w p in
    let ready = pe_ready capacity lent w p pe command accepted in
    let waited = awaited_run capacity lent u (within_least 1 max_users u inside) others before started ready apart in
    let still = passed_run capacity lent others before started in
    let ready_now = ap (λ (m : Member). m.ready) waited.same_member ∙ ready in
    record {
      et_good = λ g same e. et_accepted capacity lent now still g (rw same ready_now) (rw same inside) e;
      all_stand = λ g same e. subst (λ v. changes_of v (called capacity g now).journal ≡ map (commits v) (changes_of v now.journal)) same (et_told capacity lent now still g (rw same ready_now) (rw same inside) e)
          ∙ ap (map (commits u)) waited.same_changes;
      bt_good = λ g same e. bt_accepted capacity lent now still g (rw same ready_now) (rw same inside) e;
    }

-- ---- document 02, No. 8
-- a BT of each user whom the journal has in a transaction, in the order of their numbers
module _ (j : Journal) where
  abbrev in_one : List ℕ
  in_one = sift (in_transaction j) (numbers max_users 1)

  abbrev each_out : List BackOut
  each_out = map (λ u. record { user = u; file = 0; isn = 0; limit = 0; format = []; buffer = [] }) in_one

  same_users : (us : List ℕ) → users_of (map (λ u. record { user = u; file = 0; isn = 0; limit = 0; format = []; buffer = [] }) us) ≡ us
  same_users [] = refl
  same_users (u ∷ us) = ap (λ l. u ∷ l) (same_users us)

  listed : (u : ℕ) → in_transaction j u ≡ true → any (eqb u) in_one ≡ true
  listed u active =
      let inside = and_left (within 1 max_users u) _ active in
      any_sift (in_transaction j) (eqb u) (numbers max_users 1)
      ∙ elem_both (in_transaction j) u (numbers max_users 1)
      (in_numbers max_users 1 u (within_least 1 max_users u inside) (omega (arith, within_most 1 max_users u inside))) active

pub everyone_listed : EveryoneListed
everyone_listed j = (
  each_out j,
  record {
    chosen = record {
      different = rw (same_users j (in_one j)) (distinct_sift eqb (in_transaction j) (numbers max_users 1) refl);
      active = rw (same_users j (in_one j)) (all_sift (in_transaction j) (numbers max_users 1));
    };
    none_left = λ u active. rw (same_users j (in_one j)) (listed j u active);
  },
)

pub committed_part : CommittedPart
committed_part capacity table store queue images calls bs file isn good everyone =
    let lent = lent_words capacity table store queue images good in
    let w = run capacity calls (begin capacity store queue images table) in
    let p = passed_end capacity table store queue images calls good in
    part_bytes capacity lent w.database w.journal p file isn
    ∙ ap bytes_of (committed_left capacity lent w.database w.journal p file isn bs everyone)

pub committed_read : CommittedRead
committed_read capacity table store queue images calls g bs good committed everyone =
    committed_reads capacity (lent_words capacity table store queue images good) (run capacity calls (begin capacity store queue images table))
    (passed_end capacity table store queue images calls good) g committed bs everyone
