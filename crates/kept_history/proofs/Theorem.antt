-- What a program in another language has after any list of calls is what requirement 3 speaks of.
-- Assumes nothing.
use Rattle.std.specs.Prelude.{ℕ, ◌≡◌}
use Rattle.std.proofs.Common.{arith, sym, subst, ◌∙◌}
use Rattle.std.proofs.Math.Path.{refl, ap}
use mathlib.Core.List.{List, [], ◌∷◌, map}
use Rattle.entries.specs.Entries.{pack_of}
use Rattle.entries.specs.declared.Entry.{Entry}
use Rattle.reading.specs.Grammar.{read_table}
use Rattle.nucleus.specs.Responses.{number}
use Rattle.nucleus.specs.declared.Response.{Response}
use Rattle.nucleus.specs.declared.Response.TheVariants.{Good, DefinitionInvalid, BufferTooShort, StateInvalid, CommandUnknown, UserUnknown, BackedOut, TransactionReady, AccessOnly, NoTransaction, FileUnknown, IsnInvalid, FormatInvalid, FieldTwice, RecordLength, ValueInvalid, NotFound, Waiting, HeldByAnother, Presence, NotHeld, AlreadyChanged, FileFull, HoldLimit, QueueFull, ValueTaken}
use Rattle.database.specs.Database.{Database, database, Reply, direct_call, direct_part, set_up_database}
use Rattle.kept_states.specs.KeptStates.{thawed, answered, left_by}
use Rattle.kept_setup.specs.KeptSetup.{kept_set_up}
use Rattle.kept_setup.proofs.Laws.{made_thawed}
use Rattle.direct_calls.specs.Kept.{kept_call}
use Rattle.direct_calls.specs.Places.{kept_place}
use Rattle.direct_calls.specs.Promises.{left_thawed}
use Rattle.claim.specs.Journal.{Journal, new_journal}
use Rattle.claim.specs.Run.{World, BackOut, called, run, begin, bt, back_outs, struck_all, record_in}
use Rattle.claim.specs.Answers.{Answered, answers, fed_all}
use Rattle.claim.specs.Claim.{SameRecords, UniqueValues, Chosen}
use Rattle.claim.specs.Statements.{Everyone, bytes_of}
use Rattle.history.proofs.SetUpKept.{set_up_touches}
use Rattle.history.proofs.Theorem.{backed_out_never_was, back_outs_are_calls, journal_of_answers, committed_part}
use Rattle.kept_history.specs.KeptRun.{KeptDatabase, thawed_database, KeptGiven, given_in, replied, kept_after, kept_run, kept_answers, kept_begin, kept_journal, Requirement3Kept, CommittedPartKept}

-- ---- one call
module _ (capacity : ℕ) (g : KeptGiven) (k : KeptDatabase) where
  abbrev reply_is : Reply
  reply_is = direct_call capacity (given_in g).call g.format g.buffer (thawed_database k)

  state_is : thawed (replied capacity g k).left.state ≡ reply_is.database.state
  state_is = left_thawed capacity k.state g.block k.store k.queue k.images g.format g.buffer

  after_is : thawed_database (kept_after (replied capacity g k)) ≡ reply_is.database
  unfolding kept_call direct_call
  after_is = λ i. database (state_is i) reply_is.database.store reply_is.database.queue reply_is.database.images

-- ---- a list of calls
module _ (capacity : ℕ) where
  abbrev world : KeptDatabase → Journal → World
  world k j = record { database = thawed_database k; journal = j }

  run_is : (gs : List KeptGiven) (k : KeptDatabase) (j : Journal) → thawed_database (kept_run capacity gs k) ≡ (run capacity (map given_in gs) (world k j)).database
  unfolding kept_run run
  run_is [] k j = refl
  run_is (g ∷ gs) k j =
      let w = called capacity (given_in g) (world k j) in
      run_is gs (kept_after (replied capacity g k)) w.journal
      ∙ ap (λ (b : Database). (run capacity (map given_in gs) (record { database = b; journal = w.journal })).database) (after_is capacity g k)

  answers_are : (gs : List KeptGiven) (k : KeptDatabase) (j : Journal) → kept_answers capacity gs k ≡ answers capacity (map given_in gs) (world k j)
  unfolding kept_call left_by answered
  answers_are [] k j = refl
  answers_are (g ∷ gs) k j =
      let w = called capacity (given_in g) (world k j) in
      let r = reply_is capacity g k in
      let told : Answered = record { given = given_in g; response = number r.answer.response; isn = r.answer.isn } in
      ap (λ (rest : List Answered). told ∷ rest)
      (answers_are gs (kept_after (replied capacity g k)) w.journal
      ∙ ap (λ (b : Database). answers capacity (map given_in gs) (record { database = b; journal = w.journal })) (after_is capacity g k))

-- ---- set-up
number_good : (c : Response) → number c ≡ 0 → c ≡ Good
number_good Good h = refl
number_good DefinitionInvalid h = absurd (omega (arith, h))
number_good BufferTooShort h = absurd (omega (arith, h))
number_good StateInvalid h = absurd (omega (arith, h))
number_good CommandUnknown h = absurd (omega (arith, h))
number_good UserUnknown h = absurd (omega (arith, h))
number_good BackedOut h = absurd (omega (arith, h))
number_good TransactionReady h = absurd (omega (arith, h))
number_good AccessOnly h = absurd (omega (arith, h))
number_good NoTransaction h = absurd (omega (arith, h))
number_good FileUnknown h = absurd (omega (arith, h))
number_good IsnInvalid h = absurd (omega (arith, h))
number_good FormatInvalid h = absurd (omega (arith, h))
number_good FieldTwice h = absurd (omega (arith, h))
number_good RecordLength h = absurd (omega (arith, h))
number_good ValueInvalid h = absurd (omega (arith, h))
number_good NotFound h = absurd (omega (arith, h))
number_good Waiting h = absurd (omega (arith, h))
number_good HeldByAnother h = absurd (omega (arith, h))
number_good Presence h = absurd (omega (arith, h))
number_good NotHeld h = absurd (omega (arith, h))
number_good AlreadyChanged h = absurd (omega (arith, h))
number_good FileFull h = absurd (omega (arith, h))
number_good HoldLimit h = absurd (omega (arith, h))
number_good QueueFull h = absurd (omega (arith, h))
number_good ValueTaken h = absurd (omega (arith, h))

module _ (capacity : ℕ) (table store : List ℕ) (queue : List Entry) (images : List ℕ) where
  abbrev made : Database
  made = (set_up_database capacity store queue images table).database

  begin_is : thawed_database (kept_begin capacity table store queue images) ≡ made
  unfolding kept_set_up set_up_database
  begin_is = λ i. database (made_thawed capacity store queue images table i) made.store queue (sym (set_up_touches capacity store (map pack_of queue) images table).images_kept i)

  module _ (calls : List KeptGiven) where
    abbrev start : KeptDatabase
    start = kept_begin capacity table store queue images

    abbrev w : World
    w = run capacity (map given_in calls) (begin capacity store queue images table)

    begun_is : world capacity start new_journal ≡ begin capacity store queue images table
    begun_is = ap (λ (b : Database). record { database = b; journal = new_journal }) begin_is

    -- after the calls
    called_is : thawed_database (kept_run capacity calls start) ≡ w.database
    called_is = run_is capacity calls start new_journal ∙ ap (λ (v : World). (run capacity (map given_in calls) v).database) begun_is

    journal_is : kept_journal capacity calls start ≡ w.journal
    journal_is =
        ap (λ (all_told : List Answered). fed_all all_told new_journal) (answers_are capacity calls start new_journal ∙ ap (answers capacity (map given_in calls)) begun_is)
        ∙ sym (journal_of_answers capacity (map given_in calls) (begin capacity store queue images table))

    -- and after the BTs
    backed_out_is : (outs : List KeptGiven) (bs : List BackOut) → map given_in outs ≡ map bt bs
        → (kept_run capacity outs (kept_run capacity calls start)).store ≡ (back_outs capacity bs w.database).store
    backed_out_is outs bs same =
        ap (λ (b : Database). b.store)
        (run_is capacity outs (kept_run capacity calls start) w.journal
        ∙ ap (λ (gs : List _). (run capacity gs (record { database = thawed_database (kept_run capacity calls start); journal = w.journal })).database) same
        ∙ back_outs_are_calls capacity bs (record { database = thawed_database (kept_run capacity calls start); journal = w.journal })
        ∙ ap (back_outs capacity bs) called_is)

-- ---- requirement 3
pub kept_never_was : Requirement3Kept
unfolding kept_set_up
kept_never_was capacity table store queue images calls outs bs good same chosen =
    let d = (read_table table).definition in
    let j = journal_is capacity table store queue images calls in
    let s = backed_out_is capacity table store queue images calls outs bs same in
    let never = backed_out_never_was capacity table store queue images (map given_in calls) bs (number_good _ good) (subst (Chosen bs) j chosen) in
    let left = (kept_run capacity outs (kept_run capacity calls (kept_begin capacity table store queue images))).store in
    let told = struck_all bs (run capacity (map given_in calls) (begin capacity store queue images table)).journal in
    record {
      same_records = subst (λ (x : Journal). SameRecords d left (struck_all bs x)) (sym j) (subst (λ (x : List ℕ). SameRecords d x told) (sym s) never.same_records);
      unique_values = subst (UniqueValues d) (sym s) never.unique_values;
    }

-- ---- the record as a part
pub kept_committed_part : CommittedPartKept
unfolding kept_set_up kept_place
kept_committed_part capacity table store queue images calls outs bs file isn good same everyone =
    let d = (read_table table).definition in
    let j = journal_is capacity table store queue images calls in
    let part = committed_part capacity table store queue images (map given_in calls) bs file isn (number_good _ good) (subst (Everyone bs) j everyone) in
    ap (λ (b : Database). direct_part capacity b file isn) (called_is capacity table store queue images calls) ∙ part
    ∙ ap (λ (x : List ℕ). bytes_of (record_in d x file isn)) (sym (backed_out_is capacity table store queue images calls outs bs same))
