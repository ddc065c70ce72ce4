-- An L1 with option `C` (document 02, No. 8): answered 0 it has read the record as ended transactions left it, answered 113 there is none; of the
-- nucleus that the call leaves.
-- Assumes nothing.
use Rattle.std.specs.Prelude.{ℕ, ◌≡◌, Bool, true, false, not, ◌&&◌, ◌||◌, List, eqb, Option, Some, None}
use Rattle.std.proofs.Common.{arith, sym, ◌∙◌}
use Rattle.std.proofs.Math.Path.{refl, ap, subst}
use Rattle.std.proofs.lemmas.Bool.{eqb-false, not-false, not-true}
use Rattle.lists.specs.Tests.{cond, Outcome, holds, fails, outcome, within, not_both, and_left, and_right, or_left}
use Rattle.lists.specs.Folds.{all}
use Rattle.entries.specs.declared.Entry.{Entry}
use Rattle.committed.specs.Committed.{committed_version, version_there, version_bytes}
use Rattle.nucleus.specs.Commands.{direct_commands, command_of, option_C}
use Rattle.nucleus.specs.Responses.{number, waiting_number}
use Rattle.nucleus.specs.Nucleus.{Nucleus, Given, Request, request, Result, resulting, entries_of, width_of, change_user}
use Rattle.nucleus.specs.Users.{opened}
use Rattle.nucleus.specs.Clock.{clocked}
use Rattle.nucleus.specs.Waiters.{joined_line, change_line, left_by, let_go, lets_go, handed}
use Rattle.nucleus.specs.Target.{file, part, target, target_isn, version_read}
use Rattle.nucleus.specs.Rows.{Row, first_cause, rows_usable, rows_understood, rows_after_clock, rows_after_session, rows_last, isn_invalid, presence_refused}
use Rattle.nucleus.specs.Effects.{effect, effect_at}
use Rattle.nucleus.specs.Step.{Admission, turned_away, let_in, unless_refused, notified, admitted_session, admitted_user, admitted, refusal, unless, perform, after_line, serve, step}
use Rattle.nucleus.specs.declared.Call.{Call}
use Rattle.nucleus.specs.declared.Command.{Command}
use Rattle.nucleus.specs.declared.Command.TheVariants.{L1}
use Rattle.nucleus.specs.declared.Response.{Response}
use Rattle.database.specs.Database.{Database, in_words, reply_of, direct_call}
use Rattle.claim.specs.Run.{World, BackOut, call_given, called}
use Rattle.claim.specs.Statements.{Everyone, record_after, is_record, IsCommittedRead, Reads}
use Rattle.claim.specs.Lent.{Lent}
use Rattle.history.specs.Kept.{definition_of}
use Rattle.history.specs.Accepted.{is_cause, first_holds, Accepted, accepted}
use Rattle.history.proofs.Passing.{Passed}
use Rattle.history.proofs.Serving.{first_such}
use Rattle.history.proofs.EntryLists.{passed_called, entries_called}
use Rattle.history.specs.Committed.{committed_in, committed_of}
use Rattle.history.proofs.Committed.{committed_left}

-- ---- a call of a command is turned away with neither 0 nor 113, or let in
abbrev otherwise : Response → Bool
otherwise c = not (eqb (number c) 0) && not (eqb (number c) 113)

data Ended (c : Command) : Admission → Type 0 where
  away : (cause : Response) (n : Nucleus) → otherwise cause ≡ true → Ended c (turned_away cause n)
  comes_in : (n : Nucleus) → Ended c (let_in c n)

module _ (c : Command) where
  ended_rows : (rs : List Row) → all (λ (r : Row). otherwise r.cause) rs ≡ true → (n : Nucleus) (next : Admission) → Ended c next → Ended c (unless_refused (first_cause rs) n next)
  ended_rows rs h n next e = go (first_cause rs) refl
    where
      go : (x : Option Response) → first_cause rs ≡ x → Ended c (unless_refused x n next)
      go (Some cause) f = away cause n (first_such otherwise rs h cause f)
      go None f = e

  ended : (capacity : ℕ) (call : Call) (n : Nucleus) → command_of direct_commands call.command ≡ Some c → Ended c (admitted direct_commands capacity call n)
  unfolding admitted admitted_user admitted_session rows_usable rows_understood
  ended capacity call n known =
      let m = clocked call.clock (left_by c call n) in
      let o = change_user call.user opened m in
      ended_rows (rows_usable capacity n) refl n _
      (ended_rows (rows_understood direct_commands call) refl n _
      (rw known (ended_rows (rows_after_clock c call m) refl (notified c call m) _ (ended_rows (rows_after_session c call o) refl o _ (comes_in o)))))

-- ---- let in
-- what a call answers is so of the nucleus that it leaves
abbrev ReadsLeft : ℕ → List Entry → Given → Result → Type 0
ReadsLeft capacity queue g y = Reads (definition_of y.nucleus) g (reply_of capacity queue y) (committed_of y.nucleus g.call.file g.call.isn)

module _ (capacity : ℕ) (g : Given) (option : g.call.option ≡ option_C) (queue : List Entry) (n : Nucleus) where
  abbrev r : Request
  r = request capacity L1 g.call g.format g.buffer

  abbrev isn : ℕ
  isn = g.call.isn

  abbrev x : Option (List ℕ)
  x = committed_of n g.call.file isn

  abbrev inside : Bool
  inside = within 1 (file r n).max_isn isn

  abbrev is_there : Bool
  is_there = version_there (file r n) (part r n) n.images (width_of n) (committed_version (entries_of n) g.call.file isn) isn

  abbrev bytes : List ℕ
  bytes = version_bytes (file r n) (part r n) n.images (width_of n) (committed_version (entries_of n) g.call.file isn) isn

  -- the two rows of 113
  isn_row : isn_invalid r n ≡ not inside
  unfolding isn_invalid
  isn_row = rw option

  target_given : target_isn r n ≡ isn
  unfolding target
  target_given = rw option

  version_committed : version_read r n isn ≡ committed_version (entries_of n) g.call.file isn
  version_committed = rw option

  presence_row : presence_refused r n ≡ (not is_there || false)
  unfolding presence_refused
  presence_row = rw (target_given, version_committed)

  -- refused
  not_zero : (c : Response) → first_cause (rows_last r n) ≡ Some c → number c ≡ 0 → ⊥
  not_zero c e z = not_both false (first_holds 0 (rows_last r n) c e z) refl

  none_there : (c : Response) → first_cause (rows_last r n) ≡ Some c → number c ≡ 113 → x ≡ None
  none_there c e z = go (outcome inside) (outcome is_there)
    where
      either : (isn_invalid r n || (presence_refused r n || false)) ≡ true
      either = first_holds 113 (rows_last r n) c e z

      go : Outcome inside → Outcome is_there → x ≡ None
      go (fails t) y = rw t
      go (holds t) (fails y) = rw (t, y)
      go (holds t) (holds y) = not_both false (rw (isn_row, presence_row, t, y) at either) refl

  -- performed
  some_there : Accepted r n → x ≡ Some bytes
  some_there a =
      let t : inside ≡ true = not-false inside (sym isn_row ∙ a.isn) in
      let y : is_there ≡ true = not-false is_there (or_left (not is_there) false (sym presence_row ∙ a.presence)) in
      rw (t, y)

  reads_performed : ReadsLeft capacity queue g (perform r n)
  unfolding perform effect_at
  reads_performed = go (first_cause (rows_last r n)) refl
    where
      go : (y : Option Response) → first_cause (rows_last r n) ≡ y → ReadsLeft capacity queue g (unless y (refusal r.buffer n) (effect r n))
      go (Some c) e = record {
        there = λ z. absurd (not_zero c e z);
        fields_read = λ z. absurd (not_zero c e z);
        not_there = none_there c e;
      }
      go None e =
          let a = accepted r n (ap is_cause e) in
          record {
            there = λ z. ap is_record (some_there a);
            fields_read = λ z. rw (target_given, version_committed, some_there a);
            not_there = λ z. absurd (omega (arith, z));
          }

  -- the line is not read
  reads_after : (x : Result) → ReadsLeft capacity queue g x → ReadsLeft capacity queue g (after_line r n x)
  unfolding after_line
  reads_after x q = go (eqb (number x.answer.response) waiting_number) (eqb (number x.answer.response) 0)
    where
      m : Nucleus
      m = x.nucleus

      as_read : ReadsLeft capacity queue g (resulting x.answer m x.buffer)
      as_read = record { there = q.there; fields_read = q.fields_read; not_there = q.not_there }

      go : (joins good : Bool)
          → ReadsLeft capacity queue g (resulting x.answer (cond joins (change_line (joined_line L1 g.call) m) (cond (good && false) (handed (let_go (lets_go L1 g.call) n) m) m)) x.buffer)
      go true good = record { there = q.there; fields_read = q.fields_read; not_there = q.not_there }
      go false true = as_read
      go false false = as_read

-- ---- the whole call
module _ (capacity : ℕ) (g : Given) (committed : IsCommittedRead g) (queue : List Entry) where
  reads_ended : (a : Admission) → Ended L1 a → ReadsLeft capacity queue g (serve a capacity g.call g.format g.buffer)
  reads_ended _ (away cause n h) =
      let zero : eqb (number cause) 0 ≡ false = not-true _ (and_left (not (eqb (number cause) 0)) (not (eqb (number cause) 113)) h) in
      let missing : eqb (number cause) 113 ≡ false = not-true _ (and_right (not (eqb (number cause) 0)) (not (eqb (number cause) 113)) h) in
      record {
        there = λ z. absurd (eqb-false (number cause) 0 zero z);
        fields_read = λ z. absurd (eqb-false (number cause) 0 zero z);
        not_there = λ z. absurd (eqb-false (number cause) 113 missing z);
      }
  reads_ended _ (comes_in n) = reads_after capacity g committed.option queue n _ (reads_performed capacity g committed.option queue n)

  reads_step : (n : Nucleus) → ReadsLeft capacity queue g (step capacity g.call g.format g.buffer n)
  unfolding step command_of
  reads_step n = reads_ended _ (ended L1 capacity g.call n (rw committed.command))

-- on a list of entries, after which everybody may be backed out
module _ (capacity : ℕ) (lent : Lent ℕ) (w : World) (p : Passed capacity lent (in_words capacity w.database) w.journal) (g : Given) (committed : IsCommittedRead g)
    (bs : List BackOut) (everyone : Everyone bs (called capacity g w).journal) where
  abbrev b : Database
  b = (called capacity g w).database

  abbrev m : Nucleus
  m = in_words capacity b

  abbrev left : Nucleus
  left = (step capacity g.call g.format g.buffer (in_words capacity w.database)).nucleus

  after : Passed capacity lent m (called capacity g w).journal
  unfolding direct_call
  after = passed_called capacity lent w.database w.journal p g.call g.format g.buffer

  same_entries : entries_of left ≡ entries_of m
  same_entries = sym (entries_called capacity lent w.database w.journal p g.call g.format g.buffer)

  reads_called : Reads (definition_of m) g (call_given capacity g w) (committed_of m g.call.file g.call.isn)
  unfolding direct_call
  reads_called =
      subst (λ es. Reads (definition_of m) g (call_given capacity g w) (committed_in (definition_of m) m.store m.images g.call.file g.call.isn es)) same_entries
      (reads_step capacity g committed w.database.queue (in_words capacity w.database))

  pub committed_reads : Reads lent.definition g (call_given capacity g w) (record_after capacity lent.definition bs b g.call.file g.call.isn)
  committed_reads =
      subst (λ d. Reads d g (call_given capacity g w) (record_after capacity lent.definition bs b g.call.file g.call.isn)) after.kept.sized.same_table
      (subst (Reads (definition_of m) g (call_given capacity g w)) (committed_left capacity lent b (called capacity g w).journal after g.call.file g.call.isn bs everyone) reads_called)
