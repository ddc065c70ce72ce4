-- Calls whose format buffer is the period alone, in any state (document 02, No. 5): "L1 and L4 write nothing, quantity 0; A1 with it keeps an image and
-- changes no byte; N1 and N2 add a record of nulls".
-- Assumes nothing.
use Prim.Native.Nat.{ℕ}
use Rattle.entries.specs.declared.Entry.{Entry}
use Rattle.std.proofs.Common.{arith, ◌∙◌}
use Rattle.std.specs.Prelude.{◌≡◌, ◌&&◌, ◌||◌, List, [], ◌∷◌, eqb, ltb, length, Option, Some, None}
use Rattle.std.proofs.Math.Path.{refl, ap}
use Rattle.std.proofs.Math.Bool.{Bool, true, false, not}
use borrow.Author.Tests.{le-ltb, not-false}
use Rattle.lists.specs.Tests.{cond, and-false, or_left}
use Rattle.lists.specs.Folds.{any_none}
use Rattle.lists.specs.Numbers.{numbers}
use Rattle.definition.specs.Table.{field_at, field_count, is_unique}
use Rattle.definition.specs.declared.File.{File}
use Rattle.definition.specs.declared.Definition.{Definition}
use Rattle.elements.specs.Elements.{period_alone, format_valid, places}
use Rattle.elements.proofs.Laws.{alone_places, alone_once, alone_needed}
use Rattle.fields.specs.Laws.{read_none, write_none, allowed_none}
use Rattle.nulls.specs.Nulls.{null_record}
use Rattle.store.specs.Store.{record_of, field_value, put_record}
use Rattle.store.specs.Files.{part_own}
use Rattle.store.proofs.Laws.{put_own}
use Rattle.committed.specs.Committed.{version_there, version_bytes}
use Rattle.nucleus.specs.Commands.{direct_commands, one_of, on_record, reading_committed, naming, bringing_values}
use Rattle.nucleus.specs.Responses.{number, waiting_number, good}
use Rattle.nucleus.specs.Nucleus.{Nucleus, Request, request, Result, max_et_data, data_at, width_of, with_store}
use Rattle.nucleus.specs.Target.{part_in, store_with, command_in, file_place, file, part, record_at, holder_of, target_isn, version_read, new_record}
use Rattle.nucleus.specs.Rows.{first_cause, rows_last, format_refused, field_twice, record_length_refused, value_refused, presence_refused, judged, is_taken, value_taken}
use Rattle.nucleus.specs.Effects.{held, imaged_at, imaged, with_part_of, written, leaving, read_at, effect, effect_at}
use Rattle.nucleus.specs.Waiters.{joined_line, change_line, let_go, lets_go, handed}
use Rattle.nucleus.specs.Step.{admitted, let_in, refusal, unless, perform, after_line, step}
use Rattle.nucleus.specs.declared.Call.{Call}
use Rattle.nucleus.specs.declared.Command.TheVariants.{L1, L4, A1, N2, Et, Re}
use Rattle.nucleus.specs.declared.Response.{Response}
use Rattle.database.specs.Tables.{table_imaged}
use Rattle.claim.specs.Journal.{replace, apply}
use Rattle.history.specs.Accepted.{is_cause, accepted}
use Rattle.history.proofs.Changes.{rest_fails}
use Rattle.history.proofs.HoldMoves.{held_store}

-- ---- an image that is kept changes nothing in the store
imaged_store : (r : Request) (isn : ℕ) (n : Nucleus) → (imaged r isn n).store ≡ n.store
unfolding imaged
imaged_store r isn n = go (holder_of r (held r isn n) isn) ∙ held_store r isn n
  where
    go : (l : Option (ℕ × Entry)) → (imaged_at r l isn (held r isn n)).store ≡ (held r isn n).store
    go (Some (i, e)) = refl
    go None = refl

-- a file's own part put back
part_back : (d : Definition) (x : Option ℕ) (store : List ℕ) → store_with d x store (part_in d x store) ≡ store
part_back d (Some i) store = part_own d i store
part_back d None store = refl

module _ (r : Request) (n : Nucleus) (alone : period_alone r.format ≡ true) where
  abbrev isn : ℕ
  isn = target_isn r n

  none_named : places (file r n) r.format ≡ []
  none_named = alone_places (file r n) r.format alone

  -- ---- the rows of 41, 44 and 55 do not hold, whatever the file and the record buffer; of 53 what is about RE and ET is left
  pub alone_valid : format_refused r n ≡ false
  unfolding format_refused format_valid
  alone_valid = rw alone (and-false (one_of naming r.command))

  pub alone_not_twice : field_twice r n ≡ false
  unfolding field_twice
  alone_not_twice = rw (alone_once (file r n) r.format alone) (and-false (one_of bringing_values r.command))

  pub alone_room : record_length_refused r n
      ≡ ((command_in r n (Re ∷ []) && ltb (length r.buffer) (data_at n.state r.call.user).length)
      || (command_in r n (Et ∷ []) && ltb max_et_data (length r.buffer)))
  unfolding record_length_refused
  alone_room = rw (alone_needed (file r n) r.format alone, le-ltb (length r.buffer) 0 (omega arith), and-false (one_of naming r.command))

  pub alone_allowed : value_refused r n ≡ false
  unfolding value_refused
  alone_allowed = rw (allowed_none (file r n) r.format none_named r.buffer) (and-false (one_of bringing_values r.command))

  -- ---- L1 and L4: the ISN, quantity 0, and the record buffer as it was, whichever version of a record an L1 shows; an L4 leaves what an HI leaves
  reads_nothing : (m : Nucleus) → read_at r isn n m ≡ leaving r (good isn 0 0) m
  reads_nothing m =
      let bytes = version_bytes (file r n) (part r n) n.images (width_of n) (version_read r n isn) isn in
      rw (alone_needed (file r n) r.format alone, read_none (file r n) r.format none_named bytes r.buffer)

  pub l1_alone : r.command ≡ L1 → effect r n ≡ leaving r (good isn 0 0) n
  unfolding effect_at
  l1_alone c = ap (λ k. effect_at r isn k n) c ∙ reads_nothing n

  pub l4_alone : r.command ≡ L4 → effect r n ≡ leaving r (good isn 0 0) (held r isn n)
  unfolding effect_at
  l4_alone c = ap (λ k. effect_at r isn k n) c ∙ reads_nothing (held r isn n)

  -- ---- N1 and N2: "a record of nulls"
  pub new_alone : one_of (A1 ∷ []) r.command ≡ false → (at : ℕ) → new_record r n at ≡ null_record (file r n) (record_of (file r n) (part r n) at)
  unfolding new_record
  new_alone c at = rw c (write_none (file r n) r.format none_named r.buffer (null_record (file r n) (record_of (file r n) (part r n) at)))

  -- ---- A1: its record is the one that is there
  module _ (c : r.command ≡ A1) where
    same_record : (at : ℕ) → new_record r n at ≡ record_of (file r n) (part r n) at
    unfolding new_record
    same_record at = rw c (write_none (file r n) r.format none_named r.buffer (record_of (file r n) (part r n) at))

    -- what it leaves is the image kept, and nothing else
    written_alone : record_at r n isn ≡ true → written r isn n ≡ imaged r isn n
    unfolding written
    written_alone there =
        let m = imaged r isn n in
        let own : put_record (file r n) (part r n) isn (new_record r n isn) ≡ part r n = ap (put_record (file r n) (part r n) isn) (same_record isn) ∙ put_own (file r n) (part r n) isn there in
        let store : store_with m.state.definition (file_place r m) m.store (part r n) ≡ m.store
        = rw (table_imaged r isn n, imaged_store r isn n) (part_back n.state.definition (file_place r n) n.store) in
        ap (λ p. with_part_of r p m) own ∙ ap (λ s. with_store s m) store

    there_if_passed : is_cause (first_cause (rows_last r n)) ≡ false → record_at r n isn ≡ true
    unfolding presence_refused version_there
    there_if_passed passed =
        let about : one_of on_record r.command ≡ true = rw c in
        let stored : one_of reading_committed r.command ≡ false = rw c in
        let no = or_left (one_of on_record r.command && not (record_at r n isn)) (one_of (N2 ∷ []) r.command && record_at r n isn) (rw stored at (accepted r n passed).presence) in
        not-false (record_at r n isn) (rest_fails (one_of on_record r.command) (not (record_at r n isn)) about no)

    -- it judges no unique field: "A1 the named ones"
    judges_none : (k : ℕ) → judged r n k ≡ false
    judges_none k = rw (none_named, c) (and-false (is_unique (field_at (file r n) k).option))

    pub none_taken : value_taken r n ≡ false
    unfolding value_taken
    none_taken =
        let tests : ℕ → Bool = λ k. judged r n k && is_taken r n k (field_value (file r n) k (new_record r n isn)) in
        rw (any_none tests (λ k. rw (judges_none k)) (numbers (field_count (file r n)) 0)) (and-false (one_of bringing_values r.command))

    pub a1_alone : is_cause (first_cause (rows_last r n)) ≡ false → effect r n ≡ leaving r (good isn 0 0) (imaged r isn n)
    unfolding effect_at
    a1_alone passed = ap (λ k. effect_at r isn k n) c ∙ ap (leaving r (good isn 0 0)) (written_alone (there_if_passed passed))

    -- "changes no byte" of the store, refused or not
    pub no_byte_changed : (perform r n).nucleus.store ≡ n.store
    unfolding perform
    no_byte_changed = go (first_cause (rows_last r n)) refl
      where
        go : (x : Option Response) → first_cause (rows_last r n) ≡ x → (unless x (refusal r.buffer n) (effect r n)).nucleus.store ≡ n.store
        go (Some cause) e = refl
        go None e = ap (λ m. m.nucleus.store) (a1_alone (rw e)) ∙ imaged_store r isn n

-- ---- in the journal such an A1 sets nothing
pub replaced_alone : (f : File) (format values : List ℕ) → period_alone format ≡ true → (x : Option (List ℕ)) → apply f (replace format values) x ≡ x
unfolding apply
replaced_alone f format values alone None = refl
replaced_alone f format values alone (Some r) = ap Some (write_none f format (alone_places f format alone) values r)

-- ---- a whole call that comes so far: no byte is changed of the store that the clock and the session left
-- nor by the line; A1 lets nothing go
line_store : (r : Request) (n : Nucleus) (x : Result) → r.command ≡ A1 → (after_line r n x).nucleus.store ≡ x.nucleus.store
unfolding after_line
line_store r n x c = rw c (go (eqb (number x.answer.response) waiting_number) (eqb (number x.answer.response) 0))
  where
    go : (joins good : Bool) → (cond joins (change_line (joined_line A1 r.call) x.nucleus) (cond (good && false) (handed (let_go (lets_go A1 r.call) n) x.nucleus) x.nucleus)).store ≡ x.nucleus.store
    go true good = refl
    go false true = refl
    go false false = refl

pub call_changes_no_byte : (capacity : ℕ) (call : Call) (format buffer : List ℕ) (n m : Nucleus) → period_alone format ≡ true
    → admitted direct_commands capacity call n ≡ let_in A1 m → (step capacity call format buffer n).nucleus.store ≡ m.store
unfolding step
call_changes_no_byte capacity call format buffer n m alone e =
    let r = request capacity A1 call format buffer in
    rw e (line_store r m (perform r m) refl ∙ no_byte_changed r m alone refl)
