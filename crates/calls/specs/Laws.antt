-- What a command gives back over its parts is what `perform` does.
-- Assumes nothing.
use Rattle.std.specs.Prelude.{ℕ, ◌≤◌, ◌≡◌, Bool, true, not, ◌&&◌, List, [], ◌∷◌, length, Option, Some, None}
use Rattle.std.proofs.Math.Path.{refl}
use Rattle.std.proofs.Common.{◌∙◌}
use Rattle.std.proofs.Math.Bool.{false}
use Rattle.std.proofs.Math.Dec.{eqb}
use Rattle.lists.specs.Tests.{cond, within, and_left, and_right, not_both, Outcome, holds, fails, outcome}
use Rattle.definition.specs.Table.{file_at}
use Rattle.definition.specs.declared.Definition.{Definition}
use Rattle.definition.specs.declared.File.{File}
use Rattle.records.specs.Records.{record_length}
use Rattle.layout.specs.Layout.{place}
use Rattle.store.specs.Store.{file_part, put_record, empty}
use Rattle.store.specs.Files.{part_own}
use Rattle.nucleus.specs.Commands.{one_of, at_given_isn, reading_values, option_I}
use Rattle.nucleus.specs.Commands as commands
use Rattle.nucleus.specs.Nucleus.{Nucleus, request, Result, width_of}
use Rattle.nucleus.specs.Target.{isn_in}
use Rattle.nucleus.specs.Step.{perform}
use Rattle.nucleus.specs.declared.Call.{Call}
use Rattle.nucleus.specs.declared.Command.{Command}
use Rattle.nucleus.specs.declared.Command.TheVariants.{Hi, Ri, L1, L4, A1, E1, N1, N2, Et, Bt, Re, Op, Cl, Pe}
use Rattle.nucleus.specs.declared.Response.TheVariants.{FileUnknown, IsnInvalid}
use Rattle.shares.specs.Shares.{share_of}
use Rattle.shares.specs.Chains.{max_scratch, e1_cause, a1_cause, n1_cause, n2_cause, replaced, added, free_isn}
use Rattle.shares.proofs.Laws.{result_on, part_kept}
use Rattle.shares.proofs.LawsHolding.{perform_hi, perform_ri, perform_ri_all}
use Rattle.shares.proofs.LawsReading.{perform_l1, perform_l4}
use Rattle.shares.proofs.LawsChanging.{perform_a1, perform_e1, perform_n1, perform_n2}
use Rattle.shares.proofs.LawsEnding.{perform_et, perform_bt, perform_re, perform_op, perform_cl, perform_pe}
use Rattle.shares.proofs.LawsRefused.{refusal_is, perform_unknown, perform_invalid}
use Rattle.shares.specs.declared.Share.{Share}
use Rattle.file_commands.specs.FileCommands.{Left, on_file}
use Rattle.understanding.specs.Understanding.{isn_refused}
use Rattle.calls.specs.Commands.{with_store_of, in_file, performed}

-- what a test of two tests, neither of them, or both, says
not_refused : (b : Bool) → not b ≡ false → b ≡ true
not_refused true h = refl
not_refused false h = not_both true refl h

may_seek : (seeking inside : Bool) → (not seeking && not inside) ≡ false → cond seeking true inside ≡ true
may_seek true inside h = refl
may_seek false inside h = not_refused inside h

not_seeking : (seeking rest : Bool) → (not seeking && rest) ≡ true → seeking ≡ false
not_seeking true rest h = not_both false h refl
not_seeking false rest h = refl

outside : (inside : Bool) → not inside ≡ true → inside ≡ false
outside true h = not_both false h refl
outside false h = refl

module _ (capacity : ℕ) (call : Call) (format buffer : List ℕ) (n : Nucleus) where
  abbrev d : Definition
  d = n.state.definition

  abbrev x : Share
  x = share_of call n.state

  -- what is left, on the nucleus
  abbrev pub left_on : Left → Result
  left_on l = result_on call n l.done l.store l.queue l.images l.buffer

  abbrev pub performed_on : Command → Left
  performed_on c = performed call capacity n.state.clock x d n.store n.queue n.images format buffer c

  abbrev Performed : Command → Left → Type 0
  Performed c l = perform (request capacity c call format buffer) n ≡ left_on l

  module _ (long : capacity ≤ length n.queue) (i : ℕ) (there : place d call.file ≡ Some i) (small : record_length (file_at d i) ≤ max_scratch) where
    abbrev f : File
    f = file_at d i

    abbrev p : List ℕ
    p = file_part d i n.store

    abbrev stored : Left → Left
    stored l = with_store_of call capacity n.state.clock x d n.store n.queue n.images format buffer i l

    abbrev at_file : Command → Left
    at_file c = on_file call capacity (width_of n) n.state.clock x f p n.queue n.images format buffer c

    -- `one`: not RI of ISN 0
    on_file_performed : (c : Command) → one_of commands.on_file c ≡ true → (one_of (Ri ∷ []) c && eqb call.isn 0) ≡ false → isn_refused c call f.max_isn ≡ false
        → Performed c (stored (at_file c))
    unfolding on_file
    on_file_performed Hi known one valid = rw (part_own d i n.store) (perform_hi capacity call format buffer n i there (not_refused _ valid) long)
    on_file_performed Ri known one valid = rw (part_own d i n.store) (perform_ri capacity call format buffer n i there (not_refused _ valid) one)
    on_file_performed L1 known one valid = rw (part_own d i n.store) (perform_l1 capacity call format buffer n i there (may_seek (eqb call.option option_I) (within 1 f.max_isn call.isn) valid))
    on_file_performed L4 known one valid = rw (part_own d i n.store) (perform_l4 capacity call format buffer n i there (may_seek (eqb call.option option_I) (within 1 f.max_isn call.isn) valid) long)
    on_file_performed A1 known one valid =
        rw (part_kept d i n.store (a1_cause f p call x n.queue n.images (width_of n) capacity format buffer) (put_record f p call.isn (replaced f p format buffer call.isn)))
        (perform_a1 capacity call format buffer n i there (not_refused _ valid) long small)
    on_file_performed E1 known one valid =
        rw (part_kept d i n.store (e1_cause call x n.queue f p capacity) (empty f p call.isn))
        (perform_e1 capacity call format buffer n i there (not_refused _ valid) long)
    on_file_performed N1 known one valid =
        let free = free_isn f p call x n.queue in
        rw (part_kept d i n.store (n1_cause f p call x n.queue n.images (width_of n) capacity format buffer free) (put_record f p (isn_in free) (added f p format buffer (isn_in free))))
        (perform_n1 capacity call format buffer n i there long small)
    on_file_performed N2 known one valid =
        rw (part_kept d i n.store (n2_cause f p call x n.queue n.images (width_of n) capacity format buffer) (put_record f p call.isn (added f p format buffer call.isn)))
        (perform_n2 capacity call format buffer n i there (not_refused _ valid) long small)
    on_file_performed Et known one valid = not_both false known refl
    on_file_performed Bt known one valid = not_both false known refl
    on_file_performed Re known one valid = not_both false known refl
    on_file_performed Op known one valid = not_both false known refl
    on_file_performed Cl known one valid = not_both false known refl
    on_file_performed Pe known one valid = not_both false known refl

  -- every file's record has room where a new one is made
  abbrev Small : Type 0
  Small = (i : ℕ) → place d call.file ≡ Some i → record_length (file_at d i) ≤ max_scratch

  abbrev found_on : Option ℕ → Command → Left
  found_on at c = in_file call capacity n.state.clock x d n.store n.queue n.images format buffer at c

  in_file_performed : capacity ≤ length n.queue → Small → (c : Command) → one_of commands.on_file c ≡ true → (one_of (Ri ∷ []) c && eqb call.isn 0) ≡ false
      → Performed c (found_on (place d call.file) c)
  unfolding in_file
  in_file_performed long small c known one = go (place d call.file) refl
    where
      go : (at : Option ℕ) → place d call.file ≡ at → Performed c (found_on at c)
      go None e = perform_unknown capacity call format buffer n c one known e ∙ refusal_is call buffer n FileUnknown
      go (Some i) e = judged (outcome (isn_refused c call (file_at d i).max_isn))
        where
          judged : Outcome (isn_refused c call (file_at d i).max_isn) → Performed c (found_on (Some i) c)
          judged (fails valid) = rw valid (on_file_performed long i e (small i e) c known one valid)
          judged (holds refused) =
              let given = not_seeking (one_of reading_values c && eqb call.option option_I) _ refused in
              let rest = and_right (not (one_of reading_values c && eqb call.option option_I)) _ refused in
              rw refused
              (perform_invalid capacity call format buffer n c one i (and_left (one_of at_given_isn c) _ rest) given e (outside _ (and_right (one_of at_given_isn c) _ rest))
              ∙ refusal_is call buffer n IsnInvalid)

  pub performed_is : capacity ≤ length n.queue → Small → (c : Command) → Performed c (performed_on c)
  unfolding performed
  performed_is long small Hi = in_file_performed long small Hi refl refl
  performed_is long small Ri = go (outcome (eqb call.isn 0))
    where
      go : Outcome (eqb call.isn 0) → Performed Ri (performed_on Ri)
      go (holds zero) = rw zero (rw zero at (perform_ri_all capacity call format buffer n zero))
      go (fails one) = rw one (in_file_performed long small Ri refl one)
  performed_is long small L1 = in_file_performed long small L1 refl refl
  performed_is long small L4 = in_file_performed long small L4 refl refl
  performed_is long small A1 = in_file_performed long small A1 refl refl
  performed_is long small E1 = in_file_performed long small E1 refl refl
  performed_is long small N1 = in_file_performed long small N1 refl refl
  performed_is long small N2 = in_file_performed long small N2 refl refl
  performed_is long small Et = perform_et capacity call format buffer n
  performed_is long small Bt = perform_bt capacity call format buffer n
  performed_is long small Re = perform_re capacity call format buffer n
  performed_is long small Op = perform_op capacity call format buffer n
  performed_is long small Cl = perform_cl capacity call format buffer n
  performed_is long small Pe = perform_pe capacity call format buffer n
