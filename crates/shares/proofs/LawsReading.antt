-- L1 and L4: what `perform` does, over the caller's share and the part of the call's file.
-- Assumes nothing.
use Rattle.std.specs.Prelude.{ℕ, ◌≤◌, ◌≡◌, true, eqb, length, Option, Some, None}
use Rattle.std.proofs.Math.Path.{refl}
use Rattle.std.proofs.Common.{ap}
use Rattle.std.proofs.Math.Bool.{or-false}
use mathlib.Core.List.{List, [], ◌∷◌, ◌++◌}
use Rattle.lists.specs.Tests.{cond, within, Outcome, holds, fails, outcome}
use Rattle.definition.specs.Table.{file_at}
use Rattle.definition.specs.declared.File.{File}
use Rattle.layout.specs.Layout.{place}
use Rattle.elements.specs.Elements.{length_needed}
use Rattle.store.specs.Store.{has_record, file_part}
use Rattle.committed.specs.Committed.{version_there, version_bytes}
use Rattle.search.specs.Search.{lowest}
use Rattle.nucleus.specs.Commands.{option_I}
use Rattle.nucleus.specs.Nucleus.{Nucleus, request, Result, resulting, width_of}
use Rattle.nucleus.specs.Responses.{good}
use Rattle.nucleus.specs.Target.{target}
use Rattle.nucleus.specs.Rows.{first_cause, rows_last, file_unknown, isn_invalid, format_refused, field_twice, record_length_refused, value_refused, none_found, held_elsewhere, waits, presence_refused, not_held, release_refused, file_full, limit_reached, queue_full, value_taken}
use Rattle.nucleus.specs.Effects.{effect, effect_at}
use Rattle.nucleus.specs.Step.{perform}
use Rattle.nucleus.specs.declared.Call.{Call}
use Rattle.nucleus.specs.declared.Command.TheVariants.{L1, L4}
use Rattle.nucleus.specs.declared.Response.{Response}
use Rattle.shares.specs.Shares.{share_of}
use Rattle.shares.specs.Chains.{rows_read, row_found, row_waits, row_other, row_there, version_at, sought, sought_isn, l1_cause, l4_cause, held_share, held_queue}
use Rattle.shares.specs.Outcomes.{read_done, read_buffer, version_buffer, l1_done, l1_buffer, l4_done, l4_queue, l4_buffer}
use Rattle.shares.proofs.Laws.{result_on, kept_same, nothing_done, performed_as}
use Rattle.shares.proofs.LawsHolding.{room_left, held_is}
use Rattle.shares.specs.declared.Share.{Share}

module _ (capacity : ℕ) (call : Call) (format buffer : List ℕ) (n : Nucleus) (i : ℕ) (there : place n.state.definition call.file ≡ Some i) where
  abbrev x : Share
  x = share_of call n.state

  abbrev f : File
  f = file_at n.state.definition i

  abbrev p : List ℕ
  p = file_part n.state.definition i n.store

  -- an answered reading
  abbrev read_on : List ℕ → Nucleus → Result
  read_on after m = resulting (good (sought_isn call f p) (length_needed f format) 0) m after

  -- what L1 writes
  abbrev l1_after : List ℕ
  l1_after = version_buffer call x f p format buffer n.queue n.images (width_of n)

  l1_effect : effect (request capacity L1 call format buffer) n ≡ result_on call n (read_done call x f p format buffer x) n.store n.queue n.images l1_after
  unfolding effect_at target sought version_at version_buffer
  l1_effect = rw there (rw there at (ap (read_on l1_after) (nothing_done call n)))

  l4_effect : capacity ≤ length n.queue → l4_cause call f p x n.queue capacity format buffer ≡ None
      → effect (request capacity L4 call format buffer) n
      ≡ result_on call n (read_done call x f p format buffer (held_share call x n.queue n.state.clock (sought_isn call f p))) n.store
      (held_queue call x n.queue (sought_isn call f p) (has_record f p (sought_isn call f p))) n.images (read_buffer call x f p format buffer)
  unfolding effect_at target sought read_buffer l4_cause version_bytes
  l4_effect long passed =
      let isn = sought_isn call f p in
      let room = room_left capacity call format buffer n isn (rows_read f format buffer ++ row_found call f p ∷ row_waits call x n.queue isn ∷ row_other call x n.queue isn ∷ row_there f p isn ∷ []) [] long passed in
      rw there (rw there at (ap (read_on (read_buffer call x f p format buffer)) (held_is capacity call format buffer n L4 isn room)))

  -- the ISN is the file's, or is sought
  module _ (valid : cond (eqb call.option option_I) true (within 1 f.max_isn call.isn) ≡ true) where
    abbrev l1_refused : Option Response
    l1_refused = l1_cause call f p x n.queue n.images (width_of n) format buffer

    l1_cause_is : first_cause (rows_last (request capacity L1 call format buffer) n) ≡ l1_refused
    unfolding l1_cause sought version_at file_unknown isn_invalid format_refused field_twice record_length_refused value_refused none_found held_elsewhere waits presence_refused not_held release_refused file_full limit_reached queue_full value_taken target
    l1_cause_is = go (outcome (eqb call.option option_I))
      where
        go : Outcome (eqb call.option option_I) → first_cause (rows_last (request capacity L1 call format buffer) n) ≡ l1_refused
        go (holds s) = rw (s, there) (simp or-false)
        go (fails s) = rw (s, there, rw s at valid) (simp or-false)

    l4_cause_is : first_cause (rows_last (request capacity L4 call format buffer) n) ≡ l4_cause call f p x n.queue capacity format buffer
    unfolding l4_cause sought version_there file_unknown isn_invalid format_refused field_twice record_length_refused value_refused none_found held_elsewhere waits presence_refused not_held release_refused file_full limit_reached queue_full value_taken target
    l4_cause_is = go (outcome (eqb call.option option_I)) (lowest f p call.isn) refl
      where
        go : Outcome (eqb call.option option_I) → (o : Option ℕ) → lowest f p call.isn ≡ o
            → first_cause (rows_last (request capacity L4 call format buffer) n) ≡ l4_cause call f p x n.queue capacity format buffer
        go (holds s) (Some isn) e = rw (s, there, e) (simp or-false)
        go (holds s) None e = rw (s, there, e) (simp or-false)
        go (fails s) o e = rw (s, there, rw s at valid) (simp or-false)

    pub perform_l1 : perform (request capacity L1 call format buffer) n
        ≡ result_on call n (l1_done call x f p format buffer n.queue n.images (width_of n)) n.store n.queue n.images
        (l1_buffer call x f p format buffer n.queue n.images (width_of n))
    perform_l1 =
        rw (kept_same l1_refused n.store, kept_same l1_refused n.queue, kept_same l1_refused n.images) at
        (performed_as call n (request capacity L1 call format buffer) l1_refused _ n.store n.queue n.images _ l1_cause_is (λ passed. l1_effect))

    pub perform_l4 : capacity ≤ length n.queue
        → perform (request capacity L4 call format buffer) n
        ≡ result_on call n (l4_done call x f p format buffer n.queue capacity n.state.clock) n.store (l4_queue call x f p format buffer n.queue capacity) n.images
        (l4_buffer call x f p format buffer n.queue capacity)
    perform_l4 long =
        let c = l4_cause call f p x n.queue capacity format buffer in
        rw (kept_same c n.store, kept_same c n.images) at
        (performed_as call n (request capacity L4 call format buffer) c _ n.store _ n.images _ l4_cause_is (l4_effect long))
