-- A1, E1, N1 and N2: what `perform` does, over the caller's share and the part of the call's file.
-- Assumes nothing.
use Rattle.std.specs.Prelude.{ℕ, ◌+◌, ◌≤◌, ◌≡◌, Bool, ◌&&◌, length, Option, Some, None}
use Rattle.entries.specs.declared.Entry.{Entry}
use Rattle.std.proofs.Math.Path.{refl, ap}
use Rattle.std.proofs.Common.{◌∙◌}
use Rattle.std.proofs.Math.Bool.{true, false, not, or-false}
use mathlib.Core.List.{List, [], ◌∷◌, ◌++◌}
use borrow.Author.Tests.{le-ltb, not-true}
use Rattle.lists.specs.Tests.{within, Outcome, holds, fails, outcome, not_both, and_right}
use Rattle.lists.specs.Folds.{any}
use Rattle.lists.specs.Numbers.{from_to}
use Rattle.entries.specs.Entries.{is_of}
use Rattle.definition.specs.Table.{file_at}
use Rattle.definition.specs.declared.Definition.{Definition}
use Rattle.definition.specs.declared.File.{File}
use Rattle.layout.specs.Layout.{place, file_found}
use Rattle.records.specs.Records.{record_length}
use Rattle.store.specs.Store.{has_record, record_of, file_part, with_part, put_record, empty}
use Rattle.queue.specs.Laws.{is_held, held_any}
use Rattle.search.specs.Search.{first_of}
use Rattle.committed.specs.Committed.{version_there}
use Rattle.nucleus.specs.Responses.{good}
use Rattle.nucleus.specs.Nucleus.{Nucleus, nucleus, Request, request, resulting, entries_of, width_of}
use Rattle.nucleus.specs.Target.{part_in, is_isn, isn_in, file, part, record_at, holder_of, target, new_record}
use Rattle.nucleus.specs.Rows.{Row, row, first_cause, rows_last, file_unknown, isn_invalid, format_refused, field_twice, record_length_refused, value_refused, none_found, held_elsewhere, waits, presence_refused, not_held, release_refused, file_full, limit_reached, queue_full, value_taken}
use Rattle.nucleus.specs.Effects.{imaged, imaged_at, with_part_of, with_last, written, erased, effect, effect_at}
use Rattle.nucleus.specs.Step.{perform}
use Rattle.nucleus.specs.declared.Call.{Call}
use Rattle.nucleus.specs.declared.Command.{Command}
use Rattle.nucleus.specs.declared.Command.TheVariants.{A1, E1, N1, N2}
use Rattle.nucleus.specs.declared.Response.{Response}
use Rattle.nucleus.specs.declared.Response.TheVariants.{FileFull, ValueTaken}
use Rattle.shares.specs.Shares.{share_of, with_share, kept_by}
use Rattle.shares.specs.Chains.{max_scratch, row_other, row_there, row_empty, row_held, rows_brought, row_scratch, rows_room, held_share, queue_imaged, images_with, imaged_queue, imaged_images, e1_cause, a1_cause, n2_cause, n1_cause, replaced, added, taken, in_use, holder_at, is_free, free_isn}
use Rattle.shares.specs.Outcomes.{changed_done, assigned_done, changed_queue, changed_images}
use Rattle.shares.proofs.Laws.{result_on, on_state, assigned_back, kept_same, performed_as}
use Rattle.shares.proofs.LawsHolding.{Room, room_left, held_on, held_is}
use Rattle.shares.specs.declared.Share.{Share}

-- ---- the ISN that N1 finds has no holder
first_passes : (p : ℕ → Bool) (l : List ℕ) (isn : ℕ) → first_of p l ≡ Some isn → p isn ≡ true
first_passes p [] isn e = cc
first_passes p (k ∷ l) isn e = go (outcome (p k)) (first_passes p l isn)
  where
    go : Outcome (p k) → (first_of p l ≡ Some isn → p isn ≡ true) → p isn ≡ true
    go (holds t) later = let here : k ≡ isn = cc (rw t at e) in rw (← here) t
    go (fails t) later = later (rw t at e)

nobodys : (l : Option (ℕ × Entry)) → is_held l ≡ false → l ≡ None
nobodys (Some (i, e)) h = not_both true refl h
nobodys None h = refl

free_holder : (f : File) (p : List ℕ) (call : Call) (x : Share) (queue : List ℕ) (isn : ℕ) → free_isn f p call x queue ≡ Some isn → holder_at call x queue isn ≡ None
unfolding free_isn
free_holder f p call x queue isn e =
    let free = first_passes (is_free f p call x queue) (from_to (x.last_assigned + 1) f.max_isn ++ from_to 1 x.last_assigned) isn e in
    let None = not-true _ (and_right (not (has_record f p isn)) _ free) in
    nobodys (holder_at call x queue isn) (held_any call.file isn (in_use call x queue) ∙ None)

module _ (capacity : ℕ) (call : Call) (format buffer : List ℕ) (n : Nucleus) where
  abbrev x : Share
  x = share_of call n.state

  -- ---- a change: its entry, the image, and the file's part
  module _ (c : Command) (isn : ℕ) (room : Room capacity call format buffer n isn) where
    abbrev r : Request
    r = request capacity c call format buffer

    -- after the hold
    abbrev m : Nucleus
    m = held_on capacity call format buffer n isn (record_at r n isn)

    abbrev imaged_on : Bool → List ℕ → List ℕ → Nucleus
    imaged_on existed content store =
        nucleus m.state store (imaged_queue call x n.queue n.state.clock isn existed)
        (imaged_images call x n.queue n.state.clock isn existed (width_of n) content n.images)

    imaged_is : imaged r isn n ≡ imaged_on (record_at r n isn) (record_of (file r n) (part r n) isn) n.store
    unfolding imaged imaged_queue imaged_images with_share
    imaged_is = ap (λ k. imaged_at r (holder_of r k isn) isn k) (held_is capacity call format buffer n c isn room) ∙ go (holder_of r m isn)
      where
        go : (l : Option (ℕ × Entry)) → imaged_at r l isn m
            ≡ nucleus m.state n.store (queue_imaged call x n.queue l m.queue (record_at r n isn))
            (images_with call x n.queue l m.queue (record_at r n isn) (width_of n) (record_of (file r n) (part r n) isn) n.images)
        go (Some (k, e)) = refl
        go None = refl

  module _ (i : ℕ) (there : place n.state.definition call.file ≡ Some i) where
    abbrev d : Definition
    d = n.state.definition

    abbrev f : File
    f = file_at d i

    abbrev p : List ℕ
    p = file_part d i n.store

    module _ (isn : ℕ) (room : Room capacity call format buffer n isn) where
      abbrev share_after : Share
      share_after = held_share call x n.queue n.state.clock isn

      -- the nucleus with the share put back, the file's part changed, and the entry's image kept
      abbrev changed_on : List ℕ → Nucleus
      changed_on new =
          nucleus (with_share call share_after n.state) (with_part d i n.store new)
          (imaged_queue call x n.queue n.state.clock isn (has_record f p isn))
          (imaged_images call x n.queue n.state.clock isn (has_record f p isn) (width_of n) (record_of f p isn) n.images)

      changed_is : (c : Command) (new : List ℕ) → with_part_of (request capacity c call format buffer) new (imaged (request capacity c call format buffer) isn n) ≡ changed_on new
      unfolding with_share
      changed_is c new = rw there (rw there at (ap (with_part_of (request capacity c call format buffer) new) (imaged_is c isn room)))

    -- a new entry has its place, where values are brought and no row holds
    abbrev row_taken : Bool → ℕ → List ℕ → Row
    row_taken named isn content = row ValueTaken (taken f p call x n.queue n.images (width_of n) named format isn content)

    room_brought : (isn : ℕ) (rows : List Row) (named : Bool) (content : List ℕ) → capacity ≤ length n.queue
        → first_cause (row_scratch f ∷ rows_brought f format buffer ++ (rows ++ (rows_room call x n.queue capacity isn ++ row_taken named isn content ∷ []))) ≡ None
        → Room capacity call format buffer n isn
    room_brought isn rows named content long passed =
        room_left capacity call format buffer n isn (row_scratch f ∷ rows_brought f format buffer ++ rows) (row_taken named isn content ∷ []) long passed

    -- ---- A1, E1, N2: at the given ISN
    module _ (valid : within 1 f.max_isn call.isn ≡ true) (long : capacity ≤ length n.queue) where
      abbrev Performed : Command → Option Response → List ℕ → Type 0
      Performed c cause new =
          perform (request capacity c call format buffer) n
          ≡ result_on call n (changed_done cause f p call.isn call x n.queue n.state.clock) (kept_by cause n.store (with_part d i n.store new))
          (changed_queue cause f p call.isn call x n.queue n.state.clock) (changed_images cause f p call.isn call x n.queue n.state.clock (width_of n) n.images) buffer

      -- one that changes the file's part, by its cause and its effect
      performed_by : (c : Command) (cause : Option Response) (new : List ℕ)
          → first_cause (rows_last (request capacity c call format buffer) n) ≡ cause
          → (cause ≡ None → Room capacity call format buffer n call.isn)
          → (effect (request capacity c call format buffer) n ≡ resulting (good call.isn 0 0) (with_part_of (request capacity c call format buffer) new (imaged (request capacity c call format buffer) call.isn n)) buffer)
          → Performed c cause new
      performed_by c cause new e room made =
          rw (kept_same cause buffer) at
          (performed_as call n (request capacity c call format buffer) cause _ _ _ _ buffer e
          (λ passed. made ∙ ap (λ k. resulting (good call.isn 0 0) k buffer) (changed_is call.isn (room passed) c new)))

      -- ---- E1
      e1_cause_is : first_cause (rows_last (request capacity E1 call format buffer) n) ≡ e1_cause call x n.queue f p capacity
      unfolding e1_cause file_unknown isn_invalid format_refused field_twice record_length_refused value_refused none_found held_elsewhere waits presence_refused version_there not_held release_refused file_full limit_reached queue_full value_taken target
      e1_cause_is = rw (there, valid) (simp or-false)

      pub perform_e1 : Performed E1 (e1_cause call x n.queue f p capacity) (empty f p call.isn)
      unfolding e1_cause effect_at erased target
      perform_e1 =
          let isn = call.isn in
          performed_by E1 (e1_cause call x n.queue f p capacity) (empty f p isn) e1_cause_is
          (λ passed. room_left capacity call format buffer n isn (row_other call x n.queue isn ∷ row_there f p isn ∷ row_held call x n.queue isn ∷ []) [] long passed)
          (rw there)

      -- ---- A1 and N2
      module _ (small : record_length f ≤ max_scratch) where
        a1_cause_is : first_cause (rows_last (request capacity A1 call format buffer) n) ≡ a1_cause f p call x n.queue n.images (width_of n) capacity format buffer
        unfolding a1_cause replaced taken new_record file_unknown isn_invalid format_refused field_twice record_length_refused value_refused none_found held_elsewhere waits presence_refused version_there not_held release_refused file_full limit_reached queue_full value_taken target
        a1_cause_is = rw (there, valid, le-ltb max_scratch (record_length f) small) (simp or-false)

        pub perform_a1 : Performed A1 (a1_cause f p call x n.queue n.images (width_of n) capacity format buffer) (put_record f p call.isn (replaced f p format buffer call.isn))
        unfolding a1_cause replaced effect_at written new_record target
        perform_a1 =
            let isn = call.isn in
            performed_by A1 (a1_cause f p call x n.queue n.images (width_of n) capacity format buffer) (put_record f p isn (replaced f p format buffer isn)) a1_cause_is
            (λ passed. room_brought isn (row_other call x n.queue isn ∷ row_there f p isn ∷ row_held call x n.queue isn ∷ []) true (replaced f p format buffer isn) long passed)
            (rw there)

        n2_cause_is : first_cause (rows_last (request capacity N2 call format buffer) n) ≡ n2_cause f p call x n.queue n.images (width_of n) capacity format buffer
        unfolding n2_cause added taken new_record file_unknown isn_invalid format_refused field_twice record_length_refused value_refused none_found held_elsewhere waits presence_refused not_held release_refused file_full limit_reached queue_full value_taken target
        n2_cause_is = rw (there, valid, le-ltb max_scratch (record_length f) small) (simp or-false)

        pub perform_n2 : Performed N2 (n2_cause f p call x n.queue n.images (width_of n) capacity format buffer) (put_record f p call.isn (added f p format buffer call.isn))
        unfolding n2_cause added effect_at written new_record target
        perform_n2 =
            let isn = call.isn in
            performed_by N2 (n2_cause f p call x n.queue n.images (width_of n) capacity format buffer) (put_record f p isn (added f p format buffer isn)) n2_cause_is
            (λ passed. room_brought isn (row_other call x n.queue isn ∷ row_empty f p isn ∷ []) false (added f p format buffer isn) long passed)
            (rw there)

    -- ---- N1: at the ISN that it finds
    abbrev free : Option ℕ
    free = free_isn f p call x n.queue

    free_target : target (request capacity N1 call format buffer) n ≡ free
    unfolding target free_isn
    free_target =
        ap
        (λ at. first_of (λ isn. not (has_record (file_found d at) (part_in d at n.store) isn) && not (any (is_of call.file isn) (entries_of n)))
        (from_to (x.last_assigned + 1) (file_found d at).max_isn ++ from_to 1 x.last_assigned))
        there

    -- the effect at an ISN
    n1_made : (isn : ℕ) → effect_at (request capacity N1 call format buffer) isn N1 n
        ≡ resulting (good isn 0 0)
        (with_last (request capacity N1 call format buffer) (Some i) isn
        (with_part_of (request capacity N1 call format buffer) (put_record f p isn (added f p format buffer isn)) (imaged (request capacity N1 call format buffer) isn n)))
        buffer
    unfolding effect_at written new_record added
    n1_made isn = rw there

    module _ (long : capacity ≤ length n.queue) (small : record_length f ≤ max_scratch) where
      abbrev n1_refused : Option Response
      n1_refused = n1_cause f p call x n.queue n.images (width_of n) capacity format buffer free

      n1_cause_is : first_cause (rows_last (request capacity N1 call format buffer) n) ≡ n1_refused
      unfolding n1_cause added taken new_record file_unknown isn_invalid format_refused field_twice record_length_refused value_refused none_found held_elsewhere waits presence_refused not_held release_refused file_full limit_reached queue_full value_taken
      n1_cause_is = go free refl
        where
          go : (o : Option ℕ) → free ≡ o → first_cause (rows_last (request capacity N1 call format buffer) n) ≡ n1_refused
          go (Some isn) e = rw (free_target, e, free_holder f p call x n.queue isn e, there, le-ltb max_scratch (record_length f) small) (simp or-false)
          go None e = rw (free_target, e, there, le-ltb max_scratch (record_length f) small) (simp or-false)

      n1_room : n1_refused ≡ None → Room capacity call format buffer n (isn_in free)
      unfolding n1_cause
      n1_room passed = room_brought (isn_in free) (row FileFull (not (is_isn free)) ∷ []) false (added f p format buffer (isn_in free)) long passed

      pub perform_n1 : perform (request capacity N1 call format buffer) n
          ≡ result_on call n (assigned_done n1_refused f p (isn_in free) call x n.queue n.state.clock)
          (kept_by n1_refused n.store (with_part d i n.store (put_record f p (isn_in free) (added f p format buffer (isn_in free)))))
          (changed_queue n1_refused f p (isn_in free) call x n.queue n.state.clock)
          (changed_images n1_refused f p (isn_in free) call x n.queue n.state.clock (width_of n) n.images) buffer
      perform_n1 =
          let r = request capacity N1 call format buffer in
          let isn = isn_in free in
          rw (kept_same n1_refused buffer) at
          (performed_as call n (request capacity N1 call format buffer) n1_refused _ _ _ _ buffer n1_cause_is
          (λ passed. ap (λ o. effect_at r (isn_in o) N1 n) free_target ∙ n1_made isn
          ∙ ap (λ k. resulting (good isn 0 0) (with_last r (Some i) isn k) buffer) (changed_is isn (n1_room passed) N1 (put_record f p isn (added f p format buffer isn)))
          ∙ ap (λ k. resulting (good isn 0 0) k buffer) (on_state (assigned_back call n.state i there (held_share call x n.queue n.state.clock isn) isn))))
