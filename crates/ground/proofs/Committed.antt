-- The version of a record that `committed` names is what the abstract machine shows of its key once whoever has an entry is backed out.
-- Assumes nothing.
use Rattle.std.specs.Prelude.{ℕ, ◌+◌, ◌*◌, ◌≤◌, ◌<◌, ◌≡◌, Bool, true, ◌&&◌, List, length, take, drop, Option, Some, None}
use Rattle.std.proofs.Common.{mul-le-mul_right, arith, ◌∙◌, eqb-true, le-leb}
use Rattle.std.proofs.Math.Path.{refl, sym, ap}
use Rattle.std.proofs.Math.Seq.{take-take}
use Rattle.lists.specs.Tests.{cond, Outcome, holds, fails, outcome, and_left}
use Rattle.lists.specs.Folds.{all, all_at}
use Rattle.lists.specs.Sift.{sift_none}
use Rattle.definition.specs.Table.{file_at}
use Rattle.definition.specs.Shape.{DefinitionShape}
use Rattle.definition.specs.declared.File.{File}
use Rattle.definition.specs.declared.Definition.{Definition}
use Rattle.records.specs.Records.{record_length}
use Rattle.layout.specs.Layout.{image_length, place}
use Rattle.layout.specs.Laws.{place_found}
use Rattle.store.specs.Store.{has_record, shown, get as get_record, file_part}
use Rattle.entries.specs.Entries.{entries}
use Rattle.entries.specs.Laws.{no_entry}
use Rattle.entries.specs.declared.Entry.{Entry}
use Rattle.queue.specs.Queue.{holder}
use Rattle.queue.specs.Laws.{is_held, held_found}
use Rattle.committed.specs.Committed.{version_of, committed_version, image_inside, version_there, version_bytes}
use Rattle.committed.specs.declared.Version.{Version}
use Rattle.transactions.specs.Slots.{Slot}
use Rattle.transactions.specs.Machine.{Entry as MachineEntry, at_key}
use Rattle.transactions.specs.View.{at, backs}
use Rattle.transactions.proofs.View.{back_at}
use Rattle.transactions.specs.Effect.{view}
use Rattle.ground.specs.Keys.{isn_bound, key, file_of}
use Rattle.ground.specs.Store.{get}
use Rattle.ground.proofs.StoreLaws.{get_key}
use Rattle.ground.specs.Queue.{before, queue_of, Made}
use Rattle.ground.proofs.Reading.{held_key, found_inside, found_one}
use Rattle.ground.specs.Ground.{Updates, ground, machine}
use Rattle.ground.proofs.FirstChange.{image_wide}
use Rattle.ground.specs.Committed.{version_slot}

-- the store's own
stored_slot : (f : File) (part : List ℕ) (isn : ℕ) → cond (has_record f part isn) (Some (shown f part isn)) None ≡ get_record f part isn
unfolding shown get_record
stored_slot f part isn = go (outcome (has_record f part isn))
  where
    go : Outcome (has_record f part isn) → cond (has_record f part isn) (Some (shown f part isn)) None ≡ get_record f part isn
    go (holds t) = rw t
    go (fails t) = rw t

module _ (d : Definition) (s : DefinitionShape d) (U : Updates) (lent : List ℕ)
    (capacity : ℕ) (store words images : List ℕ) (count : ℕ) (m : Made d capacity store words images count)
    (file isn i : ℕ) (small : isn < isn_bound) (here : place d file ≡ Some i) where
  abbrev es : List Entry
  es = entries words count

  abbrev f : File
  f = file_at d i

  abbrev part : List ℕ
  part = file_part d i store

  abbrev width : ℕ
  width = image_length d

  abbrev k : ℕ
  k = key file isn

  abbrev slot : Version → Slot
  slot v = version_slot f part images width v isn

  slot_stored : slot (version_of None) ≡ get d store k
  unfolding version_there version_bytes
  slot_stored = stored_slot f part isn ∙ sym (get_key d store m.store_room file isn i small here)

  narrow : record_length f ≤ width
  narrow = image_wide d s i (place_found d s file i here).0

  abbrev q : List MachineEntry
  q = queue_of d words images count

  -- ---- an entry for it, with its image
  module _ (a : ℕ) (e : Entry) (found : holder es file isn ≡ Some (a, e)) where
    abbrev block : List ℕ
    block = take width (drop (a * width) images)

    -- the image lies in the buffer
    inside : image_inside f (length images) width a ≡ true
    inside =
        let n : a + 1 ≤ capacity = omega (arith, found_inside d words images count m.single file isn a e found, m.most) in
        le-leb (a * width + record_length f) (length images) (omega (arith, mul-le-mul_right width n, narrow, m.image_room))

    same_file : file_of d e.file ≡ f
    unfolding file_of
    same_file = rw (eqb-true e.file file (and_left _ _ (held_found file isn es a e found).matches), here)

    -- what was there before the first change, where there was one; else the store's
    slot_held : slot (version_of (Some (a, e))) ≡ cond e.changed (before d e block) (get d store k)
    unfolding version_there version_bytes
    slot_held = go (outcome e.changed) (outcome e.existed)
      where
        go : Outcome e.changed → Outcome e.existed → slot (version_of (Some (a, e))) ≡ cond e.changed (before d e block) (get d store k)
        go (holds c) (holds x) = rw (c, x, inside, same_file, take-take (record_length f) width (drop (a * width) images) narrow)
        go (holds c) (fails x) = rw (c, x)
        go (fails c) x = rw c slot_stored

    module _ (P : ℕ → Bool) (whole : all (λ (x : Entry). P x.user) es ≡ true) where
      his : P e.user ≡ true
      his =
          let y = held_found file isn es a e found in
          rw y.stands at (all_at (λ (x : Entry). P x.user) es no_entry whole a y.inside)

      backs_held : cond e.changed (before d e block) (get d store k) ≡ backs P (get d store k) (at k q)
      backs_held = rw (found_one d words images count m.single file isn a e found, his) (go (outcome e.changed))
        where
          go : Outcome e.changed → cond e.changed (before d e block) (get d store k) ≡ cond (e.changed && true) (cond e.changed (before d e block) None) (get d store k)
          go (holds c) = rw c
          go (fails c) = rw c

  -- ---- whoever has an entry is backed out
  module _ (P : ℕ → Bool) (whole : all (λ (e : Entry). P e.user) es ≡ true) where
    pub version_view : slot (committed_version es file isn) ≡ view (ground d U lent) P k (machine d U lent store words images count)
    unfolding committed_version
    version_view = go (holder es file isn) refl ∙ sym (back_at k P (get d store k) q)
      where
        go : (l : Option (ℕ × Entry)) → holder es file isn ≡ l → slot (version_of l) ≡ backs P (get d store k) (at k q)
        go (Some (a, e)) found = slot_held a e found ∙ backs_held a e found P whole
        go None found = slot_stored ∙ rw (sift_none (at_key k) q (held_key d words images count file isn small ∙ ap is_held found))
