-- A1, E1, N1 and N2 that no row of the response table refuses: what the journal logs makes of the slot what the command makes of it.
-- Assumes nothing.
use Rattle.std.specs.Prelude.{ℕ, ◌+◌, ◌≤◌, ◌≡◌, Bool, ◌&&◌, List, [], ◌∷◌, Some, None}
use Rattle.std.proofs.Common.{arith, ◌∙◌}
use Rattle.std.proofs.Math.Path.{refl}
use Rattle.std.proofs.Math.Bool.{true, false}
use Rattle.std.proofs.Math.ListN.{length}
use borrow.Author.Tests.{not-false}
use Rattle.lists.specs.Tests.{cond, or_left}
use Rattle.definition.specs.Table.{file_at, fields_of}
use Rattle.definition.specs.Shape.{DefinitionShape}
use Rattle.definition.specs.declared.Definition.{Definition}
use Rattle.records.specs.Records.{record_length, slot_offset}
use Rattle.layout.specs.Layout.{store_size}
use Rattle.fields.specs.Fields.{write_fields}
use Rattle.nulls.specs.Nulls.{nulls, null_record}
use Rattle.nulls.specs.Laws.{null_record_is, null_record_length}
use Rattle.fields.specs.Laws.{write_fields_length}
use Rattle.lists.specs.Parts.{length_piece}
use Rattle.store.specs.Store.{record_of, file_part}
use Rattle.store.proofs.Laws.{fits_whole}
use Rattle.store.specs.Slots.{slot_inside}
use Rattle.store.specs.Files.{file_part_length}
use Rattle.ground.specs.Keys.{key}
use Rattle.ground.specs.Store.{get}
use Rattle.transactions.specs.Slots.{Slot}
use Rattle.committed.specs.Committed.{version_there}
use Rattle.nucleus.specs.Commands.{one_of, on_record, reading_committed}
use Rattle.nucleus.specs.Nucleus.{Nucleus, Request}
use Rattle.nucleus.specs.Target.{file, part, record_at, target_isn, new_record}
use Rattle.nucleus.specs.Rows.{presence_refused}
use Rattle.nucleus.specs.declared.Command.TheVariants.{A1, N2}
use Rattle.claim.specs.Journal.{Update, replace, erase, add, apply}
use Rattle.history.specs.Kept.{definition_of}
use Rattle.history.specs.Accepted.{Accepted}
use Rattle.history.proofs.Changes.{Changes, replaces, erases, adds, adds_there, rest_fails, Aim, slot_is}

-- ---- what the journal logs, and what comes of it
abbrev pub update_of : (r : Request) → Changes r → Update
update_of r (replaces e) = replace r.format r.buffer
update_of r (erases e) = erase
update_of r (adds e) = add r.format r.buffer
update_of r (adds_there e) = add r.format r.buffer

abbrev pub slot_of : (r : Request) (n : Nucleus) → Changes r → Slot
slot_of r n (replaces e) = Some (new_record r n (target_isn r n))
slot_of r n (erases e) = None
slot_of r n (adds e) = Some (new_record r n (target_isn r n))
slot_of r n (adds_there e) = Some (new_record r n (target_isn r n))

module _ (r : Request) (n : Nucleus) (s : DefinitionShape (definition_of n)) (room : store_size (definition_of n) ≤ length n.store) (t : Aim r n) where
  abbrev d : Definition
  d = definition_of n

  abbrev isn : ℕ
  isn = target_isn r n

  abbrev k : ℕ
  k = key r.call.file isn

  abbrev old : List ℕ
  old = record_of (file r n) (part r n) isn

  pub target_slot : get d n.store k ≡ cond (record_at r n isn) (Some old) None
  target_slot = slot_is r n t.at isn t.found t.small room

  -- what lies in the slot is as wide as the file's records, whether it counts or not
  pub old_width : length old ≡ record_length (file r n)
  old_width =
      let f = file_at d t.at in
      let p = file_part d t.at n.store in
      let long : length p ≡ _ = file_part_length d s n.store room t.at t.in_use in
      let fits = fits_whole f p isn (omega arith) t.inside.least t.inside.most in
      rw t.found (length_piece (slot_offset f isn + 1) (record_length f) p (omega (arith, slot_inside f p isn fits)))

  -- A1 writes over the record, N1 and N2 over nulls
  new_replaces : r.command ≡ A1 → new_record r n isn ≡ write_fields (file r n) r.format r.buffer old
  unfolding new_record
  new_replaces e = let y : one_of (A1 ∷ []) r.command ≡ true = rw e in rw y

  new_adds : one_of (A1 ∷ []) r.command ≡ false → new_record r n isn ≡ write_fields (file r n) r.format r.buffer (nulls (fields_of (file r n)))
  unfolding new_record
  new_adds other = rw (other, null_record_is (file r n) old old_width)

  pub new_width : length (new_record r n isn) ≡ record_length (file r n)
  unfolding new_record
  new_width = write_fields_length (file r n) r.format r.buffer _ ∙ go (one_of (A1 ∷ []) r.command)
    where
      go : (b : Bool) → length (cond b old (null_record (file r n) old)) ≡ record_length (file r n)
      go true = old_width
      go false = null_record_length (file r n) old ∙ old_width

  module _ (a : Accepted r n) where
    -- 113: A1 and E1 find a record, and what they find is the store's
    pub old_there : one_of on_record r.command ≡ true → one_of reading_committed r.command ≡ false → record_at r n isn ≡ true
    unfolding presence_refused version_there
    old_there y stored = not-false _ (rest_fails _ _ y (or_left _ (one_of (N2 ∷ []) r.command && record_at r n isn) (rw stored at a.presence)))

    pub applied : (c : Changes r) → apply (file r n) (update_of r c) (get d n.store k) ≡ slot_of r n c
    unfolding apply
    applied (replaces e) = rw (target_slot, old_there (rw e) (rw e), new_replaces e)
    applied (erases e) = refl
    applied (adds e) = rw (new_adds (rw e))
    applied (adds_there e) = rw (new_adds (rw e))
