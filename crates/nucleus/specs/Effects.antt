-- What each command does where no row of the response table holds (document 01, 'Hold, change, end'; PE: document 02, No. 12).
use Rattle.std.specs.Prelude.{ℕ, ◌+◌, ◌-◌, min, false, List, eqb, length, take, Option, Some, None}
use Rattle.std.proofs.lemmas.List.Edits.{sets}
use Rattle.lists.specs.Tests.{cond}
use Rattle.elements.specs.Elements.{length_needed}
use Rattle.fields.specs.Fields.{read_fields}
use Rattle.store.specs.Store.{record_of, put_record, empty}
use Rattle.committed.specs.Committed.{version_bytes}
use Rattle.queue.specs.Queue.{append}
use Rattle.changes.specs.Changes.{first_change_queue, first_change_images}
use Rattle.entries.specs.declared.Entry.{Entry}
use Rattle.removal.specs.declared.Removal.TheVariants.{One, Unchanged, All}
use Rattle.nucleus.specs.Commands.{option_A}
use Rattle.nucleus.specs.Users.{max_sequence, set_session, closed, counted, started, made_ready, ended}
use Rattle.nucleus.specs.Responses.{good}
use Rattle.nucleus.specs.Nucleus.{Nucleus, Request, Result, resulting, data_at, with_data, with_last_assigned, with_count, with_state, with_store, width_of, user_of, change_user}
use Rattle.nucleus.specs.Clock.{removed, backed_out}
use Rattle.nucleus.specs.Target.{is_holder, store_with, file_place, file, part, record_at, holder_of, target_isn, version_read, new_record}
use Rattle.nucleus.specs.declared.Answer.{Answer}
use Rattle.nucleus.specs.declared.Command.{Command}
use Rattle.nucleus.specs.declared.Command.TheVariants.{Hi, Ri, L1, L4, A1, E1, N1, N2, Et, Bt, Re, Op, Cl, Pe}
use Rattle.nucleus.specs.declared.EtData.{EtData}

module _ (r : Request) where
  abbrev user : ℕ
  user = r.call.user

  -- ---- holding
  abbrev pub entry_for : ℕ → Nucleus → Entry
  entry_for isn n = record { user = user; file = r.call.file; isn = isn; changed = false; existed = record_at r n isn }

  abbrev pub with_entry : ℕ → Nucleus → Nucleus
  with_entry isn n = record {
    state = with_count (n.state.count + 1) n.state;
    store = n.store;
    queue = append n.queue n.state.count (entry_for isn n);
    images = n.images;
  }

  -- a new entry, unless the caller has one; "A transaction opens at the user's first new hold"
  unfoldable pub held : ℕ → Nucleus → Nucleus
  held isn n = cond (is_holder user (holder_of r n isn)) n (change_user user (started n.state.clock) (with_entry isn n))

  -- ---- changing
  -- "Only the first change of an entry keeps an image": of the entry that a lookup found
  abbrev pub imaged_at : Option (ℕ × Entry) → ℕ → Nucleus → Nucleus
  imaged_at (Some (i, e)) isn n = record {
    state = n.state;
    store = n.store;
    queue = first_change_queue n.queue i (record_at r n isn);
    images = first_change_images n.queue n.images (width_of n) i (record_at r n isn) (record_of (file r n) (part r n) isn);
  }
  imaged_at None isn n = n

  -- held, and its image kept
  unfoldable pub imaged : ℕ → Nucleus → Nucleus
  imaged isn n = imaged_at (holder_of r (held isn n) isn) isn (held isn n)

  -- the file's part of the store, changed
  abbrev pub with_part_of : List ℕ → Nucleus → Nucleus
  with_part_of p n = with_store (store_with n.state.definition (file_place r n) n.store p) n

  -- A1, N1, N2
  unfoldable pub written : ℕ → Nucleus → Nucleus
  written isn n = with_part_of (put_record (file r n) (part r n) isn (new_record r n isn)) (imaged isn n)

  -- "E1 empties the ISN"
  unfoldable pub erased : ℕ → Nucleus → Nucleus
  erased isn n = with_part_of (empty (file r n) (part r n) isn) (imaged isn n)

  -- "the one that N1 last gave in that file"
  abbrev pub with_last : Option ℕ → ℕ → Nucleus → Nucleus
  with_last (Some i) isn n = with_state (with_last_assigned i isn n.state) n
  with_last None isn n = n

  -- ---- ET data
  -- "stores a record buffer of 1 to 64 bytes as the user's ET data; an empty one leaves the old data"
  abbrev pub data_for : EtData → EtData
  data_for old =
      cond (eqb (length r.buffer) 0) old (record { length = length r.buffer; bytes = sets old.bytes 0 r.buffer })

  abbrev pub with_et_data : Nucleus → Nucleus
  with_et_data n = with_state (with_data user (data_for (data_at n.state user)) n.state) n

  abbrev pub data_bytes : Nucleus → List ℕ
  data_bytes n = take (data_at n.state user).length (data_at n.state user).bytes

  -- "adds 1 to the sequence (it stops at 4294967295)"
  abbrev pub next_sequence : Nucleus → ℕ
  next_sequence n = min ((user_of n user).sequence + 1) max_sequence

  -- ---- results
  -- a command that writes nothing into the record buffer
  abbrev pub leaving : Answer → Nucleus → Result
  leaving a n = resulting a n r.buffer

  -- entries that went
  abbrev pub gone : Nucleus → Nucleus → ℕ
  gone n m = n.state.count - m.state.count

  -- "Quantity: bytes written, at the front of the record buffer"
  abbrev pub read_at : ℕ → Nucleus → Nucleus → Result
  read_at isn n m =
      resulting (good isn (length_needed (file r n) r.format) 0) m
      (read_fields (file r n) r.format (version_bytes (file r n) (part r n) n.images (width_of n) (version_read r n isn) isn) r.buffer)

  -- "RI drops the user's unchanged entry; ISN 0 drops all of his unchanged ones, in every file, and skips the changed"
  abbrev pub released : Nucleus → Nucleus
  released n = cond (eqb r.call.isn 0) (removed (Unchanged user) n) (removed (One r.call.file r.call.isn) n)

  abbrev pub ended_for : Nucleus → Nucleus
  ended_for n = change_user user (λ u. ended (counted (next_sequence n) u)) (with_et_data (removed (All user) n))

  -- what a command does, where the ISN that it is about is `isn`
  unfoldable pub effect_at : ℕ → Command → Nucleus → Result
  effect_at isn Hi n = leaving (good isn 0 0) (held isn n)
  effect_at isn Ri n = leaving (good isn (gone n (released n)) 0) (released n)
  effect_at isn L1 n = read_at isn n n
  effect_at isn L4 n = read_at isn n (held isn n)
  effect_at isn A1 n = leaving (good isn 0 0) (written isn n)
  effect_at isn E1 n = leaving (good isn 0 0) (erased isn n)
  effect_at isn N1 n = leaving (good isn 0 0) (with_last (file_place r n) isn (written isn n))
  effect_at isn N2 n = leaving (good isn 0 0) (written isn n)
  effect_at isn Et n = leaving (good 0 (gone n (ended_for n)) (next_sequence n)) (ended_for n)
  effect_at isn Bt n = leaving (good 0 (gone n (backed_out user n)) 0) (backed_out user n)
  effect_at isn Re n = resulting (good 0 (data_at n.state user).length 0) n (sets r.buffer 0 (data_bytes n))
  effect_at isn Op n = leaving (good 0 0 0) (change_user user (set_session r.call.isn r.call.limit (eqb r.call.option option_A)) n)
  effect_at isn Cl n = leaving (good 0 0 (user_of n user).sequence) (change_user user closed n)
  effect_at isn Pe n = leaving (good 0 0 0) (change_user user made_ready n)

  abbrev pub effect : Nucleus → Result
  effect n = effect_at (target_isn r n) r.command n
