-- Back-out: what `hold` puts back, entry by entry, is what the abstract machine restores.
-- Assumes nothing.
use Rattle.std.specs.Prelude.{ℕ, ◌*◌, ◌≤◌, ◌<◌, ◌≡◌, Bool, ◌&&◌, drop, Option, Some, None}
use Rattle.std.proofs.Math.Nat.{mul-le-mul_right}
use Rattle.std.proofs.Common.{arith, ◌∙◌, le-leb}
use Rattle.std.proofs.Math.Path.{refl, ap}
use Rattle.std.proofs.Math.Bool.{true, false, cond}
use mathlib.Core.List.{List, [], ◌∷◌}
use Rattle.std.proofs.Math.Dec.{eqb}
use Rattle.std.proofs.Math.ListN.{length, take}
use Rattle.definition.specs.Table.{file_at}
use Rattle.definition.specs.Shape.{DefinitionShape}
use Rattle.definition.specs.declared.Definition.{Definition}
use Rattle.records.specs.Records.{record_length}
use Rattle.layout.specs.Layout.{store_size, image_length, place, file_found}
use Rattle.store.specs.Store.{put_record, empty, file_part, with_part}
use Rattle.entries.specs.Entries.{entries}
use Rattle.entries.specs.declared.Entry.{Entry}
use Rattle.hold.specs.Hold.{put_back_in, put_back_at, put_back, put_back_of, restored, restore}
use Rattle.transactions.specs.Slots.{Slot}
use Rattle.transactions.specs.Machine.{restore as machine_restore}
use Rattle.ground.specs.Keys.{isn_bound, file_of}
use Rattle.ground.proofs.Keys.{file_of_key, isn_of_key}
use Rattle.ground.specs.Store.{put_in, put_at, put}
use Rattle.ground.proofs.StoreLaws.{put_is, put_room, put_length_same, put_past}
use Rattle.ground.specs.Queue.{key_of, before, holds_of, queue_of, Made}
use Rattle.ground.proofs.Reading.{Small, entries_small}
use Rattle.ground.specs.Ground.{Updates, ground}

module _ (d : Definition) (s : DefinitionShape d) where
  -- one entry: its image, or none, at its key
  pub put_back_put : (e : Entry) → e.isn < isn_bound → (image store : List ℕ) → store_size d ≤ length store
      → put_back d e image store ≡ put d store (key_of e) (before d e image)
  unfolding put_back put_back_in file_of
  put_back_put e small image store room =
      rw (le-leb (store_size d) (length store) room, put_is d store room (key_of e) (before d e image), file_of_key e.file e.isn small, isn_of_key e.file e.isn small)
      (go (place d e.file))
    where
      go : (r : Option ℕ) → put_back_at d r e image store ≡ put_at d r e.isn (cond e.existed (Some (take (record_length (file_found d r)) image)) None) store
      go (Some i) = ap (with_part d i store) (branch e.existed)
        where
          branch : (b : Bool) → cond b (put_record (file_at d i) (file_part d i store) e.isn (take (record_length (file_at d i)) image)) (empty (file_at d i) (file_part d i store) e.isn)
              ≡ put_in (file_at d i) (file_part d i store) e.isn (cond b (Some (take (record_length (file_at d i)) image)) None)
          branch true = refl
          branch false = refl
      go None = refl

  -- where it is to be undone
  undone_test : (c u : Bool) (store : List ℕ) (k : ℕ) (x : Slot) → cond (u && c) (put d store k x) store ≡ cond (c && u) (put d store k (cond c x None)) store
  undone_test true true store k x = refl
  undone_test true false store k x = refl
  undone_test false true store k x = refl
  undone_test false false store k x = refl

  undone_room : (b : Bool) (store : List ℕ) (k : ℕ) (x : Slot) → store_size d ≤ length store → store_size d ≤ length (cond b (put d store k x) store)
  undone_room true store k x room = put_room d s store k x
  undone_room false store k x room = room

  module _ (U : Updates) (lent : List ℕ) (user : ℕ) where
    -- all entries of a user, oldest first
    restored_all : (es : List Entry) → Small es → (images store : List ℕ) → store_size d ≤ length store
        → restored d (image_length d) user es images store ≡ machine_restore (ground d U lent) (λ v. eqb v user) (holds_of d es images) store
    unfolding machine_restore
    restored_all [] h images store room = refl
    restored_all (e ∷ es) h images store room =
        let image = take (image_length d) images in
        let first = ap (λ x. cond (eqb e.user user && e.changed) x store) (put_back_put e h.0 image store room) ∙ undone_test e.changed (eqb e.user user) store (key_of e) (before d e image) in
        ap (restored d (image_length d) user es (drop (image_length d) images)) first
        ∙ restored_all es h.1 (drop (image_length d) images) _ (undone_room (e.changed && eqb e.user user) store (key_of e) _ room)

  -- what every record that is put keeps, a back-out keeps
  module _ (P : List ℕ → Type 0) (keeps : (t : List ℕ) (k : ℕ) (x : Slot) → store_size d ≤ length t → P t → P (put d t k x)) (user : ℕ) where
    restored_keeps : (es : List Entry) → Small es → (images store : List ℕ) → store_size d ≤ length store → P store → P (restored d (image_length d) user es images store)
    restored_keeps [] h images store room p = p
    restored_keeps (e ∷ es) h images store room p =
        let image = take (image_length d) images in
        let undo = eqb e.user user && e.changed in
        let is : put_back_of d user e image store ≡ cond undo (put d store (key_of e) (before d e image)) store = ap (λ x. cond undo x store) (put_back_put e h.0 image store room) in
        restored_keeps es h.1 (drop (image_length d) images) _ (rw is (undone_room undo store (key_of e) (before d e image) room)) (rw is (one undo (key_of e) (before d e image)))
      where
        one : (b : Bool) (k : ℕ) (x : Slot) → P (cond b (put d store k x) store)
        one true k x = keeps store k x room p
        one false k x = p

  module _ (user capacity : ℕ) (store words images : List ℕ) (count : ℕ) (m : Made d capacity store words images count) where
    restores : restore d (image_length d) user words images count store ≡ restored d (image_length d) user (entries words count) images store
    unfolding restore
    restores =
        let fits : count * image_length d ≤ length images = omega (arith, mul-le-mul_right (image_length d) m.most, m.image_room) in
        rw (le-leb (count * image_length d) (length images) fits)

    pub restore_length : length (restore d (image_length d) user words images count store) ≡ length store
    restore_length =
        rw restores
        (restored_keeps (λ t. length t ≡ length store) (λ t k x room p. put_length_same d s t k x room ∙ p) user (entries words count) (entries_small words count) images store m.store_room refl)

    pub restore_past : drop (store_size d) (restore d (image_length d) user words images count store) ≡ drop (store_size d) store
    restore_past =
        rw restores
        (restored_keeps (λ t. drop (store_size d) t ≡ drop (store_size d) store) (λ t k x room p. put_past d s t k x room ∙ p) user (entries words count) (entries_small words count) images store m.store_room refl)

    -- a back-out, in a well made state
    pub restore_is : (U : Updates) (lent : List ℕ)
        → restore d (image_length d) user words images count store ≡ machine_restore (ground d U lent) (λ v. eqb v user) (queue_of d words images count) store
    unfolding queue_of
    restore_is U lent = rw restores (restored_all U lent user (entries words count) (entries_small words count) images store m.store_room)
