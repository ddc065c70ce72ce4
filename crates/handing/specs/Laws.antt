-- The hand-over, and the back-out that was not asked for, on a nucleus from its parts.
-- Assumes nothing.
use Rattle.std.specs.Prelude.{ℕ, ◌+◌, ◌-◌, ◌≤◌, ◌<◌, min, ◌≡◌, refl, Bool, false, List, [], ◌∷◌, length, get_or, set, take, drop, Option, Some, None}
use Rattle.std.proofs.Common.{ap, ◌∙◌}
use Rattle.std.proofs.lemmas.List.Edits.{sets}
use borrow.Author.Tests.{lt-ltb, le-ltb}
use Rattle.lists.specs.Tests.{within, and-false}
use Rattle.lists.specs.Parts.{part_least}
use Rattle.lists.specs.Sift.{sift}
use Rattle.definition.specs.Table.{beyond, file_at}
use Rattle.definition.specs.declared.Definition.{Definition}
use Rattle.definition.specs.declared.File.{File}
use Rattle.records.specs.Records.{file_size}
use Rattle.layout.specs.Layout.{file_offset, image_length, place, file_found}
use Rattle.store.specs.Store.{slot_count, has_record}
use Rattle.store.specs.Files.{file_part_is}
use Rattle.entries.specs.Entries.{entries}
use Rattle.entries.specs.declared.Entry.{Entry}
use Rattle.queue.specs.Queue.{holder, append}
use Rattle.removal.specs.Removal.{goes, remove_queue, remove_images, remove_count, picked_out}
use Rattle.removal.proofs.Picking.{entries_picked}
use Rattle.removal.specs.declared.Removal.{Removal}
use Rattle.removal.specs.declared.Removal.TheVariants.{All}
use Rattle.hold.specs.Hold.{restore}
use Rattle.nucleus.specs.Users.{fresh_user, started, ended}
use Rattle.nucleus.specs.Nucleus.{Nucleus, max_capacity}
use Rattle.nucleus.specs.Target.{part_in}
use Rattle.nucleus.specs.Waiters.{first_in_line, left_line, taking, handed_on, handed}
use Rattle.nucleus.specs.Clock.{removed, backed_out, forced_out}
use Rattle.nucleus.specs.declared.EtData.{EtData}
use Rattle.nucleus.specs.declared.User.{User}
use Rattle.nucleus.specs.declared.WaitQueue.{WaitQueue}
use Rattle.handing.specs.Parts.{parts, nucleus_of}
use Rattle.handing.specs.declared.Standing.{Standing}

-- ---- whether there is a record
module _ (d : Definition) (file isn : ℕ) (store : List ℕ) where
  abbrev there : Option ℕ → Bool
  there at = has_record (file_found d at) (part_in d at store) isn

  -- none in a file that is not in the table
  pub there_nowhere : place d file ≡ None → there (place d file) ≡ false
  unfolding has_record
  there_nowhere missing = rw missing (and-false (within 1 (slot_count beyond 0) isn))

  -- a file's part of a store that is too short ends where the store does
  pub there_in : (i : ℕ) (f : File) (start size : ℕ) → place d file ≡ Some i → f ≡ file_at d i
      → start ≡ min (file_offset d i) (length store) → size ≡ min (file_size f) (length store - start)
      → has_record f (take (start + size - start) (drop start store)) isn ≡ there (place d file)
  there_in i f start size found same e_start e_size =
      let whole = part_least store (file_offset d i) (file_size f) start (start + size) e_start (ap (λ n. start + n) e_size) in
      rw (found, file_part_is d i store, whole, same)

-- ---- the words that `pick_out` leaves in a table of 256 places are those of the entries that are let go
pub picked_go : (queue words table : List ℕ) (count n : ℕ) (which : Removal) → length table ≡ max_capacity
    → n ≡ length (picked_out queue count which (length table)) → words ≡ sets table 0 (picked_out queue count which (length table))
    → entries words n ≡ take max_capacity (sift (goes which) (entries queue count))
picked_go queue words table count n which places e_n e_words =
    ap (entries words) e_n ∙ ap (λ l. entries l (length (picked_out queue count which (length table)))) e_words ∙ entries_picked queue count which table
    ∙ ap (λ m. take m (sift (goes which) (entries queue count))) places

-- ---- who is the first in line
-- nobody, where nobody waits
nobody_first : (l : WaitQueue) → l.waiting ≡ 0 → (file isn : ℕ) → first_in_line l file isn ≡ None
unfolding holder entries
nobody_first l none file isn = rw none

module _ (d : Definition) (clock : ℕ) (s : Standing) (kept : List EtData) (assigned : List ℕ) (store queue images : List ℕ) where
  abbrev here : Nucleus
  here = nucleus_of d clock s kept assigned store queue images

  -- ---- one record
  module _ (file isn : ℕ) where
    pub nobody_gets : first_in_line s.wait_queue file isn ≡ None → handed_on file isn here ≡ here
    unfolding handed_on
    nobody_gets free = rw free

    module _ (i : ℕ) (w : Entry) (first : first_in_line s.wait_queue file isn ≡ Some (i, w)) where
      pub no_room : length queue ≤ s.count → handed_on file isn here ≡ here
      unfolding handed_on
      no_room full = rw (first, le-ltb s.count (length queue) full)

      pub first_gets : s.count < length queue → handed_on file isn here ≡ taking w.user file isn here
      unfolding handed_on
      first_gets room = rw (first, lt-ltb s.count (length queue) room)

    pub taken : (u : ℕ) (existed : Bool) (users : List User) (line : WaitQueue) (queue' : List ℕ)
        → existed ≡ has_record (file_found d (place d file)) (part_in d (place d file) store) isn
        → users ≡ set s.users (u - 1) (started clock (get_or s.users (u - 1) fresh_user))
        → line ≡ left_line u s.wait_queue
        → queue' ≡ append queue s.count (record { user = u; file = file; isn = isn; changed = false; existed = existed })
        → taking u file isn here ≡ parts d clock users kept assigned (s.count + 1) line store queue' images
    taken u existed users line queue' e_existed e_users e_line e_queue = rw (e_users, e_line, e_queue, e_existed)

  -- ---- where nobody waits nothing is handed over
  pub nobody_waits : s.wait_queue.waiting ≡ 0 → (es : List Entry) → handed es here ≡ here
  nobody_waits none [] = refl
  nobody_waits none (e ∷ es) = ap (handed es) (nobody_gets e.file e.isn (nobody_first s.wait_queue none e.file e.isn)) ∙ nobody_waits none es

  -- ---- a user who is backed out
  pub forced : (u n width count : ℕ) (words store' queue' images' : List ℕ) (users : List User) (line : WaitQueue) (after : Nucleus)
      → handed (entries words n) (parts d clock users kept assigned count line store' queue' images') ≡ after
      → entries words n ≡ take max_capacity (sift (goes (All u)) (entries queue s.count))
      → width ≡ image_length d
      → count ≡ remove_count queue images s.count width (All u)
      → store' ≡ restore d width u queue images s.count store
      → queue' ≡ remove_queue queue images s.count width (All u)
      → images' ≡ remove_images queue images s.count width (All u)
      → users ≡ set s.users (u - 1) (ended (get_or s.users (u - 1) fresh_user))
      → line ≡ left_line u s.wait_queue
      → forced_out u here ≡ after
  unfolding forced_out backed_out removed
  forced u n width count words store' queue' images' users line after done e_words e_width e_count e_store e_queue e_images e_users e_line =
      rw (e_words, e_count, e_store, e_queue, e_images, e_users, e_line, e_width) at done
