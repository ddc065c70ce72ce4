-- What a call that is served has from its first moment to its last: room in the queue for what it hands on, room in the line, and a user who
-- waits for a record waits for no other. And what goes when entries are removed, and what comes when a hold is handed on.
-- Assumes nothing.
use Rattle.std.specs.Prelude.{ℕ, suc, ◌+◌, ◌*◌, ◌≤◌, ◌<◌, ◌≡◌, refl, Bool, not, ◌||◌, List, [], ◌∷◌, ◌++◌, eqb, ltb, length, Option, Some, None}
use Rattle.std.proofs.Common.{mul-le-mul_right, arith, ◌∙◌, take_all, eqb-true, le-leb}
use Rattle.std.proofs.Math.Bool.{true, false}
use Rattle.lists.specs.Tests.{cond, Outcome, holds, fails, outcome, and_left, and_right}
use Rattle.lists.specs.Folds.{all, total}
use Rattle.lists.specs.Sift.{keep, sift, all_keeps, all_sift, each_sift}
use Rattle.entries.specs.Entries.{bit, entries, is_of}
use Rattle.entries.specs.Laws.{Shape, length_entries}
use Rattle.entries.specs.declared.Entry.{Entry}
use Rattle.queue.specs.Queue.{append}
use Rattle.queue.specs.Laws.{entries_append, length_append_entry}
use Rattle.removal.specs.Closing.{set_count}
use Rattle.removal.specs.Removal.{goes, stays, staying, fits, remove_queue, remove_images, remove_count}
use Rattle.removal.specs.Laws.{entries_remove, length_remove_queue, length_remove_images}
use Rattle.removal.specs.declared.Removal.{Removal}
use Rattle.removal.specs.declared.Removal.TheVariants.{All}
use Rattle.nucleus.specs.Nucleus.{Nucleus, max_users, max_capacity, entries_of, width_of}
use Rattle.nucleus.specs.Waiters.{waiters_in, waiters_of, is_user, left_line, first_in_line, let_go, taking, handed_to, handed_on, handed}
use Rattle.nucleus.specs.declared.WaitQueue.{WaitQueue}
use Rattle.overtaking.specs.Moments.{line_of, waits}
use Rattle.overtaking.proofs.Lines.{entry_shapes, waiters_left, places_left, waiting_left, line_left}

-- ---- room for so many entries more
pub record Room (capacity more count width : ℕ) (queue images : List ℕ) : Type 0 where
  pub most : capacity ≤ max_capacity
  pub few : count + more ≤ capacity
  pub queue_long : capacity ≤ length queue
  pub images_long : capacity * width ≤ length images

abbrev pub RoomIn : ℕ → ℕ → Nucleus → Type 0
RoomIn capacity more n = Room capacity more n.state.count (width_of n) n.queue n.images

-- ---- entries are removed
-- sums over those that go and those that stay
pub total_parts : (f : Entry → ℕ) (which : Removal) (es : List Entry) → total f (sift (goes which) es) + total f (sift (stays which) es) ≡ total f es
total_parts f which [] = refl
total_parts f which (e ∷ es) = go (goes which e) (total_parts f which es)
  where
    go : (b : Bool) → total f (sift (goes which) es) + total f (sift (stays which) es) ≡ total f es
        → total f (keep b e (sift (goes which) es)) + total f (keep (not b) e (sift (stays which) es)) ≡ total f (e ∷ es)
    go true i = omega (arith, i)
    go false i = omega (arith, i)

count_parts : (which : Removal) (es : List Entry) → set_count (staying which es) + length (sift (goes which) es) ≡ length es
count_parts which [] = refl
count_parts which (e ∷ es) = go (goes which e) (count_parts which es)
  where
    go : (b : Bool) → set_count (staying which es) + length (sift (goes which) es) ≡ length es
        → bit (not b) + set_count (staying which es) + length (keep b e (sift (goes which) es)) ≡ suc (length es)
    go true i = omega (arith, i)
    go false i = omega (arith, i)

module _ (capacity : ℕ) (n : Nucleus) (room : RoomIn capacity 0 n) (which : Removal) where
  count_inside : n.state.count ≤ length n.queue
  count_inside = omega (arith, room.few, room.queue_long)

  images_inside : n.state.count * width_of n ≤ length n.images
  images_inside =
      let few : n.state.count ≤ capacity = omega (arith, room.few) in
      let more : n.state.count * width_of n ≤ capacity * width_of n = mul-le-mul_right (width_of n) few in
      omega (arith, more, room.images_long)

  fits_in : fits n.queue n.images n.state.count (width_of n) ≡ true
  fits_in = rw (le-leb n.state.count (length n.queue) count_inside, le-leb (n.state.count * width_of n) (length n.images) images_inside)

  entry_count : length (entries_of n) ≡ n.state.count
  entry_count = length_entries n.queue n.state.count ∙ omega (arith, count_inside)

  few_go : length (sift (goes which) (entries_of n)) ≤ max_capacity
  few_go = omega (arith, count_parts which (entries_of n), entry_count, room.few, room.most)

  -- all that go are let go
  pub let_go_all : let_go which n ≡ sift (goes which) (entries_of n)
  let_go_all = take_all max_capacity (sift (goes which) (entries_of n)) few_go

  count_left : remove_count n.queue n.images n.state.count (width_of n) which + length (let_go which n) ≡ n.state.count
  unfolding remove_count
  count_left = rw (fits_in, let_go_all) (count_parts which (entries_of n) ∙ entry_count)

  pub room_removed :
      Room capacity (length (let_go which n)) (remove_count n.queue n.images n.state.count (width_of n) which) (width_of n)
      (remove_queue n.queue n.images n.state.count (width_of n) which)
      (remove_images n.queue n.images n.state.count (width_of n) which)
  room_removed = record {
    most = room.most;
    few = omega (arith, count_left, room.few);
    queue_long = rw (length_remove_queue n.queue n.images n.state.count (width_of n) which fits_in) room.queue_long;
    images_long = rw (length_remove_images n.queue n.images n.state.count (width_of n) which fits_in) room.images_long;
  }

  -- those that stay and those that are let go are those that were there
  abbrev left_there : List Entry
  left_there =
      entries (remove_queue n.queue n.images n.state.count (width_of n) which)
      (remove_count n.queue n.images n.state.count (width_of n) which)

  pub parts_removed : (f : Entry → ℕ) → total f (let_go which n) + total f left_there ≡ total f (entries_of n)
  parts_removed f = rw (let_go_all, entries_remove n.queue n.images n.state.count (width_of n) which fits_in) (total_parts f which (entries_of n))

-- ---- a hold is handed on
module _ (capacity more : ℕ) (file isn : ℕ) (n : Nucleus) (room : RoomIn capacity (suc more) n) where
  pub room_handed_on : RoomIn capacity more (handed_on file isn n)
  unfolding handed_on
  room_handed_on = go (first_in_line n.state.wait_queue file isn)
    where
      kept : RoomIn capacity more n
      kept = record { most = room.most; few = omega (arith, room.few); queue_long = room.queue_long; images_long = room.images_long }

      given : (v : ℕ) (b : Bool) → RoomIn capacity more (cond b (taking v file isn n) n)
      given v true = record {
        most = room.most;
        few = omega (arith, room.few);
        queue_long = rw (length_append_entry n.queue n.state.count _) room.queue_long;
        images_long = room.images_long;
      }
      given v false = kept

      go : (l : Option (ℕ × Entry)) → RoomIn capacity more (handed_to l file isn n)
      go (Some (i, w)) = given w.user (ltb n.state.count (length n.queue))
      go None = kept

  pub place_free : n.state.count < length n.queue
  place_free = omega (arith, room.few, room.queue_long)

pub room_handed : (capacity : ℕ) (es : List Entry) (n : Nucleus) → RoomIn capacity (length es) n → RoomIn capacity 0 (handed es n)
room_handed capacity [] n room = room
room_handed capacity (e ∷ es) n room =
    room_handed capacity es (handed_on e.file e.isn n) (room_handed_on capacity (length es) e.file e.isn n room)

-- ---- the line
module _ (u file isn : ℕ) where
  -- whoever is not he, or waits for the record
  abbrev pub only_there : Entry → Bool
  only_there w = not (is_user u w) || is_of file isn w

  pub record InLine (l : WaitQueue) : Type 0 where
    pub places : max_users ≤ length l.places
    pub inside : l.waiting ≤ length l.places
    -- he waits for no other
    pub sole : waits u (sift (is_of file isn) (waiters_in l)) ≡ true → all only_there (waiters_in l) ≡ true

  pub waits_sift : (p : Entry → Bool) (l : List Entry) → waits u (sift p l) ≡ true → waits u l ≡ true
  waits_sift p [] h = h
  waits_sift p (w ∷ l) h = go (outcome (is_user u w)) (p w) h (waits_sift p l)
    where
      go : Outcome (is_user u w) → (a : Bool) → waits u (keep a w (sift p l)) ≡ true → (waits u (sift p l) ≡ true → waits u l ≡ true)
          → waits u (w ∷ l) ≡ true
      go (holds t) a g i = rw t
      go (fails t) true g i = rw t (i (rw t at g))
      go (fails t) false g i = rw t (i g)

  pub in_line_left : (v : ℕ) (l : WaitQueue) → InLine l → InLine (left_line v l)
  in_line_left v l a = record {
    places = rw (places_left v l a.inside) a.places;
    inside = rw (places_left v l a.inside) (omega (arith, waiting_left v l a.inside, a.inside));
    sole = λ h.
        let before : List Entry = sift (is_of file isn) (waiters_in l) in
        let his : waits u before ≡ true = waits_sift (stays (All v)) before (rw (line_left v l a.inside file isn) at h) in
        rw (waiters_left v l a.inside) (all_keeps only_there (stays (All v)) (waiters_in l) (a.sole his));
  }

  pub in_line_handed_on : (f i : ℕ) (n : Nucleus) → InLine n.state.wait_queue → InLine (handed_on f i n).state.wait_queue
  unfolding handed_on
  in_line_handed_on f i n a = go (first_in_line n.state.wait_queue f i)
    where
      given : (v : ℕ) (b : Bool) → InLine (cond b (taking v f i n) n).state.wait_queue
      given v true = in_line_left v n.state.wait_queue a
      given v false = a

      go : (l : Option (ℕ × Entry)) → InLine (handed_to l f i n).state.wait_queue
      go (Some (k, w)) = given w.user (ltb n.state.count (length n.queue))
      go None = a

  pub in_line_handed : (es : List Entry) (n : Nucleus) → InLine n.state.wait_queue → InLine (handed es n).state.wait_queue
  in_line_handed [] n a = a
  in_line_handed (e ∷ es) n a = in_line_handed es (handed_on e.file e.isn n) (in_line_handed_on e.file e.isn n a)

-- ---- the first of a record's line, and his new hold
module _ (file isn : ℕ) (n : Nucleus) (w : Entry) (rest : List Entry) (first : line_of file isn n ≡ w ∷ rest) where
  first_shape : Shape w
  first_shape = (rw first at (each_sift Shape (is_of file isn) (waiters_of n) (entry_shapes n.state.wait_queue.places n.state.wait_queue.waiting))).0

  pub first_of : is_of file isn w ≡ true
  first_of = and_left (is_of file isn w) (all (is_of file isn) rest) (rw first at (all_sift (is_of file isn) (waiters_of n)))

  pub first_file : w.file ≡ file
  first_file = eqb-true w.file file (and_left (eqb w.file file) (eqb w.isn isn) first_of)

  pub first_isn : w.isn ≡ isn
  first_isn = eqb-true w.isn isn (and_right (eqb w.file file) (eqb w.isn isn) first_of)

  abbrev hold : Bool → Entry
  hold there = record { user = w.user; file = file; isn = isn; changed = false; existed = there }

  hold_shape : (there : Bool) → Shape (hold there)
  hold_shape there = record { user = first_shape.user; file = (rw first_file at first_shape).file; isn = (rw first_isn at first_shape).isn }

  pub entries_taking : n.state.count < length n.queue → (there : Bool)
      → entries (append n.queue n.state.count (hold there)) (n.state.count + 1) ≡ entries_of n ++ hold there ∷ []
  entries_taking free there = entries_append n.queue n.state.count (hold there) (hold_shape there) free
