-- Laws of the flat store as `transactions` asks them (`Laws`: empty, get-put, get_other, get_fit), and what `put` does to a store that is long
-- enough: the functions of `store` on the file's part, the length and the bytes past the table's size as they were.
-- Assumes nothing.
use Rattle.std.specs.Prelude.{ℕ, ◌-◌, ◌≤◌, ◌<◌, ◌≡◌, refl, false, List, eqb, drop, Option, Some, None}
use native.Mathlib.Omega.{arith}
use Rattle.std.proofs.Common.{sym, ◌∙◌, append-nil, length-append}
use Rattle.std.proofs.Math.Path.{ap}
use Rattle.std.proofs.Math.Bool.{true}
use Rattle.std.proofs.Math.ListN.{length}
use Rattle.std.proofs.lemmas.List.{length-replicate}
use borrow.Author.Tests.{eqb-true, eqb-false, eq-eqb}
use Rattle.lists.specs.Tests.{Outcome, holds, fails, outcome, within, and_left, and_right}
use Rattle.definition.specs.Table.{file_at, file_count}
use Rattle.definition.specs.Shape.{DefinitionShape}
use Rattle.definition.specs.declared.File.{File}
use Rattle.definition.specs.declared.Definition.{Definition}
use Rattle.records.specs.Records.{record_length, file_size}
use Rattle.layout.specs.Layout.{store_size, place, isn_found}
use Rattle.layout.specs.Laws.{place_found}
use Rattle.store.specs.Store.{get as get_record, file_part, with_part}
use Rattle.store.proofs.Laws.{fits_whole, get_length, put_length, get_put as get_put_record, get_put_other, empty_length, get_empty, get_empty_other}
use Rattle.store.specs.Files.{file_part_length, with_part_length, part_same, part_other, part_past}
use Rattle.transactions.specs.Slots.{Slot}
use Rattle.ground.specs.Keys.{isn_bound, key, key_file, key_isn, known, Known}
use Rattle.ground.proofs.Keys.{file_of_key, isn_of_key, key_parts, known_found}
use Rattle.ground.specs.Store.{whole, get_at, get, put_in, put_at, put, fit_width, fit_at, fit}

-- ---- one file's part
module _ (f : File) (part : List ℕ) (isn : ℕ) where
  pub put_in_length : (x : Slot) → length (put_in f part isn x) ≡ length part
  put_in_length None = empty_length f part isn
  put_in_length (Some r) = put_length f part isn r

  put_in_other : (x : Slot) (other : ℕ) → (other ≡ isn → ⊥) → get_record f (put_in f part isn x) other ≡ get_record f part other
  put_in_other None other apart = get_empty_other f part isn other apart
  put_in_other (Some r) other apart = get_put_other f part isn r other apart

  put_in_same : (x : Slot) → file_size f ≤ length part → 1 ≤ isn → isn ≤ f.max_isn → fit_width f x ≡ true → get_record f (put_in f part isn x) isn ≡ x
  put_in_same None room least most h = get_empty f part isn
  put_in_same (Some r) room least most h = get_put_record f part isn r (fits_whole f part isn room least most) (eqb-true (length r) (record_length f) h)

  get_in_width : fit_width f (get_record f part isn) ≡ true
  get_in_width = go (get_record f part isn) refl
    where
      go : (x : Slot) → get_record f part isn ≡ x → fit_width f x ≡ true
      go None e = refl
      go (Some r) e = eq-eqb (length r) (record_length f) (get_length f part isn r e)

-- ---- a store with what it lacks
module _ (d : Definition) (store : List ℕ) where
  pub whole_room : store_size d ≤ length (whole d store)
  unfolding whole
  whole_room = simp (length-append, length-replicate) (omega arith)

  pub whole_long : store_size d ≤ length store → whole d store ≡ store
  unfolding whole
  whole_long h = let e : store_size d - length store ≡ 0 = omega arith in rw e (append-nil store)

pub whole_whole : (d : Definition) (store : List ℕ) → whole d (whole d store) ≡ whole d store
whole_whole d store = whole_long d (whole d store) (whole_room d store)

-- ---- on a store that is long enough: the functions of `store`
module _ (d : Definition) (store : List ℕ) (room : store_size d ≤ length store) (k : ℕ) where
  pub get_is : get d store k ≡ get_at d (place d (key_file k)) (key_isn k) store
  unfolding get
  get_is = ap (get_at d (place d (key_file k)) (key_isn k)) (whole_long d store room)

  pub put_is : (x : Slot) → put d store k x ≡ put_at d (place d (key_file k)) (key_isn k) x store
  unfolding put
  put_is x = ap (put_at d (place d (key_file k)) (key_isn k) x) (whole_long d store room)

-- for a file by its number, and an ISN of two bytes
module _ (d : Definition) (store : List ℕ) (room : store_size d ≤ length store) (n isn i : ℕ) (small : isn < isn_bound) (found : place d n ≡ Some i) where
  pub get_key : get d store (key n isn) ≡ get_record (file_at d i) (file_part d i store) isn
  get_key = rw (get_is d store room (key n isn), file_of_key n isn small, isn_of_key n isn small, found)

  pub put_key : (x : Slot) → put d store (key n isn) x ≡ with_part d i store (put_in (file_at d i) (file_part d i store) isn x)
  put_key x = rw (put_is d store room (key n isn) x, file_of_key n isn small, isn_of_key n isn small, found)

module _ (d : Definition) (s : DefinitionShape d) where
  -- ---- a part put back: it lies in a file in use, and has its size
  module _ (store : List ℕ) (room : store_size d ≤ length store) (i : ℕ) (in_use : i < file_count d) where
    whole_part : (isn : ℕ) (x : Slot) → length (put_in (file_at d i) (file_part d i store) isn x) ≡ file_size (file_at d i)
    whole_part isn x = put_in_length (file_at d i) (file_part d i store) isn x ∙ file_part_length d s store room i in_use

  module _ (store : List ℕ) (room : store_size d ≤ length store) (n isn : ℕ) (x : Slot) where
    put_at_length : length (put_at d (place d n) isn x store) ≡ length store
    put_at_length = go (place d n) refl
      where
        go : (r : Option ℕ) → place d n ≡ r → length (put_at d r isn x store) ≡ length store
        go (Some i) e = let u = (place_found d s n i e).0 in with_part_length d s store room i u _ (whole_part store room i u isn x)
        go None e = refl

    put_at_past : drop (store_size d) (put_at d (place d n) isn x store) ≡ drop (store_size d) store
    put_at_past = go (place d n) refl
      where
        go : (r : Option ℕ) → place d n ≡ r → drop (store_size d) (put_at d r isn x store) ≡ drop (store_size d) store
        go (Some i) e = let u = (place_found d s n i e).0 in part_past d s store room i u _ (whole_part store room i u isn x)
        go None e = refl

  module _ (store : List ℕ) (k : ℕ) (x : Slot) where
    pub put_room : store_size d ≤ length (put d store k x)
    unfolding put
    put_room = omega (arith, put_at_length (whole d store) (whole_room d store) (key_file k) (key_isn k) x, whole_room d store)

    module _ (room : store_size d ≤ length store) where
      pub put_length_same : length (put d store k x) ≡ length store
      put_length_same = rw (put_is d store room k x) (put_at_length store room (key_file k) (key_isn k) x)

      -- "Bytes and entries past these sizes are never touched"
      pub put_past : drop (store_size d) (put d store k x) ≡ drop (store_size d) store
      put_past = rw (put_is d store room k x) (put_at_past store room (key_file k) (key_isn k) x)

  -- ---- what `fit` says
  pub fit_known : (k : ℕ) (x : Slot) → fit d k x ≡ true → known d k ≡ true
  unfolding fit known
  fit_known k x h = go (place d (key_file k)) h
    where
      go : (r : Option ℕ) → fit_at d r (key_isn k) x ≡ true → isn_found d r (key_isn k) ≡ true
      go (Some i) t = and_left (within 1 (file_at d i).max_isn (key_isn k)) (fit_width (file_at d i) x) t
      go None t = t

  pub fit_form : (k : ℕ) (x : Slot) → fit d k x ≡ true → (i : ℕ) → place d (key_file k) ≡ Some i → fit_width (file_at d i) x ≡ true
  unfolding fit
  fit_form k x h i e = and_right (within 1 (file_at d i).max_isn (key_isn k)) (fit_width (file_at d i) x) (rw e at h)

  pub known_fit : (k i : ℕ) (x : Slot) → place d (key_file k) ≡ Some i → known d k ≡ true → fit_width (file_at d i) x ≡ true → fit d k x ≡ true
  unfolding fit known
  known_fit k i x e h t = rw (e, rw e at h, t)

  -- ---- the store's laws
  module _ (store : List ℕ) (k : ℕ) (x : Slot) (h : fit d k x ≡ true) where
    abbrev home : Known d k
    home = known_found d s k (fit_known k x h)

    abbrev width : length (put_in (file_at d home.at) (file_part d home.at (whole d store)) (key_isn k) x) ≡ file_size (file_at d home.at)
    width = whole_part (whole d store) (whole_room d store) home.at home.in_use (key_isn k) x

    -- the store with the file's new part
    put_here : put d store k x ≡ with_part d home.at (whole d store) (put_in (file_at d home.at) (file_part d home.at (whole d store)) (key_isn k) x)
    unfolding put
    put_here = rw home.found

    pub get_put : get d (put d store k x) k ≡ x
    get_put =
        get_is d (put d store k x) (put_room store k x) k
        ∙ rw (home.found, put_here, part_same d s (whole d store) (whole_room d store) home.at home.in_use _ width)
        (put_in_same (file_at d home.at) (file_part d home.at (whole d store)) (key_isn k) x
        (omega (arith, file_part_length d s (whole d store) (whole_room d store) home.at home.in_use)) home.least home.most (fit_form k x h home.at home.found))

    -- a key of the same file has another ISN
    isns_differ : (j i : ℕ) → eqb k j ≡ false → place d (key_file j) ≡ Some i → i ≡ home.at → key_isn j ≡ key_isn k → ⊥
    isns_differ j i n e same isn =
        let file : key_file j ≡ key_file k = sym (place_found d s (key_file j) i e).1 ∙ ap (λ p. (file_at d p).number) same ∙ home.number in
        eqb-false k j n (sym (key_parts k) ∙ rw (← file, ← isn) (key_parts j))

    pub get_other : (j : ℕ) → eqb k j ≡ false → get d (put d store k x) j ≡ get d store j
    unfolding get
    get_other j n = get_is d (put d store k x) (put_room store k x) j ∙ rw put_here (go (place d (key_file j)) refl)
      where
        elsewhere : (i : ℕ) → place d (key_file j) ≡ Some i → Outcome (eqb i home.at)
            → get_at d (Some i) (key_isn j) (with_part d home.at (whole d store) (put_in (file_at d home.at) (file_part d home.at (whole d store)) (key_isn k) x))
            ≡ get_at d (Some i) (key_isn j) (whole d store)
        elsewhere i e (holds t) =
            let same : i ≡ home.at = eqb-true i home.at t in
            rw (same, part_same d s (whole d store) (whole_room d store) home.at home.in_use _ width)
            (put_in_other (file_at d home.at) (file_part d home.at (whole d store)) (key_isn k) x (key_isn j) (isns_differ j i n e same))
        elsewhere i e (fails t) =
            rw (part_other d s (whole d store) (whole_room d store) home.at home.in_use _ width i (place_found d s (key_file j) i e).0 (eqb-false i home.at t))

        go : (r : Option ℕ) → place d (key_file j) ≡ r
            → get_at d r (key_isn j) (with_part d home.at (whole d store) (put_in (file_at d home.at) (file_part d home.at (whole d store)) (key_isn k) x))
            ≡ get_at d r (key_isn j) (whole d store)
        go (Some i) e = elsewhere i e (outcome (eqb i home.at))
        go None e = refl

  pub get_fit : (store : List ℕ) (k : ℕ) → known d k ≡ true → fit d k (get d store k) ≡ true
  unfolding get
  get_fit store k h =
      let r = known_found d s k h in
      known_fit k r.at (get d store k) r.found h (rw r.found (get_in_width (file_at d r.at) (file_part d r.at (whole d store)) (key_isn k)))
