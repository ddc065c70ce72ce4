-- Set-up leaves no record at any key, the store's length as it was, and nothing past the table's size touched.
-- Assumes nothing.
use Rattle.std.specs.Prelude.{ℕ, ◌≤◌, ◌<◌, ◌≡◌, true, List, [], ◌∷◌, eqb, length, drop, Option, Some, None}
use Rattle.std.proofs.Common.{arith, ◌∙◌, eqb-true}
use Rattle.std.proofs.Math.Path.{refl, ap}
use Rattle.std.proofs.lemmas.Bool.{eqb-false}
use Rattle.lists.specs.Tests.{Outcome, holds, fails, outcome, not_both}
use Rattle.lists.specs.Folds.{any, Each}
use Rattle.definition.specs.Table.{file_at, file_count}
use Rattle.definition.specs.Shape.{DefinitionShape}
use Rattle.definition.specs.declared.Definition.{Definition}
use Rattle.records.specs.Records.{file_size}
use Rattle.layout.specs.Layout.{store_size, place}
use Rattle.layout.specs.Laws.{place_found}
use Rattle.lists.specs.Numbers.{numbers, each_number, in_numbers}
use Rattle.store.specs.Store.{get as get_record, fresh, file_part}
use Rattle.store.proofs.Laws.{fresh_length, get_fresh}
use Rattle.store.specs.Files.{file_part_length, with_part_length, part_same, part_other, part_past}
use Rattle.ground.specs.Keys.{key_file, key_isn}
use Rattle.ground.specs.Store.{whole, get_at, get, fresh_at, fresh_from, fresh_store}
use Rattle.ground.proofs.StoreLaws.{whole_room, whole_long, get_is}

module _ (d : Definition) (s : DefinitionShape d) where
  -- places of files in use
  abbrev In_use : List ℕ → Type 0
  In_use is = Each (λ i. i < file_count d) is

  -- no ISN of the file has a record
  abbrev Blank : ℕ → List ℕ → Type 0
  Blank j store = (isn : ℕ) → get_record (file_at d j) (file_part d j store) isn ≡ None

  module _ (store : List ℕ) (room : store_size d ≤ length store) (i : ℕ) (in_use : i < file_count d) where
    size : length (fresh (file_at d i) (file_part d i store)) ≡ file_size (file_at d i)
    size = fresh_length (file_at d i) (file_part d i store) ∙ file_part_length d s store room i in_use

    at_length : length (fresh_at d i store) ≡ length store
    at_length = with_part_length d s store room i in_use _ size

    at_past : drop (store_size d) (fresh_at d i store) ≡ drop (store_size d) store
    at_past = part_past d s store room i in_use _ size

    at_blank : Blank i (fresh_at d i store)
    at_blank isn = rw (part_same d s store room i in_use _ size) (get_fresh (file_at d i) (file_part d i store) isn)

    at_keeps : (j : ℕ) → j < file_count d → Blank j store → Blank j (fresh_at d i store)
    at_keeps j h b isn = go (outcome (eqb j i))
      where
        go : Outcome (eqb j i) → get_record (file_at d j) (file_part d j (fresh_at d i store)) isn ≡ None
        go (holds e) = rw (eqb-true j i e) (at_blank isn)
        go (fails e) = rw (part_other d s store room i in_use _ size j h (eqb-false j i e)) (b isn)

  from_length : (is : List ℕ) → In_use is → (store : List ℕ) → store_size d ≤ length store → length (fresh_from d is store) ≡ length store
  from_length [] u store room = refl
  from_length (i ∷ is) u store room =
      let l = at_length store room i u.0 in
      from_length is u.1 (fresh_at d i store) (omega arith) ∙ l

  from_past : (is : List ℕ) → In_use is → (store : List ℕ) → store_size d ≤ length store → drop (store_size d) (fresh_from d is store) ≡ drop (store_size d) store
  from_past [] u store room = refl
  from_past (i ∷ is) u store room =
      let l = at_length store room i u.0 in
      from_past is u.1 (fresh_at d i store) (omega arith) ∙ at_past store room i u.0

  from_keeps : (j : ℕ) → j < file_count d → (is : List ℕ) → In_use is → (store : List ℕ) → store_size d ≤ length store → Blank j store → Blank j (fresh_from d is store)
  from_keeps j h [] u store room b = b
  from_keeps j h (i ∷ is) u store room b =
      let l = at_length store room i u.0 in
      from_keeps j h is u.1 (fresh_at d i store) (omega arith) (at_keeps store room i u.0 j h b)

  from_blank : (j : ℕ) → j < file_count d → (is : List ℕ) → In_use is → any (eqb j) is ≡ true → (store : List ℕ) → store_size d ≤ length store → Blank j (fresh_from d is store)
  from_blank j h [] u t store room = not_both (any (eqb j) []) t refl
  from_blank j h (i ∷ is) u t store room = go (outcome (eqb j i)) (λ r. from_blank j h is u.1 r (fresh_at d i store) (omega (arith, at_length store room i u.0)))
    where
      go : Outcome (eqb j i) → (any (eqb j) is ≡ true → Blank j (fresh_from d is (fresh_at d i store))) → Blank j (fresh_from d (i ∷ is) store)
      go (holds e) later =
          let here : Blank j (fresh_at d i store) = rw (eqb-true j i e) (at_blank store room i u.0) in
          from_keeps j h is u.1 (fresh_at d i store) (omega (arith, at_length store room i u.0)) here
      go (fails e) later = later (rw e at t)

  all_in_use : In_use (numbers (file_count d) 0)
  all_in_use = each_number (λ i. i < file_count d) (file_count d) 0 (λ i a b. omega arith)

  module _ (store : List ℕ) where
    fresh_whole : length (fresh_store d store) ≡ length (whole d store)
    unfolding fresh_store
    fresh_whole = from_length (numbers (file_count d) 0) all_in_use (whole d store) (whole_room d store)

    pub fresh_room : store_size d ≤ length (fresh_store d store)
    fresh_room = omega (arith, fresh_whole, whole_room d store)

    -- set-up leaves no record at any key
    pub get_fresh_store : (k : ℕ) → get d (fresh_store d store) k ≡ None
    unfolding fresh_store
    get_fresh_store k = get_is d (fresh_store d store) fresh_room k ∙ go (place d (key_file k)) refl
      where
        go : (r : Option ℕ) → place d (key_file k) ≡ r → get_at d r (key_isn k) (fresh_from d (numbers (file_count d) 0) (whole d store)) ≡ None
        go (Some i) e =
            let h = (place_found d s (key_file k) i e).0 in
            from_blank i h (numbers (file_count d) 0) all_in_use (in_numbers (file_count d) 0 i (omega arith) (omega arith)) (whole d store) (whole_room d store) (key_isn k)
        go None e = refl

    module _ (room : store_size d ≤ length store) where
      pub fresh_store_is : fresh_store d store ≡ fresh_from d (numbers (file_count d) 0) store
      unfolding fresh_store
      fresh_store_is = ap (fresh_from d (numbers (file_count d) 0)) (whole_long d store room)

      pub fresh_store_length : length (fresh_store d store) ≡ length store
      fresh_store_length = fresh_whole ∙ ap length (whole_long d store room)

      pub fresh_store_past : drop (store_size d) (fresh_store d store) ≡ drop (store_size d) store
      fresh_store_past = rw fresh_store_is (from_past (numbers (file_count d) 0) all_in_use store room)
