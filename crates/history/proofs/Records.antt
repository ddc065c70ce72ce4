-- What the argument of requirement 3 says of records: the nucleus has what the journal has, and no unique value is there twice.
-- Assumes nothing.
use Rattle.std.specs.Prelude.{ℕ, ◌≤◌, ◌<◌, ◌≡◌, false, eqb, ltb, Option, Some, None}
use Rattle.std.proofs.Common.{arith, ◌∙◌}
use Rattle.std.proofs.Math.Path.{refl, sym, ap}
use Rattle.std.proofs.Math.Bool.{true}
use mathlib.Core.List.{List, [], ◌∷◌}
use borrow.Author.Tests.{eqb-true, ltb-true, ltb-false, ne_eqb}
use Rattle.lists.specs.Tests.{and-false, cond, Outcome, holds, fails, outcome, within, within_inside, not_both, and_left, and_right}
use Rattle.lists.specs.Folds.{any, all}
use Rattle.lists.specs.Sift.{any_sift, elem_both}
use Rattle.definition.specs.Table.{beyond, file_at, field_at, field_count, is_unique}
use Rattle.definition.specs.Shape.{file_shape_at}
use Rattle.definition.specs.declared.Definition.{Definition}
use Rattle.definition.specs.declared.File.{File}
use Rattle.definition.specs.declared.FieldOption.TheVariants.{Unique}
use Rattle.layout.specs.Layout.{place, file_found, isn_found}
use Rattle.layout.specs.Laws.{place_found}
use Rattle.lists.specs.Numbers.{numbers, in_numbers}
use Rattle.store.specs.Store.{get as get_record, file_part}
use Rattle.store.proofs.Laws.{get_outside}
use Rattle.transactions.specs.Machine.{replay}
use Rattle.transactions.proofs.Theorems.{same_slots, no_value_twice}
use Rattle.ground.specs.Keys.{isn_bound, key, key_file, file_of, known, keys}
use Rattle.ground.proofs.Keys.{file_of_key, isn_of_key, key_test, keys_known}
use Rattle.ground.specs.Store.{get, get_at}
use Rattle.ground.proofs.StoreLaws.{get_is}
use Rattle.ground.specs.Ground.{uniques}
use Rattle.nucleus.specs.Nucleus.{Nucleus}
use Rattle.nucleus.specs.declared.User.{User}
use Rattle.nucleus.specs.Target.{part_in}
use Rattle.claim.specs.Journal.{Journal, Change, apply, is_at, replayed, record_told}
use Rattle.claim.specs.Run.{record_in}
use Rattle.claim.specs.Claim.{SameRecords, UniqueValues, file_numbered}
use Rattle.history.specs.Updates.{logged}
use Rattle.claim.specs.Lent.{Lent}
use Rattle.history.specs.Kept.{Kept, definition_of, ground_of, seen, change_sound}
use Rattle.history.proofs.People.{change_isn}
use Rattle.history.proofs.Ends.{laws_of}

-- ---- the file by its number
same_file : (d : Definition) (file : ℕ) → file_of d file ≡ file_found d (place d file)
unfolding file_of
same_file d file = refl

-- a unique field in use is one of those that are judged
unique_place : (f : File) (i : ℕ) → i < field_count f → (field_at f i).option ≡ Unique → any (eqb i) (uniques f) ≡ true
unfolding uniques
unique_place f i used unique =
    any_sift (λ x. is_unique (field_at f x).option) (eqb i) (numbers (field_count f) 0)
    ∙ elem_both (λ x. is_unique (field_at f x).option) i (numbers (field_count f) 0) (in_numbers (field_count f) 0 i (omega arith) (omega (arith, used))) (rw unique)

change_small : (us : List User) (c : Change) → change_sound us c ≡ true → c.isn < isn_bound
change_small us c h = ltb-true c.isn isn_bound (change_isn us c h)

module _ (capacity : ℕ) (lent : Lent ℕ) (n : Nucleus) (j : Journal) (k : Kept capacity lent n j) where
  abbrev d : Definition
  d = definition_of n

  -- ---- of an ISN of two bytes
  module _ (file isn : ℕ) (small : isn < isn_bound) where
    pub slot_in : get d n.store (key file isn) ≡ record_in d n.store file isn
    slot_in =
        get_is d n.store k.sized.made.store_room (key file isn)
        ∙ rw (file_of_key file isn small, isn_of_key file isn small) (go (place d file))
      where
        go : (x : Option ℕ) → get_at d x isn n.store ≡ get_record (file_found d x) (part_in d x n.store) isn
        go (Some i) = refl
        go None = sym (get_outside beyond [] isn (λ a b. absurd (omega arith)))

    -- one change of the journal, and of the machine's
    same_change : (c : Change) → c.isn < isn_bound → (x : Option (List ℕ))
        → cond (eqb (key c.file c.isn) (key file isn)) (apply (file_of d (key_file (key c.file c.isn))) c.update x) x
        ≡ cond (is_at file isn c) (apply (file_found d (place d file)) c.update x) x
    same_change c s x = rw (key_test c.file c.isn file isn s small, file_of_key c.file c.isn s) (go (outcome (is_at file isn c)))
      where
        go : Outcome (is_at file isn c) → cond (is_at file isn c) (apply (file_of d c.file) c.update x) x ≡ cond (is_at file isn c) (apply (file_found d (place d file)) c.update x) x
        go (holds t) =
            let e : c.file ≡ file = eqb-true c.file file (and_left (eqb c.file file) (eqb c.isn isn) t) in
            ap (λ f. cond (is_at file isn c) (apply f c.update x) x) (ap (file_of d) e ∙ same_file d file)
        go (fails t) = rw t

    replay_is : (cs : List Change) → all (change_sound n.state.users) cs ≡ true → (x : Option (List ℕ)) → replay (ground_of lent n) (key file isn) x (logged cs) ≡ replayed d file isn x cs
    unfolding replay
    replay_is [] h x = refl
    replay_is (c ∷ cs) h x =
        ap (λ y. replay (ground_of lent n) (key file isn) y (logged cs)) (same_change c (change_small n.state.users c (and_left (change_sound n.state.users c) (all (change_sound n.state.users) cs) h)) x)
        ∙ replay_is cs (and_right (change_sound n.state.users c) (all (change_sound n.state.users) cs) h) _

    same_small : record_in d n.store file isn ≡ replayed d file isn None j.changes
    same_small =
        sym slot_in ∙ same_slots (ground_of lent n) (laws_of capacity lent n k.sized) (seen lent n) (logged j.changes) k.invariant (key file isn)
        ∙ replay_is j.changes k.told.changes_sound None

  -- ---- of an ISN that no file has
  module _ (file isn : ℕ) (large : isn_bound ≤ isn) where
    no_change : (cs : List Change) → all (change_sound n.state.users) cs ≡ true → (x : Option (List ℕ)) → replayed d file isn x cs ≡ x
    no_change [] h x = refl
    no_change (c ∷ cs) h x =
        let s = change_small n.state.users c (and_left (change_sound n.state.users c) (all (change_sound n.state.users) cs) h) in
        let apart : eqb c.isn isn ≡ false = ne_eqb c.isn isn (λ e. absurd (omega (arith, e))) in
        rw (apart, and-false (eqb c.file file)) (no_change cs (and_right (change_sound n.state.users c) (all (change_sound n.state.users) cs) h) x)

    none_large : record_in d n.store file isn ≡ None
    none_large = get_outside (file_found d (place d file)) (part_in d (place d file) n.store) isn (λ a b. absurd (omega (arith, b, highest (place d file) refl, large)))
      where
        highest : (x : Option ℕ) → place d file ≡ x → (file_found d x).max_isn < isn_bound
        highest (Some i) e = (file_shape_at d k.sized.shape i (omega (arith, (place_found d k.sized.shape file i e).0))).small_max_isn
        highest None e = omega arith

  pub same_records : SameRecords d n.store j
  unfolding record_told
  same_records file isn = go (outcome (ltb isn isn_bound))
    where
      go : Outcome (ltb isn isn_bound) → record_in d n.store file isn ≡ replayed d file isn None j.changes
      go (holds t) = same_small file isn (ltb-true isn isn_bound t)
      go (fails t) = let large = ltb-false isn isn_bound t in none_large file isn large ∙ sym (no_change file isn large j.changes k.told.changes_sound None)

  -- ---- no unique value twice
  -- where a record is, is an ISN of the table
  module _ (file isn : ℕ) (a : List ℕ) (there : record_in d n.store file isn ≡ Some a) where
    some_none : {A : Type 0} → record_in d n.store file isn ≡ None → A
    some_none e = absurd (let z : ◌≡◌ {A = ℕ} 0 1 = cc in omega arith)

    there_small : isn < isn_bound
    there_small = go (outcome (ltb isn isn_bound))
      where
        go : Outcome (ltb isn isn_bound) → isn < isn_bound
        go (holds t) = ltb-true isn isn_bound t
        go (fails t) = some_none (none_large file isn (ltb-false isn isn_bound t))

    there_known : known d (key file isn) ≡ true
    unfolding known
    there_known = rw (file_of_key file isn there_small, isn_of_key file isn there_small) (go (place d file) refl)
      where
        go : (x : Option ℕ) → place d file ≡ x → isn_found d x isn ≡ true
        go (Some i) e = inside (outcome (within 1 (file_at d i).max_isn isn))
          where
            inside : Outcome (within 1 (file_at d i).max_isn isn) → within 1 (file_at d i).max_isn isn ≡ true
            inside (holds t) = t
            inside (fails t) =
                some_none (rw e (get_outside (file_at d i) (file_part d i n.store) isn (λ p q. not_both (within 1 (file_at d i).max_isn isn) (within_inside 1 (file_at d i).max_isn isn p q) t)))
        go None e = some_none (rw e (get_outside beyond [] isn (λ p q. absurd (omega arith))))

    there_slot : get d n.store (key file isn) ≡ Some a
    there_slot = slot_in file isn there_small ∙ there

    there_key : any (eqb (key file isn)) (keys d) ≡ true
    there_key = keys_known d k.sized.shape k.sized.valid (key file isn) ∙ there_known

  pub unique_values : UniqueValues d n.store
  unique_values file isn other f a b apart one two used unique same =
      let small = there_small file isn a one in
      let small_other = there_small file other b two in
      let home : file_of d (key_file (key file isn)) ≡ file_numbered d file = ap (file_of d) (file_of_key file isn small) ∙ same_file d file in
      no_value_twice (ground_of lent n) (laws_of capacity lent n k.sized) (seen lent n) (logged j.changes) k.invariant (key file isn) (key file other)
      (record {
        one = there_key file isn a one;
        two = there_key file other b two;
        unlike = key_test file isn file other small small_other ∙ rw (ne_eqb isn other apart) (and-false (eqb file file));
        same = file_of_key file isn small ∙ sym (file_of_key file other small_other);
      })
      a b f (there_slot file isn a one) (there_slot file other b two)
      (rw home (unique_place (file_numbered d file) f used unique)) (rw home same)
