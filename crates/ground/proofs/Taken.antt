-- Whether a unique value is taken: what the abstract machine asks (`taken`) is `elsewhere` in the file's part of the store, or `image_has`, of each
-- unique field that the change judges.
-- Assumes nothing.
use Rattle.std.specs.Prelude.{ℕ, ◌≤◌, ◌<◌, ◌≡◌, Bool, not, ◌&&◌, ◌||◌, List, eqb, length, Some, None}
use Rattle.std.proofs.Common.{arith, sym, ap, ◌∙◌, eqb-true, ne_eqb}
use Rattle.std.proofs.Math.Path.{refl}
use Rattle.std.proofs.Math.Bool.{true, false}
use Rattle.std.proofs.lemmas.Bool.{eqb-false, not-true}
use Rattle.lists.specs.Tests.{Outcome, holds, fails, outcome, not_both, eqb_self, eqbs_self, and_left, and_right, both_ways, eqbs_true}
use Rattle.lists.specs.Folds.{any, any_agree, any_true}
use Rattle.lists.specs.Sift.{any_elem}
use Rattle.definition.specs.Table.{file_at, field_count}
use Rattle.definition.specs.Shape.{FileShape, DefinitionShape, file_shape_at}
use Rattle.definition.specs.declared.File.{File}
use Rattle.definition.specs.declared.Definition.{Definition}
use Rattle.records.specs.Records.{field_offset, record_length}
use Rattle.layout.specs.Layout.{store_size, image_length}
use Rattle.validity.specs.Validity.{valid}
use Rattle.validity.specs.Laws.{valid_at}
use Rattle.entries.specs.Entries.{entries}
use Rattle.store.specs.Store.{get as get_record, field_value, file_part}
use Rattle.search.specs.Search.{elsewhere}
use Rattle.store.proofs.Laws.{some_has, has_fits, fits_least, fits_most}
use Rattle.search.specs.Laws.{Elsewhere, elsewhere_true, elsewhere_false}
use Rattle.images.specs.Images.{image_has}
use Rattle.transactions.specs.Slots.{Slot}
use Rattle.transactions.specs.Machine.{held_by_other, clash, taken}
use Rattle.lists.specs.Every.{any_each, each_with, any_swap, any_or}
use Rattle.ground.specs.Keys.{isn_bound, key, key_file, key_isn, file_of, keys, Known}
use Rattle.ground.proofs.Keys.{key_parts, file_of_key, isn_of_key, known_file, known_isn, keys_known}
use Rattle.ground.specs.Store.{get}
use Rattle.ground.proofs.StoreLaws.{get_is}
use Rattle.ground.specs.Queue.{queue_of}
use Rattle.ground.specs.Ground.{Updates, ground, machine, uniques}
use Rattle.ground.proofs.Unique.{has_value, uniques_in_use, clash_is, images_clash}

elem_any : (p : ℕ → Bool) (n : ℕ) (l : List ℕ) → any (eqb n) l ≡ true → p n ≡ true → any p l ≡ true
elem_any p n l h t = go (outcome (any p l))
  where
    go : Outcome (any p l) → any p l ≡ true
    go (holds e) = e
    go (fails e) = not_both (p n) t (any_elem p n l e h)

-- a slot that has the value has a record
pub record Holds (f : File) (j : ℕ) (v : List ℕ) (x : Slot) : Type 0 where
  pub bytes : List ℕ
  pub there : x ≡ Some bytes
  pub has : field_value f j bytes ≡ v

has_holds : (f : File) (j : ℕ) (v : List ℕ) (x : Slot) → has_value f j v x ≡ true → Holds f j v x
has_holds f j v None h = not_both false h refl
has_holds f j v (Some b) h = record { bytes = b; there = refl; has = sym (eqbs_true v (field_value f j b) h) }

module _ (d : Definition) (s : DefinitionShape d) (valid_d : valid d ≡ true) (store : List ℕ) (long : store_size d ≤ length store) (k : ℕ) (home : Known d k) where
  abbrev f : File
  f = file_at d home.at

  abbrev part : List ℕ
  part = file_part d home.at store

  -- another key of the file
  abbrev beside : ℕ → Bool
  beside i = not (eqb k i) && eqb (key_file k) (key_file i)

  -- what stands there is what stands in the part
  get_beside : (i : ℕ) → key_file i ≡ key_file k → get d store i ≡ get_record f part (key_isn i)
  get_beside i e = get_is d store long i ∙ rw (e, home.found)

  module _ (j : ℕ) (in_use : j < field_count f) (v : List ℕ) where
    abbrev seen : ℕ → Bool
    seen i = beside i && has_value f j v (get d store i)

    found_beside : any seen (keys d) ≡ true → elsewhere f part j (key_isn k) v ≡ true
    found_beside h = go (any_true seen (keys d) h) (outcome (elsewhere f part j (key_isn k) v))
      where
        there : (i : ℕ) → seen i ≡ true → Elsewhere f part j (key_isn k) v
        there i t =
            let both = and_left (beside i) (has_value f j v (get d store i)) t in
            let file : key_file k ≡ key_file i = eqb-true (key_file k) (key_file i) (and_right (not (eqb k i)) (eqb (key_file k) (key_file i)) both) in
            let unlike = eqb-false k i (not-true (eqb k i) (and_left (not (eqb k i)) (eqb (key_file k) (key_file i)) both)) in
            let r = has_holds f j v (get d store i) (and_right (beside i) (has_value f j v (get d store i)) t) in
            record {
              other = key_isn i;
              bytes = r.bytes;
              apart = λ e. unlike (sym (key_parts k) ∙ rw (file, ← e) (key_parts i));
              there = sym (get_beside i (sym file)) ∙ r.there;
              has = r.has;
            }

        go : (i : ℕ) × (seen i ≡ true) → Outcome (elsewhere f part j (key_isn k) v) → elsewhere f part j (key_isn k) v ≡ true
        go r (holds e) = e
        go r (fails e) = absurd (elsewhere_false f part j (key_isn k) v e in_use (there r.0 r.1))

    beside_found : Elsewhere f part j (key_isn k) v → any seen (keys d) ≡ true
    beside_found w =
        let fits = has_fits f part w.other (some_has f part w.other w.bytes w.there) in
        let i = key f.number w.other in
        let small : w.other < isn_bound = omega (arith, fits_most f part w.other fits, (valid_at d s valid_d home.at home.in_use).isn_most) in
        let known_i = known_isn d s valid_d home.at w.other home.in_use (fits_least f part w.other fits) (fits_most f part w.other fits) in
        let file : key_file i ≡ key_file k = file_of_key f.number w.other small ∙ home.number in
        let isn : key_isn i ≡ w.other = isn_of_key f.number w.other small in
        let unlike : eqb k i ≡ false = ne_eqb k i (λ e. w.apart (sym isn ∙ sym (ap key_isn e))) in
        let here : get d store i ≡ Some w.bytes = get_beside i file ∙ ap (get_record f part) isn ∙ w.there in
        elem_any seen i (keys d) (keys_known d s valid_d i ∙ known_i) (rw (unlike, file, eqb_self (key_file k), here, w.has) (eqbs_self v))

    pub elsewhere_is : any seen (keys d) ≡ elsewhere f part j (key_isn k) v
    elsewhere_is = both_ways (any seen (keys d)) (elsewhere f part j (key_isn k) v) found_beside (λ h. beside_found (elsewhere_true f part j (key_isn k) v h).1)

  module _ (U : Updates) (lent : List ℕ) (c : U.Update) (r : List ℕ) (wide : length r ≡ record_length f) where
    abbrev value : ℕ → List ℕ
    value j = field_value f j r

    at_home : file_of d (key_file k) ≡ f
    at_home = known_file d k home

    shape : FileShape (file_of d (key_file k))
    shape = rw at_home (file_shape_at d s home.at (omega (arith, home.in_use)))

    wide_home : length r ≡ record_length (file_of d (key_file k))
    wide_home = wide ∙ sym (ap record_length at_home)

    clash_home : (x : Slot) → clash (ground d U lent) c (key_file k) r x ≡ any (λ j. U.judges c j && has_value f j (value j) x) (uniques f)
    clash_home x = clash_is d U lent k shape c r wide_home x ∙ ap (λ (g : File). any (λ j. U.judges c j && has_value g j (field_value g j r) x) (uniques g)) at_home

    -- the records of the file
    pub store_clash : any (λ i. beside i && clash (ground d U lent) c (key_file k) r (get d store i)) (keys d)
        ≡ any (λ j. U.judges c j && elsewhere f part j (key_isn k) (value j)) (uniques f)
    store_clash =
        any_agree _ _ (λ i. ap (λ b. beside i && b) (clash_home (get d store i))) (keys d)
        ∙ any_swap beside (U.judges c) (λ j i. has_value f j (value j) (get d store i)) (keys d) (uniques f)
        ∙ any_each _ _ (uniques f) (each_with _ _ (λ j h. ap (λ b. U.judges c j && b) (elsewhere_is j h (value j))) (uniques f) (uniques_in_use f))

    -- "it counts as taken while another record of the file has it in that field, or an image of another user's changed entry in that file has it there"
    pub taken_is : (u : ℕ) (words images : List ℕ) (count : ℕ) → held_by_other u k (queue_of d words images count) ≡ false
        → taken (ground d U lent) u k c (Some r) (machine d U lent store words images count)
        ≡ any (λ j. U.judges c j && (elsewhere f part j (key_isn k) (value j) || image_has (entries words count) images (image_length d) u (key_file k) (field_offset f j) (value j))) (uniques f)
    unfolding taken
    taken_is u words images count free =
        rw (store_clash, images_clash d U lent k shape c r wide_home u words images count free, at_home)
        (sym (any_or _ _ (uniques f)) ∙ any_agree _ _ (λ j. spread (U.judges c j) _ _) (uniques f))
      where
        spread : (a b e : Bool) → (a && b || a && e) ≡ (a && (b || e))
        spread true b e = refl
        spread false b e = refl
