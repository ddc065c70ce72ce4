-- Laws of keys: a key and its parts; which keys are the table's.
-- Assumes nothing.
use Rattle.std.specs.Prelude.{ℕ, zero, suc, ◌+◌, ◌-◌, ◌≤◌, ◌<◌, ◌≡◌, ◌&&◌, List, [], ◌∷◌, map, eqb, length, get_or, Option, Some, None}
use Rattle.std.proofs.Common.{div-add-mod', sym, ap, ◌∙◌, get_or-take, length-take-le, eqb-true, eq-eqb}
use native.Mathlib.Omega.{arith}
use Rattle.std.proofs.Math.Path.{refl}
use Rattle.std.proofs.Math.Bool.{true, false}
use Rattle.lists.specs.Tests.{within_inside, within_least, within_most, not_both, and_left, and_right, eqb_self, both_ways}
use Rattle.lists.specs.Folds.{any, all, Each, each_index, all_append}
use Rattle.lists.specs.Sift.{elem_all}
use Rattle.definition.specs.Table.{beyond, file_at, file_count, files_of}
use Rattle.definition.specs.Shape.{DefinitionShape}
use Rattle.definition.specs.declared.File.{File}
use Rattle.definition.specs.declared.Definition.{Definition}
use Rattle.layout.specs.Layout.{place, file_found, isn_found}
use Rattle.layout.specs.Laws.{place_found}
use Rattle.validity.specs.Validity.{valid}
use Rattle.validity.specs.Laws.{valid_at, place_own}
use Rattle.lists.specs.Numbers.{from_to, in_numbers, all_numbers}
use Rattle.lists.specs.Every.{any_front, any_behind}
use Rattle.lists.specs.Maps.{all_over, elem_map}
use Rattle.ground.specs.Keys.{isn_bound, key, key_file, key_isn, file_of, known, keys_of, keys, Known}

-- ---- a key and its parts
module _ (file isn : ℕ) (small : isn < isn_bound) where
  pub file_of_key : key_file (key file isn) ≡ file
  unfolding key key_file
  file_of_key = omega arith

  pub isn_of_key : key_isn (key file isn) ≡ isn
  unfolding key key_isn
  isn_of_key = omega arith

pub key_parts : (k : ℕ) → key (key_file k) (key_isn k) ≡ k
unfolding key key_file key_isn
key_parts k = div-add-mod' k isn_bound

pub key_isn_small : (k : ℕ) → key_isn k < isn_bound
unfolding key_isn
key_isn_small k = omega arith

-- different files or ISNs have different keys
pub keys_apart : (f i g j : ℕ) → i < isn_bound → j < isn_bound → key f i ≡ key g j → (f ≡ g) × (i ≡ j)
keys_apart f i g j a b e =
    (sym (file_of_key f i a) ∙ ap key_file e ∙ file_of_key g j b, sym (isn_of_key f i a) ∙ ap key_isn e ∙ isn_of_key g j b)

pub key_test : (f i g j : ℕ) → i < isn_bound → j < isn_bound → eqb (key f i) (key g j) ≡ (eqb f g && eqb i j)
key_test f i g j a b = both_ways (eqb (key f i) (key g j)) (eqb f g && eqb i j) apart alike
  where
    apart : eqb (key f i) (key g j) ≡ true → (eqb f g && eqb i j) ≡ true
    apart h =
        let e = keys_apart f i g j a b (eqb-true (key f i) (key g j) h) in
        rw (eq-eqb f g e.0, eq-eqb i j e.1)

    alike : (eqb f g && eqb i j) ≡ true → eqb (key f i) (key g j) ≡ true
    alike h =
        let e : f ≡ g = eqb-true f g (and_left (eqb f g) (eqb i j) h) in
        let n : i ≡ j = eqb-true i j (and_right (eqb f g) (eqb i j) h) in
        rw (e, n) (eqb_self (key g j))

pub known_file : (d : Definition) (k : ℕ) (r : Known d k) → file_of d (key_file k) ≡ file_at d r.at
unfolding file_of
known_file d k r = ap (file_found d) r.found

module _ (d : Definition) (s : DefinitionShape d) where
  pub known_found : (k : ℕ) → known d k ≡ true → Known d k
  unfolding known
  known_found k h = go (place d (key_file k)) refl h
    where
      go : (r : Option ℕ) → place d (key_file k) ≡ r → isn_found d r (key_isn k) ≡ true → Known d k
      go (Some i) e t = record {
        at = i;
        found = e;
        in_use = (place_found d s (key_file k) i e).0;
        number = (place_found d s (key_file k) i e).1;
        least = within_least 1 (file_at d i).max_isn (key_isn k) t;
        most = within_most 1 (file_at d i).max_isn (key_isn k) t;
      }
      go None e t = not_both false t refl

  pub known_here : (k i : ℕ) → place d (key_file k) ≡ Some i → 1 ≤ key_isn k → key_isn k ≤ (file_at d i).max_isn → known d k ≡ true
  unfolding known
  known_here k i e a b = rw e (within_inside 1 (file_at d i).max_isn (key_isn k) a b)

  -- ---- the list of all keys has them, and no others
  module _ (v : valid d ≡ true) where
    places : length (files_of d) ≡ file_count d
    places = length-take-le (file_count d) d.files (omega (arith, s.places))

    -- a file in use, with its number, and an ISN from 1 to its highest
    pub known_isn : (i isn : ℕ) → i < file_count d → 1 ≤ isn → isn ≤ (file_at d i).max_isn → known d (key (file_at d i).number isn) ≡ true
    known_isn i isn h a b =
        let small : isn < isn_bound = omega (arith, (valid_at d s v i h).isn_most) in
        let f = file_of_key (file_at d i).number isn small in
        let n = isn_of_key (file_at d i).number isn small in
        known_here (key (file_at d i).number isn) i (rw f (place_own d s v i h)) (rw n a) (rw n b)

    file_keys : (i : ℕ) → i < file_count d → all (known d) (map (key (file_at d i).number) (from_to 1 (file_at d i).max_isn)) ≡ true
    file_keys i h =
        all_over (key (file_at d i).number) (known d) (from_to 1 (file_at d i).max_isn)
        ∙ all_numbers (λ isn. known d (key (file_at d i).number isn)) ((file_at d i).max_isn + 1 - 1) 1 (λ m a b. known_isn i m h a (omega arith))

    all_known : (fs : List File) → Each (λ f. all (known d) (map (key f.number) (from_to 1 f.max_isn)) ≡ true) fs → all (known d) (keys_of fs) ≡ true
    all_known [] h = refl
    all_known (f ∷ fs) h = rw (all_append (known d) (map (key f.number) (from_to 1 f.max_isn)) (keys_of fs), h.0) (all_known fs h.1)

    has_key : (k : ℕ) (fs : List File) (i : ℕ) → i < length fs
        → any (eqb k) (map (key (get_or fs i beyond).number) (from_to 1 (get_or fs i beyond).max_isn)) ≡ true → any (eqb k) (keys_of fs) ≡ true
    has_key k [] i h t = absurd (omega arith)
    has_key k (f ∷ fs) zero h t = any_front (eqb k) (map (key f.number) (from_to 1 f.max_isn)) (keys_of fs) t
    has_key k (f ∷ fs) (suc i) h t = any_behind (eqb k) (map (key f.number) (from_to 1 f.max_isn)) (keys_of fs) (has_key k fs i (omega arith) t)

    pub keys_known : (k : ℕ) → any (eqb k) (keys d) ≡ known d k
    unfolding keys
    keys_known k = both_ways (any (eqb k) (keys_of (files_of d))) (known d k) inside listed
      where
        inside : any (eqb k) (keys_of (files_of d)) ≡ true → known d k ≡ true
        inside = elem_all (known d) k (keys_of (files_of d)) (all_known (files_of d) (each_index _ beyond (files_of d)
            (λ i h. let m : i < file_count d = omega (arith, places) in rw (get_or-take (file_count d) d.files i beyond m) (file_keys i m))))

        listed : known d k ≡ true → any (eqb k) (keys_of (files_of d)) ≡ true
        listed h =
            let r = known_found k h in
            let isn = in_numbers ((file_at d r.at).max_isn + 1 - 1) 1 (key_isn k) r.least (omega (arith, r.most)) in
            let whole : key (file_at d r.at).number (key_isn k) ≡ k = rw r.number (key_parts k) in
            let here = rw whole at (elem_map (key (file_at d r.at).number) (key_isn k) (from_to 1 (file_at d r.at).max_isn) isn) in
            has_key k (files_of d) r.at (omega (arith, places, r.in_use)) (rw (get_or-take (file_count d) d.files r.at beyond r.in_use) here)
