-- A1, E1, N1 and N2 that no row of the response table refuses: the file and ISN that they are about are the table's; what stands there.
-- Assumes nothing.
use Rattle.std.specs.Prelude.{ℕ, zero, suc, ◌+◌, ◌-◌, ◌≤◌, ◌<◌, ◌≡◌, refl, Bool, false, ◌&&◌, List, [], ◌∷◌, ◌++◌, leb, length, get_or, Option, Some, None}
use Rattle.std.proofs.Common.{not-suc-le-zero, le_of_suc-le-suc, ◌∙◌, get_or-take}
use native.Mathlib.Omega.{arith}
use Rattle.std.proofs.Math.Bool.{true, not}
use Rattle.std.proofs.Math.Seq.{length-take-le}
use borrow.Author.Tests.{leb-true, not-false}
use Rattle.lists.specs.Tests.{cond, within_least, within_most, Outcome, holds, fails, outcome, not_both, and_left, and_right}
use Rattle.lists.specs.Folds.{Each}
use Rattle.definition.specs.Table.{beyond, file_at, file_count, files_of}
use Rattle.definition.specs.Shape.{DefinitionShape, file_shape_at}
use Rattle.definition.specs.declared.File.{File}
use Rattle.layout.specs.Layout.{store_size, place}
use Rattle.layout.specs.Laws.{place_found}
use Rattle.lists.specs.Numbers.{from_to, each_number}
use Rattle.search.specs.Search.{first_of, lowest}
use Rattle.store.specs.Store.{record_of}
use Rattle.store.proofs.Laws.{get_is}
use Rattle.search.specs.Laws.{lowest_found}
use Rattle.ground.specs.Keys.{isn_bound, key, file_of, known}
use Rattle.ground.proofs.Keys.{file_of_key, isn_of_key, known_here}
use Rattle.ground.specs.Store.{get}
use Rattle.ground.proofs.StoreLaws.{get_key}
use Rattle.nucleus.specs.Commands.{one_of, on_file, at_given_isn}
use Rattle.nucleus.specs.Nucleus.{Nucleus, Request}
use Rattle.nucleus.specs.Target.{is_file, is_isn, isn_in, file_place, file, part, record_at, is_free, last_given, free_isn, seeks, target, target_isn}
use Rattle.nucleus.specs.WellMade.{assigned_made}
use Rattle.nucleus.specs.Rows.{releases_all, file_unknown, isn_invalid, none_found, file_full}
use Rattle.nucleus.specs.declared.Command.TheVariants.{A1, E1, N1, N2}
use Rattle.history.specs.Kept.{definition_of}
use Rattle.history.specs.Accepted.{Accepted}

-- ---- the four commands that change a record
pub data Changes (r : Request) : Type 0 where
  replaces : r.command ≡ A1 → Changes r
  erases : r.command ≡ E1 → Changes r
  adds : r.command ≡ N1 → Changes r
  adds_there : r.command ≡ N2 → Changes r

-- a row that fails for a command which it is about
pub rest_fails : (a b : Bool) → a ≡ true → (a && b) ≡ false → b ≡ false
rest_fails a b t h = rw t at h

-- ---- an ISN of a file
pub record InFile (f : File) (isn : ℕ) : Type 0 where
  pub least : 1 ≤ isn
  pub most : isn ≤ f.max_isn

found_in : (f : File) (x : Option ℕ) → is_isn x ≡ true → ((m : ℕ) → x ≡ Some m → InFile f m) → InFile f (isn_in x)
found_in f (Some m) t h = h m refl
found_in f None t h = not_both false t refl

-- what `first_of` finds is one of the numbers that it looks through
first_in : (P : ℕ → Type 0) (p : ℕ → Bool) (l : List ℕ) → Each P l → (m : ℕ) → first_of p l ≡ Some m → P m
first_in P p [] h m e = absurd (let z : ◌≡◌ {A = ℕ} 0 1 = cc in omega arith)
first_in P p (x ∷ l) h m e = go (outcome (p x)) (first_in P p l h.1 m)
  where
    go : Outcome (p x) → (first_of p l ≡ Some m → P m) → P m
    go (holds t) later = let here : x ≡ m = cc (rw t at e) in rw (← here) h.0
    go (fails t) later = later (rw t at e)

each_append : (P : ℕ → Type 0) (xs ys : List ℕ) → Each P xs → Each P ys → Each P (xs ++ ys)
each_append P [] ys h i = i
each_append P (x ∷ xs) ys h i = (h.0, each_append P xs ys h.1 i)

-- "N1's marks at most the highest ISN"
assigned_most : (isns : List ℕ) (fs : List File) (i : ℕ) → i < length fs → assigned_made isns fs ≡ true → get_or isns i 0 ≤ (get_or fs i beyond).max_isn
assigned_most isns [] i h t = absurd (not-suc-le-zero h)
assigned_most [] (f ∷ fs) i h t = omega arith
assigned_most (m ∷ isns) (f ∷ fs) zero h t = leb-true m f.max_isn (and_left (leb m f.max_isn) (assigned_made isns fs) t)
assigned_most (m ∷ isns) (f ∷ fs) (suc i) h t = assigned_most isns fs i (le_of_suc-le-suc h) (and_right (leb m f.max_isn) (assigned_made isns fs) t)

file_there : (x : Option ℕ) → is_file x ≡ true → (i : ℕ) × (x ≡ Some i)
file_there (Some i) h = (i, refl)
file_there None h = not_both false h refl

-- ---- where the target lies
pub record Aim (r : Request) (n : Nucleus) : Type 0 where
  pub at : ℕ
  pub found : place (definition_of n) r.call.file ≡ Some at
  pub in_use : at < file_count (definition_of n)
  pub inside : InFile (file_at (definition_of n) at) (target_isn r n)
  pub small : target_isn r n < isn_bound
  pub known : known (definition_of n) (key r.call.file (target_isn r n)) ≡ true

module _ (r : Request) (n : Nucleus) where
  -- row 17
  file_known : one_of on_file r.command ≡ true → releases_all r n ≡ false → file_unknown r n ≡ false → is_file (file_place r n) ≡ true
  unfolding file_unknown
  file_known about one defined = not-false _ (rest_fails (one_of on_file r.command && not (releases_all r n)) _ (rw (about, one)) defined)

  -- rows 113 and 3: the given ISN, or the one that option `I` finds
  given_inside : one_of (N1 ∷ []) r.command ≡ false → one_of at_given_isn r.command ≡ true → releases_all r n ≡ false → isn_invalid r n ≡ false
      → none_found r n ≡ false → InFile (file r n) (target_isn r n)
  unfolding target isn_invalid none_found
  given_inside other at_given one valid some_found = go (outcome (seeks r n))
    where
      go : Outcome (seeks r n) → InFile (file r n) (target_isn r n)
      go (holds i) =
          rw (other, i)
          (found_in (file r n) (lowest (file r n) (part r n) r.call.isn) (not-false _ (rw (other, i) at some_found))
          (λ m e. let l = lowest_found (file r n) (part r n) r.call.isn m e in record { least = l.least; most = l.most }))
      go (fails i) =
          let t = not-false _ (rest_fails (one_of at_given_isn r.command && not (releases_all r n) && not (seeks r n)) _ (rw (at_given, one, i)) valid) in
          rw (other, i) (record { least = within_least 1 (file r n).max_isn r.call.isn t; most = within_most 1 (file r n).max_isn r.call.isn t })

  -- row 75: N1's is one of the numbers from 1 to the highest
  free_inside : one_of (N1 ∷ []) r.command ≡ true → last_given r n ≤ (file r n).max_isn → is_isn (target r n) ≡ true → InFile (file r n) (target_isn r n)
  unfolding target
  free_inside new most some_free =
      let top = (file r n).max_isn in
      let last = last_given r n in
      rw new
      (found_in (file r n) (free_isn r n) (rw new at some_free)
      (first_in (InFile (file r n)) (is_free r n) (from_to (last + 1) top ++ from_to 1 last)
      (each_append (InFile (file r n)) (from_to (last + 1) top) (from_to 1 last)
      (each_number (InFile (file r n)) (top + 1 - (last + 1)) (last + 1) (λ m a b. record { least = omega arith; most = omega arith }))
      (each_number (InFile (file r n)) (last + 1 - 1) 1 (λ m a b. record { least = omega arith; most = omega arith })))))

  module _ (s : DefinitionShape (definition_of n)) where
    aim_at : (i : ℕ) → place (definition_of n) r.call.file ≡ Some i → InFile (file r n) (target_isn r n) → Aim r n
    aim_at i e inside =
        let d = definition_of n in
        let isn = target_isn r n in
        let in_use = (place_found d s r.call.file i e).0 in
        let range : InFile (file_at d i) isn = rw e at inside in
        let small : isn < isn_bound = omega (arith, range.most, (file_shape_at d s i (omega arith)).small_max_isn) in
        record {
          at = i;
          found = e;
          in_use = in_use;
          inside = range;
          small = small;
          known = known_here d s (key r.call.file isn) i (rw (file_of_key r.call.file isn small) e) (rw (isn_of_key r.call.file isn small) range.least)
              (rw (isn_of_key r.call.file isn small) range.most);
        }

    module _ (a : Accepted r n) where
      -- a command about a given ISN, one of them
      pub aim_given : one_of (N1 ∷ []) r.command ≡ false → one_of at_given_isn r.command ≡ true → one_of on_file r.command ≡ true → releases_all r n ≡ false → Aim r n
      aim_given other at_given about one =
          let x = file_there (file_place r n) (file_known about one a.file) in
          aim_at x.0 x.1 (given_inside other at_given one a.isn a.found)

      -- N1
      aim_new : assigned_made n.state.last_assigned (files_of (definition_of n)) ≡ true → r.command ≡ N1 → Aim r n
      unfolding file_full
      aim_new assigned e =
          let new : one_of (N1 ∷ []) r.command ≡ true = rw e in
          let x = file_there (file_place r n) (file_known (rw e) (rw e) a.file) in
          aim_at x.0 x.1 (free_inside new (last_fits x.0 x.1) (not-false _ (rest_fails _ _ new a.free)))
        where
          last_fits : (i : ℕ) → place (definition_of n) r.call.file ≡ Some i → last_given r n ≤ (file r n).max_isn
          last_fits i e =
              let d = definition_of n in
              let in_use = (place_found d s r.call.file i e).0 in
              let long = length-take-le (file_count d) d.files (omega (arith, s.places)) in
              rw (e, ← (get_or-take (file_count d) d.files i beyond in_use)) (assigned_most n.state.last_assigned (files_of d) i (omega (arith, long)) assigned)

      pub aim : assigned_made n.state.last_assigned (files_of (definition_of n)) ≡ true → Changes r → Aim r n
      aim assigned (replaces e) = aim_given (rw e) (rw e) (rw e) (rw e)
      aim assigned (erases e) = aim_given (rw e) (rw e) (rw e) (rw e)
      aim assigned (adds e) = aim_new assigned e
      aim assigned (adds_there e) = aim_given (rw e) (rw e) (rw e) (rw e)

-- ---- what stands at an ISN of the call's file
module _ (r : Request) (n : Nucleus) (i isn : ℕ) (here : place (definition_of n) r.call.file ≡ Some i) where
  pub file_is : file_of (definition_of n) r.call.file ≡ file r n
  unfolding file_of
  file_is = rw here

  pub slot_is : isn < isn_bound → store_size (definition_of n) ≤ length n.store
      → get (definition_of n) n.store (key r.call.file isn) ≡ cond (record_at r n isn) (Some (record_of (file r n) (part r n) isn)) None
  slot_is small room =
      get_key (definition_of n) n.store room r.call.file isn i small here ∙ get_is _ _ isn ∙ rw here
