-- An entry judged by the table is judged as by the files, where the definition is valid.
-- Assumes nothing.
use Rattle.std.specs.Prelude.{ℕ, zero, suc, ◌-◌, ◌≤◌, ◌<◌, ◌≡◌, refl, Bool, true, false, List, [], ◌∷◌, ltb, length, get_or, Option, Some, None}
use Rattle.std.proofs.Common.{suc-le-suc, not-suc-le-zero, le_of_suc-le-suc, arith, sym, ap, ◌∙◌, get_or-take, length-take-le, eq-eqb, ne_eqb, ltb-true, ltb-false}
use Rattle.std.proofs.Math.ListN.{get_or-eq_default}
use Rattle.lists.specs.Tests.{Outcome, holds, fails, outcome, within, within_inside, and-false}
use Rattle.lists.specs.Folds.{all}
use Rattle.definition.specs.Table.{beyond, file_at, file_count, files_of}
use Rattle.definition.specs.Shape.{DefinitionShape}
use Rattle.definition.specs.declared.File.{File}
use Rattle.definition.specs.declared.Definition.{Definition}
use Rattle.layout.specs.Layout.{place, isn_found}
use Rattle.layout.specs.Laws.{place_found, place_nowhere}
use Rattle.validity.specs.Validity.{valid}
use Rattle.validity.specs.Laws.{valid_at, numbers_apart}
use Rattle.entries.specs.declared.Entry.{Entry}
use Rattle.nucleus.specs.Users.{is_active, fresh_user}
use Rattle.nucleus.specs.Nucleus.{max_users}
use Rattle.nucleus.specs.WellMade.{entry_made}
use Rattle.nucleus.specs.declared.User.{User}
use Rattle.nucleus.specs.declared.State.{State}
use Rattle.entry_tables.specs.Tables.{highest_isn, highest_isns, entry_fits}
use Rattle.entry_tables.specs.Turns.{within_nothing, length_highest, highest_at}

-- ---- the first of some files that has a number
abbrev Has : List File → ℕ → ℕ → Type 0
Has fs n i = (get_or fs i beyond).number ≡ n

highest_first : (fs : List File) (n i : ℕ) → i < length fs → Has fs n i → ((k : ℕ) → k < i → Has fs n k → ⊥) → highest_isn fs n ≡ (get_or fs i beyond).max_isn
highest_first [] n i h e apart = absurd (not-suc-le-zero h)
highest_first (f ∷ fs) n zero h e apart = rw (eq-eqb f.number n e)
highest_first (f ∷ fs) n (suc i) h e apart =
    rw (ne_eqb f.number n (apart zero (omega arith))) (highest_first fs n i (le_of_suc-le-suc h) e (λ k b. apart (suc k) (suc-le-suc b)))

highest_nowhere : (fs : List File) (n : ℕ) → ((k : ℕ) → k < length fs → Has fs n k → ⊥) → highest_isn fs n ≡ 0
highest_nowhere [] n none = refl
highest_nowhere (f ∷ fs) n none = rw (ne_eqb f.number n (none zero (omega arith))) (highest_nowhere fs n (λ k b. none (suc k) (suc-le-suc b)))

-- ---- files of a valid definition
module _ (d : Definition) (s : DefinitionShape d) (v : valid d ≡ true) where
  many : length (files_of d) ≡ file_count d
  many = length-take-le (file_count d) d.files (omega (arith, s.places))

  file_of : (i : ℕ) → i < file_count d → get_or (files_of d) i beyond ≡ file_at d i
  file_of i h = get_or-take (file_count d) d.files i beyond h

  -- a number that no file has, also one past the table
  none_highest : (n : ℕ) → place d n ≡ None → get_or (highest_isns d) n 0 ≡ 0
  none_highest n e = go (outcome (ltb n 17))
    where
      none : (k : ℕ) → k < length (files_of d) → Has (files_of d) n k → ⊥
      none k h q =
          let inside : k < file_count d = omega (arith, many) in
          place_nowhere d s n k e inside (ap (λ f. f.number) (sym (file_of k inside)) ∙ q)

      go : Outcome (ltb n 17) → get_or (highest_isns d) n 0 ≡ 0
      go (holds t) = highest_at (files_of d) n (ltb-true n 17 t) ∙ highest_nowhere (files_of d) n none
      go (fails t) = get_or-eq_default (highest_isns d) 0 (omega (arith, length_highest (files_of d), ltb-false n 17 t))

  place_highest : (n i : ℕ) → place d n ≡ Some i → get_or (highest_isns d) n 0 ≡ (file_at d i).max_isn
  place_highest n i e =
      let found = place_found d s n i e in
      let small : n < 17 = omega (arith, (valid_at d s v i found.0).number_most, found.1) in
      let here : Has (files_of d) n i = ap (λ f. f.number) (file_of i found.0) ∙ found.1 in
      highest_at (files_of d) n small
      ∙ highest_first (files_of d) n i (omega (arith, many, found.0)) here (λ k b q. numbers_apart d s v k i b found.0 (sym (ap (λ f. f.number) (file_of k (omega (arith, found.0)))) ∙ q ∙ sym found.1))
      ∙ ap (λ f. f.max_isn) (file_of i found.0)

  isn_judged : (n isn : ℕ) → within 1 (get_or (highest_isns d) n 0) isn ≡ isn_found d (place d n) isn
  isn_judged n isn = go (place d n) refl
    where
      go : (r : Option ℕ) → place d n ≡ r → within 1 (get_or (highest_isns d) n 0) isn ≡ isn_found d r isn
      go (Some i) e = rw (place_highest n i e)
      go None e = rw (none_highest n e) (within_nothing isn)

-- ---- entries
all_agree : {A : Type 0} (p r : A → Bool) → ((x : A) → p x ≡ r x) → (l : List A) → all p l ≡ all r l
all_agree p r h [] = refl
all_agree p r h (x ∷ l) = rw (h x, all_agree p r h l)

pub entries_judged : (s : State) → DefinitionShape s.definition → valid s.definition ≡ true → (es : List Entry)
    → all (entry_fits (highest_isns s.definition) s.users) es ≡ all (entry_made s) es
unfolding entry_fits
entries_judged s shape v es = all_agree (entry_fits (highest_isns s.definition) s.users) (entry_made s) each es
  where
    each : (e : Entry) → entry_fits (highest_isns s.definition) s.users e ≡ entry_made s e
    each e = rw (isn_judged s.definition shape v e.file e.isn)

-- ---- one entry, as code judges it: its ISN, then its user
module _ (highest : List ℕ) (users : List User) (e : Entry) where
  pub unfit_isn : within 1 (get_or highest e.file 0) e.isn ≡ false → entry_fits highest users e ≡ false
  unfolding entry_fits
  unfit_isn e₁ = rw e₁

  pub unfit_user : within 1 max_users e.user ≡ false → entry_fits highest users e ≡ false
  unfolding entry_fits
  unfit_user e₁ = rw e₁ (and-false (within 1 (get_or highest e.file 0) e.isn))

  pub fit_by_user : within 1 (get_or highest e.file 0) e.isn ≡ true → 1 ≤ e.user → e.user ≤ max_users → entry_fits highest users e ≡ is_active (get_or users (e.user - 1) fresh_user)
  unfolding entry_fits
  fit_by_user e₁ least most = rw (e₁, within_inside 1 max_users e.user least most)
