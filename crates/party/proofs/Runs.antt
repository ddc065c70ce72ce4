-- A whole run: a table is read and set up, and then its calls are served, or the input is bad.
-- Assumes nothing.
use Rattle.std.specs.Prelude.{Option, None, Some, IfSome, eqb, false}
use Rattle.std.proofs.Common.{◌≡◌, ℕ, zero, suc, ◌+◌, ◌-◌, ◌^◌, ◌≤◌, ◌<◌, refl, List, [], arith, length, take, drop, sym, ap, ◌∙◌, subst, length-drop, ne_eqb}
use Rattle.std.specs.Io.KnownBytes.{Appends}
use Rattle.reading.specs.Grammar.{read_from, read_table}
use Rattle.nucleus.specs.Responses.{number}
use Rattle.nucleus.specs.Nucleus.{Nucleus}
use Rattle.nucleus.specs.Step.{SetUp, set_up}
use Rattle.output.specs.Output.{bad, begun, output}
use Rattle.party.proofs.Whole.{made, whole}
use Rattle.party.specs.Serving.{TableRead, TableFound, lines_of}

no_table : number (made []).response ≡ 0 → ⊥
unfolding set_up read_table read_from
no_table q = omega (arith, q)

module _ (xs : List ℕ) (n : ℕ) (table : List ℕ) (front : take n table ≡ take n xs) (only : (e : ℕ) → (read_table xs).end ≡ Some e → e ≡ n) where
  as_read : output xs ≡ begun (made (take n table)) (drop n xs)
  as_read = whole xs n only ∙ ap (λ l. begun (made l) (drop n xs)) (sym front)

  refused : (number (made (take n table)).response ≡ 0 → ⊥) → output xs ≡ bad
  refused h = as_read ∙ rw (ne_eqb (number (made (take n table)).response) 0 h) refl

  served : number (made (take n table)).response ≡ 0 → output xs ≡ lines_of (drop n xs) (made (take n table)).nucleus
  served h = as_read ∙ rw h refl

pub run_missing : (r₀ left : Option (List ℕ)) (table : List ℕ) (a b : Option (List ℕ)) → IfSome r₀ (λ xs. TableFound xs left None table) → Appends a b bad
    → IfSome r₀ (λ xs. length xs < 2 ^ 64 → Appends a b (output xs))
run_missing None left table a b t w = tt
run_missing (Some xs) left table a b t w = λ short. subst (Appends a b) (sym (refused xs 0 table refl (λ e q. absurd (t e q)) no_table)) w

pub run_refused : (r₀ left : Option (List ℕ)) (n : ℕ) (table : List ℕ) (s : SetUp) (a b : Option (List ℕ)) → IfSome r₀ (λ xs. TableRead xs left n table) → s ≡ made (take n table)
    → (number s.response ≡ 0 → ⊥) → Appends a b bad → IfSome r₀ (λ xs. length xs < 2 ^ 64 → Appends a b (output xs))
run_refused None left n table s a b t e h w = tt
run_refused (Some xs) left n table s a b t e h w = λ short.
    subst (Appends a b) (sym (refused xs n table t.0 t.1 (subst (λ s. number s.response ≡ 0 → ⊥) e h))) w

pub run_served : (r₀ left : Option (List ℕ)) (n : ℕ) (table : List ℕ) (s : SetUp) (a b : Option (List ℕ)) → IfSome r₀ (λ xs. TableRead xs left n table) → s ≡ made (take n table)
    → number s.response ≡ 0 → IfSome left (λ ys. length ys < 2 ^ 64 → Appends a b (lines_of ys s.nucleus)) → IfSome r₀ (λ xs. length xs < 2 ^ 64 → Appends a b (output xs))
run_served None left n table s a b t e h w = tt
run_served (Some xs) left n table s a b t e h w = λ short.
    let good : number (made (take n table)).response ≡ 0 = subst (λ s. number s.response ≡ 0) e h in
    let calls = subst (λ r. IfSome r (λ ys. length ys < 2 ^ 64 → Appends a b (lines_of ys s.nucleus))) t.2 w in
    subst (Appends a b) (sym (served xs n table t.0 t.1 good ∙ ap (λ s. lines_of (drop n xs) s.nucleus) (sym e))) (calls (omega (arith, short, length-drop n xs)))
