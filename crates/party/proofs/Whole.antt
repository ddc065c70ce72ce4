-- The whole output, by where the items of a table end.
-- Assumes nothing.
use Rattle.std.specs.Prelude.{ℕ, zero, suc, ◌+◌, ◌-◌, ◌≤◌, ◌<◌, ◌≡◌, refl, Bool, true, false, List, [], ◌++◌, eqb, length, take, drop, replicate, Option, Some, None}
use Rattle.std.proofs.Common.{arith, sym, ap, subst, ◌∙◌}
use Rattle.std.proofs.lemmas.List.{take-append-drop}
use Rattle.lists.specs.Tests.{cond}
use Rattle.reading.specs.Grammar.{read_table}
use Rattle.nucleus.specs.Responses.{number}
use Rattle.nucleus.specs.Step.{SetUp, set_up, set_up_at}
use Rattle.output.specs.Output.{store_length, capacity, images_length, begun, output_at, output, bad}
use Rattle.party.proofs.Passing.{none_ends}
use Rattle.party.proofs.More.{table_more}

-- set-up on what `partycall` lends
abbrev pub made : List ℕ → SetUp
made table = set_up capacity (replicate store_length 0) (replicate capacity 0) (replicate images_length 0) table

bad_made : (table calls : List ℕ) → (read_table table).end ≡ None → begun (made table) calls ≡ bad
unfolding set_up
bad_made table calls h = rw h refl

pub whole : (xs : List ℕ) (n : ℕ) → ((e : ℕ) → (read_table xs).end ≡ Some e → e ≡ n) → output xs ≡ begun (made (take n xs)) (drop n xs)
unfolding output
whole xs n found = go (read_table xs).end refl
  where
    front : (w : Option ℕ) → (read_table (take n xs)).end ≡ w → (read_table xs).end ≡ None → bad ≡ begun (made (take n xs)) (drop n xs)
    front (Some e) h b =
        let more : (read_table (take n xs ++ drop n xs)).end ≡ Some e = table_more (take n xs) (drop n xs) e h in
        let there : (read_table xs).end ≡ Some e = subst (λ l. (read_table l).end ≡ Some e) (take-append-drop n xs) more in
        none_ends e (sym b ∙ there)
    front None h b = sym (bad_made (take n xs) (drop n xs) h)

    go : (w : Option ℕ) → (read_table xs).end ≡ w → output_at (read_table xs).end xs ≡ begun (made (take n xs)) (drop n xs)
    go (Some e) h = rw (h, found e h) refl
    go None h = rw h (front (read_table (take n xs)).end refl h)
