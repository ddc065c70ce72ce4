-- What the journal does to its changes is what the abstract machine's log does to them.
-- Assumes nothing.
use Rattle.std.specs.Prelude.{ℕ, ◌≡◌, refl, Bool, true, false, not, List, [], ◌∷◌, ◌++◌, map, eqb}
use Rattle.std.proofs.Math.Path.{sym}
use Rattle.std.proofs.Common.{ap}
use Rattle.std.proofs.lemmas.List.{map-append}
use Rattle.lists.specs.Sift.{keep, sift}
use Rattle.transactions.specs.Machine.{Ground, change, end, back_out, log, strike, closed}
use Rattle.ground.specs.Keys.{key}
use Rattle.ground.specs.Ground.{ground}
use Rattle.definition.specs.declared.Definition.{Definition}
use Rattle.claim.specs.Journal.{Change, Update, strikes, commits}
use Rattle.history.specs.Updates.{updates, as_change, logged}

module _ (d : Definition) (lent : List ℕ) where
  abbrev G : Ground
  G = ground d (updates d) lent

  logged_struck : (u : ℕ) (cs : List Change) → strike G (λ v. eqb v u) (logged cs) ≡ logged (sift (λ c. not (strikes u c)) cs)
  logged_struck u [] = refl
  logged_struck u (c ∷ cs) = go (not (strikes u c)) (logged_struck u cs)
    where
      go : (b : Bool) → strike G (λ v. eqb v u) (logged cs) ≡ logged (sift (λ c. not (strikes u c)) cs)
          → keep b (as_change c) (strike G (λ v. eqb v u) (logged cs)) ≡ logged (keep b c (sift (λ c. not (strikes u c)) cs))
      go true i = ap (λ l. as_change c ∷ l) i
      go false i = i

  logged_commits : (u : ℕ) (cs : List Change) → map (closed G u) (logged cs) ≡ logged (map (commits u) cs)
  logged_commits u [] = refl
  logged_commits u (c ∷ cs) = ap (λ l. as_change (commits u c) ∷ l) (logged_commits u cs)

  pub logged_back_out : (u : ℕ) (cs : List Change) → log G (back_out u) (logged cs) ≡ logged (sift (λ c. not (strikes u c)) cs)
  unfolding log
  logged_back_out = logged_struck

  pub logged_end : (u : ℕ) (cs : List Change) → log G (end u) (logged cs) ≡ logged (map (commits u) cs)
  unfolding log
  logged_end = logged_commits

  pub logged_change : (user file isn : ℕ) (update : Update) (cs : List Change)
      → log G (change user (key file isn) (record { file = file; update = update })) (logged cs)
      ≡ logged (cs ++ record { user = user; file = file; isn = isn; update = update; uncommitted = true } ∷ [])
  unfolding log
  logged_change user file isn update cs = sym (map-append as_change cs _)
