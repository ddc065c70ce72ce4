-- The ground has the laws that `transactions` asks of it.
-- Assumes nothing.
use Rattle.std.specs.Prelude.{ℕ, ◌≡◌, true, List}
use Rattle.definition.specs.Shape.{DefinitionShape}
use Rattle.definition.specs.declared.Definition.{Definition}
use Rattle.validity.specs.Validity.{valid}
use Rattle.transactions.specs.Machine.{Laws}
use Rattle.ground.proofs.Keys.{keys_known}
use Rattle.ground.proofs.StoreLaws.{get_put, get_other, get_fit}
use Rattle.ground.proofs.Fresh.{get_fresh_store}
use Rattle.ground.specs.Ground.{Updates, ground, UpdateLaws}

-- then requirement 3's argument applies
pub laws : (d : Definition) → DefinitionShape d → valid d ≡ true → (U : Updates) → UpdateLaws d U → (lent : List ℕ) → Laws (ground d U lent)
laws d s v U L lent = record {
  empty = get_fresh_store d s lent;
  get_put = get_put d s;
  get_other = λ store k x j h. get_other d s store k x h j;
  get_fit = λ store k h. get_fit d s store k (rw (keys_known d s v k) at h);
  may_key = λ c k x h. rw (keys_known d s v k) (L.may_known c k x h);
  may_fit = L.may_fit;
  kept = L.kept;
}
