-- Sums of powers as weighted sums.
use Rattle.std.proofs.Common.{◌≡◌, ℕ, suc, List, [], ◌∷◌, refl, ap, ◌∙◌}
use Rattle.field_rules.specs.Ops.{Ops, IsRing, power}
use Rattle.sketch_rules.specs.PowerSums.{power_sum}
use Rattle.field_laws.proofs.Weights.{weighted}

module _ {A : Type 0} (ops : Ops A) (ring : IsRing ops) where
  -- each element with itself as its weight
  pub weighted-own : (k : ℕ) (xs : List A) → weighted ops ring (λ x. x) k xs ≡ power_sum ops (suc k) xs
  unfolding weighted power_sum power
  weighted-own k [] = refl
  weighted-own k (x ∷ xs) =
      ap (λ z. ops.plus z (weighted ops ring (λ y. y) k xs)) (ring.times_comm x (power ops x k))
      ∙ ap (ops.plus (ops.times (power ops x k) x)) (weighted-own k xs)
