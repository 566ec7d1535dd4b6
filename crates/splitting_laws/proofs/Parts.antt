-- The parts of a set that a test tells apart.
use Rattle.std.proofs.Common.{◌≡◌, ◌≢◌, ◌+◌, Bool, not, List, ◌++◌, length, refl}
use Rattle.std.specs.Prelude.{filter}
use Rattle.std.specs.List.Sorted.{IsPermutation}
use Rattle.std.proofs.lemmas.List.Filters.{length-filter_both}
use Rattle.std.proofs.lemmas.List.Kept.{AllPairs-filter}
use Rattle.std.proofs.lemmas.List.Sorted.{IsPermutation-filter_both}
use Rattle.field_rules.specs.Lists.{AreDistinct}

module _ {A : Type 0} (p : A → Bool) (es : List A) where
  pub parts-length : length (filter p es) + length (filter (λ e. not (p e)) es) ≡ length es
  parts-length = length-filter_both p (λ e. not (p e)) (λ e. refl) es

  pub part-differ : AreDistinct es → AreDistinct (filter p es)
  part-differ differ = AllPairs-filter (λ a b. a ≢ b) p es differ

  -- the set is its parts, in another order
  pub parts-together : IsPermutation es (filter p es ++ filter (λ e. not (p e)) es)
  parts-together = IsPermutation-filter_both p (λ e. not (p e)) (λ e. refl) es
