-- Numbers in ascending order that differ, and the elements of numbers.
use Rattle.std.proofs.Common.{◌≡◌, ◌≢◌, ℕ, ◌-◌, ◌<◌, ◌≤◌, List, length, map, get_or, arith, ap, ◌∙◌}
use Rattle.std.proofs.Math.ListN.{length-map}
use Rattle.std.proofs.lemmas.List.{get_or-map}
use Rattle.std.specs.List.{All}
use Rattle.field_rules.specs.Lists.{AreDistinct}
use Rattle.clmul_lanes.specs.declared.lane32.Lane32.{Lane32}
use Rattle.clmul_lanes.specs.Lane32.{bits_of, ops}

-- two neighbours that are equal
pub not_distinct : (xs : List ℕ) (i : ℕ) → 1 ≤ i → i < length xs → get_or xs (i - 1) 0 ≡ get_or xs i 0 → ¬ AreDistinct xs
not_distinct xs i low within same distinct = distinct (i - 1) i 0 (omega arith) within same

-- elements whose numbers aren't 0 are not the field's zero
pub nonzero : (es : List Lane32) → All (λ n. n ≢ 0) (map bits_of es) → All (λ e. e ≢ ops.zero) es
nonzero es elements k d k_in zero =
    let k_there : k < length (map bits_of es) = rw length-map k_in in
    elements k 0 k_there (get_or-map bits_of es k d 0 k_in ∙ ap bits_of zero)
