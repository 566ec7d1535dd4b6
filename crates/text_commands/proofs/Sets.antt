-- Field elements and their numbers.
use Rattle.std.proofs.Common.{◌≡◌, ◌≢◌, ◌<◌, ◌^◌, List, length, map, get_or, arith, sym, ap, ◌∙◌}
use Rattle.std.proofs.Math.ListN.{length-map}
use Rattle.std.proofs.lemmas.List.{get_or-map}
use Rattle.std.specs.List.{All}
use Rattle.field_rules.specs.Lists.{AreDistinct}
use Rattle.clmul_lanes.specs.declared.lane32.Lane32.{Lane32}
use Rattle.clmul_lanes.specs.Lane32.{bits_of, ops}

-- elements whose numbers are above 0 are not the field's zero
pub nonzero : (es : List Lane32) → All (λ e. (0 < e) × (e < 2 ^ 32)) (map bits_of es) → All (λ e. e ≢ ops.zero) es
nonzero es elements k d k_in zero =
    let k_there : k < length (map bits_of es) = rw length-map k_in in
    let element = (elements k 0 k_there).0 in
    let none : get_or (map bits_of es) k 0 ≡ 0 = get_or-map bits_of es k d 0 k_in ∙ ap bits_of zero in
    omega (arith, element, none)

-- elements whose numbers differ differ
pub apart : (es : List Lane32) → AreDistinct (map bits_of es) → AreDistinct es
apart es distinct i j d before j_in same =
    let j_there : j < length (map bits_of es) = rw length-map j_in in
    let i_in : i < length es = omega arith in
    distinct i j 0 before j_there (get_or-map bits_of es i d 0 i_in ∙ ap bits_of same ∙ sym (get_or-map bits_of es j d 0 j_in))
