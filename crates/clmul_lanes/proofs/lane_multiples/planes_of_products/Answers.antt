use Rattle.std.proofs.Common.{◌∙◌, sym, map}
use Rattle.std.proofs.lemmas.Simd.{map-map}
use Rattle.field_rules.specs.Elements.{product}
use Rattle.clmul_lanes.specs.Planes.{byte_of}
use Rattle.clmul_lanes.proofs.PlaneLists.{four_planes}
use Rattle.clmul_lanes.proofs.lane_multiples.planes_of_products.Goals as goal

pub returns : goal.returns
returns c factor words fits tables each are =
    four_planes (map (λ w. product 32 factor w) words) c.plane_of_products.result c.plane_of_products-2.result c.plane_of_products-3.result c.plane_of_products-4.result
    (c.plane_of_products.ensures factor words fits tables each are ∙ sym (map-map (byte_of 0) (product 32 factor) words))
    (c.plane_of_products-2.ensures factor words fits tables each are ∙ sym (map-map (byte_of 1) (product 32 factor) words))
    (c.plane_of_products-3.ensures factor words fits tables each are ∙ sym (map-map (byte_of 2) (product 32 factor) words))
    (c.plane_of_products-4.ensures factor words fits tables each are ∙ sym (map-map (byte_of 3) (product 32 factor) words))
