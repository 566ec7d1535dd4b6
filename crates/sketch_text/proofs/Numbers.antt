-- Field elements and their numbers.
use Rattle.std.proofs.Common.{◌<◌, ◌^◌, List, [], ◌∷◌, map}
use Rattle.std.specs.List.{All}
use Rattle.std.proofs.lemmas.List.Elements.{All-nil, All-cons}
use Rattle.clmul_lanes.specs.declared.lane32.Lane32.{Lane32}
use Rattle.clmul_lanes.specs.Lane32.{bits_of}

-- the number of an element has 32 bits
pub below : (es : List Lane32) → All (λ e. e < 2 ^ 32) (map bits_of es)
below [] = All-nil (λ e. e < 2 ^ 32)
below (e ∷ es) = All-cons (λ e. e < 2 ^ 32) (bits_of e) (map bits_of es) e.small (below es)
