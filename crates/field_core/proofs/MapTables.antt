-- The tables of a map, computed.
use Rattle.std.proofs.Common.{◌≡◌, ℕ, ◌*◌, ◌^◌, List, [], map, get_or, ap, ◌∙◌, arith}
use Rattle.std.specs.List.{range_with_len}
use Rattle.std.proofs.lemmas.List.FromFn.{get_or-map-range_with_len}
use Rattle.field_core.specs.LinearMaps.{AreTablesOf}

-- what f gives for each value of each nibble
abbrev pub tables_of : (ℕ → ℕ) → List (List ℕ)
tables_of f = map (λ i. map (λ j. f (j * 2 ^ (4 * i))) (range_with_len 0 16)) (range_with_len 0 8)

pub tables_of-are : (f : ℕ → ℕ) (tables : List (List ℕ)) → tables ≡ tables_of f → AreTablesOf f tables
tables_of-are f tables is i lt j below =
    ap (λ t. get_or (get_or t i []) j 0) is
    ∙ ap (λ t. get_or t j 0) (get_or-map-range_with_len (λ i. map (λ j. f (j * 2 ^ (4 * i))) (range_with_len 0 16)) 0 8 i i [] lt (omega arith))
    ∙ get_or-map-range_with_len (λ j. f (j * 2 ^ (4 * i))) 0 16 j j 0 below (omega arith)
