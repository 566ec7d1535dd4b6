use Rattle.std.proofs.Common.{rules, ◌≡◌, ℕ, zero, suc, ◌<◌, ◌^◌, [], ◌∷◌, Fits, w32, map, get_or, slice_index, sym, subst, ap, ◌∙◌, arith}
use Rattle.std.specs.Simd.Lanes.{Each1}
use Rattle.field_rules.specs.Elements.{remainder}
use Rattle.clmul_lanes.proofs.FourLanes.{fold_of, twice_is, twice_below}
use Rattle.clmul_lanes.proofs.products.reduce4.Goals as goal

pub overflow_cast-result : goal.overflow_cast-result
overflow_cast-result c =
    let p0 : slice_index c.args.p 0 < 2 ^ 64 = search rules in
    let p1 : slice_index c.args.p 1 < 2 ^ 64 = search rules in
    let p2 : slice_index c.args.p 2 < 2 ^ 64 = search rules in
    let p3 : slice_index c.args.p 3 < 2 ^ 64 = search rules in
    subst (Each1 (Fits w32)) (sym (c.folded4.ensures ∙ ap (map fold_of) c.folded4-once.ensures))
    (record { fits = twice_below _ p0 }, (record { fits = twice_below _ p1 }, (record { fits = twice_below _ p2 }, (record { fits = twice_below _ p3 }, tt))))

pub returns : goal.returns
returns c k lt =
    let p0 : slice_index c.args.p 0 < 2 ^ 64 = search rules in
    let p1 : slice_index c.args.p 1 < 2 ^ 64 = search rules in
    let p2 : slice_index c.args.p 2 < 2 ^ 64 = search rules in
    let p3 : slice_index c.args.p 3 < 2 ^ 64 = search rules in
    ap (λ t. get_or (map (λ x. x) t) k 0) (c.folded4.ensures ∙ ap (map fold_of) c.folded4-once.ensures)
    ∙ each (slice_index c.args.p) p0 p1 p2 p3 k lt
  where
    each : (p : ℕ → ℕ) → p 0 < 2 ^ 64 → p 1 < 2 ^ 64 → p 2 < 2 ^ 64 → p 3 < 2 ^ 64 → (k : ℕ) → k < 4
        → get_or (map (λ x. x) (map fold_of (map fold_of (p 0 ∷ p 1 ∷ p 2 ∷ p 3 ∷ [])))) k 0 ≡ remainder 32 32 (p k)
    each p p0 p1 p2 p3 zero lt = twice_is (p 0) p0
    each p p0 p1 p2 p3 (suc zero) lt = twice_is (p 1) p1
    each p p0 p1 p2 p3 (suc (suc zero)) lt = twice_is (p 2) p2
    each p p0 p1 p2 p3 (suc (suc (suc zero))) lt = twice_is (p 3) p3
    each p p0 p1 p2 p3 (suc (suc (suc (suc k)))) lt = absurd (omega arith)
