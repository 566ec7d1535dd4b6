-- The weights of a set whose sums are 0, .., 0, 1.
use Rattle.std.proofs.Common.{◌≡◌, ◌≢◌, ◌⊎◌, inl, inr, ℕ, suc, ◌-◌, ◌<◌, List, [], ◌∷◌, length, get_or, sym, ap, subst, ◌∙◌, arith}
use Rattle.std.specs.List.{All}
use Rattle.field_rules.specs.Lists.{AreDistinct}
use Rattle.field_rules.specs.Ops.{Ops, IsRing}
use Rattle.field_rules.specs.Fields.{IsField}
use Rattle.poly_rules.specs.Polynomials.{IsMonic, value_at, product_of}
use Rattle.poly_rules.specs.Roots.{IsRoot}
use Rattle.field_laws.proofs.RingFacts.{times_zero, zero_times, same_of_sum}
use Rattle.sequence_laws.specs.Sequences.{weighted, IsUnit}
use Rattle.sequence_laws.proofs.Weighing.{weighted-zero, lone_weight}
use Rattle.poly_laws.proofs.Values.{value_at-same}
use Rattle.poly_laws.proofs.Roots.{quotient_at, quotient_at-monic, factor_of_root, value_at-factored}
use Rattle.recurrence_laws.proofs.Applied.{dot_of-top}
use Rattle.sequence_laws.proofs.Weighing.{weighted-plus}
use Rattle.sequence_laws.specs.Sequences.{sequence_of}
use Rattle.sequence_laws.proofs.Sequences.{sequence_of-at, dot_of-from}

module _ {A : Type 0} (ops : Ops A) (ring : IsRing ops) where
  module _ (bits : ℕ) (field : IsField ops bits) where
    -- as many sums as elements tell the weights
    pub weights_only : (v w : A → A) (es : List A) → AreDistinct es → ((k : ℕ) → k < length es → weighted ops v k es ≡ weighted ops w k es)
        → All (λ e. v e ≡ w e) es
    weights_only v w es differ same i d lt =
        same_of_sum ops ring (v (get_or es i d)) (w (get_or es i d))
        (lone_weight ops ring field.no_zero_divisor (λ e. ops.plus (v e) (w e)) es differ
        (λ k within. weighted-plus ops ring v w k es ∙ ap (λ z. ops.plus z (weighted ops w k es)) (same k within) ∙ ring.plus_self (weighted ops w k es))
        i d lt)

    -- they are nowhere zero
    pub unit_nonzero : (u : A → A) (f es : List A) → IsMonic ops (length es) f → All (IsRoot ops f) es → IsUnit ops u es → All (λ e. u e ≢ ops.zero) es
    unit_nonzero u f es monic roots unit i d lt none = absurd (field.apart (sym one ∙ all_zero))
      where
        x : A
        x = get_or es i d

        n : ℕ
        n = length es - 1

        size : suc n ≡ length es
        size = omega arith

        q : List A
        q = quotient_at ops x f

        q_monic : IsMonic ops n q
        q_monic = quotient_at-monic ops ring n x f (subst (λ z. IsMonic ops z f) (sym size) monic)

        one : weighted ops (λ e. ops.times (u e) (value_at ops q e)) 0 es ≡ ops.one
        one =
            sym (dot_of-from ops ring q es u 0 (length es) (omega (arith, q_monic.size)))
            ∙ dot_of-top ops ring n q (sequence_of ops u es 0 (length es)) q_monic
            (λ j below. sequence_of-at ops ring u es (length es) j (omega arith) ∙ unit.low j (omega arith))
            ∙ sequence_of-at ops ring u es (length es) n (omega arith)
            ∙ unit.last n (omega arith)

        term : (e : A) → IsRoot ops f e → ops.times (u e) (value_at ops q e) ≡ ops.zero
        term e root = by_factor (field.no_zero_divisor (ops.plus x e) (value_at ops q e)
            (sym (value_at-factored ops ring x q e) ∙ sym (value_at-same ops ring f (product_of ops (x ∷ ops.one ∷ []) q) e (factor_of_root ops ring x f (roots i d lt))) ∙ root))
          where
            by_factor : (ops.plus x e ≡ ops.zero) ⊎ (value_at ops q e ≡ ops.zero) → ops.times (u e) (value_at ops q e) ≡ ops.zero
            by_factor (inl same) =
                ap (λ z. ops.times z (value_at ops q e)) (ap u (sym (same_of_sum ops ring x e same)) ∙ none) ∙ zero_times ops ring (value_at ops q e)
            by_factor (inr zero_there) = ap (ops.times (u e)) zero_there ∙ times_zero ops ring (u e)

        all_zero : weighted ops (λ e. ops.times (u e) (value_at ops q e)) 0 es ≡ ops.zero
        all_zero = weighted-zero ops ring (λ e. ops.times (u e) (value_at ops q e)) 0 es (λ j c within. term (get_or es j c) (roots j c within))
