-- Sums of elements.
use Rattle.std.proofs.Common.{◌≡◌, sym, ap, ◌∙◌}
use Rattle.field_rules.specs.Ops.{Ops, IsRing}
use Rattle.field_laws.proofs.RingFacts.{plus_swap, same_of_sum}

module _ {A : Type 0} (ops : Ops A) (ring : IsRing ops) where
  -- the first two of three terms are exchanged
  pub plus_turn : (a b c : A) → ops.plus a (ops.plus b c) ≡ ops.plus b (ops.plus a c)
  plus_turn a b c =
      sym (ring.plus_assoc a b c) ∙ ap (λ z. ops.plus z c) (ring.plus_comm a b) ∙ ring.plus_assoc b a c

  -- of two sums that are one, the first terms and the last terms have one sum
  pub plus_across : (a b c d : A) → ops.plus a b ≡ ops.plus c d → ops.plus a c ≡ ops.plus b d
  plus_across a b c d same =
      same_of_sum ops ring (ops.plus a c) (ops.plus b d)
      (plus_swap ops ring a c b d ∙ ap (λ z. ops.plus z (ops.plus c d)) same ∙ ring.plus_self (ops.plus c d))
