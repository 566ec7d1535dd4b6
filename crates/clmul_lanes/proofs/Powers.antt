-- Powers by powers of two, on the bits of elements.
use Rattle.std.proofs.Common.{◌≡◌, ℕ, sym, ap, ap₂, ◌∙◌}
use Rattle.std.specs.Int.Bits.{bit_xor}
use Rattle.field_rules.specs.Elements.{numbers}
use Rattle.field_rules.specs.Fields.{conjugate}
use Rattle.field_laws.proofs.Conjugates.{conjugate-plus}
use Rattle.field_laws.proofs.PowersOfX.{conjugate-bits}
use Rattle.field_core.specs.LinearMaps.{IsLinear}
use Rattle.clmul_lanes.specs.declared.lane32.Lane32.{Lane32}
use Rattle.clmul_lanes.specs.Lane32.{ops, bits_of, ring, numbered, same_bits}

-- they keep exclusive ors
pub conjugate_is_linear : (n : ℕ) → IsLinear (conjugate (numbers 32) n)
conjugate_is_linear n a b a_fits b_fits = by (record { bits = a; small = a_fits }) (record { bits = b; small = b_fits })
  where
    by : (p q : Lane32) → conjugate (numbers 32) n (bit_xor (bits_of p) (bits_of q)) ≡ bit_xor (conjugate (numbers 32) n (bits_of p)) (conjugate (numbers 32) n (bits_of q))
    by p q =
        sym (conjugate-bits ops bits_of 32 numbered n (ops.plus p q))
        ∙ ap bits_of (conjugate-plus ops ring n p q)
        ∙ numbered.plus_bits (conjugate ops n p) (conjugate ops n q)
        ∙ ap₂ bit_xor (conjugate-bits ops bits_of 32 numbered n p) (conjugate-bits ops bits_of 32 numbered n q)

-- the element of these bits
pub conjugate_of_bits : (n : ℕ) (a r : Lane32) → bits_of r ≡ conjugate (numbers 32) n (bits_of a) → r ≡ conjugate ops n a
conjugate_of_bits n a r is = same_bits r (conjugate ops n a) (is ∙ sym (conjugate-bits ops bits_of 32 numbered n a))
