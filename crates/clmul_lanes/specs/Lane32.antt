-- The field of 2 ^ 32 elements.
use Rattle.std.specs.Prelude.{◌≡◌, ◌≢◌, ℕ, suc, ◌^◌, ◌<◌, bit_xor}
use Rattle.std.proofs.Common.{refl, lit<}
use Rattle.std.proofs.lemmas.Nat.{xor_lt}
use mathlib.Core.HLevel.{is_prop→PathP}
use native.Mathlib.Bridge.{le_prop}
use Rattle.field_rules.specs.Ops.{Ops, IsRing}
use Rattle.field_rules.specs.Elements.{product}
use Rattle.field_rules.specs.Fields.{IsField, IsSeparatedByTrace}
use Rattle.field_rules.specs.Numbered.{IsNumbered}
use Rattle.field_laws.proofs.Products.{product-below}
use Rattle.field_laws.proofs.Rings.{ring_of_numbered}
use Rattle.field_laws.proofs.Fields.{field_of_certificate, separated_by_trace}
use Rattle.field_laws.proofs.Certified32.{certificate_32}
use Rattle.clmul_lanes.specs.declared.lane32.Lane32.{Lane32}

-- the bits of an element
abbrev pub bits_of : Lane32 → ℕ
bits_of a = a.bits

abbrev pub zero_of : Lane32
zero_of = record { bits = 0; small = lit< tt }

abbrev pub one_of : Lane32
one_of = record { bits = 1; small = lit< tt }

pub plus_small : (a b : Lane32) → bit_xor a.bits b.bits < 2 ^ 32
plus_small a b = xor_lt 32 a.bits b.bits a.small b.small

pub times_small : (a b : Lane32) → product 32 a.bits b.bits < 2 ^ 32
times_small a b = product-below 32 a.bits b.bits (lit< tt) a.small b.small

-- the operations
abbrev pub ops : Ops Lane32
ops = record {
  zero = zero_of;
  one = one_of;
  plus = λ a b. record { bits = bit_xor a.bits b.bits; small = plus_small a b };
  times = λ a b. record { bits = product 32 a.bits b.bits; small = times_small a b };
}

-- elements of the same bits are one
pub same_bits : (a b : Lane32) → a.bits ≡ b.bits → a ≡ b
same_bits a b e =
    λ i. record { bits = e i; small = is_prop→PathP (λ i. e i < 2 ^ 32) (λ i. le_prop {n = suc (e i)} {m = 2 ^ 32}) a.small b.small i }

pub numbered : IsNumbered ops bits_of 32
numbered = record {
  below = λ a. a.small;
  same = same_bits;
  filled = λ n h. (record { bits = n; small = h }, refl);
  zero_bits = refl;
  one_bits = refl;
  plus_bits = λ a b. refl;
  times_bits = λ a b. refl;
}

pub ring : IsRing ops
ring = ring_of_numbered ops bits_of 32 (lit< tt) numbered

-- the laws of a field
pub field : IsField ops 32
field = field_of_certificate ops bits_of 32 ring numbered certificate_32

-- different elements are told apart by the traces of their products with some power of x
pub separates : (a b : Lane32) → a ≢ b → IsSeparatedByTrace ops bits_of 32 a b
separates = separated_by_trace ops bits_of 32 ring numbered certificate_32
