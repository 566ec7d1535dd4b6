-- The numbers below 2 ^ width, with the operations on numbers: where the width passes the tests, they are a field.
use Rattle.std.proofs.Common.{◌≡◌, ℕ, suc, ◌^◌, ◌<◌, refl, arith}
use Rattle.std.specs.Int.Bits.{bit_xor, xor_lt}
use mathlib.Core.HLevel.{is_prop→PathP}
use native.Mathlib.Bridge.{le_prop}
use Rattle.field_rules.specs.Ops.{Ops, IsRing}
use Rattle.field_rules.specs.Elements.{IsWidth, product}
use Rattle.field_rules.specs.Fields.{IsField}
use Rattle.field_rules.specs.Numbered.{IsNumbered}
use Rattle.field_laws.specs.Certified.{Certificate}
use Rattle.field_laws.proofs.Products.{product-below}
use Rattle.field_laws.proofs.Rings.{one_fits, ring_of_numbered}
use Rattle.field_laws.proofs.Fields.{field_of_certificate}

-- a number below 2 ^ width
pub record Element (width : ℕ) : Type 0 where
  pub bits : ℕ
  pub small : bits < 2 ^ width

pub bits_of : (width : ℕ) → Element width → ℕ
bits_of width a = a.bits

module _ (width : ℕ) (w : IsWidth width) where
  zero_fits : 0 < 2 ^ width
  zero_fits = omega (arith, one_fits width w)

  -- the operations
  pub ops : Ops (Element width)
  ops = record {
    zero = record { bits = 0; small = zero_fits };
    one = record { bits = 1; small = one_fits width w };
    plus = λ a b. record { bits = bit_xor a.bits b.bits; small = xor_lt width a.bits b.bits a.small b.small };
    times = λ a b. record { bits = product width a.bits b.bits; small = product-below width a.bits b.bits w a.small b.small };
  }

  -- elements of the same bits are one
  same_bits : (a b : Element width) → a.bits ≡ b.bits → a ≡ b
  same_bits a b e =
      λ i. record { bits = e i; small = is_prop→PathP (λ i. e i < 2 ^ width) (λ i. le_prop {n = suc (e i)} {m = 2 ^ width}) a.small b.small i }

  pub numbered : IsNumbered ops (bits_of width) width
  unfolding ops bits_of
  numbered = record {
    below = λ a. a.small;
    same = same_bits;
    filled = λ n h. (record { bits = n; small = h }, refl);
    zero_bits = refl;
    one_bits = refl;
    plus_bits = λ a b. refl;
    times_bits = λ a b. refl;
  }

  pub ring : IsRing ops
  ring = ring_of_numbered ops (bits_of width) width w numbered

-- the laws of a field
pub field : (width : ℕ) (certified : Certificate width) → IsField (ops width certified.is_width) width
field width certified =
    field_of_certificate (ops width certified.is_width) (bits_of width) width (ring width certified.is_width) (numbered width certified.is_width) certified
