-- A field whose elements are told by their bits.
use Rattle.std.specs.Prelude.{◌≡◌, ℕ, ◌^◌, ◌<◌, bit_xor}
use Rattle.field_rules.specs.Ops.{Ops}
use Rattle.field_rules.specs.Elements.{product}

-- bits_of reads the elements as the numbers below 2 ^ width, each number once, and the operations as those on numbers
pub record IsNumbered {A : Type 0} (ops : Ops A) (bits_of : A → ℕ) (width : ℕ) : Type 0 where
  pub below : (a : A) → bits_of a < 2 ^ width
  pub same : (a b : A) → bits_of a ≡ bits_of b → a ≡ b
  pub filled : (n : ℕ) → n < 2 ^ width → (a : A) × (bits_of a ≡ n)
  pub zero_bits : bits_of ops.zero ≡ 0
  pub one_bits : bits_of ops.one ≡ 1
  pub plus_bits : (a b : A) → bits_of (ops.plus a b) ≡ bit_xor (bits_of a) (bits_of b)
  pub times_bits : (a b : A) → bits_of (ops.times a b) ≡ product width (bits_of a) (bits_of b)
