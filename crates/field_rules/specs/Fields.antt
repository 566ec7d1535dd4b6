-- What a field has beside a ring's sum and product: conjugates, the trace, and what is asked of it.
use Rattle.std.specs.Prelude.{◌≡◌, ◌≢◌, ◌⊎◌, ℕ, zero, suc, ◌<◌, ◌^◌, List, [], ◌∷◌}
use Rattle.field_rules.specs.Ops.{Ops}

-- a to the power 2 ^ n: a, squared n times
unfoldable pub conjugate : {A : Type 0} → Ops A → ℕ → A → A
conjugate ops zero a = a
conjugate ops (suc n) a = conjugate ops n (ops.times a a)

-- a + a ^ 2 + a ^ 4 + .. of n terms. In a field of 2 ^ n elements it is the trace of a
unfoldable pub trace_of : {A : Type 0} → Ops A → ℕ → A → A
trace_of ops zero a = ops.zero
trace_of ops (suc n) a = ops.plus (trace_of ops n a) (conjugate ops n a)

-- what a commutative ring of 2 ^ n elements is asked beside, to be a field with a trace
pub record IsField {A : Type 0} (ops : Ops A) (n : ℕ) : Type 0 where
  pub apart : ops.one ≢ ops.zero
  pub returns : (a : A) → conjugate ops n a ≡ a
  pub no_zero_divisor : (a b : A) → ops.times a b ≡ ops.zero → (a ≡ ops.zero) ⊎ (b ≡ ops.zero)
  pub invertible : (a : A) → a ≢ ops.zero → (b : A) × (ops.times a b ≡ ops.one)
  pub trace_is_bit : (a : A) → (trace_of ops n a ≡ ops.zero) ⊎ (trace_of ops n a ≡ ops.one)

-- a power of x below x ^ n whose products with a and with b have different traces
pub record IsSeparatedByTrace {A : Type 0} (ops : Ops A) (bits_of : A → ℕ) (n : ℕ) (a b : A) : Type 0 where
  pub exponent : ℕ
  pub below : exponent < n
  pub by : A
  pub bits : bits_of by ≡ 2 ^ exponent
  pub differ : trace_of ops n (ops.times by a) ≢ trace_of ops n (ops.times by b)

-- k times the item of xs at each index, added to the item of acc at that index
unfoldable pub with_multiple : {A : Type 0} → Ops A → List A → A → List A → List A
with_multiple ops [] k xs = []
with_multiple ops (a ∷ acc) k [] = a ∷ acc
with_multiple ops (a ∷ acc) k (x ∷ xs) = ops.plus a (ops.times k x) ∷ with_multiple ops acc k xs

-- the sum of the products of the items of xs and ys at the same index
unfoldable pub dot_of : {A : Type 0} → Ops A → List A → List A → A
dot_of ops [] ys = ops.zero
dot_of ops (x ∷ xs) [] = ops.zero
dot_of ops (x ∷ xs) (y ∷ ys) = ops.plus (ops.times x y) (dot_of ops xs ys)
