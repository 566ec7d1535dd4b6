-- Types with a sum and a product, and powers over them.
use Rattle.std.specs.Prelude.{◌≡◌, ℕ, zero, suc, ◌+◌, ◌*◌, List, [], ◌∷◌}

pub record Ops (A : Type 0) : Type 0 where
  pub zero : A
  pub one : A
  pub plus : A → A → A
  pub times : A → A → A

-- a commutative ring in which each element is its own negative
pub record IsRing {A : Type 0} (ops : Ops A) : Type 0 where
  pub plus_comm : (a b : A) → ops.plus a b ≡ ops.plus b a
  pub plus_assoc : (a b c : A) → ops.plus (ops.plus a b) c ≡ ops.plus a (ops.plus b c)
  pub plus_zero : (a : A) → ops.plus a ops.zero ≡ a
  pub plus_self : (a : A) → ops.plus a a ≡ ops.zero
  pub times_comm : (a b : A) → ops.times a b ≡ ops.times b a
  pub times_assoc : (a b c : A) → ops.times (ops.times a b) c ≡ ops.times a (ops.times b c)
  pub times_one : (a : A) → ops.times a ops.one ≡ a
  pub distributes : (a b c : A) → ops.times a (ops.plus b c) ≡ ops.plus (ops.times a b) (ops.times a c)

-- e to the power k
unfoldable pub power : {A : Type 0} → Ops A → A → ℕ → A
power ops e zero = ops.one
power ops e (suc k) = ops.times (power ops e k) e

-- e ^ (2i + 1) added to each item at index i, where the first of them stands at index i
unfoldable pub with_odd_powers : {A : Type 0} → Ops A → A → ℕ → List A → List A
with_odd_powers ops e i [] = []
with_odd_powers ops e i (a ∷ rest) = ops.plus a (power ops e (2 * i + 1)) ∷ with_odd_powers ops e (i + 1) rest
