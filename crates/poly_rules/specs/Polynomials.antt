-- Polynomials over any type with a sum and a product. A polynomial is the list of its coefficients, from the constant up.
use Rattle.std.specs.Prelude.{◌≡◌, ◌≢◌, ℕ, ◌+◌, ◌-◌, List, [], ◌∷◌, ◌++◌, length, get_or, map, replicate}
use Rattle.field_rules.specs.Ops.{Ops}

-- the coefficient of x ^ i, which is zero from the end of the list on
abbrev pub coefficient : {A : Type 0} → Ops A → List A → ℕ → A
coefficient ops f i = get_or f i ops.zero

-- one polynomial: two lists that are alike up to zeros at the end
pub record IsSamePolynomial {A : Type 0} (ops : Ops A) (f g : List A) : Type 0 where
  pub each : (i : ℕ) → coefficient ops f i ≡ coefficient ops g i

-- the last coefficient isn't zero
abbrev pub IsTrimmed : {A : Type 0} → Ops A → List A → Type 0
IsTrimmed ops f = (n : ℕ) → length f ≡ n + 1 → coefficient ops f n ≢ ops.zero

-- the degree, where the last coefficient isn't zero
abbrev pub degree : {A : Type 0} → List A → ℕ
degree f = length f - 1

-- the coefficients end at x ^ n, and that of x ^ n is 1
pub record IsMonic {A : Type 0} (ops : Ops A) (n : ℕ) (f : List A) : Type 0 where
  pub size : length f ≡ n + 1
  pub top : coefficient ops f n ≡ ops.one

-- the value at x: f_0 + f_1 * x + f_2 * x ^ 2 + ..
unfoldable pub value_at : {A : Type 0} → Ops A → List A → A → A
value_at ops [] x = ops.zero
value_at ops (a ∷ f) x = ops.plus a (ops.times x (value_at ops f x))

-- the sum, coefficient by coefficient
unfoldable pub sum_of : {A : Type 0} → Ops A → List A → List A → List A
sum_of ops [] g = g
sum_of ops (a ∷ f) [] = a ∷ f
sum_of ops (a ∷ f) (b ∷ g) = ops.plus a b ∷ sum_of ops f g

-- k times each coefficient
abbrev pub scalar_multiple : {A : Type 0} → Ops A → A → List A → List A
scalar_multiple ops k f = map (λ a. ops.times k a) f

-- the product: (a + x * f) * g is a * g and x * (f * g)
unfoldable pub product_of : {A : Type 0} → Ops A → List A → List A → List A
product_of ops [] g = []
product_of ops (a ∷ f) g = sum_of ops (scalar_multiple ops a g) (ops.zero ∷ product_of ops f g)

-- x ^ n
abbrev pub monomial : {A : Type 0} → Ops A → ℕ → List A
monomial ops n = replicate n ops.zero ++ ops.one ∷ []
