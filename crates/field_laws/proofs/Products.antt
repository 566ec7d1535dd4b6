-- The product of two elements of a field: it is one number, and it is below 2 ^ width.
use Rattle.std.proofs.Common.{◌≡◌, ℕ, ◌*◌, ◌^◌, ◌<◌, ◌∙◌, ap, subst, sym}
use Rattle.std.proofs.Math.Nat.{one-mul, mod-eq_of_lt}
use Rattle.field_rules.specs.Elements.{carryless_product, IsWidth, IsProduct, product}
use Rattle.field_laws.specs.Rests.{IsRest}
use Rattle.field_laws.proofs.Carryless.{carryless_product-lt, carryless_product-one_l, carryless_product-shl_l}
use Rattle.field_laws.proofs.Remainders.{rest_self, rest_only, remainder-below, remainder_is_rest}

-- the product is an element
pub product-below : (width a b : ℕ) → IsWidth width → a < 2 ^ width → b < 2 ^ width → product width a b < 2 ^ width
unfolding product
product-below width a b w below_a below_b =
    remainder-below width width (carryless_product width a b) w (carryless_product-lt width width a b below_a)

-- the product is a rest of the carryless product
pub product_is_rest : (width a b : ℕ) → IsWidth width → IsRest width (carryless_product width a b) (product width a b)
unfolding product
product_is_rest width a b w = remainder_is_rest width width (carryless_product width a b) w

-- a rest of the carryless product that is below 2 ^ width is a product
pub rest_is_product : (width a b r : ℕ) → IsRest width (carryless_product width a b) r → r < 2 ^ width → IsProduct width a b r
rest_is_product width a b r rest fits = record { below = fits; quotient = rest.quotient; divides = rest.divides }

-- whatever is a product is a rest
pub product_is_rest_of : (width a b r : ℕ) → IsProduct width a b r → IsRest width (carryless_product width a b) r
product_is_rest_of width a b r is = record { quotient = is.quotient; divides = is.divides }

-- long division finds a product
pub product-is : (width a b : ℕ) → IsWidth width → a < 2 ^ width → b < 2 ^ width → IsProduct width a b (product width a b)
product-is width a b w below_a below_b =
    rest_is_product width a b (product width a b) (product_is_rest width a b w) (product-below width a b w below_a below_b)

-- there is no other product
pub product-only : (width a b r : ℕ) → IsWidth width → a < 2 ^ width → b < 2 ^ width → IsProduct width a b r → r ≡ product width a b
product-only width a b r w below_a below_b is =
    rest_only width (carryless_product width a b) r (product width a b) w (product_is_rest_of width a b r is)
    (product_is_rest width a b w)
    is.below
    (product-below width a b w below_a below_b)

-- so what code has left below 2 ^ width of the carryless product is the product
pub rest_is_the_product : (width a b r : ℕ) → IsWidth width → a < 2 ^ width → b < 2 ^ width → IsRest width (carryless_product width a b) r → r < 2 ^ width → r ≡ product width a b
rest_is_the_product width a b r w below_a below_b rest fits =
    product-only width a b r w below_a below_b (rest_is_product width a b r rest fits)

-- the product by a power of x that leaves no bit beyond the width is a shift
pub product-shift : (width k b : ℕ) → IsWidth width → 2 ^ k < 2 ^ width → b < 2 ^ width → b * 2 ^ k < 2 ^ width → product width (2 ^ k) b ≡ b * 2 ^ k
product-shift width k b w below_power below_b fits =
    sym (rest_is_the_product width (2 ^ k) b (b * 2 ^ k) w below_power below_b (subst (λ z. IsRest width z (b * 2 ^ k)) (sym shifted) (rest_self width (b * 2 ^ k))) fits)
  where
    shifted : carryless_product width (2 ^ k) b ≡ b * 2 ^ k
    shifted =
        ap (λ z. carryless_product width z b) (sym (one-mul (2 ^ k)))
        ∙ carryless_product-shl_l width 1 k b
        ∙ ap (λ z. z * 2 ^ k) (carryless_product-one_l width b ∙ mod-eq_of_lt below_b)
