-- The product of numbers below 2 ^ width makes a ring, and so does each type that is numbered by them.
use Rattle.std.proofs.Common.{◌≡◌, ℕ, ◌+◌, ◌^◌, ◌<◌, sym, ap, subst, ◌∙◌, arith, Bool, true, false, ◌==◌, if◌then◌else◌}
use Rattle.std.specs.Int.Bits.{bit_xor, xor_self, xor_zero_r, xor_comm, xor_assoc, xor_lt}
use Rattle.std.proofs.Math.Nat.{mod-eq_of_lt}
use Rattle.field_rules.specs.Ops.{Ops, IsRing}
use Rattle.field_rules.specs.Elements.{carryless_product, IsWidth, product, remainder}
use Rattle.field_rules.specs.Numbered.{IsNumbered}
use Rattle.field_laws.specs.Rests.{IsRest}
use Rattle.field_laws.proofs.Carryless.{carryless_product-comm, carryless_product-assoc, carryless_product-lt, carryless_product-one_l, carryless_product-xor_r}
use Rattle.field_laws.proofs.Remainders.{rest_self, rest_trans, rest_times, rest_xor, rest_only}
use Rattle.field_laws.proofs.Products.{product-below, product_is_rest}

-- 1 is an element at each width
pub one_fits : (width : ℕ) → IsWidth width → 1 < 2 ^ width
one_fits width w = above (width == 16) (width == 64) w
  where
    above : (b c : Bool) → (if b then 0x2B else (if c then 0x1B else 0x8D)) < 2 ^ width → 1 < 2 ^ width
    above true c h = omega arith
    above false true h = omega arith
    above false false h = omega arith

-- the product of elements commutes
pub product-comm : (width a b : ℕ) → a < 2 ^ width → b < 2 ^ width → product width a b ≡ product width b a
unfolding product
product-comm width a b below_a below_b = ap (remainder width width) (carryless_product-comm width width a b below_a below_b)

-- 1 is its unit
pub product-one : (width a : ℕ) → IsWidth width → a < 2 ^ width → product width a 1 ≡ a
product-one width a w below_a =
    rest_only width (carryless_product width a 1) (product width a 1) a w (product_is_rest width a 1 w)
    (subst (λ z. IsRest width z a) (sym same) (rest_self width a))
    (product-below width a 1 w below_a (one_fits width w))
    below_a
  where
    same : carryless_product width a 1 ≡ a
    same = carryless_product-comm width width a 1 below_a (one_fits width w) ∙ carryless_product-one_l width a ∙ mod-eq_of_lt below_a

-- it keeps exclusive ors
pub product-xor : (width a b c : ℕ) → IsWidth width → a < 2 ^ width → b < 2 ^ width → c < 2 ^ width → product width a (bit_xor b c) ≡ bit_xor (product width a b) (product width a c)
product-xor width a b c w below_a below_b below_c =
    rest_only width (carryless_product width a (bit_xor b c)) (product width a (bit_xor b c)) (bit_xor (product width a b) (product width a c)) w
    (product_is_rest width a (bit_xor b c) w)
    (subst (λ z. IsRest width z (bit_xor (product width a b) (product width a c))) (sym (carryless_product-xor_r width a b c))
    (rest_xor width (carryless_product width a b) (product width a b) (carryless_product width a c) (product width a c) (product_is_rest width a b w) (product_is_rest width a c w)))
    (product-below width a (bit_xor b c) w below_a (xor_lt width b c below_b below_c))
    (xor_lt width (product width a b) (product width a c) (product-below width a b w below_a below_b) (product-below width a c w below_a below_c))

-- a product of three is a rest of the carryless product of three
product_of_three : (width a b c : ℕ) → IsWidth width → c < 2 ^ width → IsRest width (carryless_product width (carryless_product width a b) c) (product width (product width a b) c)
product_of_three width a b c w below_c =
    rest_trans width (carryless_product width (carryless_product width a b) c) (carryless_product width (product width a b) c) (product width (product width a b) c)
    (rest_times width width (carryless_product width a b) (product width a b) c w below_c (product_is_rest width a b w))
    (product_is_rest width (product width a b) c w)

-- it associates
pub product-assoc : (width a b c : ℕ) → IsWidth width → a < 2 ^ width → b < 2 ^ width → c < 2 ^ width → product width (product width a b) c ≡ product width a (product width b c)
product-assoc width a b c w below_a below_b below_c =
    rest_only width (carryless_product width (carryless_product width a b) c) (product width (product width a b) c) (product width (product width b c) a) w
    (product_of_three width a b c w below_c)
    (subst (λ z. IsRest width z (product width (product width b c) a)) (sym turned) (product_of_three width b c a w below_a))
    (product-below width (product width a b) c w (product-below width a b w below_a below_b) below_c)
    (product-below width (product width b c) a w below_bc below_a)
    ∙ product-comm width (product width b c) a below_bc below_a
  where
    below_bc : product width b c < 2 ^ width
    below_bc = product-below width b c w below_b below_c

    turned : carryless_product width (carryless_product width a b) c ≡ carryless_product width (carryless_product width b c) a
    turned =
        carryless_product-assoc width width a b c below_b
        ∙ carryless_product-comm width (width + width) a (carryless_product width b c) below_a (carryless_product-lt width width b c below_b)

-- a type that is numbered by the field's numbers is a ring
pub ring_of_numbered : {A : Type 0} (ops : Ops A) (bits_of : A → ℕ) (width : ℕ) → IsWidth width → IsNumbered ops bits_of width → IsRing ops
ring_of_numbered {A} ops bits_of width w numbered = record {
  plus_comm = λ a b. numbered.same (ops.plus a b) (ops.plus b a) (numbered.plus_bits a b ∙ xor_comm (bits_of a) (bits_of b) ∙ sym (numbered.plus_bits b a));
  plus_assoc = λ a b c. numbered.same (ops.plus (ops.plus a b) c) (ops.plus a (ops.plus b c))
      (numbered.plus_bits (ops.plus a b) c
      ∙ ap (λ z. bit_xor z (bits_of c)) (numbered.plus_bits a b)
      ∙ xor_assoc (bits_of a) (bits_of b) (bits_of c)
      ∙ sym (numbered.plus_bits a (ops.plus b c) ∙ ap (bit_xor (bits_of a)) (numbered.plus_bits b c)));
  plus_zero = λ a. numbered.same (ops.plus a ops.zero) a (numbered.plus_bits a ops.zero ∙ ap (bit_xor (bits_of a)) numbered.zero_bits ∙ xor_zero_r (bits_of a));
  plus_self = λ a. numbered.same (ops.plus a a) ops.zero (numbered.plus_bits a a ∙ xor_self (bits_of a) ∙ sym numbered.zero_bits);
  times_comm = λ a b. numbered.same (ops.times a b) (ops.times b a)
      (numbered.times_bits a b ∙ product-comm width (bits_of a) (bits_of b) (numbered.below a) (numbered.below b) ∙ sym (numbered.times_bits b a));
  times_assoc = λ a b c. numbered.same (ops.times (ops.times a b) c) (ops.times a (ops.times b c))
      (numbered.times_bits (ops.times a b) c
      ∙ ap (λ z. product width z (bits_of c)) (numbered.times_bits a b)
      ∙ product-assoc width (bits_of a) (bits_of b) (bits_of c) w (numbered.below a) (numbered.below b) (numbered.below c)
      ∙ sym (numbered.times_bits a (ops.times b c) ∙ ap (product width (bits_of a)) (numbered.times_bits b c)));
  times_one = λ a. numbered.same (ops.times a ops.one) a
      (numbered.times_bits a ops.one ∙ ap (product width (bits_of a)) numbered.one_bits ∙ product-one width (bits_of a) w (numbered.below a));
  distributes = λ a b c. numbered.same (ops.times a (ops.plus b c)) (ops.plus (ops.times a b) (ops.times a c))
      (numbered.times_bits a (ops.plus b c)
      ∙ ap (product width (bits_of a)) (numbered.plus_bits b c)
      ∙ product-xor width (bits_of a) (bits_of b) (bits_of c) w (numbered.below a) (numbered.below b) (numbered.below c)
      ∙ sym (numbered.plus_bits (ops.times a b) (ops.times a c)
      ∙ ap (λ z. bit_xor z (bits_of (ops.times a c))) (numbered.times_bits a b)
      ∙ ap (bit_xor (product width (bits_of a) (bits_of b))) (numbered.times_bits a c)));
}
