-- Rests by a modulus: they are kept by exclusive ors and products, and one of them is below 2 ^ width.
use Rattle.std.proofs.Common.{◌≡◌, ◌⊎◌, inl, inr, ℕ, zero, suc, ◌+◌, ◌*◌, ◌/◌, ◌%◌, ◌^◌, ◌<◌, sym, ap, subst, ◌∙◌, arith, add-one, lit<}
use Rattle.std.specs.Int.Bits.{bit_xor, xor_self, xor_zero_l, xor_comm, xor_assoc, xor_lt, xor_shr}
use Rattle.std.specs.Int.{bit_at}
use Rattle.std.proofs.Math.Nat.{zero-mul, one-mul, zero-div, mod-eq_of_lt, add-mul, div-eq_of_lt, pow-suc}
use Rattle.std.proofs.lemmas.Nat.{pow-add, shl_below, shr_below, shr_high, mod_low, shl-shr}
use Rattle.field_rules.specs.Elements.{carryless_product, low_terms, modulus, IsWidth, remainder}
use Rattle.field_laws.specs.Rests.{IsRest}
use Rattle.field_laws.proofs.Xors.{bit_cases, xor_swap, xor_twice, xor_same, top_cancels}
use Rattle.field_laws.proofs.Carryless.{carryless_product-suc, carryless_product-xor_l, carryless_product-zero_l, carryless_product-bit_l, carryless_product-low, carryless_product-lt_sharp, carryless_product-comm, carryless_product-assoc}

-- ---- multiples of 2 ^ width + l

module _ (width l : ℕ) (low : l < 2 ^ width) where
  is_one_shifted : 2 ^ width + l ≡ 1 * 2 ^ width + l
  is_one_shifted = ap (λ z. z + l) (sym (one-mul (2 ^ width)))

  top_bit : bit_at (2 ^ width + l) width ≡ 1
  top_bit = ap (λ z. z % 2) (ap (λ z. z / 2 ^ width) is_one_shifted ∙ shr_high 1 width l low)

  low_part : (2 ^ width + l) % 2 ^ width ≡ l
  low_part = ap (λ z. z % 2 ^ width) is_one_shifted ∙ mod_low 1 width l low

  sum_fits : 2 ^ width + l < 2 ^ (width + 1)
  sum_fits = omega (arith, pow-add 2 width 1)

  -- h times the modulus, as its highest term's multiple and that of the terms below
  pub multiple_split : (h : ℕ) → carryless_product (width + 1) h (2 ^ width + l) ≡ bit_xor (carryless_product width h l) (h * 2 ^ width)
  multiple_split h =
      ap (λ z. carryless_product z h (2 ^ width + l)) (add-one width)
      ∙ carryless_product-suc width h (2 ^ width + l)
      ∙ ap (λ z. bit_xor z (bit_at (2 ^ width + l) width * (h * 2 ^ width))) (sym (carryless_product-low width h (2 ^ width + l)) ∙ ap (carryless_product width h) low_part)
      ∙ ap (λ z. bit_xor (carryless_product width h l) (z * (h * 2 ^ width))) top_bit
      ∙ ap (bit_xor (carryless_product width h l)) (one-mul (h * 2 ^ width))

  -- a multiple below 2 ^ width is that by 0
  small_multiple : (d q : ℕ) → q < 2 ^ d → carryless_product (width + 1) q (2 ^ width + l) < 2 ^ width → q ≡ 0
  small_multiple zero q fits small = omega arith
  small_multiple (suc d) q fits small = small_multiple d q (subst (λ z. z < 2 ^ d) (sym same) part_fits) small
    where
      part_fits : carryless_product width q l / 2 ^ width < 2 ^ d
      part_fits = shr_below (carryless_product width q l) d width (carryless_product-lt_sharp d width q l fits)

      nothing : bit_xor (carryless_product width q l / 2 ^ width) q ≡ 0
      nothing =
          ap (bit_xor (carryless_product width q l / 2 ^ width)) (sym (shl-shr q width))
          ∙ sym (xor_shr (carryless_product width q l) (q * 2 ^ width) width)
          ∙ ap (λ z. z / 2 ^ width) (sym (multiple_split q))
          ∙ div-eq_of_lt small

      same : q ≡ carryless_product width q l / 2 ^ width
      same = sym (xor_same (carryless_product width q l / 2 ^ width) q nothing)

  -- the modulus, shifted by i bits, has its highest bit at width + i
  shifted_top : (i : ℕ) → (2 ^ width + l) * 2 ^ i / 2 ^ (width + i) ≡ 1
  shifted_top i =
      ap (λ z. z / 2 ^ (width + i)) parts ∙ shr_high 1 (width + i) (l * 2 ^ i) (shl_below l width i low)
    where
      parts : (2 ^ width + l) * 2 ^ i ≡ 1 * 2 ^ (width + i) + l * 2 ^ i
      parts =
          add-mul (2 ^ width) l (2 ^ i)
          ∙ ap (λ z. z + l * 2 ^ i) (sym (pow-add 2 width i) ∙ sym (one-mul (2 ^ (width + i))))

  -- one step of long division takes the highest bit away
  step_below : (i p : ℕ) → p < 2 ^ (width + suc i) → bit_xor p (bit_at p (width + i) * ((2 ^ width + l) * 2 ^ i)) < 2 ^ (width + i)
  step_below i p fits = top_cancels (width + i) p (bit_at p (width + i) * ((2 ^ width + l) * 2 ^ i)) (is_bit ∙ sym (taken (bit_cases p (width + i))))
    where
      wide : width + suc i ≡ 1 + (width + i)
      wide = omega arith

      high : p / 2 ^ (width + i) < 2
      high = shr_below p 1 (width + i) (subst (λ z. p < 2 ^ z) wide fits)

      is_bit : p / 2 ^ (width + i) ≡ bit_at p (width + i)
      is_bit = sym (mod-eq_of_lt high)

      taken : (bit_at p (width + i) ≡ 0) ⊎ (bit_at p (width + i) ≡ 1) → bit_at p (width + i) * ((2 ^ width + l) * 2 ^ i) / 2 ^ (width + i) ≡ bit_at p (width + i)
      taken (inl e) =
          ap (λ z. z * ((2 ^ width + l) * 2 ^ i) / 2 ^ (width + i)) e
          ∙ ap (λ z. z / 2 ^ (width + i)) (zero-mul ((2 ^ width + l) * 2 ^ i))
          ∙ zero-div (2 ^ (width + i))
          ∙ sym e
      taken (inr e) =
          ap (λ z. z * ((2 ^ width + l) * 2 ^ i) / 2 ^ (width + i)) e
          ∙ ap (λ z. z / 2 ^ (width + i)) (one-mul ((2 ^ width + l) * 2 ^ i))
          ∙ shifted_top i
          ∙ sym e

-- n has no more than n bits
lt_pow : (n : ℕ) → n < 2 ^ n
lt_pow zero = lit< tt
lt_pow (suc n) = omega (arith, lt_pow n, pow-suc 2 n)

-- the modulus has the degree width
pub modulus_fits : (width : ℕ) → IsWidth width → modulus width < 2 ^ (width + 1)
modulus_fits width w = sum_fits width (low_terms width) w

-- ---- rests

-- a number is a rest of itself
pub rest_self : (width p : ℕ) → IsRest width p p
rest_self width p = record {
  quotient = 0;
  divides = sym (ap (λ z. bit_xor z p) (carryless_product-zero_l (width + 1) (modulus width)) ∙ xor_zero_l p);
}

-- a rest of a rest is a rest
pub rest_trans : (width p r s : ℕ) → IsRest width p r → IsRest width r s → IsRest width p s
rest_trans width p r s h k = record {
  quotient = bit_xor h.quotient k.quotient;
  divides =
      h.divides
      ∙ ap (bit_xor (carryless_product (width + 1) h.quotient (modulus width))) k.divides
      ∙ sym (xor_assoc (carryless_product (width + 1) h.quotient (modulus width)) (carryless_product (width + 1) k.quotient (modulus width)) s)
      ∙ ap (λ z. bit_xor z s) (sym (carryless_product-xor_l (width + 1) h.quotient k.quotient (modulus width)));
}

-- the rest of an exclusive or
pub rest_xor : (width p r c d : ℕ) → IsRest width p r → IsRest width c d → IsRest width (bit_xor p c) (bit_xor r d)
rest_xor width p r c d h k = record {
  quotient = bit_xor h.quotient k.quotient;
  divides =
      ap (λ z. bit_xor z c) h.divides
      ∙ ap (bit_xor (bit_xor (carryless_product (width + 1) h.quotient (modulus width)) r)) k.divides
      ∙ xor_swap (carryless_product (width + 1) h.quotient (modulus width)) r (carryless_product (width + 1) k.quotient (modulus width)) d
      ∙ ap (λ z. bit_xor z (bit_xor r d)) (sym (carryless_product-xor_l (width + 1) h.quotient k.quotient (modulus width)));
}

-- a multiple of a multiple of the modulus is one
multiple_times : (width n q c : ℕ) → IsWidth width → c < 2 ^ n → carryless_product n (carryless_product (width + 1) q (modulus width)) c ≡ carryless_product (width + 1) (carryless_product n q c) (modulus width)
multiple_times width n q c w fits =
    carryless_product-assoc (width + 1) n q (modulus width) c whole
    ∙ ap (carryless_product (width + 1 + n) q) (carryless_product-comm (width + 1) n (modulus width) c whole fits)
    ∙ ap (λ z. carryless_product z q (carryless_product (width + 1) c (modulus width))) turned
    ∙ sym (carryless_product-assoc n (width + 1) q c (modulus width) fits)
  where
    whole : modulus width < 2 ^ (width + 1)
    whole = modulus_fits width w

    turned : width + 1 + n ≡ n + (width + 1)
    turned = omega arith

-- the rest of a multiple
pub rest_times : (width n p r c : ℕ) → IsWidth width → c < 2 ^ n → IsRest width p r → IsRest width (carryless_product n p c) (carryless_product n r c)
rest_times width n p r c w fits h = record {
  quotient = carryless_product n h.quotient c;
  divides =
      ap (λ z. carryless_product n z c) h.divides
      ∙ carryless_product-xor_l n (carryless_product (width + 1) h.quotient (modulus width)) r c
      ∙ ap (λ z. bit_xor z (carryless_product n r c)) (multiple_times width n h.quotient c w fits);
}

-- there is one rest below 2 ^ width
pub rest_only : (width p r s : ℕ) → IsWidth width → IsRest width p r → IsRest width p s → r < 2 ^ width → s < 2 ^ width → r ≡ s
rest_only width p r s w h k low high = xor_same r s (sym same ∙ ap (λ z. carryless_product (width + 1) z (modulus width)) none ∙ carryless_product-zero_l (width + 1) (modulus width))
  where
    nothing : bit_xor (carryless_product (width + 1) (bit_xor h.quotient k.quotient) (modulus width)) (bit_xor r s) ≡ 0
    nothing =
        ap (λ z. bit_xor z (bit_xor r s)) (carryless_product-xor_l (width + 1) h.quotient k.quotient (modulus width))
        ∙ xor_swap (carryless_product (width + 1) h.quotient (modulus width)) (carryless_product (width + 1) k.quotient (modulus width)) r s
        ∙ ap (λ z. bit_xor z (bit_xor (carryless_product (width + 1) k.quotient (modulus width)) s)) (sym h.divides)
        ∙ ap (bit_xor p) (sym k.divides)
        ∙ xor_self p

    same : carryless_product (width + 1) (bit_xor h.quotient k.quotient) (modulus width) ≡ bit_xor r s
    same = xor_same (carryless_product (width + 1) (bit_xor h.quotient k.quotient) (modulus width)) (bit_xor r s) nothing

    none : bit_xor h.quotient k.quotient ≡ 0
    none =
        small_multiple width (low_terms width) w (bit_xor h.quotient k.quotient) (bit_xor h.quotient k.quotient) (lt_pow (bit_xor h.quotient k.quotient))
        (subst (λ z. z < 2 ^ width) (sym same) (xor_lt width r s low high))

-- ---- long division

-- what it leaves is below 2 ^ width
pub remainder-below : (width n p : ℕ) → IsWidth width → p < 2 ^ (width + n) → remainder width n p < 2 ^ width
unfolding remainder
remainder-below width zero p w fits = let e : width + 0 ≡ width = omega arith in subst (λ z. p < 2 ^ z) e fits
remainder-below width (suc i) p w fits =
    remainder-below width i (bit_xor p (bit_at p (width + i) * (modulus width * 2 ^ i))) w (step_below width (low_terms width) w i p fits)

-- one step of it
step_rest : (width i p d : ℕ) → IsWidth width → (d ≡ 0) ⊎ (d ≡ 1) → IsRest width p (bit_xor p (d * (modulus width * 2 ^ i)))
step_rest width i p d w digit = record {
  quotient = d * 2 ^ i;
  divides =
      sym (xor_twice p (d * (modulus width * 2 ^ i)))
      ∙ xor_comm (bit_xor p (d * (modulus width * 2 ^ i))) (d * (modulus width * 2 ^ i))
      ∙ ap (λ z. bit_xor z (bit_xor p (d * (modulus width * 2 ^ i)))) (sym (carryless_product-bit_l (width + 1) d i (modulus width) digit (modulus_fits width w)));
}

-- what it leaves is a rest
pub remainder_is_rest : (width n p : ℕ) → IsWidth width → IsRest width p (remainder width n p)
unfolding remainder
remainder_is_rest width zero p w = rest_self width p
remainder_is_rest width (suc i) p w =
    rest_trans width p (bit_xor p (bit_at p (width + i) * (modulus width * 2 ^ i))) (remainder width i (bit_xor p (bit_at p (width + i) * (modulus width * 2 ^ i))))
    (step_rest width i p (bit_at p (width + i)) w (bit_cases p (width + i)))
    (remainder_is_rest width i (bit_xor p (bit_at p (width + i) * (modulus width * 2 ^ i))) w)
