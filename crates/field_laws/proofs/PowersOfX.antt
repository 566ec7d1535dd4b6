-- Each element is a sum of powers of x, which are the elements of one bit.
use Rattle.std.proofs.Common.{◌≡◌, ◌⊎◌, inl, inr, ℕ, zero, suc, ◌+◌, ◌-◌, ◌*◌, ◌/◌, ◌^◌, ◌<◌, ◌≤◌, refl, sym, ap, subst, ◌∙◌, arith}
use Rattle.std.specs.Int.Bits.{bit_xor}
use Rattle.std.proofs.Math.Nat.{one-mul, le_refl, mod-eq_of_lt, pow-suc, mul_comm}
use Rattle.std.proofs.Math.Pow.{pow-lt}
use Rattle.std.proofs.lemmas.Nat.{shr_high}
use Rattle.std.proofs.lemmas.Bool.{cases_lt}
use Rattle.field_rules.specs.Ops.{Ops}
use Rattle.field_rules.specs.Elements.{carryless_product, IsWidth, product, numbers}
use Rattle.field_rules.specs.Fields.{conjugate, trace_of}
use Rattle.field_rules.specs.Numbered.{IsNumbered}
use Rattle.field_laws.specs.Rests.{IsRest}
use Rattle.field_laws.proofs.Xors.{xor_twice, top_cancels}
use Rattle.field_laws.proofs.Carryless.{carryless_product-shl_l, carryless_product-one_l}
use Rattle.field_laws.proofs.Remainders.{rest_self, rest_only}
use Rattle.field_laws.proofs.Products.{product_is_rest, product-below}

-- the product of a power of x by x is the next one
pub product-x : (width j : ℕ) → IsWidth width → suc j < width → product width (2 ^ j) 2 ≡ 2 ^ suc j
product-x width j w lt =
    rest_only width (carryless_product width (2 ^ j) 2) (product width (2 ^ j) 2) (2 ^ suc j) w (product_is_rest width (2 ^ j) 2 w)
    (subst (λ z. IsRest width z (2 ^ suc j)) (sym shifted) (rest_self width (2 ^ suc j)))
    (product-below width (2 ^ j) 2 w (pow-lt (omega arith)) two)
    (pow-lt lt)
  where
    two : 2 < 2 ^ width
    two = pow-lt {i = 1} {j = width} (omega arith)

    shifted : carryless_product width (2 ^ j) 2 ≡ 2 ^ suc j
    shifted =
        ap (λ z. carryless_product width z 2) (sym (one-mul (2 ^ j)))
        ∙ carryless_product-shl_l width 1 j 2
        ∙ ap (λ z. z * 2 ^ j) (carryless_product-one_l width 2 ∙ mod-eq_of_lt two)
        ∙ mul_comm 2 (2 ^ j)
        ∙ sym (pow-suc 2 j)

-- the highest bit of a number
top_digit : (n x : ℕ) → x < 2 ^ suc n → 2 ^ n ≤ x → x / 2 ^ n ≡ 1
top_digit n x lt ge =
    let split : x ≡ 1 * 2 ^ n + (x - 2 ^ n) = omega (arith, one-mul (2 ^ n)) in
    let low : x - 2 ^ n < 2 ^ n = omega (arith, pow-suc 2 n) in
    ap (λ z. z / 2 ^ n) split ∙ shr_high 1 n (x - 2 ^ n) low

module _ {A : Type 0} (ops : Ops A) (bits_of : A → ℕ) (width : ℕ) (numbered : IsNumbered ops bits_of width) where
  -- what is added twice is gone
  added_twice : (a e : A) → ops.plus (ops.plus a e) e ≡ a
  added_twice a e =
      numbered.same (ops.plus (ops.plus a e) e) a
      (numbered.plus_bits (ops.plus a e) e ∙ ap (λ z. bit_xor z (bits_of e)) (numbered.plus_bits a e) ∙ xor_twice (bits_of a) (bits_of e))

  -- an element without its highest power of x
  without_top : (n : ℕ) (a e : A) → bits_of e ≡ 2 ^ n → bits_of a < 2 ^ suc n → 2 ^ n ≤ bits_of a → bits_of (ops.plus a e) < 2 ^ n
  without_top n a e is lt ge =
      subst (λ z. z < 2 ^ n) (sym (numbered.plus_bits a e ∙ ap (bit_xor (bits_of a)) is))
      (top_cancels n (bits_of a) (2 ^ n) (top_digit n (bits_of a) lt ge ∙ sym (top_digit n (2 ^ n) (pow-lt (omega arith)) (le_refl (2 ^ n)))))

  -- what holds of 0, of sums and of the powers of x holds of each element: below 2 ^ n
  below_by_powers_of_x : (P : A → Type 0) → P ops.zero → ((a b : A) → P a → P b → P (ops.plus a b))
      → ((j : ℕ) → j < width → (e : A) → bits_of e ≡ 2 ^ j → P e) → (n : ℕ) → n ≤ width → (a : A) → bits_of a < 2 ^ n → P a
  below_by_powers_of_x P none sums powers zero le a small =
      let nothing : bits_of a ≡ 0 = omega arith in subst P (numbered.same ops.zero a (numbered.zero_bits ∙ sym nothing)) none
  below_by_powers_of_x P none sums powers (suc n) le a small =
      by (cases_lt (bits_of a) (2 ^ n)) (below_by_powers_of_x P none sums powers n (omega arith))
    where
      by : (bits_of a < 2 ^ n) ⊎ (2 ^ n ≤ bits_of a) → ((a : A) → bits_of a < 2 ^ n → P a) → P a
      by (inl lt) below = below a lt
      by (inr ge) below =
          let top : (e : A) × (bits_of e ≡ 2 ^ n) = numbered.filled (2 ^ n) (pow-lt le) in
          subst P (added_twice a top.0) (sums (ops.plus a top.0) top.0 (below (ops.plus a top.0) (without_top n a top.0 top.1 small ge)) (powers n le top.0 top.1))

  -- and of each one
  pub by_powers_of_x : (P : A → Type 0) → P ops.zero → ((a b : A) → P a → P b → P (ops.plus a b))
      → ((j : ℕ) → j < width → (e : A) → bits_of e ≡ 2 ^ j → P e) → (a : A) → P a
  by_powers_of_x P none sums powers a = below_by_powers_of_x P none sums powers width (le_refl width) a (numbered.below a)

  -- the bits of a conjugate
  pub conjugate-bits : (n : ℕ) (a : A) → bits_of (conjugate ops n a) ≡ conjugate (numbers width) n (bits_of a)
  unfolding conjugate
  conjugate-bits zero a = refl
  conjugate-bits (suc n) a = conjugate-bits n (ops.times a a) ∙ ap (conjugate (numbers width) n) (numbered.times_bits a a)

  -- the bits of a trace
  pub trace_of-bits : (n : ℕ) (a : A) → bits_of (trace_of ops n a) ≡ trace_of (numbers width) n (bits_of a)
  unfolding trace_of
  trace_of-bits zero a = numbered.zero_bits
  trace_of-bits (suc n) a =
      numbered.plus_bits (trace_of ops n a) (conjugate ops n a)
      ∙ ap (λ z. bit_xor z (bits_of (conjugate ops n a))) (trace_of-bits n a)
      ∙ ap (bit_xor (trace_of (numbers width) n (bits_of a))) (conjugate-bits n a)
