-- The multiples of one factor, by the nibbles of the other.
use Rattle.std.proofs.Common.{◌≡◌, ℕ, zero, suc, ◌+◌, ◌*◌, ◌/◌, ◌%◌, ◌^◌, ◌<◌, List, [], length, slice_index, slice_index_or, slice_set, ◌≢◌, sym, ◌∙◌, ap, subst, arith, lit<, below_more, get_or-set_other, get_or-set_same}
use Rattle.std.specs.Int.Bits.{bit_xor, xor_self, xor_lt}
use Rattle.std.proofs.Math.Nat.{one-mul, mod-lt}
use Rattle.std.proofs.lemmas.Nat.{pow-add}
use Rattle.field_rules.specs.Elements.{carryless_product, product}
use Rattle.field_laws.specs.Rests.{IsRest}
use Rattle.field_laws.proofs.Carryless.{carryless_product-zero_l, carryless_product-one_l, carryless_product-one_r, carryless_product-shl_r}
use Rattle.field_laws.proofs.Folds.{fold_once}
use Rattle.field_laws.proofs.Products.{product-below, product-shift, rest_is_the_product}
use Rattle.field_laws.proofs.Rings.{product-one, product-xor, product-assoc}
use Rattle.field_core.specs.LinearMaps.{IsLinear}
use Rattle.clmul_lanes.specs.Tables.{IsTable}
use Rattle.field_core.proofs.LinearMaps.{nibble_fits}
use Rattle.field_core.proofs.Windows.{nibble_sums}

-- ---- the words

-- the multiple of the low terms by the bit beyond the highest
high_byte : (h : ℕ) → h < 2 → carryless_product 8 h 0x8D ≡ h * 0x8D
high_byte zero lt = carryless_product-zero_l 8 0x8D
high_byte (suc zero) lt = carryless_product-one_l 8 0x8D
high_byte (suc (suc h)) lt = absurd (omega arith)

-- the product by x: a shift, and the low terms where a bit went beyond the highest
pub doubled_is : (a : ℕ) → a < 2 ^ 32 → bit_xor (a * 2 % 2 ^ 32) (a / 2 ^ 31 * 0x8D) ≡ product 32 a 2
doubled_is a fits = rest_is_the_product 32 a 2 (bit_xor (a * 2 % 2 ^ 32) (a / 2 ^ 31 * 0x8D)) (lit< tt) fits (lit< tt) rest below
  where
    twice : carryless_product 32 a 2 ≡ a * 2
    twice = carryless_product-shl_r 1 31 a 1 ∙ ap (λ z. z * 2) (carryless_product-one_r 30 a)

    index : a * 2 / 2 ^ 32 ≡ a / 2 ^ 31
    index = omega arith

    is_bit : a / 2 ^ 31 < 2
    is_bit = omega arith

    folded : carryless_product 8 (a * 2 / 2 ^ 32) 0x8D ≡ a / 2 ^ 31 * 0x8D
    folded = ap (λ z. carryless_product 8 z 0x8D) index ∙ high_byte (a / 2 ^ 31) is_bit

    rest : IsRest 32 (carryless_product 32 a 2) (bit_xor (a * 2 % 2 ^ 32) (a / 2 ^ 31 * 0x8D))
    rest =
        subst (λ z. IsRest 32 z (bit_xor (a * 2 % 2 ^ 32) (a / 2 ^ 31 * 0x8D))) (sym twice)
        (subst (λ z. IsRest 32 (a * 2) (bit_xor (a * 2 % 2 ^ 32) z)) folded (fold_once (a * 2)))

    below : bit_xor (a * 2 % 2 ^ 32) (a / 2 ^ 31 * 0x8D) < 2 ^ 32
    below = xor_lt 32 (a * 2 % 2 ^ 32) (a / 2 ^ 31 * 0x8D) (mod-lt (a * 2) (lit< tt)) (omega arith)

-- ---- the table of a nibble

-- the multiple by 0
pub multiple_zero : (a : ℕ) → a < 2 ^ 32 → product 32 a 0 ≡ 0
multiple_zero a fits = product-xor 32 a 0 0 (lit< tt) fits (lit< tt) (lit< tt) ∙ xor_self (product 32 a 0)

module _ (a two four eight : ℕ) (fits : a < 2 ^ 32) (by_two : two ≡ product 32 a 2) (by_four : four ≡ product 32 two 2) (by_eight : eight ≡ product 32 four 2) where
  -- the multiple by 1
  at_one : a ≡ product 32 a 1
  at_one = sym (product-one 32 a (lit< tt) fits)

  at_four : four ≡ product 32 a 4
  at_four =
      by_four
      ∙ ap (λ z. product 32 z 2) by_two
      ∙ product-assoc 32 a 2 2 (lit< tt) fits (lit< tt) (lit< tt)
      ∙ ap (product 32 a) (product-shift 32 1 2 (lit< tt) (lit< tt) (lit< tt) (lit< tt))

  at_eight : eight ≡ product 32 a 8
  at_eight =
      by_eight
      ∙ ap (λ z. product 32 z 2) at_four
      ∙ product-assoc 32 a 4 2 (lit< tt) fits (lit< tt) (lit< tt)
      ∙ ap (product 32 a) (product-shift 32 2 2 (lit< tt) (lit< tt) (lit< tt) (lit< tt))

  -- the multiple by an exclusive or
  at_sum : (p q j d : ℕ) → p ≡ product 32 a j → q ≡ product 32 a d → j < 2 ^ 32 → d < 2 ^ 32 → bit_xor p q ≡ product 32 a (bit_xor j d)
  at_sum p q j d at_j at_d below_j below_d =
      ap (λ z. bit_xor z q) at_j ∙ ap (bit_xor (product 32 a j)) at_d ∙ sym (product-xor 32 a j d (lit< tt) fits below_j below_d)

  at_three : bit_xor a two ≡ product 32 a 3
  at_three = at_sum a two 1 2 at_one by_two (lit< tt) (lit< tt)

  at_five : bit_xor a four ≡ product 32 a 5
  at_five = at_sum a four 1 4 at_one at_four (lit< tt) (lit< tt)

  at_six : bit_xor two four ≡ product 32 a 6
  at_six = at_sum two four 2 4 by_two at_four (lit< tt) (lit< tt)

  at_seven : bit_xor (bit_xor a two) four ≡ product 32 a 7
  at_seven = at_sum (bit_xor a two) four 3 4 at_three at_four (lit< tt) (lit< tt)

  -- the multiple by a polynomial of 3 bits and x ^ 3
  at_upper : (p j : ℕ) → p ≡ product 32 a j → j < 2 ^ 32 → bit_xor p eight ≡ product 32 a (bit_xor j 8)
  at_upper p j at_j below_j = at_sum p eight j 8 at_j at_eight below_j (lit< tt)

  -- the sixteen multiples
  abbrev sixteen : List ℕ
  sixteen = nibble_sums a two four eight

  upper_are : (j : ℕ) → j < 8 → slice_index sixteen (suc (suc (suc (suc (suc (suc (suc (suc j)))))))) ≡ product 32 a (suc (suc (suc (suc (suc (suc (suc (suc j))))))))
  upper_are zero lt = at_eight
  upper_are (suc zero) lt = at_upper a 1 at_one (lit< tt)
  upper_are (suc (suc zero)) lt = at_upper two 2 by_two (lit< tt)
  upper_are (suc (suc (suc zero))) lt = at_upper (bit_xor a two) 3 at_three (lit< tt)
  upper_are (suc (suc (suc (suc zero)))) lt = at_upper four 4 at_four (lit< tt)
  upper_are (suc (suc (suc (suc (suc zero))))) lt = at_upper (bit_xor a four) 5 at_five (lit< tt)
  upper_are (suc (suc (suc (suc (suc (suc zero)))))) lt = at_upper (bit_xor two four) 6 at_six (lit< tt)
  upper_are (suc (suc (suc (suc (suc (suc (suc zero))))))) lt = at_upper (bit_xor (bit_xor a two) four) 7 at_seven (lit< tt)
  upper_are (suc (suc (suc (suc (suc (suc (suc (suc j)))))))) lt = absurd (omega arith)

  pub sixteen_are : (j : ℕ) → j < 16 → slice_index sixteen j ≡ product 32 a j
  sixteen_are zero lt = sym (multiple_zero a fits)
  sixteen_are (suc zero) lt = at_one
  sixteen_are (suc (suc zero)) lt = by_two
  sixteen_are (suc (suc (suc zero))) lt = at_three
  sixteen_are (suc (suc (suc (suc zero)))) lt = at_four
  sixteen_are (suc (suc (suc (suc (suc zero))))) lt = at_five
  sixteen_are (suc (suc (suc (suc (suc (suc zero)))))) lt = at_six
  sixteen_are (suc (suc (suc (suc (suc (suc (suc zero))))))) lt = at_seven
  sixteen_are (suc (suc (suc (suc (suc (suc (suc (suc j)))))))) lt = upper_are j (omega arith)

-- ---- the tables of all nibbles

-- the lowest bit of a nibble is an element
index_fits : (i : ℕ) → i < 8 → 2 ^ (4 * i) < 2 ^ 32
index_fits i index = subst (λ z. z < 2 ^ 32) (one-mul (2 ^ (4 * i))) (nibble_fits i 1 index (lit< tt))

-- a multiple of the factor's shift is the factor's multiple by the nibble
pub shifted_product : (factor shifted i j : ℕ) → factor < 2 ^ 32 → i < 8 → j < 16 → shifted ≡ product 32 factor (2 ^ (4 * i)) → product 32 shifted j ≡ product 32 factor (j * 2 ^ (4 * i))
shifted_product factor shifted i j fits index below shifted_is =
    ap (λ z. product 32 z j) shifted_is
    ∙ product-assoc 32 factor (2 ^ (4 * i)) j (lit< tt) fits (index_fits i index) below_j
    ∙ ap (product 32 factor) (product-shift 32 (4 * i) j (lit< tt) (index_fits i index) below_j (nibble_fits i j index below))
  where
    below_j : j < 2 ^ 32
    below_j = omega arith

pub table_is : (factor shifted i : ℕ) (table : List ℕ) → factor < 2 ^ 32 → i < 8 → shifted ≡ product 32 factor (2 ^ (4 * i)) → ((j : ℕ) → j < 16 → slice_index table j ≡ product 32 shifted j)
    → IsTable factor i table
table_is factor shifted i table fits index shifted_is are j below = are j below ∙ shifted_product factor shifted i j fits index below shifted_is

-- one table more is done
pub tables_more : (factor i : ℕ) (tables : List (List ℕ)) (table : List ℕ) → i < length tables → ((k : ℕ) → k < i → IsTable factor k (slice_index_or tables k [])) → IsTable factor i table
    → (k : ℕ) → k < i + 1 → IsTable factor k (slice_index_or (slice_set tables i table) k [])
tables_more factor i tables table index before here =
    below_more (λ k. IsTable factor k (slice_index_or (slice_set tables i table) k [])) i
    (λ k below. let other : k ≢ i = omega arith in subst (IsTable factor k) (sym (get_or-set_other tables i k table [] other)) (before k below))
    (subst (IsTable factor i) (sym (get_or-set_same tables i table [] index)) here)

-- the factor's next shift
pub shifted_next : (factor shifted eight next i : ℕ) → factor < 2 ^ 32 → i + 1 < 8 → shifted ≡ product 32 factor (2 ^ (4 * i)) → eight ≡ product 32 shifted 8 → next ≡ product 32 eight 2
    → next ≡ product 32 factor (2 ^ (4 * (i + 1)))
shifted_next factor shifted eight next i fits index shifted_is by_eight by_two =
    by_two
    ∙ ap (λ z. product 32 z 2) by_eight
    ∙ product-assoc 32 shifted 8 2 (lit< tt) shifted_fits (lit< tt) (lit< tt)
    ∙ ap (product 32 shifted) (product-shift 32 3 2 (lit< tt) (lit< tt) (lit< tt) (lit< tt))
    ∙ ap (λ z. product 32 z 16) shifted_is
    ∙ product-assoc 32 factor (2 ^ (4 * i)) 16 (lit< tt) fits (index_fits i here) (lit< tt)
    ∙ ap (product 32 factor) (product-shift 32 (4 * i) 16 (lit< tt) (index_fits i here) (lit< tt) (subst (λ z. z < 2 ^ 32) up (index_fits (i + 1) index)) ∙ sym up)
  where
    here : i < 8
    here = omega arith

    shifted_fits : shifted < 2 ^ 32
    shifted_fits = subst (λ z. z < 2 ^ 32) (sym shifted_is) (product-below 32 factor (2 ^ (4 * i)) (lit< tt) fits (index_fits i here))

    more : 4 * (i + 1) ≡ 4 + 4 * i
    more = omega arith

    up : 2 ^ (4 * (i + 1)) ≡ 16 * 2 ^ (4 * i)
    up = ap (λ z. 2 ^ z) more ∙ pow-add 2 4 (4 * i)

-- the product by a factor keeps exclusive ors
pub product_is_linear : (factor : ℕ) → factor < 2 ^ 32 → IsLinear (product 32 factor)
product_is_linear factor fits a b a_fits b_fits = product-xor 32 factor a b (lit< tt) fits a_fits b_fits
