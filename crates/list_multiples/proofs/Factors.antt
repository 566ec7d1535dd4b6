-- What rows have the multiples by: elements told by their bits, and the bits of eight places.
use Rattle.std.proofs.Common.{◌≡◌, ◌≢◌, ℕ, ◌+◌, ◌-◌, ◌*◌, ◌/◌, ◌%◌, ◌^◌, ◌<◌, ◌≤◌, List, length, map, take, drop, replicate, length-drop, refl, sym, ap, ap₂, subst, ◌∙◌, arith, pow_mono, lit<}
use Rattle.std.specs.Int.Bits.{bit_xor, xor_comm, xor_shifted}
use Rattle.std.proofs.Math.Pow.{mod-mod-pow}
use Rattle.std.proofs.Math.Nat.{mod-lt, mod-one, mod-eq_of_lt, le_trans}
use Rattle.std.proofs.lemmas.Nat.{pow_pos, pow-add, shl_below, shr-shr, mod-pow-add, div-mul-add}
use Rattle.std.proofs.lemmas.List.{length-map, drop-map}
use Rattle.field_rules.specs.Ops.{Ops, IsRing}
use Rattle.field_rules.specs.Fields.{with_multiple}
use Rattle.field_rules.specs.Lists.{sums_of_both}
use Rattle.field_rules.specs.Numbered.{IsNumbered}
use Rattle.field_laws.proofs.Numbers.{width_positive}
use Rattle.list_multiples.specs.Rows.{row_of, row_count, factor, IsRow, AreRows, AreAllRows}
use Rattle.list_multiples.proofs.Sums.{multiples_added, multiple_of_zeros, zeros_are, none_added, multiple_added, length-both, once}
use Rattle.list_multiples.proofs.RowLists.{part_of_row}

-- ---- factors of rows

-- a row by a power of x
pub power_factor : (r bit : ℕ) → r % 16 ≡ 2 ^ bit → 2 ^ (4 * (r / 16) + bit) ≡ factor r
power_factor r bit is = let turned : 4 * (r / 16) + bit ≡ bit + 4 * (r / 16) = omega arith in
    ap (λ z. 2 ^ z) turned ∙ pow-add 2 bit (4 * (r / 16)) ∙ ap (λ z. z * 2 ^ (4 * (r / 16))) (sym is)

-- a value as its highest bit and the rest
module _ (r bit : ℕ) (least : 2 ^ bit ≤ r % 16) (most : r % 16 < 2 * 2 ^ bit) where
  pub high_factor : factor (r - r % 16 + 2 ^ bit) ≡ 2 ^ bit * 2 ^ (4 * (r / 16))
  high_factor = of (2 ^ bit) least
    where
      of : (p : ℕ) → p ≤ r % 16 → factor (r - r % 16 + p) ≡ p * 2 ^ (4 * (r / 16))
      of p le =
          let value : (r - r % 16 + p) % 16 ≡ p = omega arith in
          let place : (r - r % 16 + p) / 16 ≡ r / 16 = omega arith in
          ap₂ (λ v w. v * 2 ^ (4 * w)) value place

  pub low_factor : factor (r - 2 ^ bit) ≡ (r % 16 - 2 ^ bit) * 2 ^ (4 * (r / 16))
  low_factor = of (2 ^ bit) least
    where
      of : (p : ℕ) → p ≤ r % 16 → factor (r - p) ≡ (r % 16 - p) * 2 ^ (4 * (r / 16))
      of p le =
          let value : (r - p) % 16 ≡ r % 16 - p = omega arith in
          let place : (r - p) / 16 ≡ r / 16 = omega arith in
          ap₂ (λ v w. v * 2 ^ (4 * w)) value place

  sum_is : (p q v : ℕ) → q ≤ v → q * p + (v - q) * p ≡ v * p
  sum_is p q v le = let joined : q + (v - q) ≡ v = omega arith in turned p q (v - q) ∙ ap (λ z. z * p) joined
    where
      turned : (p a b : ℕ) → a * p + b * p ≡ (a + b) * p
      turned p a b = omega arith

  pub both_factors : bit_xor (factor (r - r % 16 + 2 ^ bit)) (factor (r - 2 ^ bit)) ≡ factor r
  both_factors =
      ap₂ bit_xor (high_factor ∙ sym (pow-add 2 bit (4 * (r / 16))) ∙ sym (unit (2 ^ (bit + 4 * (r / 16))))) low_factor
      ∙ xor_shifted 1 (bit + 4 * (r / 16)) ((r % 16 - 2 ^ bit) * 2 ^ (4 * (r / 16))) (shl_below (r % 16 - 2 ^ bit) bit (4 * (r / 16)) (omega (arith, least, most)))
      ∙ ap (λ z. z + (r % 16 - 2 ^ bit) * 2 ^ (4 * (r / 16))) (unit (2 ^ (bit + 4 * (r / 16))) ∙ pow-add 2 bit (4 * (r / 16)))
      ∙ sum_is (2 ^ (4 * (r / 16))) (2 ^ bit) (r % 16) least
    where
      unit : (p : ℕ) → 1 * p ≡ p
      unit p = omega arith

  pub both_within : (factor (r - r % 16 + 2 ^ bit) ≤ factor r) × (factor (r - 2 ^ bit) ≤ factor r)
  both_within =
      let sum = sum_is (2 ^ (4 * (r / 16))) (2 ^ bit) (r % 16) least in
      (omega (arith, high_factor, sum), omega (arith, low_factor, sum))

-- the multiple by the lower w fours of bits is added
abbrev pub IsAddedBelow : {A : Type 0} → Ops A → (A → ℕ) → ℕ → ℕ → List A → List A → List A → Type 0
IsAddedBelow {A = A} ops bits_of bits w acc items new = (m : A) → bits_of m ≡ bits % 2 ^ (4 * w) → new ≡ with_multiple ops acc m items

-- ---- the bits of eight places

pub undivided : (b : ℕ) → b / 2 ^ (32 * 0) ≡ b
undivided b = omega arith

-- the next 32 bits
pub next_word : (k bits step : ℕ) → bits ≡ k / 2 ^ (32 * step) → bits / 2 ^ 32 ≡ k / 2 ^ (32 * (step + 1))
next_word k bits step is = let exponent : 32 * step + 32 ≡ 32 * (step + 1) = omega arith in ap (λ z. z / 2 ^ 32) is ∙ shr-shr k (32 * step) 32 ∙ ap (λ z. k / 2 ^ z) exponent

-- four bits of the low m + 4 + j bits, from bit m on
low_nibble : (b m j : ℕ) → b % 2 ^ (j + 4 + m) / 2 ^ m % 2 ^ 4 ≡ b / 2 ^ m % 2 ^ 4
low_nibble b m j =
    ap (λ z. z / 2 ^ m % 2 ^ 4) (mod-pow-add b (j + 4) m)
    ∙ ap (λ z. z % 2 ^ 4) (div-mul-add (b / 2 ^ m % 2 ^ (j + 4)) (2 ^ m) (b % 2 ^ m) (mod-lt b (pow_pos m)))
    ∙ mod-mod-pow (b / 2 ^ m) j 4

-- nibble i of a word of 32 bits of k
nibble_at : (k bits word step i v : ℕ) → bits ≡ k / 2 ^ (32 * step) → word ≡ bits % 2 ^ 32 → i < 8 → v ≡ word / 2 ^ (4 * i) % 16 → v ≡ k / 2 ^ (4 * (8 * step + i)) % 16
nibble_at k bits word step i v bits_is word_is lt value =
    let size : 32 ≡ 28 - 4 * i + 4 + 4 * i = omega arith in
    let exponent : 32 * step + 4 * i ≡ 4 * (8 * step + i) = omega arith in
    value
    ∙ ap (λ z. z / 2 ^ (4 * i) % 16) (word_is ∙ ap (λ z. bits % 2 ^ z) size)
    ∙ low_nibble bits (4 * i) (28 - 4 * i)
    ∙ ap (λ z. z / 2 ^ (4 * i) % 16) bits_is
    ∙ ap (λ z. z % 16) (shr-shr k (32 * step) (4 * i) ∙ ap (λ z. k / 2 ^ z) exponent)

module _ {A : Type 0} (ops : Ops A) (bits_of : A → ℕ) (width : ℕ) (numbered : IsNumbered ops bits_of width) where
  -- an element as a sum, by its bits
  record IsSum (k : A) (a b : ℕ) : Type 0 where
    pub first : A
    pub second : A
    pub first_bits : bits_of first ≡ a
    pub second_bits : bits_of second ≡ b
    pub sum : k ≡ ops.plus first second

  as_sum : (k : A) (a b : ℕ) → bits_of k ≡ bit_xor a b → a ≤ bits_of k → b ≤ bits_of k → IsSum k a b
  as_sum k a b is a_within b_within =
      let below : bits_of k < 2 ^ width = numbered.below k in
      let p = numbered.filled a (omega arith) in
      let q = numbered.filled b (omega arith) in
      record {
        first = p.0;
        second = q.0;
        first_bits = p.1;
        second_bits = q.1;
        sum = numbered.same k (ops.plus p.0 q.0) (is ∙ sym (numbered.plus_bits p.0 q.0 ∙ ap₂ bit_xor p.1 q.1));
      }

  module _ (ring : IsRing ops) where
    -- ---- the rows

    zero_is : (k : A) → bits_of k ≡ 0 → k ≡ ops.zero
    zero_is k none = numbered.same k ops.zero (none ∙ sym numbered.zero_bits)

    pub zero_row : (r : ℕ) (list row : List A) → r % 16 ≡ 0 → row ≡ replicate (length list) ops.zero → IsRow ops bits_of (factor r) list row
    zero_row r list row first is = record {
      size = ap length (is ∙ zeros_are ops ring list) ∙ length-map list (ops.times ops.zero);
      products = λ k bits. is ∙ zeros_are ops ring list ∙ ap (λ z. map (ops.times z) list) (sym (zero_is k (bits ∙ ap (λ z. z * 2 ^ (4 * (r / 16))) first ∙ none (2 ^ (4 * (r / 16))))));
    }
      where
        none : (p : ℕ) → 0 * p ≡ 0
        none p = omega arith

    pub power_row : (j : ℕ) (e : A) (list zeros row : List A) → bits_of e ≡ 2 ^ j → zeros ≡ replicate (length list) ops.zero → row ≡ with_multiple ops zeros e list → IsRow ops bits_of (2 ^ j) list row
    power_row j e list zeros row is zeros_is row_is =
        let made : row ≡ map (ops.times e) list = row_is ∙ ap (λ z. with_multiple ops z e list) zeros_is ∙ multiple_of_zeros ops ring e list in
        record {
          size = ap length made ∙ length-map list (ops.times e);
          products = λ k bits. made ∙ ap (λ z. map (ops.times z) list) (numbered.same e k (is ∙ sym bits));
        }

    pub no_power_row : (j : ℕ) (list row : List A) → width ≤ j → row ≡ replicate (length list) ops.zero → IsRow ops bits_of (2 ^ j) list row
    no_power_row j list row past is = record {
      size = ap length (is ∙ zeros_are ops ring list) ∙ length-map list (ops.times ops.zero);
      products = λ k bits. let below : bits_of k < 2 ^ width = numbered.below k in let larger : 2 ^ width ≤ 2 ^ j = pow_mono past in absurd (omega (arith, below, larger, bits));
    }

    pub sum_row : (a b bits : ℕ) (list one other row : List A) → bit_xor a b ≡ bits → a ≤ bits → b ≤ bits → IsRow ops bits_of a list one → IsRow ops bits_of b list other → row ≡ sums_of_both ops one other
        → IsRow ops bits_of bits list row
    sum_row a b bits list one other row joined a_within b_within one_is other_is is = record {
      size = ap length is ∙ length-both ops one other (one_is.size ∙ sym other_is.size) ∙ one_is.size;
      products = λ k bits_are.
          let parts = as_sum k a b (bits_are ∙ sym joined) (subst (λ z. a ≤ z) (sym bits_are) a_within) (subst (λ z. b ≤ z) (sym bits_are) b_within) in
          is
          ∙ ap₂ (sums_of_both ops) (one_is.products parts.first parts.first_bits) (other_is.products parts.second parts.second_bits)
          ∙ multiples_added ops ring parts.first parts.second list
          ∙ ap (λ z. map (ops.times z) list) (sym parts.sum);
    }

    pub row_of_sum : (r bit high : ℕ) (list rows row : List A) → high ≡ 2 ^ bit → 2 ^ bit ≤ r % 16 → r % 16 < 2 * 2 ^ bit → r % 16 ≢ high → AreRows ops bits_of r list rows
        → row ≡ sums_of_both ops (row_of (length list) rows (r - r % 16 + high)) (row_of (length list) rows (r - high)) → IsRow ops bits_of (factor r) list row
    row_of_sum r bit high list rows row e least most apart are is =
        sum_row (factor (r - r % 16 + 2 ^ bit)) (factor (r - 2 ^ bit)) (factor r) list (row_of (length list) rows (r - r % 16 + 2 ^ bit)) (row_of (length list) rows (r - 2 ^ bit)) row
        (both_factors r bit least most) (both_within r bit least most).0 (both_within r bit least most).1
        (are.each (r - r % 16 + 2 ^ bit) (high_earlier (2 ^ bit) least (λ same. apart (same ∙ sym e)))) (are.each (r - 2 ^ bit) (low_earlier (2 ^ bit) (pow_pos bit) least))
        (is ∙ ap (λ h. sums_of_both ops (row_of (length list) rows (r - r % 16 + h)) (row_of (length list) rows (r - h))) e)
      where
        high_earlier : (p : ℕ) → p ≤ r % 16 → r % 16 ≢ p → r - r % 16 + p < r
        high_earlier p le other = omega arith

        low_earlier : (p : ℕ) → 0 < p → p ≤ r % 16 → r - p < r
        low_earlier p positive le = omega arith

    -- the row at index 1 is the list
    pub list_row : (list rows : List A) → AreRows ops bits_of (row_count width) list rows → row_of (length list) rows 1 ≡ list
    list_row list rows are =
        let some : 0 < width = width_positive ops bits_of width numbered in
        let below : 1 < row_count width = omega (arith, some) in
        (are.each 1 below).products ops.one numbered.one_bits ∙ once ops ring list

    pub all_rows : (list rows : List A) → AreRows ops bits_of (row_count width) list rows → AreAllRows ops bits_of width (length list) rows
    all_rows list rows are = record {
      size = ap length (list_row list rows are);
      are = subst (λ z. AreRows ops bits_of (row_count width) z rows) (sym (list_row list rows are)) are;
    }

    -- ---- a multiple, by the rows of four bits each

    pub none_below : (bits : ℕ) (acc items : List A) → IsAddedBelow ops bits_of bits 0 acc items acc
    none_below bits acc items m is = sym (ap (λ z. with_multiple ops acc z items) (zero_is m (is ∙ mod-one bits)) ∙ none_added ops ring acc items)

    pub all_below : (k : A) (w : ℕ) (acc items new : List A) → width ≤ 4 * w → IsAddedBelow ops bits_of (bits_of k) w acc items new → new ≡ with_multiple ops acc k items
    all_below k w acc items new past added = added k (sym (mod-eq_of_lt (le_trans (numbered.below k) (pow_mono past))))

    -- one row more
    row_below : (list rows : List A) (count from bits w r : ℕ) (acc mid part new : List A) → AreRows ops bits_of count list rows → from + length acc ≤ length list → r < count → r ≡ 16 * w + bits / 2 ^ (4 * w) % 16
        → IsAddedBelow ops bits_of bits w acc (drop from list) mid → part ≡ take (length acc) (drop (r * length list + from) rows) → new ≡ sums_of_both ops mid part → IsAddedBelow ops bits_of bits (w + 1) acc (drop from list) new
    row_below list rows count from bits w r acc mid part new are inside lt at added part_is is m m_bits =
        is
        ∙ ap₂ (sums_of_both ops) (added parts.first parts.first_bits) part_made
        ∙ multiple_added ops ring parts.first parts.second acc (drop from list) (omega (arith, length-drop from list))
        ∙ ap (λ z. with_multiple ops acc z (drop from list)) (sym parts.sum)
      where
        nibble : ℕ
        nibble = bits / 2 ^ (4 * w) % 16

        small : nibble < 16
        small = mod-lt (bits / 2 ^ (4 * w)) (lit< tt)

        split : bits % 2 ^ (4 * (w + 1)) ≡ nibble * 2 ^ (4 * w) + bits % 2 ^ (4 * w)
        split = let more : 4 * (w + 1) ≡ 4 + 4 * w = omega arith in ap (λ z. bits % 2 ^ z) more ∙ mod-pow-add bits 4 (4 * w)

        joined : bit_xor (bits % 2 ^ (4 * w)) (nibble * 2 ^ (4 * w)) ≡ nibble * 2 ^ (4 * w) + bits % 2 ^ (4 * w)
        joined = xor_comm (bits % 2 ^ (4 * w)) (nibble * 2 ^ (4 * w)) ∙ xor_shifted nibble (4 * w) (bits % 2 ^ (4 * w)) (mod-lt bits (pow_pos (4 * w)))

        parts : IsSum m (bits % 2 ^ (4 * w)) (nibble * 2 ^ (4 * w))
        parts = as_sum m (bits % 2 ^ (4 * w)) (nibble * 2 ^ (4 * w)) (m_bits ∙ split ∙ sym joined) (omega (arith, m_bits, split)) (omega (arith, m_bits, split))

        factor_is : nibble * 2 ^ (4 * w) ≡ factor r
        factor_is =
            let value : r % 16 ≡ nibble = omega (arith, small, at) in
            let place : r / 16 ≡ w = omega (arith, small, at) in
            sym (ap₂ (λ v z. v * 2 ^ (4 * z)) value place)

        part_made : part ≡ take (length acc) (map (ops.times parts.second) (drop from list))
        part_made =
            part_is
            ∙ part_of_row (length list) r from (length acc) rows inside
            ∙ ap (λ z. take (length acc) (drop from z)) ((are.each r lt).products parts.second (parts.second_bits ∙ factor_is))
            ∙ ap (take (length acc)) (drop-map (ops.times parts.second) from list)

    -- the row of a nibble more
    pub nibble_below : (list rows : List A) (count n from k step bits word : ℕ) (acc : List A) → AreRows ops bits_of count list rows → length list ≡ n → from + length acc ≤ n → 128 * step + 128 ≤ count
        → bits ≡ k / 2 ^ (32 * step) → word ≡ bits % 2 ^ 32 → (i v r : ℕ) (mid part : List A) → i < 8 → r ≡ 128 * step + 16 * i + v → v ≡ word / 2 ^ (4 * i) % 16
        → part ≡ take (length acc) (drop (r * n + from) rows) → IsAddedBelow ops bits_of k (8 * step + i) acc (drop from list) mid
        → IsAddedBelow ops bits_of k (8 * step + (i + 1)) acc (drop from list) (sums_of_both ops mid part)
    nibble_below list rows count n from k step bits word acc are size fits last bits_is word_is i v r mid part lt row value at added =
        subst (λ w. IsAddedBelow ops bits_of k w acc (drop from list) (sums_of_both ops mid part)) next
        (row_below list rows count from k (8 * step + i) r acc mid part (sums_of_both ops mid part) are inside (omega (arith, small, last, lt, row)) place added (at ∙ sized) refl)
      where
        next : 8 * step + i + 1 ≡ 8 * step + (i + 1)
        next = omega arith

        inside : from + length acc ≤ length list
        inside = omega (arith, size, fits)

        sized : take (length acc) (drop (r * n + from) rows) ≡ take (length acc) (drop (r * length list + from) rows)
        sized = ap (λ z. take (length acc) (drop (r * z + from) rows)) (sym size)

        nibble : v ≡ k / 2 ^ (4 * (8 * step + i)) % 16
        nibble = nibble_at k bits word step i v bits_is word_is lt value

        small : v < 16
        small = subst (λ z. z < 16) (sym value) (mod-lt (word / 2 ^ (4 * i)) (lit< tt))

        place : r ≡ 16 * (8 * step + i) + k / 2 ^ (4 * (8 * step + i)) % 16
        place = subst (λ z. r ≡ 16 * (8 * step + i) + z) nibble (omega (arith, row))
