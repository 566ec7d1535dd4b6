-- Steps of the functions that make locator polynomials and the products of their halves.
use Rattle.std.proofs.Common.{◌≡◌, ◌⊎◌, inl, inr, ℕ, zero, suc, ◌+◌, ◌-◌, ◌*◌, ◌<◌, ◌≤◌, List, [], ◌∷◌, length, get_or, take, drop, replicate, refl, sym, ◌∙◌, ap, arith}
use Rattle.std.proofs.Math.ListN.{drop_of_length-le}
use Rattle.std.proofs.lemmas.Bool.{cases_lt}
use Rattle.std.proofs.lemmas.List.{get_or_default, get_or-replicate, get_or-take, length-take-le}
use borrow.Rule.Slice.PartMut.{mid_of, put_mid}
use Rattle.field_rules.specs.Fields.{with_multiple}
use Rattle.field_laws.proofs.RingFacts.{zero_plus, one_times, times_zero}
use Rattle.fraction_laws.specs.Locators.{locator, even_half, odd_half}
use Rattle.fraction_laws.proofs.SeriesProducts.{raised_by, raised_by-below, raised_by-from, first_rows, product-rows}
use Rattle.fraction_laws.proofs.Locators.{locator-first, locator-beyond, denominator-square, numerator-halves}
use Rattle.clmul_lanes.specs.declared.lane32.Lane32.{Lane32}
use Rattle.clmul_lanes.specs.Lane32.{ops, ring, bits_of, zero_of, one_of, same_bits}
use Rattle.clmul_lanes.specs.Fractions.{IsLocator, IsNumerator, IsLaterDenominator}
use Rattle.clmul_lanes.proofs.Coefficients.{length-with_multiple, get_or-with_multiple, get_or-with_multiple_beyond, part_before, part_inside, part_after, size_after}

-- ---- the factors

pub zeros_are : (n : ℕ) (z : Lane32) → bits_of z ≡ 0 → (j : ℕ) → j < n → get_or (replicate n z) j zero_of ≡ zero_of
zeros_are n z is j lt = get_or-replicate n j z zero_of lt ∙ same_bits z zero_of is

-- of the last no elements of a list
pub no_factors : (elements : List Lane32) (z : Lane32) → bits_of z ≡ 0 → IsLocator (drop (length elements - 0) elements) (replicate 32 z)
unfolding locator
no_factors elements z is = let none : drop (length elements - 0) elements ≡ [] = drop_of_length-le elements (omega arith) in
    rw none (record { size = refl; each = zeros_are 32 z is })

-- one factor more, where the first `count` coefficients are made
module _ (es : List Lane32) (e : Lane32) (count : ℕ) (list up more : List Lane32) (fewer : length es < count) (small : count ≤ 32) (is : IsLocator es list)
    (up_size : length up ≡ 32) (up_first : get_or up 0 zero_of ≡ one_of) (up_later : (j : ℕ) → j < 31 → get_or up (suc j) zero_of ≡ get_or list j zero_of)
    (more_is : more ≡ with_multiple ops list e (take count up)) where
  up_at : (j : ℕ) → j < 32 → get_or up j zero_of ≡ locator ops es j
  up_at zero lt = up_first ∙ sym (locator-first ops ring es)
  up_at (suc j) lt = up_later j (omega arith) ∙ is.each j (omega arith)

  taken : length (take count up) ≡ count
  taken = length-take-le count up (omega (arith, up_size))

  factor_at : (j : ℕ) → j < 32 → (j < count) ⊎ (count ≤ j) → get_or more j zero_of ≡ locator ops (e ∷ es) (suc j)
  unfolding locator
  factor_at j lt (inl below) =
      ap (λ l. get_or l j zero_of) more_is
      ∙ get_or-with_multiple ops list e (take count up) j zero_of (omega (arith, is.size)) (omega (arith, taken, below))
      ∙ ap (λ z. ops.plus z (ops.times e (get_or (take count up) j zero_of))) (is.each j lt)
      ∙ ap (λ z. ops.plus (locator ops es (suc j)) (ops.times e z)) (get_or-take count up j zero_of below ∙ up_at j lt)
  factor_at j lt (inr above) =
      ap (λ l. get_or l j zero_of) more_is
      ∙ get_or-with_multiple_beyond ops list e (take count up) j zero_of (omega (arith, taken, above))
      ∙ is.each j lt
      ∙ locator-beyond ops ring es (suc j) (omega (arith, fewer, above))
      ∙ sym (locator-beyond ops ring (e ∷ es) (suc j) (omega (arith, fewer, above)))

  pub factor_more : IsLocator (e ∷ es) more
  factor_more = record {
    size = ap length more_is ∙ length-with_multiple ops list e (take count up) ∙ is.size;
    each = λ j lt. factor_at j lt (cases_lt j count);
  }

-- ---- the denominator

pub squares_are : (es list : List Lane32) (squares : List ℕ) → IsLocator es list → ((j : ℕ) → j < 32 → get_or squares j 0 ≡ bits_of (ops.times (get_or list j zero_of) (get_or list j zero_of)))
    → IsLaterDenominator es squares
squares_are es list squares is made j lt = made j lt ∙ ap (λ z. bits_of (ops.times z z)) (is.each j lt) ∙ ap bits_of (sym (denominator-square ops ring es (suc j)))

-- ---- the numerator

module _ (es list odd : List Lane32) (small : length es ≤ 32) (is : IsLocator es list) (odd_each : (i : ℕ) → i < 16 → get_or odd i zero_of ≡ get_or list (2 * i) zero_of) where
  odd_at : (i : ℕ) → i < 16 → get_or odd i zero_of ≡ odd_half ops es i
  odd_at i lt = let index : suc (2 * i) ≡ 2 * i + 1 = omega arith in odd_each i lt ∙ is.each (2 * i) (omega arith) ∙ ap (locator ops es) index

  odd_beyond : (i : ℕ) → 16 ≤ i → odd_half ops es i ≡ zero_of
  odd_beyond i le = locator-beyond ops ring es (2 * i + 1) (omega (arith, small))

  -- the first row, which is the odd half itself
  module _ (product : List Lane32) (n : ℕ) (end : n ≡ 16) (done : (k : ℕ) → k < n → get_or product k zero_of ≡ get_or odd k zero_of) (rest : (k : ℕ) → n ≤ k → k < 33 → get_or product k zero_of ≡ zero_of) where
    first_at : (j : ℕ) → j < 33 → (j < 16) ⊎ (16 ≤ j) → get_or product j zero_of ≡ odd_half ops es j
    first_at j lt (inl below) = done j (omega (arith, end, below)) ∙ odd_at j below
    first_at j lt (inr above) = rest j (omega (arith, end, above)) lt ∙ sym (odd_beyond j above)

    pub first_row : (j : ℕ) → j < 33 → get_or product j zero_of ≡ first_rows ops 1 (even_half ops es) (odd_half ops es) j
    unfolding first_rows raised_by
    first_row j lt =
        first_at j lt (cases_lt j 16)
        ∙ sym
        (zero_plus ops ring (ops.times (even_half ops es 0) (odd_half ops es j))
        ∙ ap (λ z. ops.times z (odd_half ops es j)) (locator-first ops ring es)
        ∙ one_times ops ring (odd_half ops es j))

  -- one row more
  module _ (i w : ℕ) (k d : Lane32) (product part : List Lane32) (inside : i < 16) (w_is : w ≡ 16) (k_is : k ≡ get_or list (2 * i + 1) d) (odd_size : length odd ≡ 16) (size : length product ≡ 33)
      (part_is : part ≡ with_multiple ops (mid_of (i + 1) w product) k odd) (rows : (j : ℕ) → j < 33 → get_or product j zero_of ≡ first_rows ops (i + 1) (even_half ops es) (odd_half ops es) j) where
    odd_width : length odd ≡ w
    odd_width = odd_size ∙ sym w_is

    room : i + 1 + w ≤ length product
    room = omega (arith, w_is, size)

    k_at : k ≡ even_half ops es (i + 1)
    k_at = let index : suc (2 * i + 1) ≡ 2 * (i + 1) = omega arith in
        k_is ∙ get_or_default list (2 * i + 1) d zero_of (omega (arith, is.size)) ∙ is.each (2 * i + 1) (omega arith) ∙ ap (locator ops es) index

    row_at : (j : ℕ) → j < 33 → (j < i + 1) ⊎ (i + 1 ≤ j) → ((m : ℕ) → j ≡ i + 1 + m → (m < 16) ⊎ (16 ≤ m))
        → get_or (put_mid (i + 1) w product part) j zero_of ≡ ops.plus (first_rows ops (i + 1) (even_half ops es) (odd_half ops es) j) (ops.times (even_half ops es (i + 1)) (raised_by ops (i + 1) (odd_half ops es) j))
    row_at j lt (inl below) cases =
        part_before ops product odd part k (i + 1) w zero_of room odd_width part_is j below
        ∙ rows j lt
        ∙ sym
        (ap (λ z. ops.plus (first_rows ops (i + 1) (even_half ops es) (odd_half ops es) j) (ops.times (even_half ops es (i + 1)) z)) (raised_by-below ops (i + 1) (odd_half ops es) j below)
        ∙ ap (ops.plus (first_rows ops (i + 1) (even_half ops es) (odd_half ops es) j)) (times_zero ops ring (even_half ops es (i + 1)))
        ∙ ring.plus_zero (first_rows ops (i + 1) (even_half ops es) (odd_half ops es) j))
    row_at j lt (inr above) cases = from (j - (i + 1)) (omega (arith, above)) (cases (j - (i + 1)) (omega (arith, above)))
      where
        from : (m : ℕ) → j ≡ i + 1 + m → (m < 16) ⊎ (16 ≤ m)
            → get_or (put_mid (i + 1) w product part) j zero_of ≡ ops.plus (first_rows ops (i + 1) (even_half ops es) (odd_half ops es) j) (ops.times (even_half ops es (i + 1)) (raised_by ops (i + 1) (odd_half ops es) j))
        from m at (inl within) =
            ap (λ n. get_or (put_mid (i + 1) w product part) n zero_of) at
            ∙ part_inside ops product odd part k (i + 1) w zero_of room odd_width part_is m (omega (arith, w_is, within))
            ∙ ap (λ n. ops.plus (get_or product n zero_of) (ops.times k (get_or odd m zero_of))) (sym at)
            ∙ ap (λ z. ops.plus z (ops.times k (get_or odd m zero_of))) (rows j lt)
            ∙ ap (λ z. ops.plus (first_rows ops (i + 1) (even_half ops es) (odd_half ops es) j) (ops.times z (get_or odd m zero_of))) k_at
            ∙ ap (λ z. ops.plus (first_rows ops (i + 1) (even_half ops es) (odd_half ops es) j) (ops.times (even_half ops es (i + 1)) z))
            (odd_at m within ∙ sym (raised_by-from ops (i + 1) (odd_half ops es) m) ∙ ap (raised_by ops (i + 1) (odd_half ops es)) (sym at))
        from m at (inr beyond) =
            part_after ops product odd part k (i + 1) w zero_of room odd_width part_is j (omega (arith, w_is, beyond, at))
            ∙ rows j lt
            ∙ sym
            (ap (λ z. ops.plus (first_rows ops (i + 1) (even_half ops es) (odd_half ops es) j) (ops.times (even_half ops es (i + 1)) z))
            (ap (raised_by ops (i + 1) (odd_half ops es)) at ∙ raised_by-from ops (i + 1) (odd_half ops es) m ∙ odd_beyond m beyond)
            ∙ ap (ops.plus (first_rows ops (i + 1) (even_half ops es) (odd_half ops es) j)) (times_zero ops ring (even_half ops es (i + 1)))
            ∙ ring.plus_zero (first_rows ops (i + 1) (even_half ops es) (odd_half ops es) j))

    pub next_row_added : (j : ℕ) → j < 33 → get_or (put_mid (i + 1) w product part) j zero_of ≡ first_rows ops (i + 1 + 1) (even_half ops es) (odd_half ops es) j
    unfolding first_rows
    next_row_added j lt = let index : i + 1 + 1 ≡ suc (i + 1) = omega arith in
        rw index (row_at j lt (cases_lt j (i + 1)) (λ m at. cases_lt m 16))

pub next_row_size : (i w : ℕ) (k : Lane32) (product odd part : List Lane32) → i < 16 → w ≡ 16 → length odd ≡ 16 → length product ≡ 33 → part ≡ with_multiple ops (mid_of (i + 1) w product) k odd
    → length (put_mid (i + 1) w product part) ≡ 33
next_row_size i w k product odd part inside w_is odd_size size part_is = size_after ops product odd part k (i + 1) w zero_of (omega (arith, w_is, size)) (odd_size ∙ sym w_is) part_is ∙ size

-- all rows
pub all_rows : (es product : List Lane32) (n : ℕ) → length es ≤ 32 → n ≡ 16 → ((j : ℕ) → j < 33 → get_or product j zero_of ≡ first_rows ops (n + 1) (even_half ops es) (odd_half ops es) j) → IsNumerator 0 es product
all_rows es product n small end rows j lt = let index : n + 1 ≡ 17 = omega (arith, end) in
    rows j lt
    ∙ ap (λ m. first_rows ops m (even_half ops es) (odd_half ops es) j) index
    ∙ sym (product-rows ops ring 17 (even_half ops es) (odd_half ops es) j (λ i le. locator-beyond ops ring es (2 * i) (omega (arith, small, le))))
    ∙ sym (numerator-halves ops ring es j)
