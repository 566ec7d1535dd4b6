-- A width that passes the tests is a field.
use Rattle.std.proofs.Common.{◌≡◌, ◌≢◌, ◌⊎◌, inl, inr, ℕ, zero, suc, ◌+◌, ◌-◌, ◌*◌, ◌^◌, ◌<◌, ◌≤◌, ◌==◌, ◌&&◌, Bool, true, false, List, [], ◌∷◌, refl, sym, ap, subst, ◌∙◌, arith}
use Rattle.std.specs.Int.Bits.{bit_xor, xor_self, xor_zero_l}
use Rattle.std.specs.Int.{bit_at}
use Rattle.std.proofs.Math.Nat.{zero-mul, le_refl}
use Rattle.std.proofs.Math.Pow.{pow-lt}
use Rattle.std.proofs.lemmas.Nat.Bits.{bit_at_xor, bit_at-zero}
use Rattle.std.proofs.lemmas.Bool.{cases_eq}
use Rattle.std.proofs.lemmas.Bool.Decides.{Decides-eqb}
use Rattle.field_rules.specs.Ops.{Ops, IsRing}
use Rattle.field_rules.specs.Elements.{product, numbers}
use Rattle.field_rules.specs.Fields.{conjugate, trace_of, IsField, IsSeparatedByTrace}
use Rattle.field_rules.specs.Numbered.{IsNumbered}
use Rattle.field_laws.specs.Certified.{bit_selection, square_plus_element, is_inverse_table, Certificate}
use Rattle.field_laws.proofs.Xors.{bit_cases, xor_swap, xor_same, xor_twice}
use Rattle.field_laws.proofs.Carryless.{xor_digits}
use Rattle.field_laws.proofs.RingFacts.{times_zero, zero_times, distributes_left, same_of_sum, square_plus, plus_swap}
use Rattle.field_laws.proofs.Conjugates.{conjugate-plus, conjugate-times, conjugate-one, conjugate-zero}
use Rattle.field_laws.proofs.Traces.{trace_of-plus, trace_of-zero, trace_of-own}
use Rattle.field_laws.proofs.Inverses.{norm_of, inverse-is, zero_factor, own_of_no_zero_divisor}
use Rattle.field_laws.proofs.Numbers.{width_positive, same_or_not}
use Rattle.field_laws.proofs.PowersOfX.{product-x, by_powers_of_x, conjugate-bits, trace_of-bits}

-- ---- the table

-- no bit selects nothing
bit_selection-zero : (i : ℕ) (table : List ℕ) → bit_selection i table 0 ≡ 0
unfolding bit_selection
bit_selection-zero i [] = refl
bit_selection-zero i (t ∷ table) = rw (bit_selection-zero (i + 1) table, bit_at-zero i, zero-mul) (xor_zero_l 0)

-- what the table selects keeps exclusive ors
pub bit_selection-xor : (i : ℕ) (table : List ℕ) (u v : ℕ) → bit_selection i table (bit_xor u v) ≡ bit_xor (bit_selection i table u) (bit_selection i table v)
unfolding bit_selection
bit_selection-xor i [] u v = sym (xor_zero_l 0)
bit_selection-xor i (t ∷ table) u v =
    ap (λ z. bit_xor (z * t) (bit_selection (i + 1) table (bit_xor u v))) (bit_at_xor u v i)
    ∙ ap (λ z. bit_xor z (bit_selection (i + 1) table (bit_xor u v))) (xor_digits (bit_at u i) (bit_at v i) t (bit_cases u i) (bit_cases v i))
    ∙ ap (bit_xor (bit_xor (bit_at u i * t) (bit_at v i * t))) (bit_selection-xor (i + 1) table u v)
    ∙ xor_swap (bit_at u i * t) (bit_at v i * t) (bit_selection (i + 1) table u) (bit_selection (i + 1) table v)

-- a test of two parts
both : (b c : Bool) → (b && c) ≡ true → (b ≡ true) × (c ≡ true)
both true c e = (refl, e)
both false c e = cc

-- the tests of the table, one by one
is_inverse_table-at : (width n j : ℕ) (table : List ℕ) → is_inverse_table width table n ≡ true → j < n → bit_selection 0 table (square_plus_element width (2 ^ suc j)) ≡ 2 ^ suc j
unfolding is_inverse_table
is_inverse_table-at width zero j table solved lt = absurd (omega arith)
is_inverse_table-at width (suc n) j table solved lt =
    by (both (bit_selection 0 table (square_plus_element width (2 ^ suc n)) == 2 ^ suc n) (is_inverse_table width table n) solved) (cases_eq j n) (is_inverse_table-at width n j table)
  where
    by : ((bit_selection 0 table (square_plus_element width (2 ^ suc n)) == 2 ^ suc n) ≡ true) × (is_inverse_table width table n ≡ true) → (j ≡ n) ⊎ (j ≡ n → ⊥)
        → (is_inverse_table width table n ≡ true → j < n → bit_selection 0 table (square_plus_element width (2 ^ suc j)) ≡ 2 ^ suc j)
        → bit_selection 0 table (square_plus_element width (2 ^ suc j)) ≡ 2 ^ suc j
    by tests (inl same) before =
        subst (λ z. bit_selection 0 table (square_plus_element width (2 ^ suc z)) ≡ 2 ^ suc z) (sym same)
        ((Decides-eqb (bit_selection 0 table (square_plus_element width (2 ^ suc n))) (2 ^ suc n)).0 tests.0)
    by tests (inr other) before = before tests.1 (omega arith)

-- the exclusive or of bits is a bit
xor_bits : (a b : ℕ) → (a ≡ 0) ⊎ (a ≡ 1) → (b ≡ 0) ⊎ (b ≡ 1) → (bit_xor a b ≡ 0) ⊎ (bit_xor a b ≡ 1)
xor_bits a b (inl p) (inl q) = inl (rw (p, q) refl)
xor_bits a b (inl p) (inr q) = inr (rw (p, q) refl)
xor_bits a b (inr p) (inl q) = inr (rw (p, q) refl)
xor_bits a b (inr p) (inr q) = inl (rw (p, q) refl)

module _ {A : Type 0} (ops : Ops A) (bits_of : A → ℕ) (width : ℕ) (ring : IsRing ops) (numbered : IsNumbered ops bits_of width) where
  -- ---- from the laws of a field

  -- a ^ (2 ^ width - 2) is the inverse of a
  pub inverse_by_norm : IsField ops width → (a : A) → a ≢ ops.zero → ops.times a (norm_of ops (width - 1) (ops.times a a)) ≡ ops.one
  inverse_by_norm field a nonzero =
      let positive : 0 < width = width_positive ops bits_of width numbered in
      let next : width ≡ suc (width - 1) = omega arith in
      inverse-is ops ring (own_of_no_zero_divisor ops ring field.no_zero_divisor) (width - 1) a (subst (λ z. conjugate ops z a ≡ a) next (field.returns a)) nonzero

  -- ---- from the tests

  module _ (certified : Certificate width) where
    -- a power of x, squared width times, is itself
    power_returns : (j : ℕ) → j < width → (e : A) → bits_of e ≡ 2 ^ j → conjugate ops width e ≡ e
    power_returns zero lt e is =
        let first : ops.one ≡ e = numbered.same ops.one e (numbered.one_bits ∙ sym is) in
        subst (λ z. conjugate ops width z ≡ z) first (conjugate-one ops ring width)
    power_returns (suc j) lt e is =
        by (numbered.filled 2 (pow-lt {i = 1} {j = width} (omega arith))) (numbered.filled (2 ^ j) (pow-lt (omega arith))) (power_returns j (omega arith))
      where
        by : (x : A) × (bits_of x ≡ 2) → (p : A) × (bits_of p ≡ 2 ^ j) → ((e : A) → bits_of e ≡ 2 ^ j → conjugate ops width e ≡ e) → conjugate ops width e ≡ e
        by x p before = subst (λ z. conjugate ops width z ≡ z) split (conjugate-times ops ring width p.0 x.0 ∙ ap (λ z. ops.times z (conjugate ops width x.0)) (before p.0 p.1) ∙ ap (ops.times p.0) x_returns)
          where
            split : ops.times p.0 x.0 ≡ e
            split =
                numbered.same (ops.times p.0 x.0) e
                (numbered.times_bits p.0 x.0 ∙ ap (λ z. product width z (bits_of x.0)) p.1 ∙ ap (product width (2 ^ j)) x.1 ∙ product-x width j certified.is_width lt ∙ sym is)

            x_returns : conjugate ops width x.0 ≡ x.0
            x_returns =
                numbered.same (conjugate ops width x.0) x.0
                (conjugate-bits ops bits_of width numbered width x.0 ∙ ap (conjugate (numbers width) width) x.1 ∙ certified.x_returns ∙ sym x.1)

    -- so each element is
    pub all_return : (a : A) → conjugate ops width a ≡ a
    all_return =
        by_powers_of_x ops bits_of width numbered (λ a. conjugate ops width a ≡ a) (conjugate-zero ops ring width)
        (λ a b p q. conjugate-plus ops ring width a b ∙ ap (λ z. ops.plus z (conjugate ops width b)) p ∙ ap (ops.plus a) q)
        power_returns

    -- what is left of a by the table: the lowest bit
    abbrev rest_of : A → ℕ
    rest_of a = bit_xor (bit_selection 0 certified.table (bits_of (ops.plus (ops.times a a) a))) (bits_of a)

    -- it keeps sums
    rest_of-plus : (a b : A) → rest_of (ops.plus a b) ≡ bit_xor (rest_of a) (rest_of b)
    rest_of-plus a b =
        ap (bit_xor (bit_selection 0 certified.table (bits_of (ops.plus (ops.times (ops.plus a b) (ops.plus a b)) (ops.plus a b))))) (numbered.plus_bits a b)
        ∙ ap (λ z. bit_xor z (bit_xor (bits_of a) (bits_of b))) selects
        ∙ xor_swap (bit_selection 0 certified.table (bits_of (ops.plus (ops.times a a) a))) (bit_selection 0 certified.table (bits_of (ops.plus (ops.times b b) b))) (bits_of a) (bits_of b)
      where
        sums : ops.plus (ops.times (ops.plus a b) (ops.plus a b)) (ops.plus a b) ≡ ops.plus (ops.plus (ops.times a a) a) (ops.plus (ops.times b b) b)
        sums = ap (λ z. ops.plus z (ops.plus a b)) (square_plus ops ring a b) ∙ plus_swap ops ring (ops.times a a) (ops.times b b) a b

        selects : bit_selection 0 certified.table (bits_of (ops.plus (ops.times (ops.plus a b) (ops.plus a b)) (ops.plus a b)))
            ≡ bit_xor (bit_selection 0 certified.table (bits_of (ops.plus (ops.times a a) a))) (bit_selection 0 certified.table (bits_of (ops.plus (ops.times b b) b)))
        selects =
            ap (λ z. bit_selection 0 certified.table (bits_of z)) sums
            ∙ ap (bit_selection 0 certified.table) (numbered.plus_bits (ops.plus (ops.times a a) a) (ops.plus (ops.times b b) b))
            ∙ bit_selection-xor 0 certified.table (bits_of (ops.plus (ops.times a a) a)) (bits_of (ops.plus (ops.times b b) b))

    -- an element that is its own square selects nothing
    own_rest : (e : A) → ops.times e e ≡ e → rest_of e ≡ bits_of e
    own_rest e own =
        ap (λ z. bit_xor (bit_selection 0 certified.table (bits_of z)) (bits_of e)) (ap (λ z. ops.plus z e) own ∙ ring.plus_self e)
        ∙ ap (λ z. bit_xor (bit_selection 0 certified.table z) (bits_of e)) numbered.zero_bits
        ∙ ap (λ z. bit_xor z (bits_of e)) (bit_selection-zero 0 certified.table)
        ∙ xor_zero_l (bits_of e)

    -- of a power of x it is 0 or 1
    power_rest : (j : ℕ) → j < width → (e : A) → bits_of e ≡ 2 ^ j → (rest_of e ≡ 0) ⊎ (rest_of e ≡ 1)
    power_rest zero lt e is = inr (own_rest e own ∙ is)
      where
        own : ops.times e e ≡ e
        own =
            let first : e ≡ ops.one = numbered.same e ops.one (is ∙ sym numbered.one_bits) in
            ap (ops.times e) first ∙ ring.times_one e
    power_rest (suc j) lt e is =
        inl (ap (λ z. bit_xor (bit_selection 0 certified.table z) (bits_of e)) (numbered.plus_bits (ops.times e e) e ∙ ap (λ z. bit_xor z (bits_of e)) (numbered.times_bits e e))
        ∙ ap (λ z. bit_xor (bit_selection 0 certified.table (square_plus_element width z)) z) is
        ∙ ap (λ z. bit_xor z (2 ^ suc j)) (is_inverse_table-at width (width - 1) j certified.table certified.solved (omega arith))
        ∙ xor_self (2 ^ suc j))

    -- and so it is of each element
    rest_is_bit : (a : A) → (rest_of a ≡ 0) ⊎ (rest_of a ≡ 1)
    rest_is_bit =
        by_powers_of_x ops bits_of width numbered (λ a. (rest_of a ≡ 0) ⊎ (rest_of a ≡ 1)) (inl (own_rest ops.zero (times_zero ops ring ops.zero) ∙ numbered.zero_bits))
        (λ a b p q. subst (λ z. (z ≡ 0) ⊎ (z ≡ 1)) (sym (rest_of-plus a b)) (xor_bits (rest_of a) (rest_of b) p q))
        power_rest

    -- where c is the sum of some element and its square, so it is of what the table has for c
    pub selected_root : (y c z : A) → ops.plus (ops.times y y) y ≡ c → bits_of z ≡ bit_selection 0 certified.table (bits_of c) → ops.plus (ops.times z z) z ≡ c
    selected_root y c z is selected = by (rest_is_bit y)
      where
        rest : rest_of y ≡ bit_xor (bits_of z) (bits_of y)
        rest = ap (λ a. bit_xor (bit_selection 0 certified.table (bits_of a)) (bits_of y)) is ∙ ap (λ n. bit_xor n (bits_of y)) (sym selected)

        other : (ops.times ops.one ops.one ≡ ops.one) → ops.plus (ops.times (ops.plus ops.one y) (ops.plus ops.one y)) (ops.plus ops.one y) ≡ ops.plus (ops.times y y) y
        other own =
            ap (λ s. ops.plus s (ops.plus ops.one y)) (square_plus ops ring ops.one y ∙ ap (λ s. ops.plus s (ops.times y y)) own)
            ∙ plus_swap ops ring ops.one (ops.times y y) ops.one y
            ∙ ap (λ s. ops.plus s (ops.plus (ops.times y y) y)) (ring.plus_self ops.one)
            ∙ ring.plus_comm ops.zero (ops.plus (ops.times y y) y)
            ∙ ring.plus_zero (ops.plus (ops.times y y) y)

        by : (rest_of y ≡ 0) ⊎ (rest_of y ≡ 1) → ops.plus (ops.times z z) z ≡ c
        by (inl none) =
            let same : y ≡ z = numbered.same y z (sym (xor_same (bits_of z) (bits_of y) (sym rest ∙ none))) in
            subst (λ a. ops.plus (ops.times a a) a ≡ c) same is
        by (inr one) =
            let next : ops.plus ops.one y ≡ z =
            numbered.same (ops.plus ops.one y) z
            (numbered.plus_bits ops.one y ∙ ap (λ n. bit_xor n (bits_of y)) (numbered.one_bits ∙ sym one ∙ rest) ∙ xor_twice (bits_of z) (bits_of y)) in
            subst (λ a. ops.plus (ops.times a a) a ≡ c) next (other (ring.times_one ops.one) ∙ is)

    -- only 0 and 1 are their own squares
    pub own_is_bit : (e : A) → ops.times e e ≡ e → (e ≡ ops.zero) ⊎ (e ≡ ops.one)
    own_is_bit e own = by (rest_is_bit e)
      where
        by : (rest_of e ≡ 0) ⊎ (rest_of e ≡ 1) → (e ≡ ops.zero) ⊎ (e ≡ ops.one)
        by (inl none) = inl (numbered.same e ops.zero (sym (own_rest e own) ∙ none ∙ sym numbered.zero_bits))
        by (inr one) = inr (numbered.same e ops.one (sym (own_rest e own) ∙ one ∙ sym numbered.one_bits))

    -- each element but 0 has an inverse
    pub all_invertible : (a : A) → a ≢ ops.zero → (b : A) × (ops.times a b ≡ ops.one)
    all_invertible a nonzero =
        let positive : 0 < width = width_positive ops bits_of width numbered in
        let next : width ≡ suc (width - 1) = omega arith in
        (norm_of ops (width - 1) (ops.times a a), inverse-is ops ring own_is_bit (width - 1) a (subst (λ z. conjugate ops z a ≡ a) next (all_return a)) nonzero)

    -- a product is 0 only where a factor is
    zero_product : (a b : A) → ops.times a b ≡ ops.zero → (a ≡ ops.zero) ⊎ (b ≡ ops.zero)
    zero_product a b none = by (same_or_not ops bits_of width numbered a ops.zero)
      where
        by : (a ≡ ops.zero) ⊎ (a ≡ ops.zero → ⊥) → (a ≡ ops.zero) ⊎ (b ≡ ops.zero)
        by (inl is) = inl is
        by (inr nonzero) = let inverse : (c : A) × (ops.times a c ≡ ops.one) = all_invertible a nonzero in inr (zero_factor ops ring a inverse.0 b inverse.1 none)

    -- 1 and 0 have different bits
    one_is_not_zero : ops.one ≢ ops.zero
    one_is_not_zero same = let bits : bits_of ops.one ≡ bits_of ops.zero = ap bits_of same in omega (arith, numbered.one_bits, numbered.zero_bits)

    -- the field
    pub field_of_certificate : IsField ops width
    field_of_certificate = record {
      apart = one_is_not_zero;
      returns = all_return;
      no_zero_divisor = zero_product;
      invertible = all_invertible;
      trace_is_bit = λ a. own_is_bit (trace_of ops width a) (trace_of-own ops ring width a (all_return a));
    }

    -- ---- told apart by traces

    -- some power of x tells a and b apart by the traces of its products with them, or none below x ^ n does
    some_or_none : (a b : A) (n : ℕ) → n ≤ width
        → IsSeparatedByTrace ops bits_of width a b ⊎ ((j : ℕ) → j < n → (e : A) → bits_of e ≡ 2 ^ j → trace_of ops width (ops.times e a) ≡ trace_of ops width (ops.times e b))
    some_or_none a b zero le = inr (λ j lt e is. absurd (omega arith))
    some_or_none a b (suc n) le =
        let top : (e : A) × (bits_of e ≡ 2 ^ n) = numbered.filled (2 ^ n) (pow-lt le) in
        by top (some_or_none a b n (omega arith)) (same_or_not ops bits_of width numbered (trace_of ops width (ops.times top.0 a)) (trace_of ops width (ops.times top.0 b)))
      where
        None : ℕ → Type 0
        None m = (j : ℕ) → j < m → (e : A) → bits_of e ≡ 2 ^ j → trace_of ops width (ops.times e a) ≡ trace_of ops width (ops.times e b)

        more : (top : (e : A) × (bits_of e ≡ 2 ^ n)) → None n → trace_of ops width (ops.times top.0 a) ≡ trace_of ops width (ops.times top.0 b)
            → (j : ℕ) → j < suc n → (e : A) → bits_of e ≡ 2 ^ j → (j ≡ n) ⊎ (j ≡ n → ⊥) → trace_of ops width (ops.times e a) ≡ trace_of ops width (ops.times e b)
        more top none same j lt e is (inl last) =
            let whole : top.0 ≡ e = numbered.same top.0 e (top.1 ∙ ap (λ z. 2 ^ z) (sym last) ∙ sym is) in
            subst (λ z. trace_of ops width (ops.times z a) ≡ trace_of ops width (ops.times z b)) whole same
        more top none same j lt e is (inr other) = none j (omega arith) e is

        by : (top : (e : A) × (bits_of e ≡ 2 ^ n)) → IsSeparatedByTrace ops bits_of width a b ⊎ None n
            → (trace_of ops width (ops.times top.0 a) ≡ trace_of ops width (ops.times top.0 b)) ⊎ (trace_of ops width (ops.times top.0 a) ≡ trace_of ops width (ops.times top.0 b) → ⊥)
            → IsSeparatedByTrace ops bits_of width a b ⊎ None (suc n)
        by top (inl some) tests = inl some
        by top (inr none) (inl same) = inr (λ j lt e is. more top none same j lt e is (cases_eq j n))
        by top (inr none) (inr differ) = inl (record { exponent = n; below = le; by = top.0; bits = top.1; differ = differ })

    -- where no power of x tells a and b apart, no element does
    none_apart : (a b : A) → ((j : ℕ) → j < width → (e : A) → bits_of e ≡ 2 ^ j → trace_of ops width (ops.times e a) ≡ trace_of ops width (ops.times e b))
        → (y : A) → trace_of ops width (ops.times y (ops.plus a b)) ≡ ops.zero
    none_apart a b none =
        by_powers_of_x ops bits_of width numbered (λ y. trace_of ops width (ops.times y (ops.plus a b)) ≡ ops.zero)
        (ap (trace_of ops width) (zero_times ops ring (ops.plus a b)) ∙ trace_of-zero ops ring width)
        (λ y z p q. ap (trace_of ops width) (distributes_left ops ring y z (ops.plus a b))
        ∙ trace_of-plus ops ring width (ops.times y (ops.plus a b)) (ops.times z (ops.plus a b))
        ∙ ap (λ w. ops.plus w (trace_of ops width (ops.times z (ops.plus a b)))) p
        ∙ ap (ops.plus ops.zero) q
        ∙ ring.plus_self ops.zero)
        (λ j lt e is. ap (trace_of ops width) (ring.distributes e a b)
        ∙ trace_of-plus ops ring width (ops.times e a) (ops.times e b)
        ∙ ap (λ w. ops.plus w (trace_of ops width (ops.times e b))) (none j lt e is)
        ∙ ring.plus_self (trace_of ops width (ops.times e b)))

    -- two different elements are told apart
    pub separated_by_trace : (a b : A) → a ≢ b → IsSeparatedByTrace ops bits_of width a b
    separated_by_trace a b different =
        by (some_or_none a b width (le_refl width)) (numbered.filled certified.element certified.small) (all_invertible (ops.plus a b) (λ none. different (same_of_sum ops ring a b none)))
      where
        by : IsSeparatedByTrace ops bits_of width a b ⊎ ((j : ℕ) → j < width → (e : A) → bits_of e ≡ 2 ^ j → trace_of ops width (ops.times e a) ≡ trace_of ops width (ops.times e b))
            → (t : A) × (bits_of t ≡ certified.element) → (c : A) × (ops.times (ops.plus a b) c ≡ ops.one) → IsSeparatedByTrace ops bits_of width a b
        by (inl some) t inverse = some
        by (inr none) t inverse = absurd (one_is_not_zero (sym trace_one ∙ ap (trace_of ops width) (sym back) ∙ none_apart a b none (ops.times t.0 inverse.0)))
          where
            back : ops.times (ops.times t.0 inverse.0) (ops.plus a b) ≡ t.0
            back =
                ring.times_assoc t.0 inverse.0 (ops.plus a b)
                ∙ ap (ops.times t.0) (ring.times_comm inverse.0 (ops.plus a b) ∙ inverse.1)
                ∙ ring.times_one t.0

            trace_one : trace_of ops width t.0 ≡ ops.one
            trace_one =
                numbered.same (trace_of ops width t.0) ops.one
                (trace_of-bits ops bits_of width numbered width t.0 ∙ ap (trace_of (numbers width) width) t.1 ∙ certified.trace_one ∙ sym numbered.one_bits)
