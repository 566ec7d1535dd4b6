-- Sums of products, where one factor is added up by the nibbles of the other.
use Rattle.std.proofs.Common.{◌≡◌, ℕ, zero, suc, ◌+◌, ◌*◌, ◌/◌, ◌%◌, ◌^◌, ◌<◌, ◌≤◌, List, [], ◌∷◌, ◌++◌, length, map, get_or, set, take, replicate, refl, sym, ◌∙◌, ap, ap₂, arith}
use Rattle.std.specs.Int.Bits.{bit_xor, xor_comm, xor_shifted}
use Rattle.std.proofs.Math.Nat.{mod-lt, mod-one, mod-eq_of_lt, le_trans, zero-mul}
use Rattle.std.proofs.lemmas.Nat.{pow_pos, mod-pow-add}
use Rattle.std.proofs.lemmas.List.{ext_get_or, get_or-map, get_or_default, length-map, take_all, take_more}
use Rattle.field_rules.specs.Ops.{power}
use Rattle.field_rules.specs.Fields.{conjugate, dot_of}
use Rattle.field_laws.proofs.RingFacts.{times_zero, zero_times, distributes_left}
use Rattle.field_laws.proofs.Conjugates.{conjugate-none, conjugate-plus, conjugate-times, conjugate-zero, conjugate-one, conjugate-power, power-plus}
use Rattle.field_core.proofs.OddPowers.{power_one}
use Rattle.sketch_rules.specs.PowerSums.{power_sum, odd_power_sums}
use Rattle.clmul_lanes.specs.declared.lane32.Lane32.{Lane32}
use Rattle.clmul_lanes.specs.Lane32.{ops, ring, bits_of, zero_of, same_bits}
use Rattle.clmul_lanes.specs.NibbleValues.{AreNibbleValues}
use Rattle.clmul_lanes.proofs.Added.{power_sum-append}

-- ---- a sum of products, where an item of one list grows

-- the sum of the products of powers by 2 ^ j and by 2 ^ m
abbrev pub dot_by : ℕ → ℕ → List Lane32 → List Lane32 → Lane32
dot_by j m xs ys = dot_of ops (map (conjugate ops j) xs) (map (conjugate ops m) ys)

plus_last : (a b c : Lane32) → ops.plus (ops.plus a b) c ≡ ops.plus (ops.plus a c) b
plus_last a b c = ring.plus_assoc a b c ∙ ap (ops.plus a) (ring.plus_comm b c) ∙ sym (ring.plus_assoc a c b)

dot-set : (j m : ℕ) (xs ys : List Lane32) (n : ℕ) (v d : Lane32) → n < length xs → n < length ys
    → dot_by j m xs (set ys n (ops.plus (get_or ys n d) v)) ≡ ops.plus (dot_by j m xs ys) (ops.times (conjugate ops j (get_or xs n d)) (conjugate ops m v))
unfolding dot_of
dot-set j m [] ys n v d lt inside = absurd (omega arith)
dot-set j m (x ∷ xs) [] n v d lt inside = absurd (omega arith)
dot-set j m (x ∷ xs) (y ∷ ys) zero v d lt inside =
    ap (λ z. ops.plus (ops.times (conjugate ops j x) z) (dot_by j m xs ys)) (conjugate-plus ops ring m y v)
    ∙ ap (λ z. ops.plus z (dot_by j m xs ys)) (ring.distributes (conjugate ops j x) (conjugate ops m y) (conjugate ops m v))
    ∙ plus_last (ops.times (conjugate ops j x) (conjugate ops m y)) (ops.times (conjugate ops j x) (conjugate ops m v)) (dot_by j m xs ys)
dot-set j m (x ∷ xs) (y ∷ ys) (suc n) v d lt inside =
    ap (ops.plus (ops.times (conjugate ops j x) (conjugate ops m y))) (dot-set j m xs ys n v d (omega arith) (omega arith))
    ∙ sym (ring.plus_assoc (ops.times (conjugate ops j x) (conjugate ops m y)) (dot_by j m xs ys) (ops.times (conjugate ops j (get_or xs n d)) (conjugate ops m v)))

-- with zeros
dot-zeros : (j m n : ℕ) (xs : List Lane32) → dot_by j m xs (replicate n zero_of) ≡ zero_of
unfolding dot_of
dot-zeros j m n [] = refl
dot-zeros j m zero (x ∷ xs) = refl
dot-zeros j m (suc n) (x ∷ xs) =
    ap₂ ops.plus (ap (ops.times (conjugate ops j x)) (conjugate-zero ops ring m) ∙ times_zero ops ring (conjugate ops j x)) (dot-zeros j m n xs)
    ∙ ring.plus_zero zero_of

-- ---- the lowest nibbles of a key

-- the element of the i lowest nibbles
abbrev pub low_part : ℕ → Lane32 → Lane32
low_part i a = record { bits = a.bits % 2 ^ (4 * i); small = le_trans (omega (arith, mod-lt a.bits (pow_pos (4 * i)))) a.small }

low_next : (i : ℕ) (a n : Lane32) → bits_of n ≡ a.bits / 2 ^ (4 * i) % 16 * 2 ^ (4 * i) → ops.plus (low_part i a) n ≡ low_part (i + 1) a
low_next i a n is = same_bits (ops.plus (low_part i a) n) (low_part (i + 1) a)
    (ap (bit_xor (a.bits % 2 ^ (4 * i))) is
    ∙ xor_comm (a.bits % 2 ^ (4 * i)) (a.bits / 2 ^ (4 * i) % 16 * 2 ^ (4 * i))
    ∙ xor_shifted (a.bits / 2 ^ (4 * i) % 16) (4 * i) (a.bits % 2 ^ (4 * i)) (mod-lt a.bits (pow_pos (4 * i)))
    ∙ sym (ap (λ z. a.bits % 2 ^ z) more ∙ mod-pow-add a.bits 4 (4 * i)))
  where
    more : 4 * (i + 1) ≡ 4 + 4 * i
    more = omega arith

-- what the sums give behind the i lowest nibbles of the key
abbrev pub AreAddedAt : ℕ → Lane32 → Lane32 → List Lane32 → List Lane32 → Type 0
AreAddedAt i key value old new = (j m : ℕ) (values : List Lane32) → AreNibbleValues values
    → dot_by j m values new ≡ ops.plus (dot_by j m values old) (ops.times (conjugate ops j (low_part i key)) (conjugate ops m value))

pub no_nibble_added : (key value : Lane32) (sums : List Lane32) → AreAddedAt 0 key value sums sums
no_nibble_added key value sums j m values are =
    sym
    (ap (λ z. ops.plus (dot_by j m values sums) (ops.times (conjugate ops j z) (conjugate ops m value))) (same_bits (low_part 0 key) zero_of (mod-one key.bits))
    ∙ ap (λ z. ops.plus (dot_by j m values sums) (ops.times z (conjugate ops m value))) (conjugate-zero ops ring j)
    ∙ ap (ops.plus (dot_by j m values sums)) (zero_times ops ring (conjugate ops m value))
    ∙ ring.plus_zero (dot_by j m values sums))

pub nibble_added : (i at nibble : ℕ) (key value r : Lane32) (old sums : List Lane32) (d : Lane32) → i < 8 → nibble < 16 → nibble ≡ key.bits / 2 ^ (4 * i) % 16 → at ≡ 16 * i + nibble → length sums ≡ 128
    → r ≡ ops.plus (get_or sums at d) value → AreAddedAt i key value old sums → AreAddedAt (i + 1) key value old (set sums at r)
nibble_added i at nibble key value r old sums d index below is at_is size r_is before j m values are =
    ap (λ z. dot_by j m values (set sums at z)) r_is
    ∙ dot-set j m values sums at value d (omega (arith, are.size)) (omega (arith, size))
    ∙ ap (λ z. ops.plus (dot_by j m values sums) (ops.times (conjugate ops j z) (conjugate ops m value))) (get_or_default values at d zero_of (omega (arith, are.size)))
    ∙ ap (λ z. ops.plus z (ops.times (conjugate ops j (get_or values at zero_of)) (conjugate ops m value))) (before j m values are)
    ∙ ring.plus_assoc (dot_by j m values old) (ops.times (conjugate ops j (low_part i key)) (conjugate ops m value)) (ops.times (conjugate ops j (get_or values at zero_of)) (conjugate ops m value))
    ∙ ap (ops.plus (dot_by j m values old))
    (sym (distributes_left ops ring (conjugate ops j (low_part i key)) (conjugate ops j (get_or values at zero_of)) (conjugate ops m value))
    ∙ ap (λ z. ops.times z (conjugate ops m value)) (sym (conjugate-plus ops ring j (low_part i key) (get_or values at zero_of)) ∙ ap (conjugate ops j) (low_next i key (get_or values at zero_of) value_is)))
  where
    value_is : bits_of (get_or values at zero_of) ≡ key.bits / 2 ^ (4 * i) % 16 * 2 ^ (4 * i)
    value_is =
        let value_at : at % 16 ≡ nibble = omega arith in
        let place : at / 16 ≡ i = omega arith in
        are.each at (omega arith) ∙ ap₂ (λ v p. v * 2 ^ (4 * p)) (value_at ∙ is) place

pub all_added_at : (i : ℕ) (key value : Lane32) (old new : List Lane32) → i ≡ 8 → AreAddedAt i key value old new
    → (j m : ℕ) (values : List Lane32) → AreNibbleValues values → dot_by j m values new ≡ ops.plus (dot_by j m values old) (ops.times (conjugate ops j key) (conjugate ops m value))
all_added_at i key value old new end added j m values are =
    added j m values are
    ∙ ap (λ z. ops.plus (dot_by j m values old) (ops.times (conjugate ops j z) (conjugate ops m value))) (ap (λ n. low_part n key) end ∙ same_bits (low_part 8 key) key (mod-eq_of_lt key.small))

-- ---- the sums of powers

-- the products of the powers of the nibbles' values by 2 ^ j and of the list's by 2 ^ m are the sum of the k-th powers
abbrev pub GivesPowers : ℕ → ℕ → ℕ → List Lane32 → List Lane32 → Type 0
GivesPowers j m k es sums = (values : List Lane32) → AreNibbleValues values → dot_by j m values sums ≡ power_sum ops k es

pub no_powers : (j m k n : ℕ) (z : Lane32) → bits_of z ≡ 0 → GivesPowers j m k [] (replicate n z)
unfolding power_sum
no_powers j m k n z is values are = ap (λ x. dot_by j m values (replicate n x)) (same_bits z zero_of is) ∙ dot-zeros j m n values

pub no_sum : (k : ℕ) (z : Lane32) → bits_of z ≡ 0 → z ≡ power_sum ops k []
unfolding power_sum
no_sum k z is = same_bits z zero_of is

-- the next element's power
pub power_sum-taken : (k i : ℕ) (es : List Lane32) (e : Lane32) → i < length es → e ≡ get_or es i e → power_sum ops k (take (i + 1) es) ≡ ops.plus (power_sum ops k (take i es)) (power ops e k)
unfolding power_sum
power_sum-taken k i es e lt is =
    ap (power_sum ops k) (take_more es i e lt ∙ ap (λ x. take i es ++ x ∷ []) (sym is))
    ∙ power_sum-append ops ring k (take i es) (e ∷ [])
    ∙ ap (ops.plus (power_sum ops k (take i es))) (ring.plus_zero (power ops e k))

pub powers_more : (j m k i : ℕ) (es old new : List Lane32) (e key value : Lane32) → i < length es → e ≡ get_or es i e → ops.times (conjugate ops j key) (conjugate ops m value) ≡ power ops e k
    → ((j m : ℕ) (values : List Lane32) → AreNibbleValues values → dot_by j m values new ≡ ops.plus (dot_by j m values old) (ops.times (conjugate ops j key) (conjugate ops m value)))
    → GivesPowers j m k (take i es) old → GivesPowers j m k (take (i + 1) es) new
powers_more j m k i es old new e key value lt is power_is added before values are =
    added j m values are
    ∙ ap₂ ops.plus (before values are) power_is
    ∙ sym (power_sum-taken k i es e lt is)

pub sum_more : (k i : ℕ) (es : List Lane32) (e p s r : Lane32) → i < length es → e ≡ get_or es i e → p ≡ power ops e k → r ≡ ops.plus s p → s ≡ power_sum ops k (take i es) → r ≡ power_sum ops k (take (i + 1) es)
sum_more k i es e p s r lt is p_is r_is before = r_is ∙ ap₂ ops.plus before p_is ∙ sym (power_sum-taken k i es e lt is)

-- a power's conjugate
conjugate_of_power : (n k : ℕ) (e : Lane32) → conjugate ops n (power ops e k) ≡ power ops e (k * 2 ^ n)
unfolding power
conjugate_of_power n zero e = conjugate-one ops ring n ∙ ap (power ops e) (sym (zero-mul (2 ^ n)))
conjugate_of_power n (suc k) e =
    conjugate-times ops ring n (power ops e k) e
    ∙ ap₂ ops.times (conjugate_of_power n k e) (conjugate-power ops ring n e)
    ∙ sym (power-plus ops ring e (k * 2 ^ n) (2 ^ n))
    ∙ ap (power ops e) next
  where
    next : k * 2 ^ n + 2 ^ n ≡ suc k * 2 ^ n
    next = omega arith

-- the products of powers of e
pub powers_meet : (j m a b k : ℕ) (e key value : Lane32) → key ≡ power ops e a → value ≡ power ops e b → a * 2 ^ j + b * 2 ^ m ≡ k → ops.times (conjugate ops j key) (conjugate ops m value) ≡ power ops e k
powers_meet j m a b k e key value key_is value_is sum =
    ap₂ (λ x y. ops.times (conjugate ops j x) (conjugate ops m y)) key_is value_is
    ∙ ap₂ ops.times (conjugate_of_power j a e) (conjugate_of_power m b e)
    ∙ sym (power-plus ops ring e (a * 2 ^ j) (b * 2 ^ m))
    ∙ ap (power ops e) sum

pub is_first_power : (e : Lane32) → e ≡ power ops e 1
is_first_power e = sym (power_one ops ring e)

pub is_cube : (e square cube : Lane32) → square ≡ ops.times e e → cube ≡ ops.times square e → cube ≡ power ops e 3
unfolding power
is_cube e square cube square_is cube_is = cube_is ∙ ap (λ z. ops.times z e) (square_is ∙ ap (λ z. ops.times z e) (is_first_power e))

-- ---- lists of powers

pub conjugates_are : (j : ℕ) (list powers : List Lane32) → length list ≡ 128 → length powers ≡ 128 → ((r : ℕ) → r < 128 → get_or powers r zero_of ≡ conjugate ops j (get_or list r zero_of)) → powers ≡ map (conjugate ops j) list
conjugates_are j list powers size same each =
    ext_get_or zero_of powers (map (conjugate ops j) list) (same ∙ sym (length-map list (conjugate ops j) ∙ size))
    (λ r lt. each r (omega (arith, same)) ∙ sym (get_or-map (conjugate ops j) list r zero_of zero_of (omega (arith, size, same))))

-- no conjugate
pub none_are : (list : List Lane32) → list ≡ map (conjugate ops 0) list
none_are [] = refl
none_are (x ∷ xs) = ap₂ (λ y ys. y ∷ ys) (sym (conjugate-none ops x)) (none_are xs)

-- what is computed in the end
pub power_sum_is : (j m k n : ℕ) (es values left right sums : List Lane32) (r : Lane32) → AreNibbleValues values → left ≡ map (conjugate ops j) values → right ≡ map (conjugate ops m) sums → r ≡ dot_of ops left right
    → length es ≤ n → GivesPowers j m k (take n es) sums → r ≡ power_sum ops k es
power_sum_is j m k n es values left right sums r are left_is right_is r_is past gives =
    r_is ∙ ap₂ (dot_of ops) left_is right_is ∙ gives values are ∙ ap (power_sum ops k) (take_all n es past)

pub eight_are : (es : List Lane32) (r1 r3 r5 r7 r9 r11 r13 r15 : Lane32) → r1 ≡ power_sum ops 1 es → r3 ≡ power_sum ops 3 es → r5 ≡ power_sum ops 5 es → r7 ≡ power_sum ops 7 es
    → r9 ≡ power_sum ops 9 es → r11 ≡ power_sum ops 11 es → r13 ≡ power_sum ops 13 es → r15 ≡ power_sum ops 15 es → r1 ∷ r3 ∷ r5 ∷ r7 ∷ r9 ∷ r11 ∷ r13 ∷ r15 ∷ [] ≡ odd_power_sums ops es 0 8
unfolding odd_power_sums
eight_are es r1 r3 r5 r7 r9 r11 r13 r15 is1 is3 is5 is7 is9 is11 is13 is15 = rw (is1, is3, is5, is7, is9, is11, is13, is15) refl
