-- The carryless product: it keeps exclusive ors and shifts on both sides, commutes and associates.
use Rattle.std.proofs.Common.{◌≡◌, ◌⊎◌, inl, inr, ℕ, zero, suc, ◌+◌, ◌*◌, ◌/◌, ◌%◌, ◌^◌, ◌<◌, ◌≤◌, refl, sym, ap, subst, ◌∙◌, arith, add-suc, mul-zero, pow_mono, lit<}
use Rattle.std.specs.Int.Bits.{bit_xor, xor_self, xor_zero_r, xor_zero_l, xor_comm, xor_assoc, xor_lt}
use Rattle.std.specs.Int.{bit_at}
use Rattle.std.proofs.Math.Nat.{zero-mul, one-mul, mul-one, mod-one, add-zero, add_comm, mod-eq_of_lt, mul_assoc, mul_comm, mul-mod_left, le_refl, le_trans, div-eq_of_lt}
use Rattle.std.proofs.lemmas.Nat.{pow_pos, pow-add, shr-shr, shl_below, shr_split, shl-shr}
use Rattle.std.proofs.lemmas.Nat.Bits.{bit_at_xor, bit_at-zero, bit_at_cat_low}
use Rattle.field_rules.specs.Elements.{carryless_product}
use Rattle.field_laws.proofs.Xors.{bit_cases, xor_shl, xor_taken, xor_swap, xor_next}

-- no bits give 0
pub carryless_product-zero : (a b : ℕ) → carryless_product 0 a b ≡ 0
unfolding carryless_product
carryless_product-zero a b = refl

-- one bit more adds the multiple of a by that bit of b
pub carryless_product-suc : (n a b : ℕ) → carryless_product (suc n) a b ≡ bit_xor (carryless_product n a b) (bit_at b n * (a * 2 ^ n))
unfolding carryless_product
carryless_product-suc n a b = refl

-- ---- exclusive ors on either side

-- the product by an exclusive or of first factors
pub carryless_product-xor_l : (n a c b : ℕ) → carryless_product n (bit_xor a c) b ≡ bit_xor (carryless_product n a b) (carryless_product n c b)
unfolding carryless_product
carryless_product-xor_l zero a c b = refl
carryless_product-xor_l (suc n) a c b =
    ap (bit_xor (carryless_product n (bit_xor a c) b)) term
    ∙ ap (λ z. bit_xor z (bit_xor (bit_at b n * (a * 2 ^ n)) (bit_at b n * (c * 2 ^ n)))) (carryless_product-xor_l n a c b)
    ∙ xor_swap (carryless_product n a b) (carryless_product n c b) (bit_at b n * (a * 2 ^ n)) (bit_at b n * (c * 2 ^ n))
  where
    term : bit_at b n * (bit_xor a c * 2 ^ n) ≡ bit_xor (bit_at b n * (a * 2 ^ n)) (bit_at b n * (c * 2 ^ n))
    term = ap (λ z. bit_at b n * z) (xor_shl n a c) ∙ xor_taken (bit_at b n) (a * 2 ^ n) (c * 2 ^ n) (bit_cases b n)

-- the exclusive or of two digits takes a number once or not at all
pub xor_digits : (d e x : ℕ) → (d ≡ 0) ⊎ (d ≡ 1) → (e ≡ 0) ⊎ (e ≡ 1) → (d + e) % 2 * x ≡ bit_xor (d * x) (e * x)
xor_digits d e x (inl p) (inl q) = rw (p, q, zero-mul) (sym (xor_zero_l 0))
xor_digits d e x (inl p) (inr q) = rw (p, q, zero-mul, one-mul) (sym (xor_zero_l x))
xor_digits d e x (inr p) (inl q) = rw (p, q, zero-mul, one-mul) (sym (xor_zero_r x))
xor_digits d e x (inr p) (inr q) = rw (p, q, zero-mul, one-mul) (sym (xor_self x))

-- the product by an exclusive or of second factors
pub carryless_product-xor_r : (n a b c : ℕ) → carryless_product n a (bit_xor b c) ≡ bit_xor (carryless_product n a b) (carryless_product n a c)
unfolding carryless_product
carryless_product-xor_r zero a b c = refl
carryless_product-xor_r (suc n) a b c =
    ap (bit_xor (carryless_product n a (bit_xor b c))) term
    ∙ ap (λ z. bit_xor z (bit_xor (bit_at b n * (a * 2 ^ n)) (bit_at c n * (a * 2 ^ n)))) (carryless_product-xor_r n a b c)
    ∙ xor_swap (carryless_product n a b) (carryless_product n a c) (bit_at b n * (a * 2 ^ n)) (bit_at c n * (a * 2 ^ n))
  where
    term : bit_at (bit_xor b c) n * (a * 2 ^ n) ≡ bit_xor (bit_at b n * (a * 2 ^ n)) (bit_at c n * (a * 2 ^ n))
    term = ap (λ z. z * (a * 2 ^ n)) (bit_at_xor b c n) ∙ xor_digits (bit_at b n) (bit_at c n) (a * 2 ^ n) (bit_cases b n) (bit_cases c n)

-- ---- 0, 1 and shifts

-- 0 times b
pub carryless_product-zero_l : (n b : ℕ) → carryless_product n 0 b ≡ 0
unfolding carryless_product
carryless_product-zero_l zero b = refl
carryless_product-zero_l (suc n) b = rw (carryless_product-zero_l n b, zero-mul, mul-zero) (xor_zero_l 0)

-- a times 0
pub carryless_product-zero_r : (n a : ℕ) → carryless_product n a 0 ≡ 0
unfolding carryless_product
carryless_product-zero_r zero a = refl
carryless_product-zero_r (suc n) a = rw (carryless_product-zero_r n a, bit_at-zero n, zero-mul) (xor_zero_l 0)

-- 1 times b
pub carryless_product-one_l : (n b : ℕ) → carryless_product n 1 b ≡ b % 2 ^ n
unfolding carryless_product
carryless_product-one_l zero b = sym (mod-one b)
carryless_product-one_l (suc n) b =
    ap (λ z. bit_xor z (bit_at b n * (1 * 2 ^ n))) (carryless_product-one_l n b)
    ∙ ap (λ z. bit_xor (b % 2 ^ n) (bit_at b n * z)) (one-mul (2 ^ n))
    ∙ xor_comm (b % 2 ^ n) (bit_at b n * 2 ^ n)
    ∙ sym (xor_next b n)

-- the shift of a factor
pub carryless_product-shl_l : (n a k b : ℕ) → carryless_product n (a * 2 ^ k) b ≡ carryless_product n a b * 2 ^ k
unfolding carryless_product
carryless_product-shl_l zero a k b = sym (zero-mul (2 ^ k))
carryless_product-shl_l (suc n) a k b =
    ap (λ z. bit_xor z (bit_at b n * (a * 2 ^ k * 2 ^ n))) (carryless_product-shl_l n a k b)
    ∙ ap (bit_xor (carryless_product n a b * 2 ^ k)) term
    ∙ sym (xor_shl k (carryless_product n a b) (bit_at b n * (a * 2 ^ n)))
  where
    term : bit_at b n * (a * 2 ^ k * 2 ^ n) ≡ bit_at b n * (a * 2 ^ n) * 2 ^ k
    term =
        ap (λ z. bit_at b n * z) (mul_assoc a (2 ^ k) (2 ^ n) ∙ ap (λ z. a * z) (mul_comm (2 ^ k) (2 ^ n)) ∙ sym (mul_assoc a (2 ^ n) (2 ^ k)))
        ∙ sym (mul_assoc (bit_at b n) (a * 2 ^ n) (2 ^ k))

-- a bit's multiple of a shift of 1
pub carryless_product-bit_l : (n d k b : ℕ) → (d ≡ 0) ⊎ (d ≡ 1) → b < 2 ^ n → carryless_product n (d * 2 ^ k) b ≡ d * (b * 2 ^ k)
carryless_product-bit_l n d k b (inl e) h =
    ap (λ z. carryless_product n (z * 2 ^ k) b) e
    ∙ ap (λ z. carryless_product n z b) (zero-mul (2 ^ k))
    ∙ carryless_product-zero_l n b
    ∙ sym (ap (λ z. z * (b * 2 ^ k)) e ∙ zero-mul (b * 2 ^ k))
carryless_product-bit_l n d k b (inr e) h =
    ap (λ z. carryless_product n (z * 2 ^ k) b) e
    ∙ carryless_product-shl_l n 1 k b
    ∙ ap (λ z. z * 2 ^ k) (carryless_product-one_l n b ∙ mod-eq_of_lt h)
    ∙ sym (ap (λ z. z * (b * 2 ^ k)) e ∙ one-mul (b * 2 ^ k))

-- ---- the bits of b, in parts

-- the bits of b below n, and those from n on
pub carryless_product-split : (n k a b : ℕ) → carryless_product (n + k) a b ≡ bit_xor (carryless_product n a b) (carryless_product k a (b / 2 ^ n) * 2 ^ n)
unfolding carryless_product
carryless_product-split n zero a b =
    ap (λ z. carryless_product z a b) (add-zero n)
    ∙ sym (xor_zero_r (carryless_product n a b))
    ∙ ap (bit_xor (carryless_product n a b)) (sym (zero-mul (2 ^ n)))
carryless_product-split n (suc k) a b =
    ap (λ z. carryless_product z a b) (add-suc n k)
    ∙ ap (λ z. bit_xor z (bit_at b (n + k) * (a * 2 ^ (n + k)))) (carryless_product-split n k a b)
    ∙ xor_assoc (carryless_product n a b) (carryless_product k a (b / 2 ^ n) * 2 ^ n) (bit_at b (n + k) * (a * 2 ^ (n + k)))
    ∙ ap (bit_xor (carryless_product n a b)) (ap (bit_xor (carryless_product k a (b / 2 ^ n) * 2 ^ n)) term ∙ sym (xor_shl n (carryless_product k a (b / 2 ^ n)) (bit_at (b / 2 ^ n) k * (a * 2 ^ k))))
  where
    shifted : a * 2 ^ (n + k) ≡ a * 2 ^ k * 2 ^ n
    shifted = ap (λ z. a * z) (pow-add 2 n k ∙ mul_comm (2 ^ n) (2 ^ k)) ∙ sym (mul_assoc a (2 ^ k) (2 ^ n))

    term : bit_at b (n + k) * (a * 2 ^ (n + k)) ≡ bit_at (b / 2 ^ n) k * (a * 2 ^ k) * 2 ^ n
    term =
        ap (λ z. z % 2 * (a * 2 ^ (n + k))) (sym (shr-shr b n k))
        ∙ ap (λ z. bit_at (b / 2 ^ n) k * z) shifted
        ∙ sym (mul_assoc (bit_at (b / 2 ^ n) k) (a * 2 ^ k) (2 ^ n))

-- the bits of b from n on don't count
pub carryless_product-low : (n a b : ℕ) → carryless_product n a (b % 2 ^ n) ≡ carryless_product n a b
carryless_product-low n a b = within n n (le_refl n)
  where
    low_bit : (m i : ℕ) → i < m → bit_at (b % 2 ^ m) i ≡ bit_at b i
    low_bit m i h = let e : b ≡ b / 2 ^ m * 2 ^ m + b % 2 ^ m = sym (shr_split b m) in sym (ap (λ z. bit_at z i) e ∙ bit_at_cat_low (b / 2 ^ m) m (b % 2 ^ m) i h)

    within : (m i : ℕ) → i ≤ m → carryless_product i a (b % 2 ^ m) ≡ carryless_product i a b
    within m zero h = carryless_product-zero a (b % 2 ^ m) ∙ sym (carryless_product-zero a b)
    within m (suc i) h =
        carryless_product-suc i a (b % 2 ^ m)
        ∙ ap (λ z. bit_xor z (bit_at (b % 2 ^ m) i * (a * 2 ^ i))) (within m i (omega arith))
        ∙ ap (λ z. bit_xor (carryless_product i a b) (z * (a * 2 ^ i))) (low_bit m i h)
        ∙ sym (carryless_product-suc i a b)

-- where b is below 2 ^ n, more bits add nothing
pub carryless_product-more : (n k a b : ℕ) → b < 2 ^ n → carryless_product (n + k) a b ≡ carryless_product n a b
carryless_product-more n k a b h =
    carryless_product-split n k a b
    ∙ ap (λ z. bit_xor (carryless_product n a b) (carryless_product k a z * 2 ^ n)) (div-eq_of_lt h)
    ∙ ap (λ z. bit_xor (carryless_product n a b) (z * 2 ^ n)) (carryless_product-zero_r k a)
    ∙ ap (bit_xor (carryless_product n a b)) (zero-mul (2 ^ n))
    ∙ xor_zero_r (carryless_product n a b)

-- how many bits are counted is free where both numbers of them are enough
pub carryless_product-enough : (n m a b : ℕ) → b < 2 ^ n → b < 2 ^ m → carryless_product n a b ≡ carryless_product m a b
carryless_product-enough n m a b h k =
    sym (carryless_product-more n m a b h) ∙ ap (λ z. carryless_product z a b) (add_comm n m) ∙ carryless_product-more m n a b k

-- the shift of the other factor
pub carryless_product-shl_r : (k n a b : ℕ) → carryless_product (k + n) a (b * 2 ^ k) ≡ carryless_product n a b * 2 ^ k
carryless_product-shl_r k n a b =
    carryless_product-split k n a (b * 2 ^ k)
    ∙ ap (λ z. bit_xor z (carryless_product n a (b * 2 ^ k / 2 ^ k) * 2 ^ k)) low
    ∙ xor_zero_l (carryless_product n a (b * 2 ^ k / 2 ^ k) * 2 ^ k)
    ∙ ap (λ z. carryless_product n a z * 2 ^ k) (shl-shr b k)
  where
    low : carryless_product k a (b * 2 ^ k) ≡ 0
    low =
        sym (carryless_product-low k a (b * 2 ^ k))
        ∙ ap (carryless_product k a) (mul-mod_left b (2 ^ k))
        ∙ carryless_product-zero_r k a

-- ---- bounds

-- one bit of a counts as none, since the highest bits of the factors give one bit
pub carryless_product-lt_sharp : (i j a b : ℕ) → a < 2 ^ suc i → carryless_product j a b < 2 ^ (i + j)
unfolding carryless_product
carryless_product-lt_sharp i zero a b h = pow_pos (i + 0)
carryless_product-lt_sharp i (suc j) a b h =
    xor_lt (i + suc j) (carryless_product j a b) (bit_at b j * (a * 2 ^ j))
    (le_trans (carryless_product-lt_sharp i j a b h) (pow_mono (omega arith)))
    (term (bit_cases b j))
  where
    shifted : a * 2 ^ j < 2 ^ (i + suc j)
    shifted = let e : suc i + j ≡ i + suc j = omega arith in subst (λ z. a * 2 ^ j < 2 ^ z) e (shl_below a (suc i) j h)

    term : (bit_at b j ≡ 0) ⊎ (bit_at b j ≡ 1) → bit_at b j * (a * 2 ^ j) < 2 ^ (i + suc j)
    term (inl e) = rw (e, zero-mul) (pow_pos (i + suc j))
    term (inr e) = rw (e, one-mul) shifted

-- a factor of i bits, at j bits of the other, gives no more than i + j bits
pub carryless_product-lt : (i j a b : ℕ) → a < 2 ^ i → carryless_product j a b < 2 ^ (i + j)
carryless_product-lt i j a b h = carryless_product-lt_sharp i j a b (le_trans h (pow_mono (omega arith)))

-- ---- the laws of a product

-- a product commutes, read at the bits of both factors that it counts
pub carryless_product-turn : (m b n a : ℕ) → b < 2 ^ m → carryless_product m (a % 2 ^ n) b ≡ carryless_product n b a
unfolding carryless_product
carryless_product-turn m b zero a h = ap (λ z. carryless_product m z b) (mod-one a) ∙ carryless_product-zero_l m b
carryless_product-turn m b (suc n) a h =
    ap (λ z. carryless_product m z b) (xor_next a n ∙ xor_comm (bit_at a n * 2 ^ n) (a % 2 ^ n))
    ∙ carryless_product-xor_l m (a % 2 ^ n) (bit_at a n * 2 ^ n) b
    ∙ ap (λ z. bit_xor z (carryless_product m (bit_at a n * 2 ^ n) b)) (carryless_product-turn m b n a h)
    ∙ ap (bit_xor (carryless_product n b a)) (carryless_product-bit_l m (bit_at a n) n b (bit_cases a n) h)

-- a product commutes
pub carryless_product-comm : (n m a b : ℕ) → a < 2 ^ n → b < 2 ^ m → carryless_product m a b ≡ carryless_product n b a
carryless_product-comm n m a b h k = ap (λ z. carryless_product m z b) (sym (mod-eq_of_lt h)) ∙ carryless_product-turn m b n a k

-- a times 1
pub carryless_product-one_r : (n a : ℕ) → carryless_product (suc n) a 1 ≡ a
carryless_product-one_r n a =
    carryless_product-enough (suc n) 1 a 1 (le_trans (lit< tt) (pow_mono {i = 1} (omega arith))) (lit< tt)
    ∙ carryless_product-suc 0 a 1
    ∙ ap (λ z. bit_xor z (bit_at 1 0 * (a * 2 ^ 0))) (carryless_product-zero a 1)
    ∙ xor_zero_l (bit_at 1 0 * (a * 2 ^ 0))
    ∙ one-mul (a * 2 ^ 0)
    ∙ mul-one a

-- a digit of the second factor, as a shift
bit_r : (j k d a b : ℕ) → (d ≡ 0) ⊎ (d ≡ 1) → b < 2 ^ j → carryless_product (k + suc j) a (d * (b * 2 ^ k)) ≡ d * (carryless_product j a b * 2 ^ k)
bit_r j k d a b (inl e) h =
    ap (λ z. carryless_product (k + suc j) a (z * (b * 2 ^ k))) e
    ∙ ap (carryless_product (k + suc j) a) (zero-mul (b * 2 ^ k))
    ∙ carryless_product-zero_r (k + suc j) a
    ∙ sym (ap (λ z. z * (carryless_product j a b * 2 ^ k)) e ∙ zero-mul (carryless_product j a b * 2 ^ k))
bit_r j k d a b (inr e) h =
    ap (λ z. carryless_product (k + suc j) a (z * (b * 2 ^ k))) e
    ∙ ap (carryless_product (k + suc j) a) (one-mul (b * 2 ^ k))
    ∙ carryless_product-shl_r k (suc j) a b
    ∙ ap (λ z. z * 2 ^ k) (carryless_product-enough (suc j) j a b (le_trans h (pow_mono (omega arith))) h)
    ∙ sym (ap (λ z. z * (carryless_product j a b * 2 ^ k)) e ∙ one-mul (carryless_product j a b * 2 ^ k))

-- a product of three associates
pub carryless_product-assoc : (j k a b c : ℕ) → b < 2 ^ j → carryless_product k (carryless_product j a b) c ≡ carryless_product (j + k) a (carryless_product k b c)
carryless_product-assoc j zero a b c h =
    carryless_product-zero (carryless_product j a b) c
    ∙ sym (ap (carryless_product (j + 0) a) (carryless_product-zero b c) ∙ carryless_product-zero_r (j + 0) a)
carryless_product-assoc j (suc k) a b c h =
    carryless_product-suc k (carryless_product j a b) c
    ∙ ap (λ z. bit_xor z (bit_at c k * (carryless_product j a b * 2 ^ k))) (carryless_product-assoc j k a b c h ∙ wider)
    ∙ ap (bit_xor (carryless_product (j + suc k) a (carryless_product k b c))) (sym (bit_r j k (bit_at c k) a b (bit_cases c k) h) ∙ ap (λ z. carryless_product z a (bit_at c k * (b * 2 ^ k))) turned)
    ∙ sym (carryless_product-xor_r (j + suc k) a (carryless_product k b c) (bit_at c k * (b * 2 ^ k)))
    ∙ ap (carryless_product (j + suc k) a) (sym (carryless_product-suc k b c))
  where
    turned : k + suc j ≡ j + suc k
    turned = omega arith

    fits : carryless_product k b c < 2 ^ (j + k)
    fits = carryless_product-lt j k b c h

    wider : carryless_product (j + k) a (carryless_product k b c) ≡ carryless_product (j + suc k) a (carryless_product k b c)
    wider = carryless_product-enough (j + k) (j + suc k) a (carryless_product k b c) fits (le_trans fits (pow_mono (omega arith)))

-- ---- windows

-- a window of k bits at the low end, and the rest
pub carryless_product-window : (k n a b : ℕ) → carryless_product (k + n) a b ≡ bit_xor (carryless_product n a (b / 2 ^ k) * 2 ^ k) (carryless_product k a (b % 2 ^ k))
carryless_product-window k n a b =
    carryless_product-split k n a b
    ∙ xor_comm (carryless_product k a b) (carryless_product n a (b / 2 ^ k) * 2 ^ k)
    ∙ ap (bit_xor (carryless_product n a (b / 2 ^ k) * 2 ^ k)) (sym (carryless_product-low k a b))
