-- Exclusive ors of several numbers, and of numbers that are shifted or taken by a bit.
use Rattle.std.proofs.Common.{◌≡◌, ◌⊎◌, inl, inr, ℕ, suc, ◌+◌, ◌*◌, ◌/◌, ◌%◌, ◌^◌, ◌<◌, sym, ap, ◌∙◌, arith, one-add}
use Rattle.std.specs.Int.Bits.{bit_xor, xor_self, xor_zero_r, xor_zero_l, xor_comm, xor_assoc, xor_block, xor_shr, xor_shifted}
use Rattle.std.specs.Int.{bit_at}
use Rattle.std.proofs.Math.Nat.{zero-mul, one-mul, add-zero, mod-lt}
use Rattle.std.proofs.lemmas.Nat.{pow_pos, mod-pow-add, shr_split}

-- a bit is 0 or 1
pub bit_cases : (n i : ℕ) → (bit_at n i ≡ 0) ⊎ (bit_at n i ≡ 1)
bit_cases n i = digit (n / 2 ^ i)
  where
    digit : (m : ℕ) → (m % 2 ≡ 0) ⊎ (m % 2 ≡ 1)
    digit m = grind arith

-- the shift of an exclusive or
pub xor_shl : (k x y : ℕ) → bit_xor x y * 2 ^ k ≡ bit_xor (x * 2 ^ k) (y * 2 ^ k)
xor_shl k x y =
    let pos : 0 < 2 ^ k = pow_pos k in
    let e : bit_xor (x * 2 ^ k + 0) (y * 2 ^ k + 0) ≡ bit_xor x y * 2 ^ k + 0 = xor_block k x y 0 0 pos pos in
    sym (add-zero (bit_xor x y * 2 ^ k)) ∙ sym e ∙ ap (λ z. bit_xor z (y * 2 ^ k + 0)) (add-zero (x * 2 ^ k)) ∙ ap (bit_xor (x * 2 ^ k)) (add-zero (y * 2 ^ k))

-- a number that is taken or not by a digit, as an exclusive or
pub xor_taken : (d x y : ℕ) → (d ≡ 0) ⊎ (d ≡ 1) → d * bit_xor x y ≡ bit_xor (d * x) (d * y)
xor_taken d x y (inl e) = rw e (simp zero-mul)
xor_taken d x y (inr e) = rw e (simp one-mul)

-- the two in the middle are exchanged
pub xor_swap : (a b c d : ℕ) → bit_xor (bit_xor a b) (bit_xor c d) ≡ bit_xor (bit_xor a c) (bit_xor b d)
xor_swap a b c d = xor_assoc a b (bit_xor c d) ∙ ap (bit_xor a) middle ∙ sym (xor_assoc a c (bit_xor b d))
  where
    middle : bit_xor b (bit_xor c d) ≡ bit_xor c (bit_xor b d)
    middle = sym (xor_assoc b c d) ∙ ap (λ z. bit_xor z d) (xor_comm b c) ∙ xor_assoc c b d

-- what is added twice is not there
pub xor_twice : (a b : ℕ) → bit_xor (bit_xor a b) b ≡ a
xor_twice a b = xor_assoc a b b ∙ ap (bit_xor a) (xor_self b) ∙ xor_zero_r a

-- two numbers whose exclusive or is 0 are equal
pub xor_same : (a b : ℕ) → bit_xor a b ≡ 0 → a ≡ b
xor_same a b e = sym (xor_twice a b) ∙ ap (λ z. bit_xor z b) e ∙ xor_zero_l b

-- a number by the bits below k and those from k on
pub xor_split : (n k : ℕ) → bit_xor (n / 2 ^ k * 2 ^ k) (n % 2 ^ k) ≡ n
xor_split n k = xor_shifted (n / 2 ^ k) k (n % 2 ^ k) (mod-lt n (pow_pos k)) ∙ shr_split n k

-- the bits below k + 1 are those below k, and bit k
pub xor_next : (n k : ℕ) → n % 2 ^ suc k ≡ bit_xor (bit_at n k * 2 ^ k) (n % 2 ^ k)
xor_next n k =
    ap (λ z. n % 2 ^ z) (sym (one-add k))
    ∙ mod-pow-add n 1 k
    ∙ sym (xor_shifted (bit_at n k) k (n % 2 ^ k) (mod-lt n (pow_pos k)))

-- what has no bit from k on is below 2 ^ k
pub below_of_shr : (n k : ℕ) → n / 2 ^ k ≡ 0 → n < 2 ^ k
below_of_shr n k e = omega (arith, shr_split n k, mod-lt n (pow_pos k), ap (λ z. z * 2 ^ k) e, zero-mul (2 ^ k))

-- two numbers with the same bits from k on differ below 2 ^ k
pub top_cancels : (k x y : ℕ) → x / 2 ^ k ≡ y / 2 ^ k → bit_xor x y < 2 ^ k
top_cancels k x y e =
    below_of_shr (bit_xor x y) k (xor_shr x y k ∙ ap (λ z. bit_xor z (y / 2 ^ k)) e ∙ xor_self (y / 2 ^ k))
