-- A map that keeps exclusive ors, by the nibbles of its argument.
use Rattle.std.proofs.Common.{◌≡◌, ℕ, zero, suc, ◌+◌, ◌*◌, ◌/◌, ◌%◌, ◌^◌, ◌<◌, ◌≤◌, List, [], slice_index, slice_index_or, sym, ◌∙◌, ap, subst, arith, pow_mono, lit<, lit≤}
use Rattle.std.specs.Int.Bits.{bit_xor, xor_self, xor_zero_l, xor_comm, xor_assoc, xor_shifted}
use Rattle.std.proofs.Math.Nat.{mod-lt, mod-one, mod-eq_of_lt, le_trans}
use Rattle.std.proofs.lemmas.Nat.{pow_pos, shl_below, mod-pow-add}
use Rattle.field_core.specs.LinearMaps.{IsLinear, AreTablesOf}

-- a nibble, i nibbles up, is a word
pub nibble_fits : (i j : ℕ) → i < 8 → j < 16 → j * 2 ^ (4 * i) < 2 ^ 32
nibble_fits i j index below = le_trans (shl_below j 4 (4 * i) below) (pow_mono {j = 32} (omega arith))

module _ (f : ℕ → ℕ) (linear : IsLinear f) (b : ℕ) (b_fits : b < 2 ^ 32) where
  -- what the map gives for nibble i of b
  abbrev by_nibble : ℕ → ℕ
  by_nibble i = f (b / 2 ^ (4 * i) % 16 * 2 ^ (4 * i))

  -- and for the nibbles of b below n
  abbrev by_nibbles : ℕ → ℕ
  by_nibbles zero = 0
  by_nibbles (suc n) = bit_xor (by_nibbles n) (by_nibble n)

  at_zero : f 0 ≡ 0
  at_zero = linear 0 0 (lit< tt) (lit< tt) ∙ xor_self (f 0)

  -- b's bits below nibble i + 1, as those below nibble i and the nibble
  nibbles_split : (i : ℕ) → b % 2 ^ (4 * suc i) ≡ bit_xor (b % 2 ^ (4 * i)) (b / 2 ^ (4 * i) % 16 * 2 ^ (4 * i))
  nibbles_split i =
      ap (λ z. b % 2 ^ z) more
      ∙ mod-pow-add b 4 (4 * i)
      ∙ sym (xor_shifted (b / 2 ^ (4 * i) % 16) (4 * i) (b % 2 ^ (4 * i)) (mod-lt b (pow_pos (4 * i))))
      ∙ xor_comm (b / 2 ^ (4 * i) % 16 * 2 ^ (4 * i)) (b % 2 ^ (4 * i))
    where
      more : 4 * suc i ≡ 4 + 4 * i
      more = omega arith

  by_nibbles-are : (n : ℕ) → n ≤ 8 → f (b % 2 ^ (4 * n)) ≡ by_nibbles n
  by_nibbles-are zero le = ap f (mod-one b) ∙ at_zero
  by_nibbles-are (suc n) le =
      ap f (nibbles_split n)
      ∙ linear (b % 2 ^ (4 * n)) (b / 2 ^ (4 * n) % 16 * 2 ^ (4 * n)) part_fits (nibble_fits n (b / 2 ^ (4 * n) % 16) (omega arith) (mod-lt (b / 2 ^ (4 * n)) (lit< tt)))
      ∙ ap (λ z. bit_xor z (by_nibble n)) (by_nibbles-are n (omega arith))
    where
      part_fits : b % 2 ^ (4 * n) < 2 ^ 32
      part_fits = le_trans (mod-lt b (pow_pos (4 * n))) (pow_mono {j = 32} (omega arith))

  -- by all eight
  by_eight_nibbles : bit_xor (bit_xor (bit_xor (by_nibble 0) (by_nibble 1)) (bit_xor (by_nibble 2) (by_nibble 3))) (bit_xor (bit_xor (by_nibble 4) (by_nibble 5)) (bit_xor (by_nibble 6) (by_nibble 7))) ≡ f b
  by_eight_nibbles = regrouped ∙ sym (by_nibbles-are 8 (lit≤ tt)) ∙ ap f (mod-eq_of_lt b_fits)
    where
      regrouped : bit_xor (bit_xor (bit_xor (by_nibble 0) (by_nibble 1)) (bit_xor (by_nibble 2) (by_nibble 3))) (bit_xor (bit_xor (by_nibble 4) (by_nibble 5)) (bit_xor (by_nibble 6) (by_nibble 7)))
          ≡ by_nibbles 8
      regrouped = simp (xor_assoc, xor_zero_l)

  -- the word of nibble i
  pub word_is : (tables : List (List ℕ)) → AreTablesOf f tables → (i nibble : ℕ) → i < 8 → nibble ≡ b / 2 ^ (4 * i) % 16 → slice_index (slice_index_or tables i []) nibble ≡ by_nibble i
  word_is tables are i nibble index is =
      are i index nibble (subst (λ z. z < 16) (sym is) (mod-lt (b / 2 ^ (4 * i)) (lit< tt)))
      ∙ ap (λ z. f (z * 2 ^ (4 * i))) is

  -- what the eight words give
  pub words_give : (w0 w1 w2 w3 w4 w5 w6 w7 : ℕ) → w0 ≡ by_nibble 0 → w1 ≡ by_nibble 1 → w2 ≡ by_nibble 2 → w3 ≡ by_nibble 3 → w4 ≡ by_nibble 4 → w5 ≡ by_nibble 5 → w6 ≡ by_nibble 6 → w7 ≡ by_nibble 7
      → bit_xor (bit_xor (bit_xor w0 w1) (bit_xor w2 w3)) (bit_xor (bit_xor w4 w5) (bit_xor w6 w7)) ≡ f b
  words_give w0 w1 w2 w3 w4 w5 w6 w7 e0 e1 e2 e3 e4 e5 e6 e7 = rw (e0, e1, e2, e3, e4, e5, e6, e7) by_eight_nibbles
