-- Sums and their bytes, both ways.
use Rattle.std.proofs.Common.{◌≡◌, ℕ, zero, suc, ◌*◌, ◌%◌, ◌^◌, ◌<◌, List, [], ◌∷◌, ◌++◌, length, get_or, refl, ap, ◌∙◌, lit<, arith}
use Rattle.std.specs.Int.{from_le_bytes, to_le_bytes, w32}
use Rattle.std.specs.List.{All}
use Rattle.std.proofs.lemmas.List.Elements.{All-head, All-tail}
use Rattle.std.proofs.lemmas.Nat.{le_bytes_4, from_le_bytes-to_le_bytes_4}
use Rattle.sketch_rules.specs.Sketches.{bytes_of, sums_in}

-- the sums that the bytes of sums spell
pub sums_in-bytes_of : (sums : List ℕ) → All (λ s. s < 2 ^ 32) sums → sums_in (bytes_of sums) ≡ sums
unfolding sums_in
sums_in-bytes_of [] h = refl
sums_in-bytes_of (s ∷ rest) h =
    rw (from_le_bytes-to_le_bytes_4 s (All-head (λ x. x < 2 ^ 32) s rest h), sums_in-bytes_of rest (All-tail (λ x. x < 2 ^ 32) s rest h)) refl

-- four bytes
bytes_of_four : (a b c d : ℕ) → a < 256 → b < 256 → c < 256 → d < 256 → (i : ℕ) → get_or (a ∷ b ∷ c ∷ d ∷ []) i 0 < 256
bytes_of_four a b c d a_fits b_fits c_fits d_fits zero = a_fits
bytes_of_four a b c d a_fits b_fits c_fits d_fits (suc zero) = b_fits
bytes_of_four a b c d a_fits b_fits c_fits d_fits (suc (suc zero)) = c_fits
bytes_of_four a b c d a_fits b_fits c_fits d_fits (suc (suc (suc zero))) = d_fits
bytes_of_four a b c d a_fits b_fits c_fits d_fits (suc (suc (suc (suc i)))) = lit< tt

-- the bytes of the sums that bytes spell
pub bytes_of-sums_in : (bytes : List ℕ) → ((i : ℕ) → get_or bytes i 0 < 256) → length bytes % 4 ≡ 0 → bytes_of (sums_in bytes) ≡ bytes
unfolding sums_in
bytes_of-sums_in [] h e = refl
bytes_of-sums_in (a ∷ []) h e = absurd (omega arith)
bytes_of-sums_in (a ∷ b ∷ []) h e = absurd (omega arith)
bytes_of-sums_in (a ∷ b ∷ c ∷ []) h e = absurd (omega arith)
bytes_of-sums_in (a ∷ b ∷ c ∷ d ∷ rest) h e =
    let whole : length rest % 4 ≡ 0 = omega arith in
    let first : to_le_bytes w32 (from_le_bytes w32 (a ∷ b ∷ c ∷ d ∷ [])) ≡ a ∷ b ∷ c ∷ d ∷ [] =
    le_bytes_4 (a ∷ b ∷ c ∷ d ∷ []) (from_le_bytes w32 (a ∷ b ∷ c ∷ d ∷ [])) refl (bytes_of_four a b c d (h 0) (h 1) (h 2) (h 3)) refl in
    ap (λ bs. bs ++ bytes_of (sums_in rest)) first ∙ ap (λ bs. a ∷ b ∷ c ∷ d ∷ bs) (bytes_of-sums_in rest (λ i. h (suc (suc (suc (suc i))))) whole)

-- 4 bytes for each sum
pub length-bytes_of : (sums : List ℕ) → length (bytes_of sums) ≡ 4 * length sums
length-bytes_of [] = refl
length-bytes_of (s ∷ rest) = let e = length-bytes_of rest in omega (arith, e)

pub length-sums_in : (bytes : List ℕ) → length bytes % 4 ≡ 0 → 4 * length (sums_in bytes) ≡ length bytes
unfolding sums_in
length-sums_in [] e = refl
length-sums_in (a ∷ []) e = absurd (omega arith)
length-sums_in (a ∷ b ∷ []) e = absurd (omega arith)
length-sums_in (a ∷ b ∷ c ∷ []) e = absurd (omega arith)
length-sums_in (a ∷ b ∷ c ∷ d ∷ rest) e = let whole : length rest % 4 ≡ 0 = omega arith in let more = length-sums_in rest whole in omega (arith, more)
