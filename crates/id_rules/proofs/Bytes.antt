-- Bytes: the test and each index, a list in two parts, and the bytes of a number.
use Rattle.std.proofs.Common.{◌≡◌, ℕ, zero, suc, ◌/◌, ◌%◌, ◌^◌, nat_lt, true, List, [], ◌∷◌, ◌++◌, refl, sym, ◌∙◌, lit<, mod-lt, le-leb, lt-ltb}
use Rattle.std.specs.Int.{byte_at, bytes_low_first, bytes_high_first}
use Rattle.std.proofs.lemmas.Bool.{and_from, and_parts, ltb-true}
use Rattle.std.proofs.lemmas.List.Folds.{list_all-append}
use Rattle.hex.specs.Hex.{IsBytes}
use Rattle.id_rules.specs.Bytes.{are_bytes}

-- ---- the test, and the same for each index

pub IsBytes-are_bytes : (xs : List ℕ) → are_bytes xs ≡ true → IsBytes xs
IsBytes-are_bytes [] h k = lit< tt
IsBytes-are_bytes (x ∷ xs) h zero = ltb-true x 256 (and_parts (nat_lt x 256) (are_bytes xs) h).0
IsBytes-are_bytes (x ∷ xs) h (suc k) = IsBytes-are_bytes xs (and_parts (nat_lt x 256) (are_bytes xs) h).1 k

pub are_bytes-IsBytes : (xs : List ℕ) → IsBytes xs → are_bytes xs ≡ true
are_bytes-IsBytes [] small = refl
are_bytes-IsBytes (x ∷ xs) small = and_from (nat_lt x 256) (are_bytes xs) (lt-ltb x 256 (small 0)) (are_bytes-IsBytes xs (λ i. small (suc i)))

-- ---- a list in two parts

pub bytes_join : (xs ys : List ℕ) → are_bytes xs ≡ true → are_bytes ys ≡ true → are_bytes (xs ++ ys) ≡ true
bytes_join xs ys h k = list_all-append (λ b. nat_lt b (2 ^ 8)) xs ys ∙ and_from (are_bytes xs) (are_bytes ys) h k

pub bytes_split : (xs ys : List ℕ) → are_bytes (xs ++ ys) ≡ true → (are_bytes xs ≡ true) × (are_bytes ys ≡ true)
bytes_split xs ys h = and_parts (are_bytes xs) (are_bytes ys) (sym (list_all-append (λ b. nat_lt b (2 ^ 8)) xs ys) ∙ h)

-- ---- the bytes of a number

pub byte_at-small : (i n : ℕ) → nat_lt (byte_at i n) (2 ^ 8) ≡ true
byte_at-small zero n = le-leb (suc (n % 256)) 256 (mod-lt n (lit< tt))
byte_at-small (suc i) n = le-leb (suc (n / 256 ^ suc i % 256)) 256 (mod-lt (n / 256 ^ suc i) (lit< tt))

pub are_bytes-low_first : (i k n : ℕ) → are_bytes (bytes_low_first i k n) ≡ true
are_bytes-low_first i zero n = refl
are_bytes-low_first i (suc k) n = and_from (nat_lt (byte_at i n) (2 ^ 8)) (are_bytes (bytes_low_first (suc i) k n)) (byte_at-small i n) (are_bytes-low_first (suc i) k n)

pub are_bytes-high_first : (k n : ℕ) → are_bytes (bytes_high_first k n) ≡ true
are_bytes-high_first zero n = refl
are_bytes-high_first (suc k) n = and_from (nat_lt (byte_at k n) (2 ^ 8)) (are_bytes (bytes_high_first k n)) (byte_at-small k n) (are_bytes-high_first k n)
