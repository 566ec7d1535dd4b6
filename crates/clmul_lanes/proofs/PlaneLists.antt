-- Words as lists of their bytes.
use Rattle.std.proofs.Common.{◌≡◌, ℕ, zero, suc, ◌+◌, ◌*◌, ◌/◌, ◌%◌, ◌^◌, ◌<◌, List, [], ◌∷◌, ◌++◌, length, map, get_or, take, drop, Fits, w8, w32, refl, sym, ap, subst, ◌∙◌, arith, lit<}
use Rattle.std.specs.List.{range_with_len}
use Rattle.std.specs.Simd.Lanes.{Each1, number_l, digits_l, pick_l, chunk}
use Rattle.std.proofs.Math.Nat.{mod-lt}
use Rattle.std.proofs.lemmas.Simd.{pick_l_whole, get_or_narrower, get_or_wider, below_from_Fits}
use Rattle.clmul_lanes.specs.Planes.{byte_of, ArePlanes}
use Rattle.clmul_lanes.proofs.LaneLists.{map_same}

-- a list of n numbers is those at its indices
pub listed : (n : ℕ) (ws : List ℕ) → length ws ≡ n → ws ≡ map (λ k. get_or ws k 0) (range_with_len 0 n)
listed n ws long = sym (pick_l_whole 0 ws n long)

length-digits_l : (p n x : ℕ) → length (digits_l p n x) ≡ n
length-digits_l p zero x = refl
length-digits_l p (suc n) x = ap suc (length-digits_l p n (x / p))

-- ---- bytes of words

-- byte i by a shift of whole bytes
by_bytes : (i w : ℕ) → i < 4 → w / 256 ^ i % 256 ≡ byte_of i w
by_bytes zero w lt = refl
by_bytes (suc zero) w lt = refl
by_bytes (suc (suc zero)) w lt = refl
by_bytes (suc (suc (suc zero))) w lt = refl
by_bytes (suc (suc (suc (suc i)))) w lt = absurd (omega arith)

-- the byte at index k of words
byte_at : (n k : ℕ) (ws : List ℕ) → Each1 (Fits w32) ws → k < n → get_or (digits_l 256 n (number_l (2 ^ 32) ws)) k 0 ≡ byte_of (k % 4) (get_or ws (k / 4) 0)
byte_at n k ws fits lt =
    ap (λ j. get_or (digits_l 256 n (number_l (2 ^ 32) ws)) j 0) split
    ∙ get_or_narrower (2 ^ 32) 4 256 n ws (k / 4) (k % 4) refl (below_from_Fits w32 ws fits) (mod-lt k (lit< tt)) (omega arith)
    ∙ by_bytes (k % 4) (get_or ws (k / 4) 0) (mod-lt k (lit< tt))
  where
    split : k ≡ 4 * (k / 4) + k % 4
    split = omega arith

-- the sixteen bytes of four words
sixteen_bytes : (ws : List ℕ) → Each1 (Fits w32) ws → digits_l 256 16 (number_l (2 ^ 32) ws) ≡ map (λ k. byte_of (k % 4) (get_or ws (k / 4) 0)) (range_with_len 0 16)
sixteen_bytes ws fits =
    listed 16 (digits_l 256 16 (number_l (2 ^ 32) ws)) (length-digits_l 256 16 (number_l (2 ^ 32) ws))
    ∙ map_same (λ k. k < 16) (λ k. get_or (digits_l 256 16 (number_l (2 ^ 32) ws)) k 0) (λ k. byte_of (k % 4) (get_or ws (k / 4) 0))
    (λ k lt. byte_at 16 k ws fits lt) (range_with_len 0 16)
    (lit< tt, (lit< tt, (lit< tt, (lit< tt, (lit< tt, (lit< tt, (lit< tt, (lit< tt, (lit< tt, (lit< tt, (lit< tt, (lit< tt, (lit< tt, (lit< tt, (lit< tt, (lit< tt, tt))))))))))))))))

-- the bytes of words, first the lowest of each
abbrev pub in_turn : List ℕ → List ℕ
in_turn ws = map (byte_of 0) ws ++ map (byte_of 1) ws ++ map (byte_of 2) ws ++ map (byte_of 3) ws

abbrev by_byte : List ℕ
by_byte = 0 ∷ 4 ∷ 8 ∷ 12 ∷ 1 ∷ 5 ∷ 9 ∷ 13 ∷ 2 ∷ 6 ∷ 10 ∷ 14 ∷ 3 ∷ 7 ∷ 11 ∷ 15 ∷ []

pub bytes_in_turn_are : (ws : List ℕ) → length ws ≡ 4 → Each1 (Fits w32) ws
    → pick_l 0 (digits_l 256 16 (number_l (2 ^ 32) ws) ++ digits_l 256 16 (number_l (2 ^ 32) ws)) by_byte ≡ in_turn ws
bytes_in_turn_are ws long fits =
    ap (λ bytes. pick_l 0 (bytes ++ bytes) by_byte) (sixteen_bytes ws fits) ∙ ap in_turn (sym (listed 4 ws long))

-- ---- shuffles

-- the numbers at these positions of two lists, the second behind the first
abbrev shuffled : List ℕ → List ℕ → List ℕ → List ℕ
shuffled ks xs ys = pick_l 0 (xs ++ ys) ks

abbrev lower_fours : List ℕ
lower_fours = 0 ∷ 1 ∷ 2 ∷ 3 ∷ 16 ∷ 17 ∷ 18 ∷ 19 ∷ 4 ∷ 5 ∷ 6 ∷ 7 ∷ 20 ∷ 21 ∷ 22 ∷ 23 ∷ []

abbrev upper_fours : List ℕ
upper_fours = 8 ∷ 9 ∷ 10 ∷ 11 ∷ 24 ∷ 25 ∷ 26 ∷ 27 ∷ 12 ∷ 13 ∷ 14 ∷ 15 ∷ 28 ∷ 29 ∷ 30 ∷ 31 ∷ []

abbrev lower_eights : List ℕ
lower_eights = 0 ∷ 1 ∷ 2 ∷ 3 ∷ 4 ∷ 5 ∷ 6 ∷ 7 ∷ 16 ∷ 17 ∷ 18 ∷ 19 ∷ 20 ∷ 21 ∷ 22 ∷ 23 ∷ []

abbrev upper_eights : List ℕ
upper_eights = 8 ∷ 9 ∷ 10 ∷ 11 ∷ 12 ∷ 13 ∷ 14 ∷ 15 ∷ 24 ∷ 25 ∷ 26 ∷ 27 ∷ 28 ∷ 29 ∷ 30 ∷ 31 ∷ []

-- the planes, by the bytes of four words each
abbrev pub planes_by : List ℕ → List ℕ → List ℕ → List ℕ → List (List ℕ)
planes_by aa bs cs ds =
    shuffled lower_eights (shuffled lower_fours aa bs) (shuffled lower_fours cs ds) ∷ shuffled upper_eights (shuffled lower_fours aa bs) (shuffled lower_fours cs ds)
    ∷ shuffled lower_eights (shuffled upper_fours aa bs) (shuffled upper_fours cs ds) ∷ shuffled upper_eights (shuffled upper_fours aa bs) (shuffled upper_fours cs ds) ∷ []

-- sixteen words by their numbers
abbrev sixteen_of : (ℕ → ℕ) → List ℕ
sixteen_of w = map w (range_with_len 0 16)

-- the numbers at a list's indices
abbrev at : List ℕ → ℕ → ℕ
at ws k = get_or ws k 0

planes_of_sixteen : (w : ℕ → ℕ) → ArePlanes (sixteen_of w) (planes_by (in_turn (take 4 (sixteen_of w))) (in_turn (take 4 (drop 4 (sixteen_of w)))) (in_turn (take 4 (drop 8 (sixteen_of w)))) (in_turn (drop 12 (sixteen_of w))))
planes_of_sixteen w zero lt = refl
planes_of_sixteen w (suc zero) lt = refl
planes_of_sixteen w (suc (suc zero)) lt = refl
planes_of_sixteen w (suc (suc (suc zero))) lt = refl
planes_of_sixteen w (suc (suc (suc (suc b)))) lt = absurd (omega arith)

pub planes_are : (ws aa bs cs ds : List ℕ) → length ws ≡ 16 → aa ≡ in_turn (take 4 (sixteen_of (at ws))) → bs ≡ in_turn (take 4 (drop 4 (sixteen_of (at ws)))) → cs ≡ in_turn (take 4 (drop 8 (sixteen_of (at ws)))) → ds ≡ in_turn (drop 12 (sixteen_of (at ws)))
    → ArePlanes ws (planes_by aa bs cs ds)
planes_are ws aa bs cs ds long ea eb ec ed =
    subst (λ z. ArePlanes ws (planes_by z bs cs ds)) (sym ea)
    (subst (λ z. ArePlanes ws (planes_by (in_turn (take 4 (sixteen_of (at ws)))) z cs ds)) (sym eb)
    (subst (λ z. ArePlanes ws (planes_by (in_turn (take 4 (sixteen_of (at ws)))) (in_turn (take 4 (drop 4 (sixteen_of (at ws))))) z ds)) (sym ec)
    (subst (λ z. ArePlanes ws (planes_by (in_turn (take 4 (sixteen_of (at ws)))) (in_turn (take 4 (drop 4 (sixteen_of (at ws))))) (in_turn (take 4 (drop 8 (sixteen_of (at ws))))) z)) (sym ed)
    (subst (λ zs. ArePlanes zs (planes_by (in_turn (take 4 (sixteen_of (at ws)))) (in_turn (take 4 (drop 4 (sixteen_of (at ws))))) (in_turn (take 4 (drop 8 (sixteen_of (at ws))))) (in_turn (drop 12 (sixteen_of (at ws)))))) (sym (listed 16 ws long))
    (planes_of_sixteen (at ws))))))

-- ---- back to words

-- the words of bytes, four each
abbrev pub words_in : List ℕ → List ℕ
words_in bytes = map (λ k. number_l 256 (chunk (4 * k) 4 bytes)) (range_with_len 0 4)

pub four_words_are : (bytes : List ℕ) → Each1 (Fits w8) bytes → digits_l (2 ^ 32) 4 (number_l 256 bytes) ≡ words_in bytes
four_words_are bytes fits =
    listed 4 (digits_l (2 ^ 32) 4 (number_l 256 bytes)) (length-digits_l (2 ^ 32) 4 (number_l 256 bytes))
    ∙ map_same (λ k. k < 4) (λ k. get_or (digits_l (2 ^ 32) 4 (number_l 256 bytes)) k 0) (λ k. number_l 256 (chunk (4 * k) 4 bytes))
    (λ k lt. get_or_wider 256 4 (2 ^ 32) 4 bytes k refl (below_from_Fits w8 bytes fits) lt) (range_with_len 0 4)
    (lit< tt, (lit< tt, (lit< tt, (lit< tt, tt))))

-- the four bytes of a word
abbrev four_bytes : ℕ → ℕ
four_bytes w = number_l 256 (byte_of 0 w ∷ byte_of 1 w ∷ byte_of 2 w ∷ byte_of 3 w ∷ [])

four_bytes-are : (w : ℕ) → w < 2 ^ 32 → four_bytes w ≡ w
four_bytes-are w lt = omega arith

abbrev lower_ones : List ℕ
lower_ones = 0 ∷ 16 ∷ 1 ∷ 17 ∷ 2 ∷ 18 ∷ 3 ∷ 19 ∷ 4 ∷ 20 ∷ 5 ∷ 21 ∷ 6 ∷ 22 ∷ 7 ∷ 23 ∷ []

abbrev upper_ones : List ℕ
upper_ones = 8 ∷ 24 ∷ 9 ∷ 25 ∷ 10 ∷ 26 ∷ 11 ∷ 27 ∷ 12 ∷ 28 ∷ 13 ∷ 29 ∷ 14 ∷ 30 ∷ 15 ∷ 31 ∷ []

abbrev lower_twos : List ℕ
lower_twos = 0 ∷ 1 ∷ 16 ∷ 17 ∷ 2 ∷ 3 ∷ 18 ∷ 19 ∷ 4 ∷ 5 ∷ 20 ∷ 21 ∷ 6 ∷ 7 ∷ 22 ∷ 23 ∷ []

abbrev upper_twos : List ℕ
upper_twos = 8 ∷ 9 ∷ 24 ∷ 25 ∷ 10 ∷ 11 ∷ 26 ∷ 27 ∷ 12 ∷ 13 ∷ 28 ∷ 29 ∷ 14 ∷ 15 ∷ 30 ∷ 31 ∷ []

-- the bytes of four words each, out of the planes
abbrev pub quarter : List ℕ → List ℕ → List ℕ → List ℕ → List ℕ → List ℕ → List ℕ
quarter ones twos p0 p1 p2 p3 = shuffled twos (shuffled ones p0 p1) (shuffled ones p2 p3)

-- four lists of four, one after the other
abbrev pub one_after_the_other : List ℕ → List ℕ → List ℕ → List ℕ → List ℕ
one_after_the_other a b c d =
    at a 0 ∷ at a 1 ∷ at a 2 ∷ at a 3 ∷ at b 0 ∷ at b 1 ∷ at b 2 ∷ at b 3 ∷ at c 0 ∷ at c 1 ∷ at c 2 ∷ at c 3 ∷ at d 0 ∷ at d 1 ∷ at d 2 ∷ at d 3 ∷ []

-- the words that planes give
abbrev words_by : List ℕ → List ℕ → List ℕ → List ℕ → List ℕ
words_by p0 p1 p2 p3 =
    one_after_the_other (words_in (quarter lower_ones lower_twos p0 p1 p2 p3)) (words_in (quarter lower_ones upper_twos p0 p1 p2 p3)) (words_in (quarter upper_ones lower_twos p0 p1 p2 p3)) (words_in (quarter upper_ones upper_twos p0 p1 p2 p3))

words_of_sixteen : (w : ℕ → ℕ) → words_by (map (byte_of 0) (sixteen_of w)) (map (byte_of 1) (sixteen_of w)) (map (byte_of 2) (sixteen_of w)) (map (byte_of 3) (sixteen_of w)) ≡ map (λ k. four_bytes (w k)) (range_with_len 0 16)
words_of_sixteen w = refl

pub words_are : (ws p0 p1 p2 p3 a b c d : List ℕ) → length ws ≡ 16 → Each1 (Fits w32) ws
    → p0 ≡ map (byte_of 0) ws → p1 ≡ map (byte_of 1) ws → p2 ≡ map (byte_of 2) ws → p3 ≡ map (byte_of 3) ws
    → a ≡ words_in (quarter lower_ones lower_twos p0 p1 p2 p3) → b ≡ words_in (quarter lower_ones upper_twos p0 p1 p2 p3) → c ≡ words_in (quarter upper_ones lower_twos p0 p1 p2 p3) → d ≡ words_in (quarter upper_ones upper_twos p0 p1 p2 p3)
    → one_after_the_other a b c d ≡ ws
words_are ws p0 p1 p2 p3 a b c d long fits e0 e1 e2 e3 ea eb ec ed =
    ap (λ z. one_after_the_other z b c d) ea
    ∙ ap (λ z. one_after_the_other (words_in (quarter lower_ones lower_twos p0 p1 p2 p3)) z c d) eb
    ∙ ap (λ z. one_after_the_other (words_in (quarter lower_ones lower_twos p0 p1 p2 p3)) (words_in (quarter lower_ones upper_twos p0 p1 p2 p3)) z d) ec
    ∙ ap (one_after_the_other (words_in (quarter lower_ones lower_twos p0 p1 p2 p3)) (words_in (quarter lower_ones upper_twos p0 p1 p2 p3)) (words_in (quarter upper_ones lower_twos p0 p1 p2 p3))) ed
    ∙ ap (λ z. words_by z p1 p2 p3) (e0 ∙ ap (map (byte_of 0)) (listed 16 ws long))
    ∙ ap (λ z. words_by (map (byte_of 0) (sixteen_of (at ws))) z p2 p3) (e1 ∙ ap (map (byte_of 1)) (listed 16 ws long))
    ∙ ap (λ z. words_by (map (byte_of 0) (sixteen_of (at ws))) (map (byte_of 1) (sixteen_of (at ws))) z p3) (e2 ∙ ap (map (byte_of 2)) (listed 16 ws long))
    ∙ ap (words_by (map (byte_of 0) (sixteen_of (at ws))) (map (byte_of 1) (sixteen_of (at ws))) (map (byte_of 2) (sixteen_of (at ws)))) (e3 ∙ ap (map (byte_of 3)) (listed 16 ws long))
    ∙ words_of_sixteen (at ws)
    ∙ ap (map four_bytes) (sym (listed 16 ws long))
    ∙ map_same (Fits w32) four_bytes (λ w. w) (λ w small. four_bytes-are w small.fits) ws fits
    ∙ map_id ws
  where
    map_id : (xs : List ℕ) → map (λ x. x) xs ≡ xs
    map_id [] = refl
    map_id (x ∷ xs) = ap (λ rest. x ∷ rest) (map_id xs)

-- ---- planes put together

pub four_planes : (ws p0 p1 p2 p3 : List ℕ) → p0 ≡ map (byte_of 0) ws → p1 ≡ map (byte_of 1) ws → p2 ≡ map (byte_of 2) ws → p3 ≡ map (byte_of 3) ws → ArePlanes ws (p0 ∷ p1 ∷ p2 ∷ p3 ∷ [])
four_planes ws p0 p1 p2 p3 e0 e1 e2 e3 zero lt = e0
four_planes ws p0 p1 p2 p3 e0 e1 e2 e3 (suc zero) lt = e1
four_planes ws p0 p1 p2 p3 e0 e1 e2 e3 (suc (suc zero)) lt = e2
four_planes ws p0 p1 p2 p3 e0 e1 e2 e3 (suc (suc (suc zero))) lt = e3
four_planes ws p0 p1 p2 p3 e0 e1 e2 e3 (suc (suc (suc (suc b)))) lt = absurd (omega arith)
