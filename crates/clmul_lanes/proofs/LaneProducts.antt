-- The products of one factor, byte by byte.
use Rattle.std.proofs.Common.{◌≡◌, ℕ, ◌+◌, ◌*◌, ◌/◌, ◌%◌, ◌^◌, ◌<◌, List, [], map, slice_index, slice_index_or, Fits, w32, refl, ap, ◌∙◌, arith, lit<}
use Rattle.std.specs.Int.Bits.{bit_xor, xor_shr, xor_mod}
use Rattle.std.specs.Simd.Lanes.{zip2, Each1}
use Rattle.std.proofs.lemmas.Simd.{map-map, zip2_of_maps}
use Rattle.std.proofs.Math.Nat.{mod-lt}
use Rattle.std.proofs.lemmas.Nat.{shr-shr}
use Rattle.field_rules.specs.Elements.{product}
use Rattle.clmul_lanes.specs.Tables.{AreByteTables}
use Rattle.clmul_lanes.proofs.LaneLists.{map_same, map_alike}
use Rattle.field_core.proofs.LinearMaps.{words_give}
use Rattle.clmul_lanes.proofs.Nibbles.{product_is_linear}

-- ---- the bytes of a number

-- byte p of an exclusive or
pub byte_xor : (p a b : ℕ) → bit_xor a b / 2 ^ (8 * p) % 256 ≡ bit_xor (a / 2 ^ (8 * p) % 256) (b / 2 ^ (8 * p) % 256)
byte_xor p a b = ap (λ z. z % 256) (xor_shr a b (8 * p)) ∙ xor_mod (a / 2 ^ (8 * p)) (b / 2 ^ (8 * p)) 8

-- the lower half of byte p is nibble 2 p
pub lower_nibble : (w p : ℕ) → w / 2 ^ (8 * p) % 256 % 16 ≡ w / 2 ^ (4 * (2 * p)) % 16
lower_nibble w p = let index : 8 * p ≡ 4 * (2 * p) = omega arith in
    low (w / 2 ^ (8 * p)) ∙ ap (λ k. w / 2 ^ k % 16) index
  where
    low : (x : ℕ) → x % 256 % 16 ≡ x % 16
    low x = omega arith

-- the upper half is nibble 2 p + 1
pub upper_nibble : (w p : ℕ) → w / 2 ^ (8 * p) % 256 / 16 % 16 ≡ w / 2 ^ (4 * (2 * p + 1)) % 16
upper_nibble w p = let index : 8 * p + 4 ≡ 4 * (2 * p + 1) = omega arith in
    high (w / 2 ^ (8 * p)) ∙ ap (λ z. z % 16) (shr-shr w (8 * p) 4 ∙ ap (λ k. w / 2 ^ k) index)
  where
    high : (x : ℕ) → x % 256 / 16 % 16 ≡ x / 16 % 16
    high x = omega arith

-- ---- the byte at an index of a product

module _ (tables : List (List (List ℕ))) (index : ℕ) where
  -- what the table of nibble i has at nibble i of a word
  abbrev pub look : ℕ → ℕ → ℕ
  look i w = slice_index (slice_index_or (slice_index_or tables i []) index []) (w / 2 ^ (4 * i) % 16)

  -- all eight
  abbrev pub eight_looks : ℕ → ℕ
  eight_looks w =
      bit_xor (bit_xor (bit_xor (look 0 w) (look 1 w)) (bit_xor (look 2 w) (look 3 w))) (bit_xor (bit_xor (look 4 w) (look 5 w)) (bit_xor (look 6 w) (look 7 w)))

module _ (factor : ℕ) (fits : factor < 2 ^ 32) (tables : List (List (List ℕ))) (are : AreByteTables factor tables) (index : ℕ) (small : index < 4) where
  abbrev byte_of : ℕ → ℕ
  byte_of a = a / 2 ^ (8 * index) % 256

  -- a look finds the byte of the multiple by the nibble
  look_is : (w i : ℕ) → i < 8 → look tables index i w ≡ byte_of (product 32 factor (w / 2 ^ (4 * i) % 16 * 2 ^ (4 * i)))
  look_is w i lt = are i lt index small (w / 2 ^ (4 * i) % 16) (mod-lt (w / 2 ^ (4 * i)) (lit< tt))

  -- the byte of the exclusive or of eight
  byte_of_eight : (a0 a1 a2 a3 a4 a5 a6 a7 : ℕ)
      → bit_xor (bit_xor (bit_xor (byte_of a0) (byte_of a1)) (bit_xor (byte_of a2) (byte_of a3))) (bit_xor (bit_xor (byte_of a4) (byte_of a5)) (bit_xor (byte_of a6) (byte_of a7)))
      ≡ byte_of (bit_xor (bit_xor (bit_xor a0 a1) (bit_xor a2 a3)) (bit_xor (bit_xor a4 a5) (bit_xor a6 a7)))
  byte_of_eight a0 a1 a2 a3 a4 a5 a6 a7 = simp (byte_xor index)

  -- eight of them are the byte of the product
  looks_give : (w : ℕ) → Fits w32 w → eight_looks tables index w ≡ byte_of (product 32 factor w)
  looks_give w small_word =
      rw (look_is w 0 (lit< tt), look_is w 1 (lit< tt), look_is w 2 (lit< tt), look_is w 3 (lit< tt), look_is w 4 (lit< tt), look_is w 5 (lit< tt), look_is w 6 (lit< tt), look_is w 7 (lit< tt))
      (byte_of_eight _ _ _ _ _ _ _ _ ∙ ap byte_of (words_give (product 32 factor) (product_is_linear factor fits) w small_word.fits _ _ _ _ _ _ _ _ refl refl refl refl refl refl refl refl))

  -- lane by lane
  pub bytes_by_looks : (ws r0 r1 r2 r3 r4 r5 r6 r7 : List ℕ) → Each1 (Fits w32) ws
      → r0 ≡ map (look tables index 0) ws → r1 ≡ map (look tables index 1) ws → r2 ≡ map (look tables index 2) ws → r3 ≡ map (look tables index 3) ws
      → r4 ≡ map (look tables index 4) ws → r5 ≡ map (look tables index 5) ws → r6 ≡ map (look tables index 6) ws → r7 ≡ map (look tables index 7) ws
      → zip2 bit_xor (zip2 bit_xor (zip2 bit_xor r0 r1) (zip2 bit_xor r2 r3)) (zip2 bit_xor (zip2 bit_xor r4 r5) (zip2 bit_xor r6 r7)) ≡ map (λ w. byte_of (product 32 factor w)) ws
  bytes_by_looks ws r0 r1 r2 r3 r4 r5 r6 r7 each e0 e1 e2 e3 e4 e5 e6 e7 =
      zip2_of_maps bit_xor (λ w. bit_xor (bit_xor (l 0 w) (l 1 w)) (bit_xor (l 2 w) (l 3 w))) (λ w. bit_xor (bit_xor (l 4 w) (l 5 w)) (bit_xor (l 6 w) (l 7 w))) ws
      (zip2_of_maps bit_xor (λ w. bit_xor (l 0 w) (l 1 w)) (λ w. bit_xor (l 2 w) (l 3 w)) ws (zip2_of_maps bit_xor (l 0) (l 1) ws e0 e1) (zip2_of_maps bit_xor (l 2) (l 3) ws e2 e3))
      (zip2_of_maps bit_xor (λ w. bit_xor (l 4 w) (l 5 w)) (λ w. bit_xor (l 6 w) (l 7 w)) ws (zip2_of_maps bit_xor (l 4) (l 5) ws e4 e5) (zip2_of_maps bit_xor (l 6) (l 7) ws e6 e7))
      ∙ map_same (Fits w32) (eight_looks tables index) (λ w. byte_of (product 32 factor w)) looks_give ws each
    where
      l : ℕ → ℕ → ℕ
      l = look tables index

-- a look by the lower half of byte p
pub lower_looks : (table ws bytes looks : List ℕ) (p : ℕ) → bytes ≡ map (λ w. w / 2 ^ (8 * p) % 256) ws → looks ≡ map (λ b. slice_index table (b % 16)) bytes
    → looks ≡ map (λ w. slice_index table (w / 2 ^ (4 * (2 * p)) % 16)) ws
lower_looks table ws bytes looks p bytes_are looks_are =
    looks_are
    ∙ ap (map (λ b. slice_index table (b % 16))) bytes_are
    ∙ map-map (λ b. slice_index table (b % 16)) (λ w. w / 2 ^ (8 * p) % 256) ws
    ∙ map_alike (λ w. slice_index table (w / 2 ^ (8 * p) % 256 % 16)) (λ w. slice_index table (w / 2 ^ (4 * (2 * p)) % 16)) (λ w. ap (slice_index table) (lower_nibble w p)) ws

-- and by the upper half
pub upper_looks : (table ws bytes halves looks : List ℕ) (p : ℕ) → bytes ≡ map (λ w. w / 2 ^ (8 * p) % 256) ws → halves ≡ map (λ b. b / 16) bytes → looks ≡ map (λ b. slice_index table (b % 16)) halves
    → looks ≡ map (λ w. slice_index table (w / 2 ^ (4 * (2 * p + 1)) % 16)) ws
upper_looks table ws bytes halves looks p bytes_are halves_are looks_are =
    looks_are
    ∙ ap (map (λ b. slice_index table (b % 16))) (halves_are ∙ ap (map (λ b. b / 16)) bytes_are ∙ map-map (λ b. b / 16) (λ w. w / 2 ^ (8 * p) % 256) ws)
    ∙ map-map (λ b. slice_index table (b % 16)) (λ w. w / 2 ^ (8 * p) % 256 / 16) ws
    ∙ map_alike (λ w. slice_index table (w / 2 ^ (8 * p) % 256 / 16 % 16)) (λ w. slice_index table (w / 2 ^ (4 * (2 * p + 1)) % 16)) (λ w. ap (slice_index table) (upper_nibble w p)) ws
