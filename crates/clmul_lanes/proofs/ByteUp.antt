-- Products with x ^ 8, byte by byte.
use Rattle.std.proofs.Common.{◌≡◌, ℕ, zero, suc, ◌*◌, ◌/◌, ◌%◌, ◌^◌, ◌<◌, List, [], ◌∷◌, map, get_or, slice_index, Fits, w32, refl, sym, ap, ap₂, subst, ◌∙◌, arith, lit<}
use Rattle.std.specs.List.{range_with_len}
use Rattle.std.specs.Int.Bits.{bit_xor, xor_zero_l, xor_zero_r, xor_comm, xor_lt}
use Rattle.std.specs.Simd.Lanes.{Each1, zip2}
use Rattle.std.proofs.Math.Nat.{mod-lt}
use Rattle.std.proofs.lemmas.Simd.{map-map, zip2_of_maps}
use Rattle.std.proofs.lemmas.List.FromFn.{get_or-map-range_with_len}
use Rattle.field_rules.specs.Elements.{carryless_product, product}
use Rattle.field_laws.specs.Rests.{IsRest}
use Rattle.field_laws.proofs.Xors.{xor_split}
use Rattle.field_laws.proofs.Carryless.{carryless_product-xor_l, carryless_product-one_r, carryless_product-shl_r, carryless_product-lt}
use Rattle.field_laws.proofs.Folds.{fold_once}
use Rattle.field_laws.proofs.Products.{rest_is_the_product}
use Rattle.clmul_lanes.specs.Planes.{byte_of, ArePlanes}
use Rattle.clmul_lanes.proofs.LaneLists.{map_same}
use Rattle.clmul_lanes.proofs.LaneProducts.{byte_xor}

-- the product of a byte and the modulus's lower terms
abbrev come_back : ℕ → ℕ
come_back t = carryless_product 8 t 0x8D

come_back-below : (t : ℕ) → t < 256 → come_back t < 65536
come_back-below t lt = carryless_product-lt 8 8 t 0x8D lt

-- ---- the tables

abbrev pub low : List ℕ
low = 0 ∷ 141 ∷ 26 ∷ 151 ∷ 52 ∷ 185 ∷ 46 ∷ 163 ∷ 104 ∷ 229 ∷ 114 ∷ 255 ∷ 92 ∷ 209 ∷ 70 ∷ 203 ∷ []

abbrev pub low_up : List ℕ
low_up = 0 ∷ 0 ∷ 1 ∷ 1 ∷ 2 ∷ 2 ∷ 3 ∷ 3 ∷ 4 ∷ 4 ∷ 5 ∷ 5 ∷ 6 ∷ 6 ∷ 7 ∷ 7 ∷ []

abbrev pub high : List ℕ
high = 0 ∷ 208 ∷ 160 ∷ 112 ∷ 64 ∷ 144 ∷ 224 ∷ 48 ∷ 128 ∷ 80 ∷ 32 ∷ 240 ∷ 192 ∷ 16 ∷ 96 ∷ 176 ∷ []

abbrev pub high_up : List ℕ
high_up = 0 ∷ 8 ∷ 17 ∷ 25 ∷ 35 ∷ 43 ∷ 50 ∷ 58 ∷ 70 ∷ 78 ∷ 87 ∷ 95 ∷ 101 ∷ 109 ∷ 116 ∷ 124 ∷ []

low_is : low ≡ map (λ n. byte_of 0 (come_back n)) (range_with_len 0 16)
unfolding carryless_product
low_is = refl

low_up_is : low_up ≡ map (λ n. byte_of 1 (come_back n)) (range_with_len 0 16)
unfolding carryless_product
low_up_is = refl

high_is : high ≡ map (λ n. byte_of 0 (come_back (n * 16))) (range_with_len 0 16)
unfolding carryless_product
high_is = refl

high_up_is : high_up ≡ map (λ n. byte_of 1 (come_back (n * 16))) (range_with_len 0 16)
unfolding carryless_product
high_up_is = refl

table_at : (table : List ℕ) (f : ℕ → ℕ) → table ≡ map f (range_with_len 0 16) → (n : ℕ) → n < 16 → slice_index table n ≡ f n
table_at table f is n lt = ap (λ z. get_or z n 0) is ∙ get_or-map-range_with_len f 0 16 n n 0 lt (omega arith)

-- what the tables have for both halves of a byte is the byte of its product
halves_give : (p : ℕ) (lower upper : List ℕ) → lower ≡ map (λ n. byte_of p (come_back n)) (range_with_len 0 16) → upper ≡ map (λ n. byte_of p (come_back (n * 16))) (range_with_len 0 16)
    → (t : ℕ) → t < 256 → bit_xor (slice_index lower (t % 16)) (slice_index upper (t / 16 % 16)) ≡ byte_of p (come_back t)
halves_give p lower upper lower_is upper_is t lt =
    ap₂ bit_xor (table_at lower (λ n. byte_of p (come_back n)) lower_is (t % 16) (mod-lt t (lit< tt))) (table_at upper (λ n. byte_of p (come_back (n * 16))) upper_is (t / 16 % 16) (mod-lt (t / 16) (lit< tt)))
    ∙ sym (byte_xor p (come_back (t % 16)) (come_back (t / 16 % 16 * 16)))
    ∙ ap (byte_of p)
    (sym (carryless_product-xor_l 8 (t % 16) (t / 16 % 16 * 16) 0x8D)
    ∙ ap come_back (ap (λ z. bit_xor (t % 16) (z * 16)) upper_half ∙ xor_comm (t % 16) (t / 16 * 16) ∙ xor_split t 4))
  where
    upper_half : t / 16 % 16 ≡ t / 16
    upper_half = omega arith

-- ---- the product

module _ (w : ℕ) (fits : w < 2 ^ 32) where
  moved : ℕ
  moved = w * 256 % 2 ^ 32

  top : ℕ
  top = w / 2 ^ 24

  product_up : product 32 w 256 ≡ bit_xor (w * 256 % 2 ^ 32) (come_back (w / 2 ^ 24))
  product_up = sym (rest_is_the_product 32 w 256 (bit_xor (w * 256 % 2 ^ 32) (come_back (w / 2 ^ 24))) (lit< tt) fits (lit< tt) rest below)
    where
      shifted : carryless_product 32 w 256 ≡ w * 256
      shifted = carryless_product-shl_r 8 24 w 1 ∙ ap (λ z. z * 256) (carryless_product-one_r 23 w)

      index : w * 256 / 2 ^ 32 ≡ w / 2 ^ 24
      index = omega arith

      small : w / 2 ^ 24 < 256
      small = omega arith

      back : come_back (w / 2 ^ 24) < 65536
      back = come_back-below (w / 2 ^ 24) small

      rest : IsRest 32 (carryless_product 32 w 256) (bit_xor (w * 256 % 2 ^ 32) (come_back (w / 2 ^ 24)))
      rest =
          subst (λ z. IsRest 32 z (bit_xor (w * 256 % 2 ^ 32) (come_back (w / 2 ^ 24)))) (sym shifted)
          (subst (λ z. IsRest 32 (w * 256) (bit_xor (w * 256 % 2 ^ 32) (come_back z))) index (fold_once (w * 256)))

      below : bit_xor (w * 256 % 2 ^ 32) (come_back (w / 2 ^ 24)) < 2 ^ 32
      below = xor_lt 32 (w * 256 % 2 ^ 32) (come_back (w / 2 ^ 24)) (mod-lt (w * 256) (lit< tt)) (omega (arith, back))

  small_top : w / 2 ^ 24 < 256
  small_top = omega arith

  top_is : w / 2 ^ 24 ≡ byte_of 3 w
  top_is = omega arith

  -- a byte of the product
  byte_up : (p : ℕ) → byte_of p (product 32 w 256) ≡ bit_xor (byte_of p (w * 256 % 2 ^ 32)) (byte_of p (come_back (w / 2 ^ 24)))
  byte_up p = ap (byte_of p) product_up ∙ byte_xor p (w * 256 % 2 ^ 32) (come_back (w / 2 ^ 24))

  at_zero : bit_xor (slice_index low (byte_of 3 w % 16)) (slice_index high (byte_of 3 w / 16 % 16)) ≡ byte_of 0 (product 32 w 256)
  at_zero =
      ap (λ t. bit_xor (slice_index low (t % 16)) (slice_index high (t / 16 % 16))) (sym top_is)
      ∙ halves_give 0 low high low_is high_is (w / 2 ^ 24) small_top
      ∙ sym (byte_up 0 ∙ ap (λ z. bit_xor z (byte_of 0 (come_back (w / 2 ^ 24)))) none ∙ xor_zero_l (byte_of 0 (come_back (w / 2 ^ 24))))
    where
      none : byte_of 0 (w * 256 % 2 ^ 32) ≡ 0
      none = omega arith

  at_one : bit_xor (byte_of 0 w) (bit_xor (slice_index low_up (byte_of 3 w % 16)) (slice_index high_up (byte_of 3 w / 16 % 16))) ≡ byte_of 1 (product 32 w 256)
  at_one =
      ap (λ t. bit_xor (byte_of 0 w) (bit_xor (slice_index low_up (t % 16)) (slice_index high_up (t / 16 % 16)))) (sym top_is)
      ∙ ap (bit_xor (byte_of 0 w)) (halves_give 1 low_up high_up low_up_is high_up_is (w / 2 ^ 24) small_top)
      ∙ sym (byte_up 1 ∙ ap (λ z. bit_xor z (byte_of 1 (come_back (w / 2 ^ 24)))) up)
    where
      up : byte_of 1 (w * 256 % 2 ^ 32) ≡ byte_of 0 w
      up = omega arith

  at_two : byte_of 1 w ≡ byte_of 2 (product 32 w 256)
  at_two = sym (byte_up 2 ∙ ap₂ bit_xor up none ∙ xor_zero_r (byte_of 1 w))
    where
      up : byte_of 2 (w * 256 % 2 ^ 32) ≡ byte_of 1 w
      up = omega arith

      none : byte_of 2 (come_back (w / 2 ^ 24)) ≡ 0
      none = omega (arith, come_back-below (w / 2 ^ 24) small_top)

  at_three : byte_of 2 w ≡ byte_of 3 (product 32 w 256)
  at_three = sym (byte_up 3 ∙ ap₂ bit_xor up none ∙ xor_zero_r (byte_of 2 w))
    where
      up : byte_of 3 (w * 256 % 2 ^ 32) ≡ byte_of 2 w
      up = omega arith

      none : byte_of 3 (come_back (w / 2 ^ 24)) ≡ 0
      none = omega (arith, come_back-below (w / 2 ^ 24) small_top)

-- ---- lane by lane

module _ (ws p0 p1 p2 p3 : List ℕ) (each : Each1 (Fits w32) ws) (e0 : p0 ≡ map (byte_of 0) ws) (e1 : p1 ≡ map (byte_of 1) ws) (e2 : p2 ≡ map (byte_of 2) ws) (e3 : p3 ≡ map (byte_of 3) ws) where
  -- look-ups by the lower halves of the top bytes, and by the upper ones
  lower : (table looks : List ℕ) → looks ≡ map (λ b. slice_index table (b % 16)) p3 → looks ≡ map (λ w. slice_index table (byte_of 3 w % 16)) ws
  lower table looks is = is ∙ ap (map (λ b. slice_index table (b % 16))) e3 ∙ map-map (λ b. slice_index table (b % 16)) (byte_of 3) ws

  upper : (table halves looks : List ℕ) → halves ≡ map (λ b. b / 16) p3 → looks ≡ map (λ b. slice_index table (b % 16)) halves → looks ≡ map (λ w. slice_index table (byte_of 3 w / 16 % 16)) ws
  upper table halves looks halves_are is =
      is
      ∙ ap (map (λ b. slice_index table (b % 16))) (halves_are ∙ ap (map (λ b. b / 16)) e3 ∙ map-map (λ b. b / 16) (byte_of 3) ws)
      ∙ map-map (λ b. slice_index table (b % 16)) (λ w. byte_of 3 w / 16) ws

  -- two ways to the bytes of the products
  abbrev up : ℕ → ℕ
  up w = product 32 w 256

  ends : (p : ℕ) (plane : List ℕ) (f : ℕ → ℕ) → plane ≡ map f ws → ((w : ℕ) → Fits w32 w → f w ≡ byte_of p (up w)) → plane ≡ map (byte_of p) (map up ws)
  ends p plane f is same = is ∙ map_same (Fits w32) f (λ w. byte_of p (up w)) same ws each ∙ sym (map-map (byte_of p) up ws)

  pub planes_up : (halves l h lu hu : List ℕ) → halves ≡ map (λ b. b / 16) p3
      → l ≡ map (λ b. slice_index low (b % 16)) p3 → h ≡ map (λ b. slice_index high (b % 16)) halves → lu ≡ map (λ b. slice_index low_up (b % 16)) p3 → hu ≡ map (λ b. slice_index high_up (b % 16)) halves
      → ArePlanes (map up ws) (zip2 bit_xor l h ∷ zip2 bit_xor p0 (zip2 bit_xor lu hu) ∷ p1 ∷ p2 ∷ [])
  planes_up halves l h lu hu halves_are l_is h_is lu_is hu_is zero lt =
      ends 0 (zip2 bit_xor l h) (λ w. bit_xor (slice_index low (byte_of 3 w % 16)) (slice_index high (byte_of 3 w / 16 % 16)))
      (zip2_of_maps bit_xor (λ w. slice_index low (byte_of 3 w % 16)) (λ w. slice_index high (byte_of 3 w / 16 % 16)) ws (lower low l l_is) (upper high halves h halves_are h_is))
      (λ w small. at_zero w small.fits)
  planes_up halves l h lu hu halves_are l_is h_is lu_is hu_is (suc zero) lt =
      ends 1 (zip2 bit_xor p0 (zip2 bit_xor lu hu)) (λ w. bit_xor (byte_of 0 w) (bit_xor (slice_index low_up (byte_of 3 w % 16)) (slice_index high_up (byte_of 3 w / 16 % 16))))
      (zip2_of_maps bit_xor (byte_of 0) (λ w. bit_xor (slice_index low_up (byte_of 3 w % 16)) (slice_index high_up (byte_of 3 w / 16 % 16))) ws e0
      (zip2_of_maps bit_xor (λ w. slice_index low_up (byte_of 3 w % 16)) (λ w. slice_index high_up (byte_of 3 w / 16 % 16)) ws (lower low_up lu lu_is) (upper high_up halves hu halves_are hu_is)))
      (λ w small. at_one w small.fits)
  planes_up halves l h lu hu halves_are l_is h_is lu_is hu_is (suc (suc zero)) lt = ends 2 p1 (byte_of 1) e1 (λ w small. at_two w small.fits)
  planes_up halves l h lu hu halves_are l_is h_is lu_is hu_is (suc (suc (suc zero))) lt = ends 3 p2 (byte_of 2) e2 (λ w small. at_three w small.fits)
  planes_up halves l h lu hu halves_are l_is h_is lu_is hu_is (suc (suc (suc (suc b)))) lt = absurd (omega arith)
