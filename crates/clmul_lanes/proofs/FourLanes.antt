-- Four products at once, lane by lane.
use Rattle.std.proofs.Common.{◌≡◌, ◌⊎◌, inl, inr, slice_index, add-one, pow_mono, lit<, ◌-◌, ℕ, zero, suc, ◌+◌, ◌*◌, ◌/◌, ◌%◌, ◌^◌, ◌<◌, List, [], ◌∷◌, length, map, bit_and, Fits, w64, replicate, refl, sym, ap, ◌∙◌, arith}
use Rattle.std.specs.Int.Bits.{bit_xor}
use Rattle.std.specs.Int.{bit_at}
use Rattle.std.proofs.Math.Nat.{mod-lt, mod-one, mod-eq_of_lt, zero-mul, one-mul, le_trans}
use Rattle.std.proofs.lemmas.Nat.{and_mask, shl_below}
use Rattle.field_laws.proofs.Xors.{bit_cases}
use Rattle.field_laws.proofs.Carryless.{carryless_product-zero, carryless_product-suc}
use Rattle.std.specs.Simd.Lanes.{Each1, zip2}
use Rattle.std.proofs.lemmas.List.{length-map}
use Rattle.std.proofs.lemmas.Simd.{map-map, zip2_splat, zip2_of_maps}
use Rattle.field_rules.specs.Elements.{carryless_product, remainder}
use Rattle.field_core.proofs.Reductions.{fold_by_shifts, folds-below, folds-are}
use Rattle.clmul_lanes.proofs.LaneLists.{map_same}

-- one fold
abbrev pub fold_of : ℕ → ℕ
fold_of q = bit_xor (q % 2 ^ 32) (carryless_product 8 (q / 2 ^ 32) 0x8D)

module _ (ps : List ℕ) (long : length ps ≡ 4) where
  abbrev high : List ℕ
  high = zip2 (λ x y. x / 2 ^ y) ps (replicate 4 32)

  high_is : high ≡ map (λ q. q / 2 ^ 32) ps
  high_is = zip2_splat (λ x y. x / 2 ^ y) ps 4 32 long

  shifted_is : (s : ℕ) → zip2 (λ x y. x * 2 ^ y % 2 ^ 64) high (replicate 4 s) ≡ map (λ q. q / 2 ^ 32 * 2 ^ s % 2 ^ 64) ps
  shifted_is s =
      ap (λ z. zip2 (λ x y. x * 2 ^ y % 2 ^ 64) z (replicate 4 s)) high_is
      ∙ zip2_splat (λ x y. x * 2 ^ y % 2 ^ 64) (map (λ q. q / 2 ^ 32) ps) 4 s (length-map ps (λ q. q / 2 ^ 32) ∙ long)
      ∙ map-map (λ x. x * 2 ^ s % 2 ^ 64) (λ q. q / 2 ^ 32) ps

  pub folds_are : Each1 (Fits w64) ps
      → zip2 bit_xor (zip2 bit_and ps (replicate 4 0xFFFFFFFF))
      (zip2 bit_xor (zip2 bit_xor (zip2 bit_xor high (zip2 (λ x y. x * 2 ^ y % 2 ^ 64) high (replicate 4 2))) (zip2 (λ x y. x * 2 ^ y % 2 ^ 64) high (replicate 4 3))) (zip2 (λ x y. x * 2 ^ y % 2 ^ 64) high (replicate 4 7)))
      ≡ map fold_of ps
  folds_are fits =
      zip2_of_maps bit_xor (λ q. bit_and q 0xFFFFFFFF) (λ q. bit_xor (bit_xor (bit_xor (q / 2 ^ 32) (q / 2 ^ 32 * 2 ^ 2 % 2 ^ 64)) (q / 2 ^ 32 * 2 ^ 3 % 2 ^ 64)) (q / 2 ^ 32 * 2 ^ 7 % 2 ^ 64)) ps
      (zip2_splat bit_and ps 4 0xFFFFFFFF long)
      (zip2_of_maps bit_xor (λ q. bit_xor (bit_xor (q / 2 ^ 32) (q / 2 ^ 32 * 2 ^ 2 % 2 ^ 64)) (q / 2 ^ 32 * 2 ^ 3 % 2 ^ 64)) (λ q. q / 2 ^ 32 * 2 ^ 7 % 2 ^ 64) ps
      (zip2_of_maps bit_xor (λ q. bit_xor (q / 2 ^ 32) (q / 2 ^ 32 * 2 ^ 2 % 2 ^ 64)) (λ q. q / 2 ^ 32 * 2 ^ 3 % 2 ^ 64) ps
      (zip2_of_maps bit_xor (λ q. q / 2 ^ 32) (λ q. q / 2 ^ 32 * 2 ^ 2 % 2 ^ 64) ps high_is (shifted_is 2)) (shifted_is 3)) (shifted_is 7))
      ∙ map_same (Fits w64) (λ q. bit_xor (bit_and q 0xFFFFFFFF) (bit_xor (bit_xor (bit_xor (q / 2 ^ 32) (q / 2 ^ 32 * 2 ^ 2 % 2 ^ 64)) (q / 2 ^ 32 * 2 ^ 3 % 2 ^ 64)) (q / 2 ^ 32 * 2 ^ 7 % 2 ^ 64))) fold_of
      (λ q small. fold_by_shifts q small.fits) ps fits

-- two folds are the remainder, which is a word
pub twice_is : (q : ℕ) → q < 2 ^ 64 → fold_of (fold_of q) ≡ remainder 32 32 q
twice_is q fits = folds-are q (fold_of q) (fold_of (fold_of q)) fits refl refl

pub twice_below : (q : ℕ) → q < 2 ^ 64 → fold_of (fold_of q) < 2 ^ 32
twice_below q fits = folds-below q (fold_of q) (fold_of (fold_of q)) fits refl refl

-- ---- a bit of the second factor more

-- the first factor at bit i, where the second has a 1 there
abbrev pub masked : ℕ → ℕ → ℕ → ℕ
masked i a b = bit_and (a * 2 ^ i % 2 ^ 64) ((0 + (2 ^ 64 - bit_and (b / 2 ^ i) 1)) % 2 ^ 64)

by_mask : (x d : ℕ) → x < 2 ^ 64 → (d ≡ 0) ⊎ (d ≡ 1) → bit_and (x % 2 ^ 64) ((0 + (2 ^ 64 - d)) % 2 ^ 64) ≡ d * x
by_mask x d lt (inl none) = rw none (ap (bit_and (x % 2 ^ 64)) {x = 2 ^ 64 % 2 ^ 64} {y = 0} refl ∙ and_mask (x % 2 ^ 64) 0 ∙ mod-one (x % 2 ^ 64) ∙ sym (zero-mul x))
by_mask x d lt (inr one) = rw one (and_mask (x % 2 ^ 64) 64 ∙ mod-eq_of_lt (mod-lt x (lit< tt)) ∙ mod-eq_of_lt lt ∙ sym (one-mul x))

lane_next : (i a b : ℕ) → i < 32 → a < 2 ^ 32 → bit_xor (carryless_product i a b) (masked i a b) ≡ carryless_product (i + 1) a b
lane_next i a b lt fits =
    ap (λ z. bit_xor (carryless_product i a b) (bit_and (a * 2 ^ i % 2 ^ 64) ((0 + (2 ^ 64 - z)) % 2 ^ 64))) (and_mask (b / 2 ^ i) 1)
    ∙ ap (bit_xor (carryless_product i a b)) (by_mask (a * 2 ^ i) (bit_at b i) small (bit_cases b i))
    ∙ sym (carryless_product-suc i a b)
    ∙ ap (λ n. carryless_product n a b) (sym (add-one i))
  where
    small : a * 2 ^ i < 2 ^ 64
    small = le_trans (shl_below a 32 i fits) (pow_mono {j = 64} (omega arith))

-- four lanes
abbrev pub four_of : (ℕ → ℕ → ℕ) → (ℕ → ℕ) → (ℕ → ℕ) → List ℕ
four_of f a b = f (a 0) (b 0) ∷ f (a 1) (b 1) ∷ f (a 2) (b 2) ∷ f (a 3) (b 3) ∷ []

four_same : (x0 x1 x2 x3 y0 y1 y2 y3 : ℕ) → x0 ≡ y0 → x1 ≡ y1 → x2 ≡ y2 → x3 ≡ y3 → x0 ∷ x1 ∷ x2 ∷ x3 ∷ [] ≡ y0 ∷ y1 ∷ y2 ∷ y3 ∷ []
four_same x0 x1 x2 x3 y0 y1 y2 y3 e0 e1 e2 e3 = cc

pub none_of : (a b : ℕ → ℕ) → 0 ∷ 0 ∷ 0 ∷ 0 ∷ [] ≡ four_of (carryless_product 0) a b
none_of a b =
    four_same 0 0 0 0 _ _ _ _ (sym (carryless_product-zero (a 0) (b 0))) (sym (carryless_product-zero (a 1) (b 1))) (sym (carryless_product-zero (a 2) (b 2))) (sym (carryless_product-zero (a 3) (b 3)))

pub four_next : (i : ℕ) (a b : ℕ → ℕ) (sum : List ℕ) → i < 32 → a 0 < 2 ^ 32 → a 1 < 2 ^ 32 → a 2 < 2 ^ 32 → a 3 < 2 ^ 32 → sum ≡ four_of (carryless_product i) a b
    → zip2 bit_xor sum (four_of (masked i) a b) ≡ four_of (carryless_product (i + 1)) a b
four_next i a b sum lt f0 f1 f2 f3 is =
    ap (λ s. zip2 bit_xor s (four_of (masked i) a b)) is
    ∙ four_same _ _ _ _ _ _ _ _ (lane_next i (a 0) (b 0) lt f0) (lane_next i (a 1) (b 1) lt f1) (lane_next i (a 2) (b 2) lt f2) (lane_next i (a 3) (b 3) lt f3)

pub four_at : (i : ℕ) (a b : ℕ → ℕ) (sum : List ℕ) → i ≡ 32 → sum ≡ four_of (carryless_product i) a b → (k : ℕ) → k < 4 → slice_index sum k ≡ carryless_product 32 (a k) (b k)
four_at i a b sum end is k lt = ap (λ s. slice_index s k) (is ∙ ap (λ n. four_of (carryless_product n) a b) end) ∙ each k lt
  where
    each : (k : ℕ) → k < 4 → slice_index (four_of (carryless_product 32) a b) k ≡ carryless_product 32 (a k) (b k)
    each zero lt = refl
    each (suc zero) lt = refl
    each (suc (suc zero)) lt = refl
    each (suc (suc (suc zero))) lt = refl
    each (suc (suc (suc (suc k)))) lt = absurd (omega arith)
