-- Lists of sixteen numbers, worked on lane by lane.
use Rattle.std.proofs.Common.{◌≡◌, ℕ, ◌+◌, ◌-◌, ◌*◌, ◌/◌, ◌%◌, ◌^◌, ◌<◌, ◌≤◌, List, [], ◌∷◌, length, map, get_or, bit_and, Fits, refl, sym, ap, subst, ◌∙◌, arith, replicate, lit<, w8, pow_mono}
use Rattle.std.specs.Simd.Lanes.{zip2, Each1}
use Rattle.std.proofs.Math.Nat.{mod-lt, mod-eq_of_lt, le_trans}
use Rattle.std.proofs.lemmas.Nat.{and_mask, shl_below}
use Rattle.std.proofs.lemmas.List.{ext_get_or, get_or-map, length-map}
use Rattle.std.proofs.lemmas.Simd.{zip2_splat, map-map, Each1-get_or, SwzOk, SwzOk-from_below, swz_l, length-swz_l, get_or-swz_l_below}

-- ---- each item changed

-- two ways to change each item that agree where P holds
pub map_same : {X Y : Type 0} (P : X → Type 0) (f g : X → Y) → ((x : X) → P x → f x ≡ g x) → (xs : List X) → Each1 P xs → map f xs ≡ map g xs
map_same P f g same [] each = refl
map_same P f g same (x ∷ xs) each = rw (same x each.0, map_same P f g same xs each.1) refl

-- and two ways that agree everywhere
pub map_alike : {X Y : Type 0} (f g : X → Y) → ((x : X) → f x ≡ g x) → (xs : List X) → map f xs ≡ map g xs
map_alike f g same xs = ap (λ h. map h xs) (λ i x. same x i)

-- what holds of each item changed
each_map : {X Y : Type 0} (P : Y → Type 0) (f : X → Y) → ((x : X) → P (f x)) → (xs : List X) → Each1 P (map f xs)
each_map P f each [] = tt
each_map P f each (x ∷ xs) = (each x, each_map P f each xs)

-- ---- masks and shifts

-- the lower n bits of each
masked_are : (xs : List ℕ) → length xs ≡ 16 → (n : ℕ) → zip2 bit_and xs (replicate 16 (2 ^ n - 1)) ≡ map (λ x. x % 2 ^ n) xs
masked_are xs long n =
    zip2_splat bit_and xs 16 (2 ^ n - 1) long ∙ map_alike (λ x. bit_and x (2 ^ n - 1)) (λ x. x % 2 ^ n) (λ x. and_mask x n) xs

module _ (xs : List ℕ) (long : length xs ≡ 16) where
  -- a shift to the right
  shifted_are : (s : ℕ) → zip2 (λ x y. x / 2 ^ y) xs (replicate 16 s) ≡ map (λ x. x / 2 ^ s) xs
  shifted_are s = zip2_splat (λ x y. x / 2 ^ y) xs 16 s long

  -- the upper half of each byte
  pub halves_are : zip2 (λ x y. x / 2 ^ y) xs (replicate 16 4) ≡ map (λ x. x / 16) xs
  halves_are = shifted_are 4

  -- the bytes at an index, as words
  low_bytes_are : (s : ℕ) → zip2 bit_and (zip2 (λ x y. x / 2 ^ y) xs (replicate 16 s)) (replicate 16 255) ≡ map (λ x. x / 2 ^ s % 256) xs
  low_bytes_are s =
      ap (λ z. zip2 bit_and z (replicate 16 255)) (shifted_are s)
      ∙ masked_are (map (λ x. x / 2 ^ s) xs) (length-map xs (λ x. x / 2 ^ s) ∙ long) 8
      ∙ map-map (λ x. x % 256) (λ x. x / 2 ^ s) xs

  -- they fit a byte
  pub low_bytes_fit : (s : ℕ) → Each1 (Fits w8) (zip2 bit_and (zip2 (λ x y. x / 2 ^ y) xs (replicate 16 s)) (replicate 16 255))
  low_bytes_fit s =
      subst (Each1 (Fits w8)) (sym (low_bytes_are s)) (each_map (Fits w8) (λ x. x / 2 ^ s % 256) (λ x. record { fits = mod-lt (x / 2 ^ s) (lit< tt) }) xs)

  -- the bytes at an index
  pub bytes_are : (s : ℕ) → map (λ x. x) (zip2 bit_and (zip2 (λ x y. x / 2 ^ y) xs (replicate 16 s)) (replicate 16 255)) ≡ map (λ x. x / 2 ^ s % 256) xs
  bytes_are s = ap (map (λ x. x)) (low_bytes_are s) ∙ map-map (λ x. x) (λ x. x / 2 ^ s % 256) xs

  -- a byte, shifted, is a word
  byte_fits : (s x : ℕ) → s ≤ 24 → Fits w8 x → x * 2 ^ s % 2 ^ 32 ≡ x * 2 ^ s
  byte_fits s x le fits = mod-eq_of_lt (le_trans (shl_below x 8 s fits.fits) (pow_mono {j = 32} (omega arith)))

  -- each byte, shifted
  pub words_are : (s : ℕ) → s ≤ 24 → Each1 (Fits w8) xs → zip2 (λ x y. x * 2 ^ y % 2 ^ 32) (map (λ x. x) xs) (replicate 16 s) ≡ map (λ x. x * 2 ^ s) xs
  words_are s le fits =
      zip2_splat (λ x y. x * 2 ^ y % 2 ^ 32) (map (λ x. x) xs) 16 s (length-map xs (λ x. x) ∙ long)
      ∙ map-map (λ x. x * 2 ^ s % 2 ^ 32) (λ x. x) xs
      ∙ map_same (Fits w8) (λ x. x * 2 ^ s % 2 ^ 32) (λ x. x * 2 ^ s) (λ x small. byte_fits s x le small) xs fits

-- ---- tables

-- sixteen indices below sixteen
indexed_are : (table js : List ℕ) → length js ≡ 16 → Each1 (λ j. j < 16) js → swz_l w8 16 table 0 js ≡ map (λ j. get_or table j 0) js
indexed_are table js long below =
    ext_get_or 0 (swz_l w8 16 table 0 js) (map (λ j. get_or table j 0) js) (length-swz_l w8 16 table 0 js ∙ sym (length-map js (λ j. get_or table j 0)))
    (λ m lt.
    let inside : m < length js = omega (arith, length-swz_l w8 16 table 0 js) in
    let block : 16 * ((0 + m) / 16) + get_or js m 0 ≡ get_or js m 0 = omega arith in
    get_or-swz_l_below w8 16 table 0 js m inside (Each1-get_or (λ j. j < 16) js m 0 inside below)
    ∙ ap (λ j. get_or table j 0) block
    ∙ sym (get_or-map (λ j. get_or table j 0) js m 0 0 inside))

module _ (xs : List ℕ) (long : length xs ≡ 16) where
  lower_long : length (map (λ x. x % 16) xs) ≡ 16
  lower_long = length-map xs (λ x. x % 16) ∙ long

  lower_below : Each1 (λ j. j < 16) (map (λ x. x % 16) xs)
  lower_below = each_map (λ j. j < 16) (λ x. x % 16) (λ x. mod-lt x (lit< tt)) xs

  -- the lower half of each byte is an index of a table
  pub look_ups_ok : SwzOk w8 16 16 0 (zip2 bit_and xs (replicate 16 15))
  look_ups_ok =
      subst (SwzOk w8 16 16 0) (sym (masked_are xs long 4))
      (SwzOk-from_below w8 16 1 16 0 (map (λ x. x % 16) xs) refl (omega (arith, lower_long)) lower_below)

  -- what a table has there
  pub look_ups_are : (table : List ℕ) → swz_l w8 16 table 0 (zip2 bit_and xs (replicate 16 15)) ≡ map (λ x. get_or table (x % 16) 0) xs
  look_ups_are table =
      ap (swz_l w8 16 table 0) (masked_are xs long 4)
      ∙ indexed_are table (map (λ x. x % 16) xs) lower_long lower_below
      ∙ map-map (λ j. get_or table j 0) (λ x. x % 16) xs
