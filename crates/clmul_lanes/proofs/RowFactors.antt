-- The rows of multiples, and a product by rows.
use Rattle.std.proofs.Common.{◌≡◌, ◌≢◌, ◌⊎◌, inl, inr, ℕ, ◌+◌, ◌-◌, ◌*◌, ◌/◌, ◌%◌, ◌^◌, ◌<◌, ◌≤◌, List, length, set, slice_index, sym, ◌∙◌, ap, subst, arith, lit<, below_more, get_or-set_same, get_or-set_other}
use Rattle.std.proofs.Math.Nat.{mod-lt}
use Rattle.std.proofs.lemmas.Bool.{cases_lt}
use Rattle.field_rules.specs.Elements.{product}
use Rattle.clmul_lanes.specs.Rows.{AreRowsBelow, AreRows}
use Rattle.clmul_lanes.proofs.Nibbles.{shifted_product}

-- ---- one column of a nibble's rows

module _ (i j v x : ℕ) (rows words : List ℕ) (size : length rows ≡ 4096) (i_below : i < 8) (j_below : j < 32) (v_below : v < 16) where
  abbrev cell : ℕ
  cell = 32 * (16 * i + v) + j

  pub column_kept : (r m : ℕ) → r < 16 * i → m < 32 → slice_index (set rows cell x) (32 * r + m) ≡ slice_index rows (32 * r + m)
  column_kept r m lt inside = let other : 32 * r + m ≢ cell = omega arith in get_or-set_other rows cell (32 * r + m) x 0 other

  pub column_others : (r m : ℕ) → m < 32 → m ≢ j → slice_index (set rows cell x) (32 * r + m) ≡ slice_index rows (32 * r + m)
  column_others r m inside apart = let other : 32 * r + m ≢ cell = omega (arith, apart) in get_or-set_other rows cell (32 * r + m) x 0 other

  pub column_made : x ≡ slice_index words v → ((u : ℕ) → u < v → slice_index rows (32 * (16 * i + u) + j) ≡ slice_index words u)
      → (u : ℕ) → u < v + 1 → slice_index (set rows cell x) (32 * (16 * i + u) + j) ≡ slice_index words u
  column_made is before =
      below_more (λ u. slice_index (set rows cell x) (32 * (16 * i + u) + j) ≡ slice_index words u) v
      (λ u lt. let other : 32 * (16 * i + u) + j ≢ cell = omega arith in get_or-set_other rows cell (32 * (16 * i + u) + j) x 0 other ∙ before u lt)
      (get_or-set_same rows cell x 0 (omega (arith, size)) ∙ is)

-- ---- the rows of one nibble after the other

-- the multiples of one item by a place more
module _ (list firsts old new : List ℕ) (i : ℕ) (i_below : i < 8) (firsts_are : (j : ℕ) → j < 32 → slice_index list j < 2 ^ 32 → slice_index firsts j ≡ product 32 (slice_index list j) (2 ^ (4 * i)))
    (kept : (r j : ℕ) → r < 16 * i → j < 32 → slice_index new (32 * r + j) ≡ slice_index old (32 * r + j))
    (made : (v j : ℕ) → v < 16 → j < 32 → slice_index new (32 * (16 * i + v) + j) ≡ product 32 (slice_index firsts j) v) where
  here : (v j : ℕ) → v < 16 → j < 32 → slice_index list j < 2 ^ 32 → slice_index new (32 * (16 * i + v) + j) ≡ product 32 (slice_index list j) (v * 2 ^ (4 * i))
  here v j lt inside fits = made v j lt inside ∙ shifted_product (slice_index list j) (slice_index firsts j) i v fits i_below lt (firsts_are j inside fits)

  pub place_made : AreRowsBelow (16 * i) list old → AreRowsBelow (16 * (i + 1)) list new
  place_made before r j lt inside fits = by (cases_lt r (16 * i))
    where
      by : (r < 16 * i) ⊎ (16 * i ≤ r) → slice_index new (32 * r + j) ≡ product 32 (slice_index list j) (r % 16 * 2 ^ (4 * (r / 16)))
      by (inl below) = kept r j below inside ∙ before r j below inside fits
      by (inr above) =
          let value : r % 16 ≡ r - 16 * i = omega (arith, above) in
          let place : r / 16 ≡ i = omega (arith, above) in
          let index : r ≡ 16 * i + (r - 16 * i) = omega (arith, above) in
          ap (λ n. slice_index new (32 * n + j)) index
          ∙ here (r - 16 * i) j (omega (arith, above)) inside fits
          ∙ sym (ap (λ n. product 32 (slice_index list j) (n * 2 ^ (4 * (r / 16)))) value ∙ ap (λ n. product 32 (slice_index list j) ((r - 16 * i) * 2 ^ (4 * n))) place)

-- ---- a product by rows

-- the word of the row that has the multiples by nibble i of k
pub word_of : (list rows : List ℕ) → AreRows list rows → (k i nibble n j word : ℕ) → i < 8 → nibble ≡ k / 2 ^ (4 * i) % 16 → n ≡ 16 * i + nibble → j < 32 → slice_index list j < 2 ^ 32
    → word ≡ slice_index rows (32 * n + j) → word ≡ product 32 (slice_index list j) (k / 2 ^ (4 * i) % 16 * 2 ^ (4 * i))
word_of list rows are k i nibble n j word index is at inside fits read =
    let small : nibble < 16 = subst (λ z. z < 16) (sym is) (mod-lt (k / 2 ^ (4 * i)) (lit< tt)) in
    let value : n % 16 ≡ nibble = omega arith in
    let place : n / 16 ≡ i = omega arith in
    read
    ∙ are n j (omega arith) inside fits
    ∙ ap (product 32 (slice_index list j)) (ap (λ z. z * 2 ^ (4 * (n / 16))) (value ∙ is) ∙ ap (λ z. k / 2 ^ (4 * i) % 16 * 2 ^ (4 * z)) place)
