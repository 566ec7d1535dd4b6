-- Odd powers, added block by block.
use Rattle.std.proofs.Common.{◌≡◌, ℕ, zero, suc, ◌+◌, ◌*◌, ◌<◌, ◌≤◌, List, [], ◌∷◌, ◌++◌, Fits, w32, length, map, get_or, take, drop, set, refl, sym, ap, ◌∙◌, arith, append_assoc, add-one, length-drop}
use Rattle.std.specs.List.{range_with_len}
use Rattle.std.specs.Simd.Lanes.{Each1}
use Rattle.std.proofs.Math.Seq.{drop-cons}
use Rattle.std.proofs.Math.ListN.{drop_of_length-le}
use Rattle.std.proofs.lemmas.List.{take_more_set, drop-set-lt, take-append-drop, length-take-le, drop-drop, append-nil, take_all}
use Rattle.std.proofs.lemmas.List.FromFn.{get_or-map-range_with_len}
use Rattle.std.proofs.lemmas.Simd.{map-map}
use Rattle.std.proofs.lemmas.Slice.{take-put_mid, drop-put_mid}
use borrow.Rule.Slice.PartMut.{mid_of, put_mid}
use Rattle.field_rules.specs.Ops.{power, with_odd_powers}
use Rattle.field_rules.specs.Elements.{product}
use Rattle.field_rules.specs.Fields.{conjugate}
use Rattle.field_laws.proofs.Conjugates.{power-plus, conjugate-power, conjugate-runs}
use Rattle.clmul_lanes.specs.declared.lane32.Lane32.{Lane32}
use Rattle.clmul_lanes.specs.Lane32.{ops, bits_of, ring}
use Rattle.clmul_lanes.specs.OddPowers.{bits_of_odd_powers}
use Rattle.clmul_lanes.proofs.LaneLists.{map_alike}
use Rattle.clmul_lanes.proofs.TableRows.{below_sixteen}
use Rattle.clmul_lanes.proofs.LaneLists.{map_same}
use Rattle.clmul_lanes.proofs.PlaneLists.{listed}

module _ (e : Lane32) where
  -- the item at index j is done, where the first one stands at index i
  pub item_added : (p x : Lane32) (i j : ℕ) (xs : List Lane32) → j < length xs → x ≡ get_or xs j x → p ≡ power ops e (2 * (i + j) + 1)
      → take (j + 1) (set xs j (ops.plus x p)) ++ with_odd_powers ops e (i + (j + 1)) (drop (j + 1) (set xs j (ops.plus x p))) ≡ take j xs ++ with_odd_powers ops e (i + j) (drop j xs)
  unfolding with_odd_powers
  item_added p x i j xs lt here is =
      let v : Lane32 = ops.plus x p in
      let done : take (j + 1) (set xs j v) ≡ take j xs ++ v ∷ [] = take_more_set xs j v lt in
      let below : j < j + 1 = omega arith in
      let kept : drop (j + 1) (set xs j v) ≡ drop (j + 1) xs = drop-set-lt (j + 1) xs j v below in
      let index : i + (j + 1) ≡ i + j + 1 = omega arith in
      rw (done, kept, index, drop-cons xs j x lt, ← here, add-one j, append_assoc, is) refl

  pub items_done : (i j : ℕ) (xs : List Lane32) → length xs ≤ j → take j xs ++ with_odd_powers ops e (i + j) (drop j xs) ≡ xs
  unfolding with_odd_powers
  items_done i j xs le =
      let empty : drop j xs ≡ [] = drop_of_length-le xs {i = j} le in
      rw empty (rw empty at (take-append-drop j xs))

  length-with_odd_powers : (i : ℕ) (xs : List Lane32) → length (with_odd_powers ops e i xs) ≡ length xs
  unfolding with_odd_powers
  length-with_odd_powers i [] = refl
  length-with_odd_powers i (x ∷ xs) = ap suc (length-with_odd_powers (i + 1) xs)

  -- the first n items, and the rest
  with_odd_powers-split : (n i : ℕ) (xs : List Lane32) → with_odd_powers ops e i xs ≡ with_odd_powers ops e i (take n xs) ++ with_odd_powers ops e (i + n) (drop n xs)
  unfolding with_odd_powers
  with_odd_powers-split zero i xs = let same : i ≡ i + 0 = omega arith in ap (λ k. with_odd_powers ops e k xs) same
  with_odd_powers-split (suc n) i [] = refl
  with_odd_powers-split (suc n) i (x ∷ xs) =
      let index : i + 1 + n ≡ i + suc n = omega arith in
      ap (λ rest. ops.plus x (power ops e (2 * i + 1)) ∷ rest) (with_odd_powers-split n (i + 1) xs ∙ ap (λ k. with_odd_powers ops e (i + 1) (take n xs) ++ with_odd_powers ops e k (drop n xs)) index)

  -- w items from m on are done, and the rest are still to come
  pub block_added : (m w : ℕ) (acc part : List Lane32) → m + w ≤ length acc → part ≡ with_odd_powers ops e m (mid_of m w acc)
      → take (m + w) (put_mid m w acc part) ++ with_odd_powers ops e (m + w) (drop (m + w) (put_mid m w acc part)) ≡ take m acc ++ with_odd_powers ops e m (drop m acc)
  block_added m w acc part fits is =
      rw (done, later, ← drop-drop w m acc)
      (append_assoc (take m acc) part (with_odd_powers ops e (m + w) (drop w (drop m acc)))
      ∙ ap (λ z. take m acc ++ (z ++ with_odd_powers ops e (m + w) (drop w (drop m acc)))) is
      ∙ ap (λ z. take m acc ++ z) (sym (with_odd_powers-split w m (drop m acc))))
    where
      size : length part ≡ w
      size = ap length is ∙ length-with_odd_powers m (mid_of m w acc) ∙ length-take-le w (drop m acc) (omega (arith, length-drop m acc))

      done : take (m + w) (put_mid m w acc part) ≡ take m acc ++ part
      done = take-put_mid m w acc part (m + w) (omega (arith, size)) (omega arith)

      later : drop (m + w) (put_mid m w acc part) ≡ drop (m + w) acc
      later = drop-put_mid m w acc part (m + w) (omega arith) (omega arith) size

  -- and no item is left
  pub rest_added : (m w : ℕ) (acc part : List Lane32) → length acc ≤ m + w → part ≡ with_odd_powers ops e m (mid_of m w acc) → put_mid m w acc part ≡ take m acc ++ with_odd_powers ops e m (drop m acc)
  rest_added m w acc part end is =
      let none : drop w (drop m acc) ≡ [] = drop_of_length-le (drop m acc) {i = w} (omega (arith, length-drop m acc)) in
      ap (λ z. take m acc ++ (part ++ z)) none
      ∙ ap (λ z. take m acc ++ z) (append-nil part ∙ is ∙ ap (with_odd_powers ops e m) (take_all w (drop m acc) (omega (arith, length-drop m acc))))

  -- the bits of the power at an index
  pub power_at : (i j : ℕ) (words : List ℕ) → words ≡ bits_of_odd_powers e i → j < 16 → get_or words j 0 ≡ bits_of (power ops e (2 * (i + j) + 1))
  power_at i j words is lt = ap (λ t. get_or t j 0) is ∙ get_or-map-range_with_len (λ k. bits_of (power ops e (2 * (i + k) + 1))) 0 16 j j 0 lt (omega arith)

  -- sixteen words by their bits
  pub powers_are : (words : List ℕ) → length words ≡ 16 → ((k : ℕ) → k < 16 → get_or words k 0 ≡ bits_of (power ops e (2 * k + 1))) → words ≡ bits_of_odd_powers e 0
  powers_are words long are =
      listed 16 words long ∙ map_same (λ k. k < 16) (λ k. get_or words k 0) (λ k. bits_of (power ops e (2 * (0 + k) + 1))) (λ k lt. are k lt ∙ ap (λ n. bits_of (power ops e (2 * n + 1))) (same k)) (range_with_len 0 16) below_sixteen
    where
      same : (k : ℕ) → k ≡ 0 + k
      same k = omega arith

  pub powers_fit : (i : ℕ) → Each1 (Fits w32) (bits_of_odd_powers e i)
  powers_fit i = each (range_with_len 0 16)
    where
      each : (ks : List ℕ) → Each1 (Fits w32) (map (λ k. bits_of (power ops e (2 * (i + k) + 1))) ks)
      each [] = tt
      each (k ∷ ks) = (record { fits = (power ops e (2 * (i + k) + 1)).small }, each ks)

  -- the power by 32
  pub up_is : (p q up : Lane32) → p ≡ conjugate ops 1 e → q ≡ conjugate ops 1 p → up ≡ conjugate ops 3 q → up ≡ power ops e 32
  up_is p q up p_is q_is is =
      is
      ∙ ap (conjugate ops 3) (q_is ∙ ap (conjugate ops 1) p_is ∙ sym (conjugate-runs ops 1 1 e))
      ∙ sym (conjugate-runs ops 2 3 e)
      ∙ conjugate-power ops ring 5 e

  -- the next sixteen
  pub powers_next : (up : Lane32) (i : ℕ) → up ≡ power ops e 32 → map (λ w. product 32 (bits_of up) w) (bits_of_odd_powers e i) ≡ bits_of_odd_powers e (i + 16)
  powers_next up i is =
      map-map (λ w. product 32 (bits_of up) w) (λ k. bits_of (power ops e (2 * (i + k) + 1))) (range_with_len 0 16)
      ∙ map_alike (λ k. product 32 (bits_of up) (bits_of (power ops e (2 * (i + k) + 1)))) (λ k. bits_of (power ops e (2 * (i + 16 + k) + 1))) next (range_with_len 0 16)
    where
      index : (k : ℕ) → 32 + (2 * (i + k) + 1) ≡ 2 * (i + 16 + k) + 1
      index k = omega arith

      next : (k : ℕ) → product 32 (bits_of up) (bits_of (power ops e (2 * (i + k) + 1))) ≡ bits_of (power ops e (2 * (i + 16 + k) + 1))
      next k =
          ap (λ z. bits_of (ops.times z (power ops e (2 * (i + k) + 1)))) is
          ∙ ap bits_of (sym (power-plus ops ring e 32 (2 * (i + k) + 1)) ∙ ap (power ops e) (index k))
