-- Multiples of elements by their bits, and multiples added to a list block by block.
use Rattle.std.proofs.Common.{◌≡◌, ℕ, zero, suc, ◌+◌, ◌<◌, ◌≤◌, List, [], ◌∷◌, ◌++◌, ◌^◌, Fits, w32, lit<, length, map, take, drop, refl, sym, ap, ◌∙◌, arith, append_assoc, length-drop}
use Rattle.std.proofs.lemmas.List.{take-append-drop, length-take-le, drop-drop, append-nil, take_all}
use Rattle.std.proofs.Math.ListN.{drop_of_length-le}
use Rattle.std.proofs.lemmas.Slice.{take-put_mid, drop-put_mid}
use borrow.Rule.Slice.PartMut.{mid_of, put_mid}
use Rattle.std.specs.Simd.Lanes.{Each1}
use Rattle.field_rules.specs.Ops.{Ops}
use Rattle.field_rules.specs.Elements.{product}
use Rattle.field_rules.specs.Fields.{with_multiple}
use Rattle.field_laws.proofs.Products.{product-below}
use Rattle.field_laws.proofs.Rings.{product-comm}
use Rattle.clmul_lanes.specs.declared.lane32.Lane32.{Lane32}
use Rattle.clmul_lanes.specs.Lane32.{ops as operations, bits_of, same_bits}

-- the element of the bits of a product
pub times_of_bits : (a b r : Lane32) → bits_of r ≡ product 32 (bits_of b) (bits_of a) → r ≡ operations.times a b
times_of_bits a b r e = same_bits r (operations.times a b) (e ∙ product-comm 32 (bits_of b) (bits_of a) b.small a.small)

-- products are words
pub each_product : (factor : ℕ) → factor < 2 ^ 32 → (ws : List ℕ) → Each1 (Fits w32) ws → Each1 (Fits w32) (map (λ w. product 32 factor w) ws)
each_product factor fits [] each = tt
each_product factor fits (w ∷ ws) each = (record { fits = product-below 32 factor w (lit< tt) fits each.0.fits }, each_product factor fits ws each.1)

module _ {A : Type 0} (ops : Ops A) (k : A) where
  length-with_multiple : (acc xs : List A) → length (with_multiple ops acc k xs) ≡ length acc
  unfolding with_multiple
  length-with_multiple [] xs = refl
  length-with_multiple (a ∷ acc) [] = refl
  length-with_multiple (a ∷ acc) (x ∷ xs) = ap suc (length-with_multiple acc xs)

  -- nothing added
  with_multiple-none : (acc : List A) → with_multiple ops acc k [] ≡ acc
  unfolding with_multiple
  with_multiple-none [] = refl
  with_multiple-none (a ∷ acc) = refl

  -- the first n items, and the rest
  with_multiple-split : (n : ℕ) (acc xs : List A) → with_multiple ops acc k xs ≡ with_multiple ops (take n acc) k (take n xs) ++ with_multiple ops (drop n acc) k (drop n xs)
  unfolding with_multiple
  with_multiple-split zero acc xs = refl
  with_multiple-split (suc n) [] xs = refl
  with_multiple-split (suc n) (a ∷ acc) [] =
      ap (λ z. a ∷ z) (sym (take-append-drop n acc) ∙ ap (λ z. take n acc ++ z) (sym (with_multiple-none (drop n acc))))
  with_multiple-split (suc n) (a ∷ acc) (x ∷ xs) = ap (λ rest. ops.plus a (ops.times k x) ∷ rest) (with_multiple-split n acc xs)

  -- to as many items as the other list has
  pub front_added : (acc xs part : List A) → part ≡ with_multiple ops (take (length xs) acc) k xs → put_mid 0 (length xs) acc part ≡ with_multiple ops acc k xs
  front_added acc xs part is =
      let none : drop (length xs) xs ≡ [] = drop_of_length-le xs {i = length xs} (omega arith) in
      ap (λ z. z ++ drop (length xs) acc) is
      ∙ sym
      (with_multiple-split (length xs) acc xs
      ∙ ap (λ z. with_multiple ops (take (length xs) acc) k z ++ with_multiple ops (drop (length xs) acc) k (drop (length xs) xs)) (take_all (length xs) xs (omega arith))
      ∙ ap (λ z. with_multiple ops (take (length xs) acc) k xs ++ with_multiple ops (drop (length xs) acc) k z) none
      ∙ ap (λ z. with_multiple ops (take (length xs) acc) k xs ++ z) (with_multiple-none (drop (length xs) acc)))

  -- w items from m on are done, and the rest are still to come
  pub block_added : (m w : ℕ) (acc xs part : List A) → m + w ≤ length acc → part ≡ with_multiple ops (mid_of m w acc) k (take w (drop m xs))
      → take (m + w) (put_mid m w acc part) ++ with_multiple ops (drop (m + w) (put_mid m w acc part)) k (drop (m + w) xs) ≡ take m acc ++ with_multiple ops (drop m acc) k (drop m xs)
  block_added m w acc xs part fits is =
      rw (done, later, ← drop-drop w m acc, ← drop-drop w m xs)
      (append_assoc (take m acc) part (with_multiple ops (drop w (drop m acc)) k (drop w (drop m xs)))
      ∙ ap (λ z. take m acc ++ (z ++ with_multiple ops (drop w (drop m acc)) k (drop w (drop m xs)))) is
      ∙ ap (λ z. take m acc ++ z) (sym (with_multiple-split w (drop m acc) (drop m xs))))
    where
      size : length part ≡ w
      size = ap length is ∙ length-with_multiple (mid_of m w acc) (take w (drop m xs)) ∙ length-take-le w (drop m acc) (omega (arith, length-drop m acc))

      done : take (m + w) (put_mid m w acc part) ≡ take m acc ++ part
      done = take-put_mid m w acc part (m + w) (omega (arith, size)) (omega arith)

      later : drop (m + w) (put_mid m w acc part) ≡ drop (m + w) acc
      later = drop-put_mid m w acc part (m + w) (omega arith) (omega arith) size

  -- and no item is left
  pub rest_added : (m w v : ℕ) (acc xs part : List A) → length acc ≤ m + w → length xs ≤ m + v → part ≡ with_multiple ops (mid_of m w acc) k (take v (drop m xs))
      → put_mid m w acc part ≡ take m acc ++ with_multiple ops (drop m acc) k (drop m xs)
  rest_added m w v acc xs part end_acc end_xs is =
      let none : drop w (drop m acc) ≡ [] = drop_of_length-le (drop m acc) {i = w} (omega (arith, length-drop m acc)) in
      ap (λ z. take m acc ++ (part ++ z)) none
      ∙ ap (λ z. take m acc ++ z)
      (append-nil part
      ∙ is
      ∙ ap (λ z. with_multiple ops z k (take v (drop m xs))) (take_all w (drop m acc) (omega (arith, length-drop m acc)))
      ∙ ap (with_multiple ops (drop m acc) k) (take_all v (drop m xs) (omega (arith, length-drop m xs))))
