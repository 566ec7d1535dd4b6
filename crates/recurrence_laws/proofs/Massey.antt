-- A polynomial that first fails at some index of a sequence bounds the degree of each that holds there.
use Rattle.std.proofs.Common.{◌≡◌, ◌⊎◌, inl, inr, ℕ, ◌+◌, ◌-◌, ◌<◌, ◌≤◌, List, ◌∷◌, length, take, drop, reverse, sym, ap, ◌∙◌, arith}
use Rattle.std.proofs.lemmas.List.{drop-drop, length-take-le}
use Rattle.field_rules.specs.Ops.{Ops, IsRing}
use Rattle.field_rules.specs.Fields.{dot_of}
use Rattle.poly_rules.specs.Polynomials.{coefficient, IsMonic, product_of}
use Rattle.poly_rules.specs.Recurrences.{IsRecurrence}
use Rattle.poly_laws.proofs.Products.{product_comm}
use Rattle.recurrence_laws.proofs.Applied.{dot_of-prefix, dots_along, coefficient-dots_along, dot_of-same, dot_of-product, dot_of-zeros, dot_of-top}
use Rattle.recurrence_laws.proofs.Monic.{monic_form, monic_from_recurs, recurs_from_monic}

module _ {A : Type 0} (ops : Ops A) (ring : IsRing ops) where
  -- where f gives zero at the n indices from p on, and g of degree n at as many as f has coefficients, f gives zero at
  -- the next index too: the product of the two gives at p both what f gives there and what g makes of zeros
  pub holds_on : (f g s : List A) (n p : ℕ) → IsMonic ops n g
      → ((i : ℕ) → i < n → dot_of ops f (drop (p + i) s) ≡ ops.zero)
      → ((i : ℕ) → i < length f → dot_of ops g (drop (p + i) s) ≡ ops.zero)
      → dot_of ops f (drop (p + n) s) ≡ ops.zero
  holds_on f g s n p monic low high =
      sym (at f n)
      ∙ sym (dot_of-top ops ring n g (dots_along ops f (drop p s)) monic (λ i lt. at f i ∙ low i lt))
      ∙ sym (dot_of-product ops ring g f (drop p s))
      ∙ dot_of-same ops ring (product_of ops g f) (product_of ops f g) (drop p s) (product_comm ops ring g f)
      ∙ dot_of-product ops ring f g (drop p s)
      ∙ dot_of-zeros ops ring f (dots_along ops g (drop p s)) (λ i lt. at g i ∙ high i lt)
    where
      at : (h : List A) (i : ℕ) → coefficient ops (dots_along ops h (drop p s)) i ≡ dot_of ops h (drop (p + i) s)
      at h i = coefficient-dots_along ops h (drop p s) i ∙ ap (dot_of ops h) (drop-drop i p s)

  -- Massey 1969, theorem 1: where a recurrence holds of the first m items and not of one more, its length and that of
  -- each recurrence that holds of more items are together above m
  pub lengths_together : (bs cs s : List A) (m : ℕ) → IsRecurrence ops bs (take m s) → ¬ IsRecurrence ops bs (take (m + 1) s) → m < length s → IsRecurrence ops cs s → m + 1 ≤ length bs + length cs
  lengths_together bs cs s m before after inside holds = by_lengths (cases m (length bs + length cs))
    where
      cases : (i j : ℕ) → (i + 1 ≤ j) ⊎ (j ≤ i)
      cases i j = grind arith

      size_b : length (reverse (ops.one ∷ bs)) ≡ length bs + 1
      size_b = (monic_form ops ring bs).size

      in_prefix : (n k : ℕ) → n ≤ length s → k + length bs < n → dot_of ops (reverse (ops.one ∷ bs)) (drop k (take n s)) ≡ dot_of ops (reverse (ops.one ∷ bs)) (drop k s)
      in_prefix n k le lt = dot_of-prefix ops k n (reverse (ops.one ∷ bs)) s (omega (arith, size_b))

      low : (k : ℕ) → k + length bs < m → dot_of ops (reverse (ops.one ∷ bs)) (drop k s) ≡ ops.zero
      low k lt =
          sym (in_prefix m k (omega arith) lt)
          ∙ monic_from_recurs ops ring bs (take m s) before k (omega (arith, length-take-le m s (omega arith)))

      by_lengths : (m + 1 ≤ length bs + length cs) ⊎ (length bs + length cs ≤ m) → m + 1 ≤ length bs + length cs
      by_lengths (inl le) = le
      by_lengths (inr le) = absurd (after (recurs_from_monic ops ring bs (take (m + 1) s) zeros))
        where
          next : dot_of ops (reverse (ops.one ∷ bs)) (drop (m - length bs - length cs + length cs) s) ≡ ops.zero
          next =
              holds_on (reverse (ops.one ∷ bs)) (reverse (ops.one ∷ cs)) s (length cs) (m - length bs - length cs) (monic_form ops ring cs)
              (λ i lt. low (m - length bs - length cs + i) (omega arith))
              (λ i lt. monic_from_recurs ops ring cs s holds (m - length bs - length cs + i) (omega (arith, size_b)))

          at : (k : ℕ) → (k + length bs < m) ⊎ (k ≡ m - length bs - length cs + length cs) → dot_of ops (reverse (ops.one ∷ bs)) (drop k s) ≡ ops.zero
          at k (inl lt) = low k lt
          at k (inr e) = ap (λ z. dot_of ops (reverse (ops.one ∷ bs)) (drop z s)) e ∙ next

          indices : (k : ℕ) → k + length bs < m + 1 → (k + length bs < m) ⊎ (k ≡ m - length bs - length cs + length cs)
          indices k lt = index (meets (k + length bs) m lt)
            where
              meets : (i j : ℕ) → i < j + 1 → (i < j) ⊎ (i ≡ j)
              meets i j lt = grind arith

              index : (k + length bs < m) ⊎ (k + length bs ≡ m) → (k + length bs < m) ⊎ (k ≡ m - length bs - length cs + length cs)
              index (inl lt) = inl lt
              index (inr e) = inr (omega arith)

          zeros : (k : ℕ) → k + length bs < length (take (m + 1) s) → dot_of ops (reverse (ops.one ∷ bs)) (drop k (take (m + 1) s)) ≡ ops.zero
          zeros k lt =
              let below : k + length bs < m + 1 = omega (arith, length-take-le (m + 1) s (omega arith)) in
              in_prefix (m + 1) k (omega arith) below ∙ at k (indices k below)
