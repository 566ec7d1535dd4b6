-- One power more in a Frobenius table.
use Rattle.std.proofs.Common.{◌≡◌, ◌⊎◌, inl, inr, ℕ, ◌+◌, ◌^◌, ◌<◌, ◌≤◌, List, [], ◌∷◌, ◌++◌, length, get_or, refl, sym, ap, subst, ◌∙◌, arith, length-append}
use Rattle.std.proofs.lemmas.List.{get_or_append_left, get_or_push}
use Rattle.std.proofs.lemmas.Nat.{pow-add}
use Rattle.field_rules.specs.Ops.{Ops, IsRing}
use Rattle.poly_rules.specs.Polynomials.{IsSamePolynomial, product_of, monomial}
use Rattle.poly_rules.specs.Remainders.{IsRemainder, IsFrobeniusTable}
use Rattle.poly_laws.proofs.Sums.{same_back}
use Rattle.poly_laws.proofs.Products.{product_powers}
use Rattle.poly_laws.proofs.Remainders.{remainder_from, remainder_product}

module _ {A : Type 0} (ops : Ops A) (ring : IsRing ops) where
  -- what the square of a power's remainder leaves is the next power's
  squared : (f p s : List A) (i : ℕ) → IsRemainder ops (monomial ops (2 ^ i)) f p → IsRemainder ops (product_of ops p p) f s → IsRemainder ops (monomial ops (2 ^ (i + 1))) f s
  squared f p s i h k =
      let twice : 2 ^ i + 2 ^ i ≡ 2 ^ (i + 1) = omega (arith, pow-add 2 i 1) in
      subst (λ n. IsRemainder ops (monomial ops n) f s) twice
      (remainder_from ops ring f (monomial ops (2 ^ i + 2 ^ i)) (product_of ops (monomial ops (2 ^ i)) (monomial ops (2 ^ i))) s
      (same_back ops (product_powers ops ring (2 ^ i) (2 ^ i)))
      (remainder_product ops ring f (monomial ops (2 ^ i)) (monomial ops (2 ^ i)) p p s h h k))

  -- the first power's
  pub table-first : (f x : List A) (table : List (List A)) (p : List A) → table ≡ [] → IsSamePolynomial ops x (monomial ops 1) → IsRemainder ops x f p → IsFrobeniusTable ops f 0 (table ++ p ∷ [])
  table-first f x table p none same rest =
      subst (λ z. IsFrobeniusTable ops f 0 (z ++ p ∷ [])) (sym none)
      record {
        size = refl;
        each = λ j le.
            subst (λ k. IsRemainder ops (monomial ops (2 ^ k)) f (get_or (p ∷ []) k [])) (is_zero j le) (remainder_from ops ring f (monomial ops 1) x p (same_back ops same) rest);
      }
    where
      is_zero : (j : ℕ) → j ≤ 0 → 0 ≡ j
      is_zero j le = omega arith

  pub table-more : (f : List A) (i : ℕ) (table : List (List A)) (p s : List A) → IsFrobeniusTable ops f i (table ++ p ∷ []) → IsRemainder ops (product_of ops p p) f s
      → IsFrobeniusTable ops f (i + 1) ((table ++ p ∷ []) ++ s ∷ [])
  table-more f i table p s so_far square = record {
    size = length-append (table ++ p ∷ []) (s ∷ []) ∙ ap (λ z. z + 1) so_far.size;
    each = at;
  }
    where
      last : length table ≡ i
      last = omega (arith, so_far.size, length-append table (p ∷ []))

      power : IsRemainder ops (monomial ops (2 ^ i)) f p
      power = subst (IsRemainder ops (monomial ops (2 ^ i)) f) (get_or_push table p [] i last) (so_far.each i (omega arith))

      cases : (j : ℕ) → j ≤ i + 1 → (j < i + 1) ⊎ (j ≡ i + 1)
      cases j le = grind arith

      at : (j : ℕ) → j ≤ i + 1 → IsRemainder ops (monomial ops (2 ^ j)) f (get_or ((table ++ p ∷ []) ++ s ∷ []) j [])
      at j le = by_index (cases j le)
        where
          by_index : (j < i + 1) ⊎ (j ≡ i + 1) → IsRemainder ops (monomial ops (2 ^ j)) f (get_or ((table ++ p ∷ []) ++ s ∷ []) j [])
          by_index (inl lt) =
              subst (IsRemainder ops (monomial ops (2 ^ j)) f) (sym (get_or_append_left (table ++ p ∷ []) (s ∷ []) [] j (omega (arith, so_far.size))))
              (so_far.each j (omega arith))
          by_index (inr e) =
              subst (IsRemainder ops (monomial ops (2 ^ j)) f) (sym (get_or_push (table ++ p ∷ []) s [] j (so_far.size ∙ sym e)))
              (subst (λ n. IsRemainder ops (monomial ops (2 ^ n)) f s) (sym e) (squared f p s i power square))
