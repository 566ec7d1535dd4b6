-- One value more by a recurrence.
use Rattle.std.proofs.Common.{◌≡◌, ◌⊎◌, inl, inr, ℕ, ◌+◌, ◌-◌, ◌<◌, ◌≤◌, List, [], ◌∷◌, ◌++◌, length, take, drop, refl, sym, ap, ◌∙◌, arith, length-drop, length-append}
use Rattle.std.proofs.lemmas.List.{take-append-le, drop-append-le, get_or_append_left, get_or_push, length-take}
use Rattle.field_rules.specs.Ops.{Ops}
use Rattle.field_rules.specs.Fields.{dot_of}
use Rattle.poly_rules.specs.Polynomials.{coefficient, degree}
use Rattle.poly_rules.specs.Recurrences.{IsExtension}

module _ {A : Type 0} (ops : Ops A) where
  -- what stands past the first list's end doesn't count
  dot_of-append : (xs ys zs : List A) → length xs ≤ length ys → dot_of ops xs (ys ++ zs) ≡ dot_of ops xs ys
  unfolding dot_of
  dot_of-append [] ys zs le = refl
  dot_of-append (x ∷ xs) [] zs le = absurd (omega arith)
  dot_of-append (x ∷ xs) (y ∷ ys) zs le = ap (ops.plus (ops.times x y)) (dot_of-append xs ys zs (omega arith))

  pub extended : (f sums values : List A) (i : ℕ) (y : A) → length sums ≤ i → degree f ≤ length sums → IsExtension ops f sums i values
      → y ≡ dot_of ops (take (degree f) f) (drop (i - degree f) values) → IsExtension ops f sums (i + 1) (values ++ y ∷ [])
  extended f sums values i y long enough so_far is = record {
    size = length-append values (y ∷ []) ∙ ap (λ z. z + 1) so_far.size;
    begins = take-append-le (length sums) values (y ∷ []) (omega (arith, so_far.size)) ∙ so_far.begins;
    goes_on = on;
  }
    where
      short : length (take (degree f) f) ≤ degree f
      short = omega (arith, length-take (degree f) f)

      same : (k : ℕ) → k + degree f ≤ i → dot_of ops (take (degree f) f) (drop k (values ++ y ∷ [])) ≡ dot_of ops (take (degree f) f) (drop k values)
      same k le =
          ap (dot_of ops (take (degree f) f)) (drop-append-le k values (y ∷ []) (omega (arith, so_far.size)))
          ∙ dot_of-append (take (degree f) f) (drop k values) (y ∷ []) (omega (arith, short, length-drop k values, so_far.size))

      cases : (k : ℕ) → k < i + 1 → (k < i) ⊎ (k ≡ i)
      cases k below = grind arith

      on : (k : ℕ) → length sums ≤ k + degree f → k + degree f < i + 1
          → coefficient ops (values ++ y ∷ []) (k + degree f) ≡ dot_of ops (take (degree f) f) (drop k (values ++ y ∷ []))
      on k from below = by_index (cases (k + degree f) below)
        where
          by_index : (k + degree f < i) ⊎ (k + degree f ≡ i) → coefficient ops (values ++ y ∷ []) (k + degree f) ≡ dot_of ops (take (degree f) f) (drop k (values ++ y ∷ []))
          by_index (inl lt) =
              get_or_append_left values (y ∷ []) ops.zero (k + degree f) (omega (arith, so_far.size))
              ∙ so_far.goes_on k from lt
              ∙ sym (same k (omega arith))
          by_index (inr e) =
              let index : i - degree f ≡ k = omega arith in
              get_or_push values y ops.zero (k + degree f) (so_far.size ∙ sym e)
              ∙ is
              ∙ ap (λ z. dot_of ops (take (degree f) f) (drop z values)) index
              ∙ sym (same k (omega arith))
