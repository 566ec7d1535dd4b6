-- Correlations with one coefficient more.
use Rattle.std.proofs.Common.{◌≡◌, ℕ, zero, suc, ◌+◌, ◌<◌, ◌≤◌, List, [], ◌∷◌, length, get_or, take, drop, replicate, sym, ap, ◌∙◌, arith, add-one, length-drop}
use Rattle.std.proofs.lemmas.List.{length-take-le, length-map, length-replicate, get_or-replicate, get_or-take, get_or-drop}
use Rattle.field_rules.specs.Ops.{Ops, IsRing}
use Rattle.field_rules.specs.Fields.{with_multiple, dot_of}
use Rattle.poly_rules.specs.Polynomials.{coefficient, sum_of, scalar_multiple}
use Rattle.field_laws.proofs.RingFacts.{times_zero}
use Rattle.poly_laws.proofs.Sums.{coefficient-sum, coefficient-scalar_multiple}
use Rattle.splitting_laws.specs.Parts.{IsCorrelation}
use Rattle.poly_laws.proofs.Division.{length-sum, with_multiple-sum}

module _ {A : Type 0} (ops : Ops A) (ring : IsRing ops) where
  -- a sum of products with one coefficient more
  dot_of-take : (xs ys : List A) (i : ℕ) (x : A) → i < length xs → x ≡ get_or xs i x
      → dot_of ops (take (i + 1) xs) ys ≡ ops.plus (dot_of ops (take i xs) ys) (ops.times x (get_or ys i ops.zero))
  unfolding dot_of
  dot_of-take [] ys i x lt is = absurd (omega arith)
  dot_of-take (a ∷ xs) [] zero x lt is = sym (ap (ops.plus ops.zero) (times_zero ops ring x) ∙ ring.plus_zero ops.zero)
  dot_of-take (a ∷ xs) [] (suc i) x lt is = rw (add-one (suc i)) (sym (ap (ops.plus ops.zero) (times_zero ops ring x) ∙ ring.plus_zero ops.zero))
  dot_of-take (a ∷ xs) (y ∷ ys) zero x lt is = rw is (ring.plus_comm (ops.times a y) ops.zero)
  dot_of-take (a ∷ xs) (y ∷ ys) (suc i) x lt is =
      ap (λ n. dot_of ops (take n (a ∷ xs)) (y ∷ ys)) (add-one (suc i))
      ∙ ap (λ n. ops.plus (ops.times a y) (dot_of ops (take n xs) ys)) (sym (add-one i))
      ∙ ap (ops.plus (ops.times a y)) (dot_of-take xs ys i x (omega arith) is)
      ∙ sym (ring.plus_assoc (ops.times a y) (dot_of ops (take i xs) ys) (ops.times x (get_or ys i ops.zero)))

  -- no coefficient
  pub no_correlation : (coefficients sums : List A) (n : ℕ) (v : List A) → v ≡ replicate n ops.zero → IsCorrelation ops (take 0 coefficients) sums n v
  unfolding dot_of
  no_correlation coefficients sums n v is = record {
    size = ap length is ∙ length-replicate n ops.zero;
    each = λ k lt. ap (λ z. get_or z k ops.zero) is ∙ get_or-replicate n k ops.zero ops.zero lt;
  }

  -- one coefficient more
  pub more_correlation : (coefficients sums : List A) (n i m : ℕ) (x : A) (v w : List A) → n + length coefficients ≤ length sums + 1 → i < length coefficients → x ≡ get_or coefficients i x → m ≡ n
      → IsCorrelation ops (take i coefficients) sums n v → w ≡ with_multiple ops v x (take m (drop i sums)) → IsCorrelation ops (take (i + 1) coefficients) sums n w
  more_correlation coefficients sums n i m x v w fits lt is same h w_is = record {
    size = ap length sum ∙ length-sum ops v (scalar_multiple ops x part) (omega (arith, part_size, h.size, length-map part (λ a. ops.times x a))) ∙ h.size;
    each = λ k below.
        ap (λ z. coefficient ops z k) sum
        ∙ coefficient-sum ops ring v (scalar_multiple ops x part) k
        ∙ ap (ops.plus (coefficient ops v k)) (coefficient-scalar_multiple ops ring x part k ∙ ap (ops.times x) (at k below))
        ∙ ap (λ z. ops.plus z (ops.times x (get_or (drop k sums) i ops.zero))) (h.each k below)
        ∙ sym (dot_of-take coefficients (drop k sums) i x lt is);
  }
    where
      part : List A
      part = take m (drop i sums)

      part_size : length part ≡ n
      part_size = length-take-le m (drop i sums) (omega (arith, length-drop i sums)) ∙ same

      sum : w ≡ sum_of ops v (scalar_multiple ops x part)
      sum = w_is ∙ with_multiple-sum ops x v part (omega (arith, part_size, h.size))

      at : (k : ℕ) → k < n → coefficient ops part k ≡ get_or (drop k sums) i ops.zero
      at k below =
          get_or-take m (drop i sums) k ops.zero (omega arith)
          ∙ get_or-drop i sums k ops.zero
          ∙ ap (λ z. get_or sums z ops.zero) (omega arith)
          ∙ sym (get_or-drop k sums i ops.zero)

-- zeros, as many as there are
pub zeros_alike : {A : Type 0} (xs : List A) (n : ℕ) (z : A) → xs ≡ replicate n z → (length xs ≡ n) × (xs ≡ replicate (length xs) z)
zeros_alike xs n z is = let size : length xs ≡ n = ap length is ∙ length-replicate n z in (size, is ∙ ap (λ k. replicate k z) (sym size))
