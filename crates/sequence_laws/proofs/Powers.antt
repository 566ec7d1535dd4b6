-- The sequences of powers of x, and of traces, as sums of multiples of them.
use Rattle.std.proofs.Common.{◌≡◌, ℕ, suc, ◌+◌, ◌^◌, List, length, get_or, replicate, sym, ap, ◌∙◌, arith}
use Rattle.std.proofs.lemmas.List.{length-map, length-replicate, get_or-replicate}
use Rattle.field_rules.specs.Ops.{Ops, IsRing, power}
use Rattle.field_rules.specs.Fields.{IsField, conjugate, trace_of, with_multiple}
use Rattle.poly_rules.specs.Polynomials.{coefficient, scalar_multiple, sum_of}
use Rattle.field_laws.proofs.RingFacts.{distributes_left, zero_times}
use Rattle.field_laws.proofs.Conjugates.{conjugate-none, conjugate-power, conjugate-times}
use Rattle.field_laws.proofs.Traces.{trace_of-next, trace_of-none}
use Rattle.sequence_laws.specs.Sequences.{weighted}
use Rattle.sequence_laws.proofs.Weighing.{weighted-zero}
use Rattle.poly_laws.proofs.Sums.{coefficient-sum, coefficient-scalar_multiple}
use Rattle.poly_laws.proofs.Division.{with_multiple-sum, length-sum}
use Rattle.sequence_laws.proofs.Weighing.{weighted-same, weighted-plus, weighted-times, weighted-up}
use Rattle.sequence_laws.specs.Sequences.{sequence_of, row_of}
use Rattle.sequence_laws.proofs.Sequences.{length-sequence_of, sequence_of-at, sequence_of-same, is_sequence, get_or-sequence_of}

module _ {A : Type 0} (ops : Ops A) (ring : IsRing ops) where
  -- ---- powers

  -- from index j on it is the sequence of e ^ j
  pub sequence_of-up : (w : A → A) (es : List A) (j n : ℕ) → sequence_of ops w es j n ≡ sequence_of ops (λ e. ops.times (power ops e j) (w e)) es 0 n
  sequence_of-up w es j n =
      is_sequence ops ring (λ e. ops.times (power ops e j) (w e)) es n (sequence_of ops w es j n) (length-sequence_of ops ring w es j n)
      (λ k lt.
      (let there : j + k ≡ k + j = omega arith in get_or-sequence_of ops ring w es j n k ops.zero lt ∙ ap (λ i. weighted ops w i es) there)
      ∙ weighted-up ops ring w k j es
      ∙ weighted-same ops ring (λ e. ops.times (w e) (power ops e j)) (λ e. ops.times (power ops e j) (w e)) k es
      (λ i d within. ring.times_comm (w (get_or es i d)) (power ops (get_or es i d) j)))

  -- the row of x ^ (2 ^ j) is the unit's own sequence from index 2 ^ j on
  pub row_of-up : (u : A → A) (es : List A) (j : ℕ) → row_of ops u es j ≡ sequence_of ops u es (2 ^ j) (length es)
  row_of-up u es j =
      sequence_of-same ops ring (λ e. ops.times (conjugate ops j e) (u e)) (λ e. ops.times (power ops e (2 ^ j)) (u e)) es es (length es)
      (λ k lt. weighted-same ops ring (λ e. ops.times (conjugate ops j e) (u e)) (λ e. ops.times (power ops e (2 ^ j)) (u e)) k es
      (λ i d within. ap (λ z. ops.times z (u (get_or es i d))) (conjugate-power ops ring j (get_or es i d))))
      ∙ sym (sequence_of-up u es (2 ^ j) (length es))

  -- ---- traces

  -- k times one sequence, added to another
  pub sequence_of-axpy : (v w : A → A) (c : A) (es : List A) (n : ℕ)
      → with_multiple ops (sequence_of ops v es 0 n) c (sequence_of ops w es 0 n) ≡ sequence_of ops (λ e. ops.plus (v e) (ops.times c (w e))) es 0 n
  sequence_of-axpy v w c es n =
      with_multiple-sum ops c (sequence_of ops v es 0 n) (sequence_of ops w es 0 n) (omega (arith, length-sequence_of ops ring v es 0 n, length-sequence_of ops ring w es 0 n))
      ∙ is_sequence ops ring (λ e. ops.plus (v e) (ops.times c (w e))) es n (sum_of ops (sequence_of ops v es 0 n) (scalar_multiple ops c (sequence_of ops w es 0 n)))
      (length-sum ops (sequence_of ops v es 0 n) (scalar_multiple ops c (sequence_of ops w es 0 n))
      (omega (arith, length-map (sequence_of ops w es 0 n) (λ a. ops.times c a), length-sequence_of ops ring v es 0 n, length-sequence_of ops ring w es 0 n))
      ∙ length-sequence_of ops ring v es 0 n)
      (λ k lt.
      coefficient-sum ops ring (sequence_of ops v es 0 n) (scalar_multiple ops c (sequence_of ops w es 0 n)) k
      ∙ ap (ops.plus (coefficient ops (sequence_of ops v es 0 n) k)) (coefficient-scalar_multiple ops ring c (sequence_of ops w es 0 n) k ∙ ap (ops.times c) (sequence_of-at ops ring w es n k lt))
      ∙ ap (λ z. ops.plus z (ops.times c (weighted ops w k es))) (sequence_of-at ops ring v es n k lt)
      ∙ ap (ops.plus (weighted ops v k es)) (sym (weighted-times ops ring c w k es))
      ∙ sym (weighted-plus ops ring v (λ e. ops.times c (w e)) k es))

  -- no term yet
  pub trace_sequence-none : (b : A) (u : A → A) (es : List A) (n : ℕ) → replicate n ops.zero ≡ sequence_of ops (λ e. ops.times (trace_of ops 0 (ops.times b e)) (u e)) es 0 n
  trace_sequence-none b u es n =
      is_sequence ops ring (λ e. ops.times (trace_of ops 0 (ops.times b e)) (u e)) es n (replicate n ops.zero) (length-replicate n ops.zero)
      (λ k lt. get_or-replicate n k ops.zero ops.zero lt
      ∙ sym (weighted-zero ops ring (λ e. ops.times (trace_of ops 0 (ops.times b e)) (u e)) k es
      (λ i d within. ap (λ z. ops.times z (u (get_or es i d))) (trace_of-none ops ring (ops.times b (get_or es i d))) ∙ zero_times ops ring (u (get_or es i d)))))

  -- one term more: c is b ^ (2 ^ m), row the sequence of x ^ (2 ^ m)
  pub trace_sequence-more : (b c : A) (u : A → A) (es acc row : List A) (n m : ℕ) → c ≡ conjugate ops m b
      → acc ≡ sequence_of ops (λ e. ops.times (trace_of ops m (ops.times b e)) (u e)) es 0 n
      → row ≡ sequence_of ops (λ e. ops.times (conjugate ops m e) (u e)) es 0 n
      → with_multiple ops acc c row ≡ sequence_of ops (λ e. ops.times (trace_of ops (suc m) (ops.times b e)) (u e)) es 0 n
  trace_sequence-more b c u es acc row n m is is_acc is_row =
      ap (λ z. with_multiple ops z c row) is_acc
      ∙ ap (λ z. with_multiple ops (sequence_of ops (λ e. ops.times (trace_of ops m (ops.times b e)) (u e)) es 0 n) c z) is_row
      ∙ sequence_of-axpy (λ e. ops.times (trace_of ops m (ops.times b e)) (u e)) (λ e. ops.times (conjugate ops m e) (u e)) c es n
      ∙ sequence_of-same ops ring (λ e. ops.plus (ops.times (trace_of ops m (ops.times b e)) (u e)) (ops.times c (ops.times (conjugate ops m e) (u e))))
      (λ e. ops.times (trace_of ops (suc m) (ops.times b e)) (u e)) es es n
      (λ k lt. weighted-same ops ring (λ e. ops.plus (ops.times (trace_of ops m (ops.times b e)) (u e)) (ops.times c (ops.times (conjugate ops m e) (u e))))
      (λ e. ops.times (trace_of ops (suc m) (ops.times b e)) (u e)) k es (λ i d within. term (get_or es i d)))
    where
      term : (e : A) → ops.plus (ops.times (trace_of ops m (ops.times b e)) (u e)) (ops.times c (ops.times (conjugate ops m e) (u e))) ≡ ops.times (trace_of ops (suc m) (ops.times b e)) (u e)
      term e =
          ap (ops.plus (ops.times (trace_of ops m (ops.times b e)) (u e)))
          (sym (ring.times_assoc c (conjugate ops m e) (u e)) ∙ ap (λ z. ops.times (ops.times z (conjugate ops m e)) (u e)) is ∙ ap (λ z. ops.times z (u e)) (sym (conjugate-times ops ring m b e)))
          ∙ sym (distributes_left ops ring (trace_of ops m (ops.times b e)) (conjugate ops m (ops.times b e)) (u e))
          ∙ ap (λ z. ops.times z (u e)) (sym (trace_of-next ops ring m (ops.times b e)))

  -- ---- the return

  -- the sequence of x ^ (2 ^ bits) is that of x
  pub sequence_returns : (bits : ℕ) → IsField ops bits → (u : A → A) (es : List A) (n : ℕ)
      → sequence_of ops (λ e. ops.times (conjugate ops bits e) (u e)) es 0 n ≡ sequence_of ops (λ e. ops.times (conjugate ops 0 e) (u e)) es 0 n
  sequence_returns bits field u es n =
      sequence_of-same ops ring (λ e. ops.times (conjugate ops bits e) (u e)) (λ e. ops.times (conjugate ops 0 e) (u e)) es es n
      (λ k lt. weighted-same ops ring (λ e. ops.times (conjugate ops bits e) (u e)) (λ e. ops.times (conjugate ops 0 e) (u e)) k es
      (λ i d within. ap (λ z. ops.times z (u (get_or es i d))) (field.returns (get_or es i d) ∙ sym (conjugate-none ops (get_or es i d)))))
