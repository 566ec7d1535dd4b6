-- The sequences of a part are the correlations of those of the whole with the polynomial of the other members.
use Rattle.std.proofs.Common.{◌≡◌, ℕ, zero, suc, ◌+◌, ◌<◌, Bool, true, false, not, cond, List, [], ◌∷◌, length, get_or, drop, refl, sym, ap, ◌∙◌, arith}
use Rattle.std.specs.Prelude.{filter}
use Rattle.std.specs.List.{All}
use Rattle.std.proofs.lemmas.List.{get_or-drop}
use Rattle.field_rules.specs.Ops.{Ops, IsRing}
use Rattle.poly_rules.specs.Polynomials.{IsMonic, value_at}
use Rattle.poly_rules.specs.Roots.{IsRoot}
use Rattle.field_laws.proofs.RingFacts.{times_zero}
use Rattle.sequence_laws.specs.Sequences.{weighted}
use Rattle.recurrence_laws.proofs.Applied.{dot_of-zeros}
use Rattle.splitting_laws.specs.Parts.{IsCorrelation}
use Rattle.splitting_laws.proofs.Parts.{parts-length}
use Rattle.sequence_laws.proofs.Weighing.{weighted-same, weighted-kept}
use Rattle.sequence_laws.specs.Sequences.{sequence_of}
use Rattle.sequence_laws.proofs.Sequences.{sequence_of-at, sequence_of-same, dot_of-from, correlation_of_sequence}
use Rattle.sequence_laws.specs.Sequences.{IsUnit}
use Rattle.sequence_laws.proofs.Parting.{unit_window}

module _ {A : Type 0} where
  -- what holds of those that pass holds of each member that passes
  pub passing : (p : A → Bool) (P : A → Type 0) (es : List A) → All P (filter p es) → All (λ e. p e ≡ true → P e) es
  passing p P [] held = λ i d lt passes. absurd (omega arith)
  passing p P (e ∷ es) held = by_test (p e) refl held (passing p P es)
    where
      by_test : (b : Bool) → p e ≡ b → All P (cond b (e ∷ filter p es) (filter p es)) → (All P (filter p es) → All (λ x. p x ≡ true → P x) es) → All (λ x. p x ≡ true → P x) (e ∷ es)
      by_test b is held rest = λ i d lt. at b is held i d lt
        where
          at : (b : Bool) → p e ≡ b → All P (cond b (e ∷ filter p es) (filter p es)) → (i : ℕ) (d : A) → i < length (e ∷ es) → p (get_or (e ∷ es) i d) ≡ true → P (get_or (e ∷ es) i d)
          at true is held zero d lt passes = held 0 d (omega arith)
          at false is held zero d lt passes = cc
          at true is held (suc i) d lt passes = rest (λ j c below. held (suc j) c (omega arith)) i d (omega arith) passes
          at false is held (suc i) d lt passes = rest held i d (omega arith) passes

module _ {A : Type 0} (ops : Ops A) (ring : IsRing ops) (p : A → Bool) (es : List A) where
  abbrev part : List A
  part = filter p es

  abbrev others : List A
  others = filter (λ e. not (p e)) es

  -- a polynomial that vanishes on the others leaves the part of a sum
  pub weighted-by_others : (h : List A) (w : A → A) (k : ℕ) → All (IsRoot ops h) others
      → weighted ops (λ e. ops.times (w e) (value_at ops h e)) k es ≡ weighted ops (λ e. ops.times (w e) (value_at ops h e)) k part
  weighted-by_others h w k roots =
      weighted-kept ops ring (λ e. ops.times (w e) (value_at ops h e)) p k es
      (λ i d lt fails. ap (ops.times (w (get_or es i d))) (passing (λ e. not (p e)) (IsRoot ops h) es roots i d lt (ap not fails)) ∙ times_zero ops ring (w (get_or es i d)))

  -- so the unit of the part is the unit of the whole, times the polynomial of the others
  pub unit_of_part : (h : List A) (u : A → A) → IsMonic ops (length others) h → All (IsRoot ops h) others → IsUnit ops u es
      → IsUnit ops (λ e. ops.times (u e) (value_at ops h e)) part
  unit_of_part h u monic roots unit = record {
    low = λ k lt.
        sym (weighted-by_others h u k roots)
        ∙ sym (dot_of-from ops ring h es u k (length es) (omega (arith, parts-length p es, monic.size)))
        ∙ dot_of-zeros ops ring h (drop k (sequence_of ops u es 0 (length es)))
        (λ i within. get_or-drop k (sequence_of ops u es 0 (length es)) i ops.zero
        ∙ sequence_of-at ops ring u es (length es) (k + i) (omega (arith, parts-length p es, monic.size))
        ∙ unit.low (k + i) (omega (arith, parts-length p es, monic.size)));
    last = λ k e. sym (weighted-by_others h u k roots) ∙ unit_window ops ring u h es (length others) k unit monic (omega (arith, parts-length p es));
  }

  -- and the correlation of that polynomial with a sequence of the whole is the part's sequence of the same function
  pub sequence_of_part : (h : List A) (a u : A → A) (t : List A) → IsMonic ops (length others) h → All (IsRoot ops h) others
      → IsCorrelation ops h (sequence_of ops (λ e. ops.times (a e) (u e)) es 0 (length es)) (length part) t
      → t ≡ sequence_of ops (λ e. ops.times (a e) (ops.times (u e) (value_at ops h e))) part 0 (length part)
  sequence_of_part h a u t monic roots windows =
      correlation_of_sequence ops ring h es (λ e. ops.times (a e) (u e)) (length part) (length es) t (omega (arith, parts-length p es, monic.size)) windows
      ∙ sequence_of-same ops ring (λ e. ops.times (ops.times (a e) (u e)) (value_at ops h e)) (λ e. ops.times (a e) (ops.times (u e) (value_at ops h e))) es part (length part)
      (λ k lt.
      weighted-by_others h (λ e. ops.times (a e) (u e)) k roots
      ∙ weighted-same ops ring (λ e. ops.times (ops.times (a e) (u e)) (value_at ops h e)) (λ e. ops.times (a e) (ops.times (u e) (value_at ops h e))) k part
      (λ i d within. ring.times_assoc (a (get_or part i d)) (u (get_or part i d)) (value_at ops h (get_or part i d))))
