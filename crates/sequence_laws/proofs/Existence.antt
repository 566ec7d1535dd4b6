-- Weights over a set of distinct elements with any given sums.
use Rattle.std.proofs.Common.{◌≡◌, ◌≢◌, ◌⊎◌, inl, inr, ℕ, zero, suc, ◌+◌, ◌<◌, List, [], ◌∷◌, length, get_or, if◌then◌else◌, refl, sym, ap, ◌∙◌, arith, add-one}
use Rattle.std.specs.Prelude.{nat_eq}
use Rattle.std.specs.List.{All}
use Rattle.std.proofs.lemmas.Bool.{cases_eq, eq-eqb, ne_eqb}
use Rattle.field_rules.specs.Lists.{AreDistinct}
use Rattle.field_rules.specs.Ops.{Ops, IsRing, power}
use Rattle.field_rules.specs.Fields.{IsField}
use Rattle.field_rules.specs.Numbered.{IsNumbered}
use Rattle.field_laws.proofs.RingFacts.{zero_plus, times_zero, zero_times, plus_again, same_of_sum}
use Rattle.sequence_laws.specs.Sequences.{weighted}
use Rattle.sequence_laws.proofs.Weighing.{weighted-cons}
use Rattle.sequence_laws.proofs.Weighing.{weighted-same, weighted-plus, weighted-times, weighted-next}
use Rattle.sequence_laws.specs.Sequences.{IsUnit}

module _ {A : Type 0} (ops : Ops A) (ring : IsRing ops) where
  -- an inverse of each element but zero
  pub record Inverts (inv : A → A) : Type 0 where
    pub zero : inv ops.zero ≡ ops.zero
    pub others : (a : A) → a ≢ ops.zero → ops.times a (inv a) ≡ ops.one

  pub inverses : (bits_of : A → ℕ) (bits width : ℕ) → IsField ops bits → IsNumbered ops bits_of width → (inv : A → A) × Inverts inv
  inverses bits_of bits width field numbered = (λ a. by_zero a (is_zero a), record { zero = at_zero (is_zero ops.zero); others = λ a some. at_other a some (is_zero a) })
    where
      is_zero : (a : A) → (a ≡ ops.zero) ⊎ (a ≢ ops.zero)
      is_zero a = told (cases_eq (bits_of a) 0)
        where
          told : (bits_of a ≡ 0) ⊎ (bits_of a ≡ 0 → ⊥) → (a ≡ ops.zero) ⊎ (a ≢ ops.zero)
          told (inl e) = inl (numbered.same a ops.zero (e ∙ sym numbered.zero_bits))
          told (inr other) = inr (λ e. other (ap bits_of e ∙ numbered.zero_bits))

      by_zero : (a : A) → (a ≡ ops.zero) ⊎ (a ≢ ops.zero) → A
      by_zero a (inl e) = ops.zero
      by_zero a (inr some) = (field.invertible a some).0

      at_zero : (c : (ops.zero ≡ ops.zero) ⊎ (ops.zero ≢ ops.zero)) → by_zero ops.zero c ≡ ops.zero
      at_zero (inl e) = refl
      at_zero (inr other) = absurd (other refl)

      at_other : (a : A) → a ≢ ops.zero → (c : (a ≡ ops.zero) ⊎ (a ≢ ops.zero)) → ops.times a (by_zero a c) ≡ ops.one
      at_other a some (inl e) = absurd (some e)
      at_other a some (inr other) = (field.invertible a other).1

  module _ (inv : A → A) (inverts : Inverts inv) where
    -- one at zero, and zero elsewhere
    abbrev indicator : A → A
    indicator a = ops.plus ops.one (ops.times a (inv a))

    indicator-zero : indicator ops.zero ≡ ops.one
    indicator-zero = ap (ops.plus ops.one) (zero_times ops ring (inv ops.zero)) ∙ ring.plus_zero ops.one

    indicator-other : (a : A) → a ≢ ops.zero → indicator a ≡ ops.zero
    indicator-other a some = ap (ops.plus ops.one) (inverts.others a some) ∙ ring.plus_self ops.one

    -- the others' weights, each divided by e + x
    abbrev divided : (A → A) → A → A → A
    divided v x e = ops.times (v e) (inv (ops.plus e x))

    -- these, and c at x
    abbrev placed_at : (A → A) → A → A → A → A
    placed_at v x c e = ops.plus (ops.times c (indicator (ops.plus e x))) (divided v x e)

    placed-own : (v : A → A) (x c : A) → placed_at v x c x ≡ c
    placed-own v x c =
        ap (λ z. ops.plus (ops.times c (indicator z)) (ops.times (v x) (inv z))) (ring.plus_self x)
        ∙ ap (λ z. ops.plus (ops.times c z) (ops.times (v x) (inv ops.zero))) indicator-zero
        ∙ ap (λ z. ops.plus z (ops.times (v x) (inv ops.zero))) (ring.times_one c)
        ∙ ap (λ z. ops.plus c (ops.times (v x) z)) inverts.zero
        ∙ ap (ops.plus c) (times_zero ops ring (v x))
        ∙ ring.plus_zero c

    placed-other : (v : A → A) (x c e : A) → ops.plus e x ≢ ops.zero → placed_at v x c e ≡ divided v x e
    placed-other v x c e some =
        ap (λ z. ops.plus (ops.times c z) (divided v x e)) (indicator-other (ops.plus e x) some)
        ∙ ap (λ z. ops.plus z (divided v x e)) (times_zero ops ring c)
        ∙ zero_plus ops ring (divided v x e)

    -- dividing by e + x is undone by it: a sum of v is the next sum, and x times the sum, of these
    weighted-divided : (v : A → A) (x : A) (k : ℕ) (es : List A) → All (λ e. ops.plus e x ≢ ops.zero) es
        → weighted ops v k es ≡ ops.plus (weighted ops (divided v x) (k + 1) es) (ops.times x (weighted ops (divided v x) k es))
    weighted-divided v x k es apart =
        weighted-same ops ring v (λ e. ops.plus (ops.times (divided v x e) e) (ops.times x (divided v x e))) k es (λ i d lt. sym (term (get_or es i d) (apart i d lt)))
        ∙ weighted-plus ops ring (λ e. ops.times (divided v x e) e) (λ e. ops.times x (divided v x e)) k es
        ∙ ap (ops.plus (weighted ops (λ e. ops.times (divided v x e) e) k es)) (weighted-times ops ring x (divided v x) k es)
        ∙ ap (λ z. ops.plus z (ops.times x (weighted ops (divided v x) k es))) (sym (weighted-next ops ring (divided v x) k es))
      where
        term : (e : A) → ops.plus e x ≢ ops.zero → ops.plus (ops.times (divided v x e) e) (ops.times x (divided v x e)) ≡ v e
        term e some =
            ap (ops.plus (ops.times (divided v x e) e)) (ring.times_comm x (divided v x e))
            ∙ sym (ring.distributes (divided v x e) e x)
            ∙ ring.times_assoc (v e) (inv (ops.plus e x)) (ops.plus e x)
            ∙ ap (ops.times (v e)) (ring.times_comm (inv (ops.plus e x)) (ops.plus e x) ∙ inverts.others (ops.plus e x) some)
            ∙ ring.times_one (v e)

    -- one element more
    module _ (t : ℕ → A) (v : A → A) (x : A) (es : List A) (apart : All (λ e. ops.plus e x ≢ ops.zero) es)
        (sums : (k : ℕ) → k < length es → weighted ops v k es ≡ ops.plus (t (k + 1)) (ops.times x (t k))) where
      abbrev c : A
      c = ops.plus (t 0) (weighted ops (divided v x) 0 es)

      parts : (k : ℕ) → weighted ops (placed_at v x c) k (x ∷ es) ≡ ops.plus (ops.times c (power ops x k)) (weighted ops (divided v x) k es)
      parts k =
          weighted-cons ops ring (placed_at v x c) k x es
          ∙ ap (λ z. ops.plus (ops.times z (power ops x k)) (weighted ops (placed_at v x c) k es)) (placed-own v x c)
          ∙ ap (ops.plus (ops.times c (power ops x k)))
          (weighted-same ops ring (placed_at v x c) (divided v x) k es (λ i d lt. placed-other v x c (get_or es i d) (apart i d lt)))

      -- y + (t' + x t) where c x^k + y' = t: the step from k to k + 1
      step : (p y y' s s' : A) → ops.plus (ops.times c p) y ≡ s → ops.plus y' (ops.times x y) ≡ ops.plus s' (ops.times x s) → ops.plus (ops.times c (ops.times p x)) y' ≡ s'
      step p y y' s s' now next =
          ap (λ z. ops.plus z y') (sym (ring.times_assoc c p x) ∙ ring.times_comm (ops.times c p) x)
          ∙ ap (λ z. ops.plus (ops.times x z) y') product
          ∙ ap (λ z. ops.plus z y') (ring.distributes x s y)
          ∙ ring.plus_assoc (ops.times x s) (ops.times x y) y'
          ∙ ap (ops.plus (ops.times x s)) (ring.plus_comm (ops.times x y) y' ∙ next ∙ ring.plus_comm s' (ops.times x s))
          ∙ plus_again ops ring (ops.times x s) s'
        where
          product : ops.times c p ≡ ops.plus s y
          product =
              sym (ring.plus_zero (ops.times c p))
              ∙ ap (ops.plus (ops.times c p)) (sym (ring.plus_self y))
              ∙ sym (ring.plus_assoc (ops.times c p) y y)
              ∙ ap (λ z. ops.plus z y) now

      pub one_more : (k : ℕ) → k < length (x ∷ es) → weighted ops (placed_at v x c) k (x ∷ es) ≡ t k
      unfolding power
      one_more zero lt =
          parts 0
          ∙ ap (λ z. ops.plus z (weighted ops (divided v x) 0 es)) (ring.times_one c)
          ∙ ring.plus_assoc (t 0) (weighted ops (divided v x) 0 es) (weighted ops (divided v x) 0 es)
          ∙ ap (ops.plus (t 0)) (ring.plus_self (weighted ops (divided v x) 0 es))
          ∙ ring.plus_zero (t 0)
      one_more (suc k) lt =
          parts (suc k)
          ∙ step (power ops x k) (weighted ops (divided v x) k es) (weighted ops (divided v x) (suc k) es) (t k) (t (suc k))
          (sym (parts k) ∙ one_more k (omega arith))
          (ap (λ z. ops.plus z (ops.times x (weighted ops (divided v x) k es))) (ap (λ j. weighted ops (divided v x) j es) (sym (add-one k)))
          ∙ sym (weighted-divided v x k es apart)
          ∙ sums k (omega arith)
          ∙ ap (λ j. ops.plus (t j) (ops.times x (t k))) (add-one k))

    -- weights with the sums t 0, t 1, .., as many as there are elements
    pub weights_exist : (es : List A) → AreDistinct es → (t : ℕ → A) → (w : A → A) × ((k : ℕ) → k < length es → weighted ops w k es ≡ t k)
    weights_exist [] differ t = (λ e. ops.zero, λ k lt. absurd (omega arith))
    weights_exist (x ∷ es) differ t =
        more (weights_exist es (λ i j d lt within. differ (suc i) (suc j) d (omega arith) (omega arith)) (λ k. ops.plus (t (k + 1)) (ops.times x (t k))))
      where
        more : (v : A → A) × ((k : ℕ) → k < length es → weighted ops v k es ≡ ops.plus (t (k + 1)) (ops.times x (t k)))
            → (w : A → A) × ((k : ℕ) → k < length (x ∷ es) → weighted ops w k (x ∷ es) ≡ t k)
        more (v, sums) = (placed_at v x (ops.plus (t 0) (weighted ops (divided v x) 0 es)), one_more t v x es apart sums)
          where
            apart : All (λ e. ops.plus e x ≢ ops.zero) es
            apart i d lt none = differ 0 (suc i) d (omega arith) (omega arith) (sym (same_of_sum ops ring (get_or es i d) x none))

    -- in particular 0, .., 0, 1
    pub unit_exists : (es : List A) → AreDistinct es → (u : A → A) × IsUnit ops u es
    unit_exists es differ = made (weights_exist es differ (λ k. if nat_eq (k + 1) (length es) then ops.one else ops.zero))
      where
        made : (w : A → A) × ((k : ℕ) → k < length es → weighted ops w k es ≡ (if nat_eq (k + 1) (length es) then ops.one else ops.zero)) → (u : A → A) × IsUnit ops u es
        made (w, sums) = (
          w,
          record {
            low = λ k lt. sums k (omega arith) ∙ ap (λ b. if b then ops.one else ops.zero) (ne_eqb (k + 1) (length es) (λ e. absurd (omega arith)));
            last = λ k e. sums k (omega arith) ∙ ap (λ b. if b then ops.one else ops.zero) (eq-eqb (k + 1) (length es) e);
          },
        )
