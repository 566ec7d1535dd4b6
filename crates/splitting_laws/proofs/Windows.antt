-- Dots of a polynomial with windows of the power sums of a set: each is a sum, over the elements, of the polynomial's
-- values, weighted by powers.
use Rattle.std.proofs.Common.{◌≡◌, ℕ, zero, suc, ◌+◌, ◌-◌, ◌≤◌, List, [], ◌∷◌, length, drop, refl, sym, ap, ◌∙◌, arith, add-one}
use Rattle.std.proofs.Math.Nat.{suc-add}
use Rattle.field_rules.specs.Ops.{Ops, IsRing, power}
use Rattle.field_rules.specs.Fields.{dot_of}
use Rattle.sketch_rules.specs.PowerSums.{power_sum, power_sums}
use Rattle.poly_rules.specs.Polynomials.{value_at}
use Rattle.field_laws.proofs.RingFacts.{times_zero, distributes_left, plus_swap}
use Rattle.field_laws.proofs.Weights.{weighted, weighted-zero}

module _ {A : Type 0} (ops : Ops A) where
  -- ---- the list of sums

  -- the sums from an index on
  drop_first : (es : List A) (k j m : ℕ) → drop j (power_sums ops es k (j + m)) ≡ power_sums ops es (k + j) m
  unfolding power_sums
  drop_first es k zero m =
      let same : 0 + m ≡ m = omega arith in
      let there : k ≡ k + 0 = omega arith in
      ap (power_sums ops es k) same ∙ ap (λ i. power_sums ops es i m) there
  drop_first es k (suc j) m =
      let there : k + 1 + j ≡ k + suc j = omega arith in
      ap (λ n. drop (suc j) (power_sums ops es k n)) (suc-add j m)
      ∙ drop_first es (k + 1) j m
      ∙ ap (λ i. power_sums ops es i m) there

  pub drop-power_sums : (es : List A) (k j n : ℕ) → j ≤ n → drop j (power_sums ops es k n) ≡ power_sums ops es (k + j) (n - j)
  drop-power_sums es k j n le =
      let whole : n ≡ j + (n - j) = omega arith in
      ap (λ z. drop j (power_sums ops es k z)) whole ∙ drop_first es k j (n - j)

module _ {A : Type 0} (ops : Ops A) (ring : IsRing ops) where
  -- ---- the sum over the elements

  -- one term: the weight a and e times the weight w, at the power k
  one_term : (a e w p : A) → ops.plus (ops.times a p) (ops.times w (ops.times p e)) ≡ ops.times (ops.plus a (ops.times e w)) p
  one_term a e w p =
      ap (ops.plus (ops.times a p)) (ap (ops.times w) (ring.times_comm p e) ∙ sym (ring.times_assoc w e p) ∙ ap (λ z. ops.times z p) (ring.times_comm w e))
      ∙ sym (distributes_left ops ring a (ops.times e w) p)

  -- a times the sum of the powers k, and the weights w at the power after it
  weighted-and : (a : A) (w : A → A) (k : ℕ) (es : List A)
      → ops.plus (ops.times a (power_sum ops k es)) (weighted ops ring w (suc k) es) ≡ weighted ops ring (λ e. ops.plus a (ops.times e (w e))) k es
  unfolding weighted power_sum power
  weighted-and a w k [] = ap (λ z. ops.plus z ops.zero) (times_zero ops ring a) ∙ ring.plus_zero ops.zero
  weighted-and a w k (e ∷ es) =
      ap (λ z. ops.plus z (ops.plus (ops.times (w e) (ops.times (power ops e k) e)) (weighted ops ring w (suc k) es))) (ring.distributes a (power ops e k) (power_sum ops k es))
      ∙ plus_swap ops ring (ops.times a (power ops e k)) (ops.times a (power_sum ops k es)) (ops.times (w e) (ops.times (power ops e k) e)) (weighted ops ring w (suc k) es)
      ∙ ap (λ z. ops.plus z (ops.plus (ops.times a (power_sum ops k es)) (weighted ops ring w (suc k) es))) (one_term a e (w e) (power ops e k))
      ∙ ap (ops.plus (ops.times (ops.plus a (ops.times e (w e))) (power ops e k))) (weighted-and a w k es)

  -- the weights w at one power more are e times w
  weighted-raised : (w : A → A) (k : ℕ) (es : List A) → weighted ops ring w (suc k) es ≡ weighted ops ring (λ e. ops.times e (w e)) k es
  unfolding weighted power
  weighted-raised w k [] = refl
  weighted-raised w k (e ∷ es) =
      ap (λ z. ops.plus z (weighted ops ring w (suc k) es)) (ap (ops.times (w e)) (ring.times_comm (power ops e k) e) ∙ sym (ring.times_assoc (w e) e (power ops e k)) ∙ ap (λ z. ops.times z (power ops e k)) (ring.times_comm (w e) e))
      ∙ ap (ops.plus (ops.times (ops.times e (w e)) (power ops e k))) (weighted-raised w k es)

  -- the dot of f with the sums from s_k on is the sum of f(e) * e ^ k
  pub dot_of-sums : (f es : List A) (k n : ℕ) → length f ≤ n → dot_of ops f (power_sums ops es k n) ≡ weighted ops ring (value_at ops f) k es
  unfolding dot_of power_sums value_at
  dot_of-sums [] es k n le = sym (weighted-zero ops ring (value_at ops []) k es (λ i d lt. refl))
  dot_of-sums (a ∷ f) es k zero le = absurd (omega arith)
  dot_of-sums (a ∷ f) es k (suc n) le =
      ap (ops.plus (ops.times a (power_sum ops k es))) (dot_of-sums f es (k + 1) n (omega arith) ∙ ap (λ j. weighted ops ring (value_at ops f) j es) (add-one k))
      ∙ weighted-and a (value_at ops f) k es

  -- the dot of f with s_(k+1), s_(k+2), .. is the sum of e * f(e) * e ^ k
  pub dot_of-window : (f es : List A) (k n : ℕ) → k + length f ≤ n
      → dot_of ops f (drop k (power_sums ops es 1 n)) ≡ weighted ops ring (λ e. ops.times e (value_at ops f e)) k es
  dot_of-window f es k n le =
      let next : 1 + k ≡ suc k = omega arith in
      ap (dot_of ops f) (drop-power_sums ops es 1 k n (omega arith))
      ∙ dot_of-sums f es (1 + k) (n - k) (omega arith)
      ∙ ap (λ j. weighted ops ring (value_at ops f) j es) next
      ∙ weighted-raised (value_at ops f) k es
