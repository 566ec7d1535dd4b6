-- The fraction of elements, by the halves of the product of 1 + e z: its numerator is the product of both, and its
-- denominator has the squares of that product's coefficients.
use Rattle.std.proofs.Common.{◌≡◌, ℕ, zero, suc, ◌+◌, ◌*◌, ◌<◌, List, [], ◌∷◌, length, refl, sym, ap, ap₂, ◌∙◌, arith}
use Rattle.field_rules.specs.Ops.{Ops, IsRing, power}
use Rattle.field_laws.proofs.RingFacts.{one_times, times_zero, plus_swap, square_plus, times_swap}
use Rattle.fraction_laws.specs.Fractions.{denominator, numerator}
use Rattle.fraction_laws.specs.Locators.{locator, even_half, odd_half, series_product}
use Rattle.fraction_laws.proofs.SeriesProducts.{raised, product-same, product-zero_left, product-comm, product-left, product-right, product-square, product-raised_left, product-raised_right}

module _ {A : Type 0} (ops : Ops A) (ring : IsRing ops) where
  pub locator-first : (es : List A) → locator ops es 0 ≡ ops.one
  unfolding locator
  locator-first [] = refl
  locator-first (e ∷ es) = locator-first es

  -- ---- the denominator, coefficient by coefficient

  pub denominator-square : (es : List A) (j : ℕ) → denominator ops es j ≡ ops.times (locator ops es j) (locator ops es j)
  unfolding denominator locator
  denominator-square [] zero = sym (ring.times_one ops.one)
  denominator-square [] (suc j) = sym (times_zero ops ring ops.zero)
  denominator-square (e ∷ es) zero = denominator-square es zero
  denominator-square (e ∷ es) (suc j) =
      ap₂ ops.plus (denominator-square es (suc j)) (ap (ops.times (ops.times e e)) (denominator-square es j) ∙ times_swap ops ring e e (locator ops es j) (locator ops es j))
      ∙ sym (square_plus ops ring (locator ops es (suc j)) (ops.times e (locator ops es j)))

  -- ---- one element more

  even-more : (e : A) (es : List A) (i : ℕ) → even_half ops (e ∷ es) i ≡ ops.plus (even_half ops es i) (ops.times e (raised ops (odd_half ops es) i))
  unfolding locator raised
  even-more e es zero = sym (ap (ops.plus (locator ops es 0)) (times_zero ops ring e) ∙ ring.plus_zero (locator ops es 0))
  even-more e es (suc i) = let index : 2 * suc i ≡ suc (2 * i + 1) = omega arith in rw index refl

  odd-more : (e : A) (es : List A) (i : ℕ) → odd_half ops (e ∷ es) i ≡ ops.plus (odd_half ops es i) (ops.times e (even_half ops es i))
  unfolding locator
  odd-more e es i = let index : 2 * i + 1 ≡ suc (2 * i) = omega arith in rw index refl

  -- ---- the denominator, by halves

  -- E ^ 2 + y O ^ 2
  abbrev pub square_of : (E O : ℕ → A) (j : ℕ) → A
  square_of E O j = ops.plus (series_product ops E E j) (raised ops (series_product ops O O) j)

  -- an element more, which turns E into E + e y O, and O into O + e E
  square-more : (E O E' O' : ℕ → A) (e : A) → ((i : ℕ) → E' i ≡ ops.plus (E i) (ops.times e (raised ops O i))) → ((i : ℕ) → O' i ≡ ops.plus (O i) (ops.times e (E i)))
      → (j : ℕ) → square_of E' O' (suc j) ≡ ops.plus (square_of E O (suc j)) (ops.times (ops.times e e) (square_of E O j))
  unfolding raised
  square-more E O E' O' e even odd j =
      ap₂ ops.plus
      (product-same ops E' E' (λ i. ops.plus (E i) (ops.times e (raised ops O i))) (λ i. ops.plus (E i) (ops.times e (raised ops O i))) (suc j) even even
      ∙ product-square ops ring E (raised ops O) e (suc j)
      ∙ ap (λ z. ops.plus (series_product ops E E (suc j)) (ops.times (ops.times e e) z)) (product-raised_left ops ring O (raised ops O) (suc j) ∙ product-raised_right ops ring O O j))
      (product-same ops O' O' (λ i. ops.plus (O i) (ops.times e (E i))) (λ i. ops.plus (O i) (ops.times e (E i))) j odd odd ∙ product-square ops ring O E e j)
      ∙ plus_swap ops ring (series_product ops E E (suc j)) (ops.times (ops.times e e) (raised ops (series_product ops O O) j)) (series_product ops O O j)
      (ops.times (ops.times e e) (series_product ops E E j))
      ∙ ap (ops.plus (ops.plus (series_product ops E E (suc j)) (series_product ops O O j)))
      (ring.plus_comm (ops.times (ops.times e e) (raised ops (series_product ops O O) j)) (ops.times (ops.times e e) (series_product ops E E j))
      ∙ sym (ring.distributes (ops.times e e) (series_product ops E E j) (raised ops (series_product ops O O) j)))

  square-first : (E O E' O' : ℕ → A) → E' 0 ≡ E 0 → square_of E' O' 0 ≡ square_of E O 0
  unfolding raised series_product
  square-first E O E' O' same = ap (λ z. ops.plus (ops.times z z) ops.zero) same

  even-none : (i : ℕ) → even_half ops [] (suc i) ≡ ops.zero
  unfolding locator
  even-none i = let index : 2 * suc i ≡ suc (2 * i + 1) = omega arith in rw index refl

  odd-none : (i : ℕ) → odd_half ops [] i ≡ ops.zero
  unfolding locator
  odd-none i = let index : 2 * i + 1 ≡ suc (2 * i) = omega arith in rw index refl

  pub denominator-halves : (es : List A) (j : ℕ) → denominator ops es j ≡ square_of (even_half ops es) (odd_half ops es) j
  unfolding denominator raised series_product locator
  denominator-halves [] zero = sym (ring.plus_zero (ops.times ops.one ops.one) ∙ ring.times_one ops.one)
  denominator-halves [] (suc j) =
      sym
      (ap₂ ops.plus
      (ap₂ ops.plus (ap (ops.times ops.one) (even-none j) ∙ times_zero ops ring ops.one) (product-zero_left ops ring (λ i. even_half ops [] (suc i)) (even_half ops []) j even-none) ∙ ring.plus_zero ops.zero)
      (product-zero_left ops ring (odd_half ops []) (odd_half ops []) j odd-none)
      ∙ ring.plus_zero ops.zero)
  denominator-halves (e ∷ es) zero = denominator-halves es zero ∙ sym (square-first (even_half ops es) (odd_half ops es) (even_half ops (e ∷ es)) (odd_half ops (e ∷ es)) refl)
  denominator-halves (e ∷ es) (suc j) =
      ap₂ ops.plus (denominator-halves es (suc j)) (ap (ops.times (ops.times e e)) (denominator-halves es j))
      ∙ sym (square-more (even_half ops es) (odd_half ops es) (even_half ops (e ∷ es)) (odd_half ops (e ∷ es)) e (even-more e es) (odd-more e es) j)

  -- ---- the numerator

  -- e times the terms of two sums, gathered
  gathered : (a b c d e : A) → ops.plus (ops.plus a (ops.times e b)) (ops.times e (ops.plus c (ops.times e d))) ≡ ops.plus (ops.plus a (ops.times (ops.times e e) d)) (ops.times e (ops.plus b c))
  gathered a b c d e =
      ap (ops.plus (ops.plus a (ops.times e b))) (ring.distributes e c (ops.times e d) ∙ ring.plus_comm (ops.times e c) (ops.times e (ops.times e d)))
      ∙ plus_swap ops ring a (ops.times e b) (ops.times e (ops.times e d)) (ops.times e c)
      ∙ ap₂ (λ y z. ops.plus (ops.plus a y) z) (sym (ring.times_assoc e e d)) (sym (ring.distributes e b c))

  raised-same : (f g : ℕ → A) (j : ℕ) → ((i : ℕ) → f i ≡ g i) → raised ops f j ≡ raised ops g j
  unfolding raised
  raised-same f g zero same = refl
  raised-same f g (suc j) same = same j

  product-more : (E O E' O' : ℕ → A) (e : A) → ((i : ℕ) → E' i ≡ ops.plus (E i) (ops.times e (raised ops O i))) → ((i : ℕ) → O' i ≡ ops.plus (O i) (ops.times e (E i)))
      → (j : ℕ) → series_product ops E' O' j ≡ ops.plus (ops.plus (series_product ops E O j) (ops.times (ops.times e e) (raised ops (series_product ops E O) j))) (ops.times e (square_of E O j))
  product-more E O E' O' e even odd j =
      product-same ops E' O' (λ i. ops.plus (E i) (ops.times e (raised ops O i))) (λ i. ops.plus (O i) (ops.times e (E i))) j even odd
      ∙ product-left ops ring E (raised ops O) (λ i. ops.plus (O i) (ops.times e (E i))) e j
      ∙ ap₂ (λ y z. ops.plus y (ops.times e z)) (product-right ops ring E O E e j) (product-right ops ring (raised ops O) O E e j)
      ∙ ap₂ (λ y z. ops.plus (ops.plus (series_product ops E O j) (ops.times e (series_product ops E E j))) (ops.times e (ops.plus y (ops.times e z))))
      (product-raised_left ops ring O O j)
      (product-raised_left ops ring O E j ∙ raised-same (series_product ops O E) (series_product ops E O) j (product-comm ops ring O E))
      ∙ gathered (series_product ops E O j) (series_product ops E E j) (raised ops (series_product ops O O) j) (raised ops (series_product ops E O) j) e

  numerator-more : (e : A) (es : List A) (j : ℕ)
      → numerator ops 0 (e ∷ es) j ≡ ops.plus (ops.plus (numerator ops 0 es j) (ops.times (ops.times e e) (raised ops (numerator ops 0 es) j))) (ops.times e (denominator ops es j))
  unfolding numerator raised power
  numerator-more e es zero =
      ap₂ (λ y z. ops.plus y (ops.times z (denominator ops es 0)))
      (sym (ap (ops.plus (numerator ops 0 es 0)) (times_zero ops ring (ops.times e e)) ∙ ring.plus_zero (numerator ops 0 es 0)))
      (one_times ops ring e)
  numerator-more e es (suc j) =
      ap (λ z. ops.plus (ops.plus (numerator ops 0 es (suc j)) (ops.times (ops.times e e) (numerator ops 0 es j))) (ops.times z (denominator ops es (suc j)))) (one_times ops ring e)

  pub numerator-halves : (es : List A) (j : ℕ) → numerator ops 0 es j ≡ series_product ops (even_half ops es) (odd_half ops es) j
  unfolding numerator
  numerator-halves [] j = sym (product-comm ops ring (even_half ops []) (odd_half ops []) j ∙ product-zero_left ops ring (odd_half ops []) (even_half ops []) j odd-none)
  numerator-halves (e ∷ es) j =
      numerator-more e es j
      ∙ ap₂ ops.plus
      (ap₂ (λ y z. ops.plus y (ops.times (ops.times e e) z)) (numerator-halves es j) (raised-same (numerator ops 0 es) (series_product ops (even_half ops es) (odd_half ops es)) j (numerator-halves es)))
      (ap (ops.times e) (denominator-halves es j))
      ∙ sym (product-more (even_half ops es) (odd_half ops es) (even_half ops (e ∷ es)) (odd_half ops (e ∷ es)) e (even-more e es) (odd-more e es) j)

  -- ---- beyond the degrees

  pub locator-beyond : (es : List A) (j : ℕ) → length es < j → locator ops es j ≡ ops.zero
  unfolding locator
  locator-beyond es zero lt = absurd (omega arith)
  locator-beyond [] (suc j) lt = refl
  locator-beyond (e ∷ es) (suc j) lt =
      ap₂ (λ y z. ops.plus y (ops.times e z)) (locator-beyond es (suc j) (omega arith)) (locator-beyond es j (omega arith))
      ∙ ap (ops.plus ops.zero) (times_zero ops ring e)
      ∙ ring.plus_zero ops.zero
