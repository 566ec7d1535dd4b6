-- Sums of odd powers as one short id comes or goes: an element that is added twice is gone.
use Rattle.std.proofs.Common.{◌≡◌, ◌++◌, ◌+◌, ◌*◌, ◌==◌, ◌<◌, ◌^◌, ℕ, zero, suc, not, Bool, true, false, cond, List, [], ◌∷◌, filter, map, refl, sym, ap, ◌∙◌, arith}
use Rattle.std.specs.List.{AllByRecursion, count_by}
use Rattle.std.proofs.lemmas.Bool.{eqb-true}
use Rattle.std.proofs.lemmas.List.{map-append}
use Rattle.field_rules.specs.Ops.{Ops, IsRing, power, with_odd_powers}
use Rattle.field_rules.specs.Numbered.{IsNumbered}
use Rattle.sketch_rules.specs.PowerSums.{power_sum, odd_power_sums, sketch_by}
use Rattle.sketch_rules.specs.Sketches.{sketch_at}
use Rattle.sketch_laws.proofs.SketchNumbers.{sketch_by-numbers}
use Rattle.field_core.proofs.PowerSums.{odd_power_sums-more}
use Rattle.pool_laws.proofs.Singles.{count_by-cons}

-- ---- a list of numbers in which one stands once

-- a filter that nothing fails
filter_none : {X : Type 0} (t : X → Bool) (xs : List X) → count_by t xs ≡ 0 → filter (λ x. not (t x)) xs ≡ xs
filter_none t [] h = refl
filter_none t (x ∷ xs) h = by_head (t x) (sym (count_by-cons t x xs) ∙ h) (filter_none t xs)
  where
    by_head : (b : Bool) → cond b 1 0 + count_by t xs ≡ 0 → (count_by t xs ≡ 0 → filter (λ x. not (t x)) xs ≡ xs) → cond (not b) (x ∷ filter (λ x. not (t x)) xs) (filter (λ x. not (t x)) xs) ≡ x ∷ xs
    by_head true k rest = absurd (omega arith)
    by_head false k rest = ap (λ zs. x ∷ zs) (rest (omega arith))

module _ {A : Type 0} (f : A → ℕ) (t : ℕ → Bool) where
  filter-map : (xs : List A) → map f (filter (λ x. t (f x)) xs) ≡ filter t (map f xs)
  filter-map [] = refl
  filter-map (x ∷ xs) = by_head (t (f x)) (filter-map xs)
    where
      by_head : (b : Bool) → map f (filter (λ x. t (f x)) xs) ≡ filter t (map f xs)
          → map f (cond b (x ∷ filter (λ x. t (f x)) xs) (filter (λ x. t (f x)) xs)) ≡ cond b (f x ∷ filter t (map f xs)) (filter t (map f xs))
      by_head true rest = ap (λ zs. f x ∷ zs) rest
      by_head false rest = rest

  count_by-map : (xs : List A) → count_by t (map f xs) ≡ count_by (λ x. t (f x)) xs
  count_by-map [] = refl
  count_by-map (x ∷ xs) = count_by-cons t (f x) (map f xs) ∙ ap (λ n. cond (t (f x)) 1 0 + n) (count_by-map xs) ∙ sym (count_by-cons (λ x. t (f x)) x xs)

-- ---- sums

module _ {A : Type 0} (ops : Ops A) (ring : IsRing ops) where
  plus_twice : (a b : A) → ops.plus (ops.plus a b) b ≡ a
  plus_twice a b = ring.plus_assoc a b b ∙ ap (ops.plus a) (ring.plus_self b) ∙ ring.plus_zero a

  -- an element added twice is gone
  with_odd_powers-twice : (e : A) (i : ℕ) (xs : List A) → with_odd_powers ops e i (with_odd_powers ops e i xs) ≡ xs
  unfolding with_odd_powers
  with_odd_powers-twice e i [] = refl
  with_odd_powers-twice e i (x ∷ xs) = rw (plus_twice x (power ops e (2 * i + 1)), with_odd_powers-twice e (i + 1) xs) refl

  module _ (bits_of : A → ℕ) (same : (a b : A) → bits_of a ≡ bits_of b → a ≡ b) (e : A) where
    has_bits : A → Bool
    has_bits x = bits_of x == bits_of e

    power_sum-once : (k : ℕ) (xs : List A) → count_by (λ x. bits_of x == bits_of e) xs ≡ 1
        → ops.plus (power_sum ops k (filter (λ x. not (bits_of x == bits_of e)) xs)) (power ops e k) ≡ power_sum ops k xs
    unfolding power_sum
    power_sum-once k [] h = cc
    power_sum-once k (x ∷ xs) h = by_head (bits_of x == bits_of e) refl (sym (count_by-cons (λ x. bits_of x == bits_of e) x xs) ∙ h) (power_sum-once k xs)
      where
        by_head : (b : Bool) → (bits_of x == bits_of e) ≡ b → cond b 1 0 + count_by (λ x. bits_of x == bits_of e) xs ≡ 1
            → (count_by (λ x. bits_of x == bits_of e) xs ≡ 1 → ops.plus (power_sum ops k (filter (λ x. not (bits_of x == bits_of e)) xs)) (power ops e k) ≡ power_sum ops k xs)
            → ops.plus (power_sum ops k (cond (not b) (x ∷ filter (λ x. not (bits_of x == bits_of e)) xs) (filter (λ x. not (bits_of x == bits_of e)) xs))) (power ops e k) ≡ ops.plus (power ops x k) (power_sum ops k xs)
        by_head true i n rest =
            let is : x ≡ e = same x e (eqb-true (bits_of x) (bits_of e) i) in
            ap (λ zs. ops.plus (power_sum ops k zs) (power ops e k)) (filter_none (λ x. bits_of x == bits_of e) xs (omega arith))
            ∙ ring.plus_comm (power_sum ops k xs) (power ops e k)
            ∙ ap (λ z. ops.plus (power ops z k) (power_sum ops k xs)) (sym is)
        by_head false i n rest =
            ring.plus_assoc (power ops x k) (power_sum ops k (filter (λ x. not (bits_of x == bits_of e)) xs)) (power ops e k)
            ∙ ap (ops.plus (power ops x k)) (rest (omega arith))

    odd_power_sums-once : (xs : List A) (i n : ℕ) → count_by (λ x. bits_of x == bits_of e) xs ≡ 1
        → with_odd_powers ops e i (odd_power_sums ops (filter (λ x. not (bits_of x == bits_of e)) xs) i n) ≡ odd_power_sums ops xs i n
    unfolding odd_power_sums with_odd_powers
    odd_power_sums-once xs i zero h = refl
    odd_power_sums-once xs i (suc n) h = rw (power_sum-once (2 * i + 1) xs h, odd_power_sums-once xs (i + 1) n h) refl

-- ---- as numbers

module _ {A : Type 0} (ops : Ops A) (bits_of : A → ℕ) (width : ℕ) (ring : IsRing ops) (numbered : IsNumbered ops bits_of width) where
  -- the elements of numbers
  elements : (ns : List ℕ) → AllByRecursion (λ n. n < 2 ^ width) ns → (xs : List A) × (map bits_of xs ≡ ns)
  elements [] h = ([], refl)
  elements (n ∷ ns) h =
      let x = numbered.filled n h.0 in
      let xs = elements ns h.1 in
      (x.0 ∷ xs.0, ap (λ z. z ∷ map bits_of xs.0) x.1 ∙ ap (λ zs. n ∷ zs) xs.1)

  same_bits : (xs ys : List A) → map bits_of xs ≡ map bits_of ys → xs ≡ ys
  same_bits [] [] e = refl
  same_bits [] (y ∷ ys) e = cc
  same_bits (x ∷ xs) [] e = cc
  same_bits (x ∷ xs) (y ∷ ys) e =
      let heads : bits_of x ≡ bits_of y = cc in
      let tails : map bits_of xs ≡ map bits_of ys = cc in
      ap (λ z. z ∷ xs) (numbered.same x y heads) ∙ ap (λ zs. y ∷ zs) (same_bits xs ys tails)

  -- a number that stands once, put in
  pub toggled_in : (e : A) (ns : List ℕ) (c : ℕ) (sums : List A) → AllByRecursion (λ n. n < 2 ^ width) ns → count_by (λ n. n == bits_of e) ns ≡ 1
      → map bits_of sums ≡ sketch_at width (filter (λ n. not (n == bits_of e)) ns) c → map bits_of (with_odd_powers ops e 0 sums) ≡ sketch_at width ns c
  toggled_in e ns c sums small once are =
      let xs = elements ns small in
      let fewer = filter (λ x. not (bits_of x == bits_of e)) xs.0 in
      let those : sums ≡ sketch_by ops fewer c =
      same_bits sums (sketch_by ops fewer c)
      (are ∙ ap (λ zs. sketch_at width zs c) (ap (filter (λ n. not (n == bits_of e))) (sym xs.1) ∙ sym (filter-map bits_of (λ n. not (n == bits_of e)) xs.0)) ∙ sym (sketch_by-numbers ops bits_of width numbered fewer c)) in
      ap (λ zs. map bits_of (with_odd_powers ops e 0 zs)) those
      ∙ ap (map bits_of) (odd_power_sums-once ops ring bits_of numbered.same e xs.0 0 c (sym (count_by-map bits_of (λ n. n == bits_of e) xs.0) ∙ ap (count_by (λ n. n == bits_of e)) xs.1 ∙ once))
      ∙ sketch_by-numbers ops bits_of width numbered xs.0 c
      ∙ ap (λ zs. sketch_at width zs c) xs.1

  -- and taken out
  pub toggled_out : (e : A) (ns : List ℕ) (c : ℕ) (sums : List A) → AllByRecursion (λ n. n < 2 ^ width) ns → count_by (λ n. n == bits_of e) ns ≡ 1
      → map bits_of sums ≡ sketch_at width ns c → map bits_of (with_odd_powers ops e 0 sums) ≡ sketch_at width (filter (λ n. not (n == bits_of e)) ns) c
  toggled_out e ns c sums small once are =
      let xs = elements ns small in
      let fewer = filter (λ x. not (bits_of x == bits_of e)) xs.0 in
      let those : sums ≡ sketch_by ops xs.0 c =
      same_bits sums (sketch_by ops xs.0 c) (are ∙ ap (λ zs. sketch_at width zs c) (sym xs.1) ∙ sym (sketch_by-numbers ops bits_of width numbered xs.0 c)) in
      ap (λ zs. map bits_of (with_odd_powers ops e 0 zs)) those
      ∙ ap (λ zs. map bits_of (with_odd_powers ops e 0 zs)) (sym (odd_power_sums-once ops ring bits_of numbered.same e xs.0 0 c (sym (count_by-map bits_of (λ n. n == bits_of e) xs.0) ∙ ap (count_by (λ n. n == bits_of e)) xs.1 ∙ once)))
      ∙ ap (map bits_of) (with_odd_powers-twice ops ring e 0 (sketch_by ops fewer c))
      ∙ sketch_by-numbers ops bits_of width numbered fewer c
      ∙ ap (λ zs. sketch_at width zs c) (filter-map bits_of (λ n. not (n == bits_of e)) xs.0 ∙ ap (filter (λ n. not (n == bits_of e))) xs.1)

  -- one more at the end
  pub appended : (e : A) (ns : List ℕ) (c : ℕ) (sums : List A) → AllByRecursion (λ n. n < 2 ^ width) ns → map bits_of sums ≡ sketch_at width ns c
      → map bits_of (with_odd_powers ops e 0 sums) ≡ sketch_at width (ns ++ bits_of e ∷ []) c
  appended e ns c sums small are =
      let xs = elements ns small in
      let those : sums ≡ sketch_by ops xs.0 c =
      same_bits sums (sketch_by ops xs.0 c) (are ∙ ap (λ zs. sketch_at width zs c) (sym xs.1) ∙ sym (sketch_by-numbers ops bits_of width numbered xs.0 c)) in
      ap (λ zs. map bits_of (with_odd_powers ops e 0 zs)) those
      ∙ ap (map bits_of) (odd_power_sums-more ops ring xs.0 e 0 c)
      ∙ sketch_by-numbers ops bits_of width numbered (xs.0 ++ e ∷ []) c
      ∙ ap (λ zs. sketch_at width zs c) (map-append bits_of xs.0 (e ∷ []) ∙ ap (λ zs. zs ++ bits_of e ∷ []) xs.1)
