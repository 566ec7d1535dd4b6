-- The sum of two sketches is the sketch of the difference of the sets.
use Rattle.std.proofs.Common.{◌≡◌, inl, inr, ℕ, zero, suc, ◌+◌, ◌*◌, ◌==◌, Bool, true, false, not, ◌||◌, cond, List, [], ◌∷◌, ◌++◌, refl, sym, ap, ◌∙◌}
use Rattle.std.specs.Prelude.{nat_lt, filter}
use Rattle.std.specs.Int.Bits.{bit_xor, xor_self, xor_zero_l, xor_zero_r, xor_comm, xor_assoc}
use Rattle.std.proofs.lemmas.Bool.{eqb-true, eq-eqb, ne_eqb, cases_eq, cases_Bool, or_parts}
use Rattle.field_rules.specs.Ops.{power}
use Rattle.field_rules.specs.Elements.{numbers}
use Rattle.field_rules.specs.Lists.{AreDistinct, sums_of_both}
use Rattle.sketch_rules.specs.PowerSums.{power_sum, odd_power_sums}
use Rattle.sketch_rules.specs.Sets.{relative_complement, sorted_insertion, sorted_numbers, difference}
use Rattle.sketch_rules.specs.Sketches.{sketch_sum, sketch_at}
use Rattle.field_laws.proofs.Xors.{xor_swap}
use Rattle.sketch_laws.proofs.Sets.{has, Apart, Apart-from_AllPairs}

-- a test of equality either way round
same_either_way : (a b : ℕ) → (a == b) ≡ (b == a)
same_either_way a b = elim (cases_eq a b) [
  | inl e ↦ eq-eqb a b e ∙ sym (eq-eqb b a (sym e))
  | inr other ↦ ne_eqb a b other ∙ sym (ne_eqb b a (λ e. other (sym e)))
]

module _ (f : ℕ → ℕ) where
  -- the exclusive or of what f gives for each
  abbrev pub total : List ℕ → ℕ
  total [] = 0
  total (x ∷ xs) = bit_xor (f x) (total xs)

  -- two in front are exchanged
  total-swap : (a b c : ℕ) → bit_xor a (bit_xor b c) ≡ bit_xor b (bit_xor a c)
  total-swap a b c = sym (xor_assoc a b c) ∙ ap (λ z. bit_xor z c) (xor_comm a b) ∙ xor_assoc b a c

  total-append : (xs ys : List ℕ) → total (xs ++ ys) ≡ bit_xor (total xs) (total ys)
  total-append [] ys = sym (xor_zero_l (total ys))
  total-append (x ∷ xs) ys = ap (bit_xor (f x)) (total-append xs ys) ∙ sym (xor_assoc (f x) (total xs) (total ys))

  -- what a test keeps, and what it leaves out
  total-split : (t : ℕ → Bool) (xs : List ℕ) → total xs ≡ bit_xor (total (filter t xs)) (total (filter (λ x. not (t x)) xs))
  total-split t [] = sym (xor_zero_l 0)
  total-split t (x ∷ xs) =
      ap (bit_xor (f x)) (total-split t xs)
      ∙ (elim (t x) as (λ b. bit_xor (f x) (bit_xor (total (filter t xs)) (total (filter (λ y. not (t y)) xs))) ≡ bit_xor (total (cond b (x ∷ filter t xs) (filter t xs))) (total (cond (not b) (x ∷ filter (λ y. not (t y)) xs) (filter (λ y. not (t y)) xs)))) [
        | true ↦ sym (xor_assoc (f x) (total (filter t xs)) (total (filter (λ y. not (t y)) xs)))
        | false ↦ total-swap (f x) (total (filter t xs)) (total (filter (λ y. not (t y)) xs))
      ])

  total-sorted_insertion : (x : ℕ) (ys : List ℕ) → total (sorted_insertion x ys) ≡ bit_xor (f x) (total ys)
  unfolding sorted_insertion
  total-sorted_insertion x [] = refl
  total-sorted_insertion x (y ∷ ys) = elim (nat_lt x y) as (λ b. total (cond b (x ∷ y ∷ ys) (y ∷ sorted_insertion x ys)) ≡ bit_xor (f x) (bit_xor (f y) (total ys))) [
    | true ↦ refl
    | false ↦ ap (bit_xor (f y)) (total-sorted_insertion x ys) ∙ total-swap (f y) (f x) (total ys)
  ]

  total-sorted_numbers : (xs : List ℕ) → total (sorted_numbers xs) ≡ total xs
  unfolding sorted_numbers
  total-sorted_numbers [] = refl
  total-sorted_numbers (x ∷ xs) = total-sorted_insertion x (sorted_numbers xs) ∙ ap (bit_xor (f x)) (total-sorted_numbers xs)

  -- of what is kept for one of two reasons, each is kept for one of them alone
  total-either : (p q : ℕ → Bool) → ((y : ℕ) → p y ≡ true → q y ≡ false) → (ys : List ℕ) → total (filter (λ y. p y || q y) ys) ≡ bit_xor (total (filter p ys)) (total (filter q ys))
  total-either p q never [] = sym (xor_zero_l 0)
  total-either p q never (y ∷ ys) = at (p y) (q y) (never y) (total-either p q never ys)
    where
      at : (b c : Bool) → (b ≡ true → c ≡ false) → total (filter (λ z. p z || q z) ys) ≡ bit_xor (total (filter p ys)) (total (filter q ys))
          → total (cond (b || c) (y ∷ filter (λ z. p z || q z) ys) (filter (λ z. p z || q z) ys)) ≡ bit_xor (total (cond b (y ∷ filter p ys) (filter p ys))) (total (cond c (y ∷ filter q ys) (filter q ys)))
      at true true h rest = cc (h refl)
      at true false h rest = ap (bit_xor (f y)) rest ∙ sym (xor_assoc (f y) (total (filter p ys)) (total (filter q ys)))
      at false true h rest = ap (bit_xor (f y)) rest ∙ total-swap (f y) (total (filter p ys)) (total (filter q ys))
      at false false h rest = rest

  -- a test that fails everywhere keeps nothing
  total-none : (ys : List ℕ) → total (filter (λ y. false) ys) ≡ 0
  total-none [] = refl
  total-none (y ∷ ys) = total-none ys

  -- a number that the list lacks
  total-lacks : (x : ℕ) (ys : List ℕ) → has ys x ≡ false → total (filter (λ y. x == y) ys) ≡ 0
  total-lacks x [] h = refl
  total-lacks x (y ∷ ys) h =
      let parts = or_parts (y == x) (has ys x) h in
      let other : (x == y) ≡ false = same_either_way x y ∙ parts.0 in
      rw other (total-lacks x ys parts.1)

  -- one number of a list without repeats
  total-one : (x : ℕ) (ys : List ℕ) → Apart ys → total (filter (λ y. x == y) ys) ≡ cond (has ys x) (f x) 0
  total-one x [] h = refl
  total-one x (y ∷ ys) h = elim (cases_Bool (y == x)) [
    | inl same ↦
        let e : y ≡ x = eqb-true y x same in
        let here : (x == y) ≡ true = same_either_way x y ∙ same in
        rw (here, same) (ap (bit_xor (f y)) (total-lacks x ys (ap (has ys) (sym e) ∙ h.0)) ∙ xor_zero_r (f y) ∙ ap f e)
    | inr other ↦
        let away : (x == y) ≡ false = same_either_way x y ∙ other in
        rw (away, other) (total-one x ys h.1)
  ]

  -- what two lists without repeats have in common
  total-common : (xs ys : List ℕ) → Apart xs → Apart ys → total (filter (has ys) xs) ≡ total (filter (has xs) ys)
  total-common [] ys h k = sym (total-none ys)
  total-common (x ∷ xs) ys h k =
      (elim (has ys x) as (λ b. total (cond b (x ∷ filter (has ys) xs) (filter (has ys) xs)) ≡ bit_xor (cond b (f x) 0) (total (filter (has ys) xs))) [
        | true ↦ refl
        | false ↦ sym (xor_zero_l (total (filter (has ys) xs)))
      ])
      ∙ ap (λ z. bit_xor z (total (filter (has ys) xs))) (sym (total-one x ys k))
      ∙ ap (bit_xor (total (filter (λ y. x == y) ys))) (total-common xs ys h.1 k)
      ∙ sym (total-either (λ y. x == y) (has xs) (λ y same. ap (has xs) (sym (eqb-true x y same)) ∙ h.0) ys)

  -- the difference of two sets
  total-difference : (xs ys : List ℕ) → Apart xs → Apart ys → bit_xor (total xs) (total ys) ≡ total (difference xs ys)
  total-difference xs ys h k =
      ap (λ z. bit_xor z (total ys)) (total-split (has ys) xs)
      ∙ ap (bit_xor (bit_xor (total (filter (has ys) xs)) (total (relative_complement xs ys)))) (total-split (has xs) ys)
      ∙ xor_swap (total (filter (has ys) xs)) (total (relative_complement xs ys)) (total (filter (has xs) ys)) (total (relative_complement ys xs))
      ∙ ap (λ z. bit_xor z (bit_xor (total (relative_complement xs ys)) (total (relative_complement ys xs)))) (ap (λ z. bit_xor z (total (filter (has xs) ys))) (total-common xs ys h k) ∙ xor_self (total (filter (has xs) ys)))
      ∙ xor_zero_l (bit_xor (total (relative_complement xs ys)) (total (relative_complement ys xs)))
      ∙ sym (total-append (relative_complement xs ys) (relative_complement ys xs))
      ∙ sym (total-sorted_numbers (relative_complement xs ys ++ relative_complement ys xs))

-- a sum of powers
power_sum-total : (width k : ℕ) (es : List ℕ) → power_sum (numbers width) k es ≡ total (λ e. power (numbers width) e k) es
unfolding power_sum
power_sum-total width k [] = refl
power_sum-total width k (e ∷ es) = ap (bit_xor (power (numbers width) e k)) (power_sum-total width k es)

-- the sums of powers of two sets, added
pub power_sum-difference : (width k : ℕ) (xs ys : List ℕ) → Apart xs → Apart ys → bit_xor (power_sum (numbers width) k xs) (power_sum (numbers width) k ys) ≡ power_sum (numbers width) k (difference xs ys)
power_sum-difference width k xs ys h j =
    ap (λ z. bit_xor z (power_sum (numbers width) k ys)) (power_sum-total width k xs)
    ∙ ap (bit_xor (total (λ e. power (numbers width) e k) xs)) (power_sum-total width k ys)
    ∙ total-difference (λ e. power (numbers width) e k) xs ys h j
    ∙ sym (power_sum-total width k (difference xs ys))

-- the sums from index i on
sketch_sum-sums : (width : ℕ) (xs ys : List ℕ) (i n : ℕ) → Apart xs → Apart ys → sketch_sum (odd_power_sums (numbers width) xs i n) (odd_power_sums (numbers width) ys i n) ≡ odd_power_sums (numbers width) (difference xs ys) i n
unfolding sums_of_both odd_power_sums
sketch_sum-sums width xs ys i zero h k = refl
sketch_sum-sums width xs ys i (suc n) h k = rw (power_sum-difference width (2 * i + 1) xs ys h k, sketch_sum-sums width xs ys (i + 1) n h k) refl

-- the sum of two sketches of one capacity is the sketch of the difference of the sets
pub sketch_sum-sketches : (width : ℕ) (xs ys : List ℕ) (c : ℕ) → AreDistinct xs → AreDistinct ys → sketch_sum (sketch_at width xs c) (sketch_at width ys c) ≡ sketch_at width (difference xs ys) c
sketch_sum-sketches width xs ys c h k = sketch_sum-sums width xs ys 0 c (Apart-from_AllPairs xs h) (Apart-from_AllPairs ys k)
