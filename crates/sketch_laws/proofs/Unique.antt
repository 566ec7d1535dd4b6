-- A sketch has at most one answer.
use Rattle.std.proofs.Common.{◌≡◌, ◌≢◌, ◌⊎◌, ℕ, suc, ◌+◌, ◌*◌, ◌^◌, ◌<◌, ◌≤◌, List, [], ◌∷◌, length, get_or, map, refl, sym, ap, subst, ◌∙◌, arith}
use Rattle.std.specs.Prelude.{◌↔◌, Option, Some, None}
use Rattle.std.specs.Int.Bits.{bit_xor, xor_self}
use Rattle.std.specs.List.{All, AllPairs}
use Rattle.std.proofs.lemmas.List.{length-map, get_or-map}
use Rattle.field_rules.specs.Ops.{Ops, IsRing}
use Rattle.field_rules.specs.Elements.{numbers}
use Rattle.field_rules.specs.Fields.{IsField}
use Rattle.field_rules.specs.Numbered.{IsNumbered}
use Rattle.field_rules.specs.Lists.{AreDistinct}
use Rattle.sketch_rules.specs.PowerSums.{power_sum, sketch_by}
use Rattle.sketch_rules.specs.Sets.{difference}
use Rattle.sketch_rules.specs.Sketches.{sketch_at}
use Rattle.sketch_rules.specs.Answers.{IsAscending, Answer, answer_at, answer_at-some, answer_at-none}
use Rattle.field_laws.specs.Certified.{Certificate}
use Rattle.field_laws.proofs.FieldOfNumbers.{bits_of, field, numbered, ops, ring}
use Rattle.field_laws.proofs.NumberedLists.{elements_of, same_elements, distinct}
use Rattle.field_laws.proofs.Weights.{lone_weight}
use Rattle.sketch_laws.proofs.EverySums.{sums_zero, get_or-odd_power_sums, length-odd_power_sums}
use Rattle.sketch_laws.proofs.Merging.{power_sum-difference}
use Rattle.sketch_laws.proofs.NumberedLists.{IsAscending-bits}
use Rattle.sketch_laws.proofs.Rising.{each_within, same_rising, AllPairs-from_IsAscending, differ_from_rises, IsAscending-difference}
use Rattle.sketch_laws.proofs.Sets.{Apart, Apart-from_AllPairs, difference_within, same_where_no_difference}
use Rattle.sketch_laws.proofs.SketchNumbers.{power_sum-numbers, sketch_by-numbers}
use Rattle.sketch_laws.proofs.Weights.{weighted-own}

module _ {A : Type 0} (ops : Ops A) (ring : IsRing ops) (no_zero_divisor : (a b : A) → ops.times a b ≡ ops.zero → (a ≡ ops.zero) ⊎ (b ≡ ops.zero)) where
  -- of at most 2c distinct elements whose sums of odd powers below 2c are zero, each is zero
  pub all_zero : (es : List A) (c : ℕ) → AreDistinct es → length es ≤ 2 * c → ((i : ℕ) → i < c → power_sum ops (2 * i + 1) es ≡ ops.zero)
      → (i : ℕ) (d : A) → i < length es → get_or es i d ≡ ops.zero
  all_zero es c differ few none =
      lone_weight ops ring no_zero_divisor (λ e. e) es differ
      (λ k lt. weighted-own ops ring k es ∙ sums_zero ops ring es c none (suc k) (omega arith) (omega arith))

module _ {A : Type 0} (ops : Ops A) (bits_of : A → ℕ) (width : ℕ) (ring : IsRing ops) (field : IsField ops width) (numbered : IsNumbered ops bits_of width) where
  -- at most 2c nonzero numbers with such sums are none at all
  no_numbers : (ns : List ℕ) (c : ℕ) → IsAscending 1 (2 ^ width) ns → length ns ≤ 2 * c
      → ((i : ℕ) → i < c → power_sum (numbers width) (2 * i + 1) ns ≡ 0) → ns ≡ []
  no_numbers [] c rises few none = refl
  no_numbers (n ∷ ns) c rises few none =
      absurd (omega (arith, (each_within 1 (2 ^ width) (n ∷ ns) rises 0 n (omega arith)).0, no_head))
    where
      made : (es : List A) × (map bits_of es ≡ n ∷ ns)
      made = elements_of ops bits_of width numbered (n ∷ ns) (λ k d lt. (each_within 1 (2 ^ width) (n ∷ ns) rises k d lt).1)

      size : length made.0 ≡ length (n ∷ ns)
      size = sym (length-map made.0 bits_of) ∙ ap length made.1

      sums : (i : ℕ) → i < c → power_sum ops (2 * i + 1) made.0 ≡ ops.zero
      sums i lt = numbered.same (power_sum ops (2 * i + 1) made.0) ops.zero
          (power_sum-numbers ops bits_of width numbered (2 * i + 1) made.0
          ∙ ap (power_sum (numbers width) (2 * i + 1)) made.1
          ∙ none i lt
          ∙ sym numbered.zero_bits)

      differ : AreDistinct made.0
      differ = distinct ops bits_of width numbered made.0 (subst (AllPairs (λ a b. a < b)) (sym made.1) (AllPairs-from_IsAscending 1 (2 ^ width) (n ∷ ns) rises))

      no_head : n ≡ 0
      no_head =
          ap (λ ms. get_or ms 0 (bits_of ops.zero)) (sym made.1)
          ∙ get_or-map bits_of made.0 0 ops.zero (bits_of ops.zero) (omega (arith, size))
          ∙ ap bits_of (all_zero ops ring field.no_zero_divisor made.0 c differ (omega (arith, size)) sums 0 ops.zero (omega (arith, size)))
          ∙ numbered.zero_bits

  -- the sums of an answer
  answer_sums : (sums es : List ℕ) → Answer width sums es → (i : ℕ) → i < length sums → power_sum (numbers width) (2 * i + 1) es ≡ get_or sums i 0
  answer_sums sums es answer i lt =
      sym (get_or-odd_power_sums (numbers width) es 0 (length sums) i 0 lt ∙ ap (λ k. power_sum (numbers width) k es) (omega arith))
      ∙ ap (λ ms. get_or ms i 0) answer.sketched

  -- two answers have no difference
  no_difference : (sums xs ys : List ℕ) → Answer width sums xs → Answer width sums ys → difference xs ys ≡ []
  no_difference sums xs ys first second =
      no_numbers (difference xs ys) (length sums) (IsAscending-difference 1 (2 ^ width) xs ys first.rises second.rises)
      (omega (arith, difference_within xs ys, first.few, second.few))
      (λ i lt. sym (power_sum-difference width (2 * i + 1) xs ys (apart xs first) (apart ys second))
      ∙ ap (λ z. bit_xor z (power_sum (numbers width) (2 * i + 1) ys)) (answer_sums sums xs first i lt)
      ∙ ap (bit_xor (get_or sums i 0)) (answer_sums sums ys second i lt)
      ∙ xor_self (get_or sums i 0))
    where
      apart : (es : List ℕ) → Answer width sums es → Apart es
      apart es answer = Apart-from_AllPairs es (differ_from_rises 1 (2 ^ width) es answer.rises)

  -- a sketch has at most one answer
  pub answer_unique : (sums xs ys : List ℕ) → Answer width sums xs → Answer width sums ys → xs ≡ ys
  answer_unique sums xs ys first second =
      same_rising 1 (2 ^ width) xs ys first.rises second.rises (same_where_no_difference xs ys (no_difference sums xs ys first second))

  -- and where it has one, that is the answer
  pub answer_at-is : (sums es : List ℕ) → Answer width sums es → answer_at width sums ≡ Some es
  answer_at-is sums es answer = found (answer_at width sums) refl
    where
      found : (r : Option (List ℕ)) → answer_at width sums ≡ r → answer_at width sums ≡ Some es
      found None none = absurd (answer_at-none width sums none es answer)
      found (Some ds) some = some ∙ ap Some (answer_unique sums ds es (answer_at-some width sums ds some) answer)

  -- ---- over the elements themselves

  -- a set of elements answers its sketch
  pub answer_of_elements : (es : List A) (c : ℕ) → AllPairs (λ a b. bits_of a < bits_of b) es → All (λ a. a ≢ ops.zero) es → length es ≤ c
      → Answer width (map bits_of (sketch_by ops es c)) (map bits_of es)
  answer_of_elements es c rises nonzero few = record {
    rises = IsAscending-bits ops bits_of width numbered es rises nonzero;
    few = omega (arith, length-map es bits_of, size);
    sketched = ap (sketch_at width (map bits_of es)) size ∙ sym (sketch_by-numbers ops bits_of width numbered es c);
  }
    where
      size : length (map bits_of (sketch_by ops es c)) ≡ c
      size = length-map (sketch_by ops es c) bits_of ∙ length-odd_power_sums ops es 0 c

  -- two sets of elements with the same sketch are the same
  pub elements_unique : (c : ℕ) (xs ys : List A) → AllPairs (λ a b. bits_of a < bits_of b) xs → AllPairs (λ a b. bits_of a < bits_of b) ys → All (λ a. a ≢ ops.zero) xs → All (λ a. a ≢ ops.zero) ys
      → length xs ≤ c → length ys ≤ c → sketch_by ops xs c ≡ sketch_by ops ys c → xs ≡ ys
  elements_unique c xs ys xs_rise ys_rise xs_nonzero ys_nonzero xs_few ys_few same =
      same_elements ops bits_of width numbered xs ys
      (answer_unique (map bits_of (sketch_by ops xs c)) (map bits_of xs) (map bits_of ys) (answer_of_elements xs c xs_rise xs_nonzero xs_few)
      (subst (λ ms. Answer width (map bits_of ms) (map bits_of ys)) (sym same) (answer_of_elements ys c ys_rise ys_nonzero ys_few)))

-- ---- over numbers alone

-- at a width that passes the tests a sketch has at most one answer
pub numbers_unique : (width : ℕ) → Certificate width → (sums xs ys : List ℕ) → Answer width sums xs → Answer width sums ys → xs ≡ ys
numbers_unique width certified =
    answer_unique (ops width certified.is_width) (bits_of width) width (ring width certified.is_width) (field width certified) (numbered width certified.is_width)

-- which is what answer_at gives, exactly where there is one
pub answer_at-exactly : (width : ℕ) → Certificate width → (sums es : List ℕ) → (answer_at width sums ≡ Some es) ↔ Answer width sums es
answer_at-exactly width certified sums es = (
  answer_at-some width sums es,
  answer_at-is (ops width certified.is_width) (bits_of width) width (ring width certified.is_width) (field width certified) (numbered width certified.is_width) sums es,
)
