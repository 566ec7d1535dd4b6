-- When elements that were tried are the answer.
use Rattle.std.proofs.Common.{◌≡◌, ◌≢◌, ℕ, ◌+◌, ◌*◌, ◌/◌, ◌^◌, ◌<◌, ◌≤◌, List, length, get_or, map, sym, ap, ◌∙◌, arith}
use Rattle.std.specs.List.{All}
use Rattle.std.proofs.lemmas.List.{length-map, get_or-map, get_or_default, ext_get_or}
use borrow.Author.Count.{below_more}
use Rattle.field_rules.specs.Ops.{Ops}
use Rattle.field_rules.specs.Numbered.{IsNumbered}
use Rattle.field_rules.specs.Lists.{AreDistinct}
use Rattle.sketch_rules.specs.PowerSums.{IsAllSums, sketch_by}
use Rattle.sketch_rules.specs.Sketches.{sketch_at}
use Rattle.sketch_rules.specs.Answers.{IsAscending, Answer}
use Rattle.poly_rules.specs.Polynomials.{coefficient}
use Rattle.field_laws.proofs.NumberedLists.{same_elements, distinct}
use Rattle.sketch_laws.proofs.EverySums.{length-odd_power_sums}
use Rattle.sketch_laws.proofs.Rising.{each_within, AllPairs-from_IsAscending}
use Rattle.sketch_laws.proofs.SketchNumbers.{sketch_by-numbers}
use Rattle.trace_roots.specs.Agreeing.{AreAtOddPowers}

module _ {A : Type 0} (ops : Ops A) where
  -- one sum more agrees
  pub agree_more : (odd sums : List A) (i : ℕ) (x y : A) → i < length odd → 2 * i < length sums → x ≡ get_or odd i x → y ≡ get_or sums (2 * i) y → x ≡ y
      → ((k : ℕ) → k < i → coefficient ops odd k ≡ coefficient ops sums (2 * k)) → (k : ℕ) → k < i + 1 → coefficient ops odd k ≡ coefficient ops sums (2 * k)
  agree_more odd sums i x y lt within odd_is sum_is same before =
      below_more (λ k. coefficient ops odd k ≡ coefficient ops sums (2 * k)) i before
      (get_or_default odd i ops.zero x lt ∙ sym odd_is ∙ same ∙ sum_is ∙ get_or_default sums (2 * i) y ops.zero within)

  -- how many sums of odd powers there are
  pub capacity_of : (m sums : List A) (c : ℕ) → IsAllSums ops m sums → c ≡ length sums / 2 → c ≡ length m
  capacity_of m sums c all is = omega (arith, all.size)

  -- the sums that agree are those
  pub same_sums : (m sums odd : List A) → IsAllSums ops m sums → length odd ≡ length m → AreAtOddPowers ops odd sums → odd ≡ m
  same_sums m sums odd all size agree =
      ext_get_or ops.zero odd m size (λ i lt. agree i lt ∙ all.odd i (omega arith))

  -- and those agree
  pub sums_agree : (m sums odd : List A) → IsAllSums ops m sums → odd ≡ m → AreAtOddPowers ops odd sums
  sums_agree m sums odd all same i lt =
      ap (λ z. get_or z i ops.zero) same ∙ sym (all.odd i (omega (arith, ap length same)))

module _ {A : Type 0} (ops : Ops A) (bits_of : A → ℕ) (width : ℕ) (numbered : IsNumbered ops bits_of width) where
  -- elements that rise are nonzero
  pub nonzero_of_rises : (es : List A) → IsAscending 1 (2 ^ width) (map bits_of es) → All (λ e. e ≢ ops.zero) es
  nonzero_of_rises es rises k d lt same =
      let within : 1 ≤ get_or (map bits_of es) k (bits_of d) = (each_within 1 (2 ^ width) (map bits_of es) rises k (bits_of d) (omega (arith, length-map es bits_of))).0 in
      omega (arith, get_or-map bits_of es k d (bits_of d) lt, ap bits_of same, numbered.zero_bits)

  -- and distinct
  pub distinct_of_rises : (es : List A) → IsAscending 1 (2 ^ width) (map bits_of es) → AreDistinct es
  distinct_of_rises es rises = distinct ops bits_of width numbered es (AllPairs-from_IsAscending 1 (2 ^ width) (map bits_of es) rises)

  module _ (m es sums odd : List A) (c : ℕ) (all : IsAllSums ops m sums) (capacity : c ≡ length sums / 2) where
    -- elements that pass are an answer
    pub answer_of_sums : length es ≤ c → IsAscending 1 (2 ^ width) (map bits_of es) → odd ≡ sketch_by ops es c → AreAtOddPowers ops odd sums
        → Answer width (map bits_of m) (map bits_of es)
    answer_of_sums few rises is agree = record {
      rises = rises;
      few = omega (arith, few, size, length-map es bits_of, length-map m bits_of);
      sketched =
          ap (sketch_at width (map bits_of es)) (length-map m bits_of ∙ sym size)
          ∙ sym (sketch_by-numbers ops bits_of width numbered es c)
          ∙ ap (map bits_of) (sym is ∙ same_sums ops m sums odd all (ap length is ∙ length-odd_power_sums ops es 0 c ∙ size) agree);
    }
      where
        size : c ≡ length m
        size = capacity_of ops m sums c all capacity

    -- and an answer passes
    pub answer_agrees : Answer width (map bits_of m) (map bits_of es) → odd ≡ sketch_by ops es c → AreAtOddPowers ops odd sums
    answer_agrees answer is =
        sums_agree ops m sums odd all (is ∙ same_elements ops bits_of width numbered (sketch_by ops es c) m
        (sketch_by-numbers ops bits_of width numbered es c
        ∙ ap (sketch_at width (map bits_of es)) (capacity_of ops m sums c all capacity ∙ sym (length-map m bits_of))
        ∙ answer.sketched))
