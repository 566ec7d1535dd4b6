-- The bytes of the sketches of two sets, read and decoded.
use Rattle.std.proofs.Common.{◌≡◌, inl, inr, ℕ, ◌^◌, ◌<◌, ◌≤◌, List, length, Result, Ok, Err, Option, Some, MatchResult, refl, sym, ap, subst, ◌∙◌, if◌then◌else◌}
use Rattle.std.specs.List.{All}
use Rattle.std.proofs.lemmas.Bool.{eq-eqb}
use Rattle.field_rules.specs.Ops.{Ops, IsRing}
use Rattle.field_rules.specs.Fields.{IsField}
use Rattle.field_rules.specs.Numbered.{IsNumbered}
use Rattle.field_rules.specs.Lists.{AreDistinct}
use Rattle.sketch_rules.specs.Sets.{difference}
use Rattle.sketch_rules.specs.Sketches.{IsCapacity, bytes_of, sketch_sum, sketch_of}
use Rattle.sketch_rules.specs.Answers.{answer_of}
use Rattle.sketch_laws.proofs.Differences.{length-sketch_at, of_difference}
use Rattle.sketch_laws.proofs.Merging.{sketch_sum-sketches}
use Rattle.sketch_core.specs.Answered.{decoded_numbers}
use Rattle.sketch_core.specs.declared.decoded.Decoded.{Decoded}
use Rattle.sketch_bytes.specs.Reading.{sums_of_bytes}
use Rattle.sketch_bytes.proofs.Reading.{read-bytes_of}
use Rattle.sketch_bytes.proofs.Sketches.{sketch_small}
use Rattle.trace_roots.proofs.Decoded.{differs}
use Rattle.set_difference.specs.Answers.{IsAnswered, decoded, read_sum, sum_of_both}
use Rattle.set_difference.specs.declared.fault.DifferenceFault.TheVariants as difference_fault

-- of a call that answers a set: it is found, or memory is wanted
pub answered_found : {A E : Type 0} (bits_of : A → ℕ) (want : E) (answer : Result (Option (List ℕ)) E) (es : List ℕ) (result : Result (Decoded A) E) → answer ≡ Ok (Some es)
    → IsAnswered bits_of want answer result → MatchResult result (λ found. decoded_numbers bits_of found ≡ Some es) (λ fault. fault ≡ want)
answered_found bits_of want answer es (Ok found) is h = let both : Ok (decoded_numbers bits_of found) ≡ Ok (Some es) = sym h ∙ is in cc
answered_found bits_of want answer es (Err fault) is (inl e) = e
answered_found bits_of want answer es (Err fault) is (inr e) = cc

module _ {A : Type 0} (ops : Ops A) (ring : IsRing ops) (bits_of : A → ℕ) (width : ℕ) (field : IsField ops width) (numbered : IsNumbered ops bits_of width) (is_32 : width ≡ 32)
    (xs ys : List ℕ) (c : ℕ) (in_xs : All (λ e. (0 < e) × (e < 2 ^ 32)) xs) (in_ys : All (λ e. (0 < e) × (e < 2 ^ 32)) ys) (apart_xs : AreDistinct xs) (apart_ys : AreDistinct ys)
    (capacity : IsCapacity c) (few : length (difference xs ys) ≤ c) where
  numbered_32 : IsNumbered ops bits_of 32
  numbered_32 = subst (IsNumbered ops bits_of) is_32 numbered

  -- the sum of the sketches answers the difference
  found : answer_of (sketch_sum (sketch_of xs c) (sketch_of ys c)) ≡ Some (difference xs ys)
  found =
      differs ops ring bits_of 32 (subst (IsField ops) is_32 field) numbered_32 (answer_of (sketch_sum (sketch_of xs c) (sketch_of ys c))) (sketch_sum (sketch_of xs c) (sketch_of ys c)) xs ys c
      refl in_xs in_ys apart_xs apart_ys few refl

  -- the bytes of a sketch are read as its sums
  sketch_read : (es : List ℕ) → All (λ e. (0 < e) × (e < 2 ^ 32)) es → sums_of_bytes (bytes_of (sketch_of es c)) ≡ Ok (sketch_of es c)
  sketch_read es members =
      read-bytes_of (sketch_of es c) (rw (length-sketch_at 32 es c) capacity)
      (sketch_small ops bits_of 32 numbered_32 es c (λ k d within. (members k d within).1))

  -- those of the sum
  pub sum_decoded : decoded (sums_of_bytes (bytes_of (sketch_sum (sketch_of xs c) (sketch_of ys c)))) ≡ Ok (Some (difference xs ys))
  sum_decoded =
      ap (λ sums. decoded (sums_of_bytes (bytes_of sums))) is_sketch
      ∙ ap decoded (sketch_read (difference xs ys) (of_difference (λ e. (0 < e) × (e < 2 ^ 32)) xs ys in_xs in_ys))
      ∙ ap (λ sums. Ok (answer_of sums)) (sym is_sketch)
      ∙ ap Ok found
    where
      is_sketch : sketch_sum (sketch_of xs c) (sketch_of ys c) ≡ sketch_of (difference xs ys) c
      is_sketch = sketch_sum-sketches 32 xs ys c apart_xs apart_ys

  -- and those of both
  pub both_decoded : decoded (read_sum (bytes_of (sketch_of xs c)) (bytes_of (sketch_of ys c))) ≡ Ok (Some (difference xs ys))
  both_decoded =
      ap (λ r. decoded (sum_of_both r (sums_of_bytes (bytes_of (sketch_of ys c))))) (sketch_read xs in_xs)
      ∙ ap (λ r. decoded (sum_of_both (Ok (sketch_of xs c)) r)) (sketch_read ys in_ys)
      ∙ ap (λ same. decoded (if same then Ok (sketch_sum (sketch_of xs c) (sketch_of ys c)) else Err difference_fault.LengthsDiffer)) (eq-eqb (length (sketch_of xs c)) (length (sketch_of ys c)) (length-sketch_at 32 xs c ∙ sym (length-sketch_at 32 ys c)))
      ∙ ap Ok found
