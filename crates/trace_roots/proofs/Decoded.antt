-- What it means to answer the answer to a sketch.
use Rattle.std.proofs.Common.{◌≡◌, ◌↔◌, ℕ, ◌^◌, ◌<◌, ◌≤◌, List, length, map, sym, subst, ◌∙◌, arith, Option, Some, None}
use Rattle.std.specs.List.{All}
use Rattle.field_rules.specs.Ops.{Ops, IsRing}
use Rattle.field_rules.specs.Fields.{IsField}
use Rattle.field_rules.specs.Numbered.{IsNumbered}
use Rattle.field_rules.specs.Lists.{AreDistinct}
use Rattle.sketch_rules.specs.PowerSums.{IsAllSums}
use Rattle.sketch_rules.specs.Sets.{difference}
use Rattle.sketch_rules.specs.Sketches.{sketch_sum, sketch_at}
use Rattle.sketch_rules.specs.Answers.{Answer, answer_at, answer_at-some}
use Rattle.poly_rules.specs.Recurrences.{IsShortest}
use Rattle.sketch_laws.proofs.Differences.{difference_answers}
use Rattle.sketch_laws.proofs.Unique.{answer_at-is}
use Rattle.trace_roots.proofs.Whole.{HasSums, no_answer, set_of_answer, locator_of_set}

module _ {A : Type 0} (ops : Ops A) (ring : IsRing ops) (bits_of : A → ℕ) (width : ℕ) (field : IsField ops width) (numbered : IsNumbered ops bits_of width) where
  -- a set is answered exactly where it has the sketch
  pub exactly : (o : Option (List ℕ)) (m es : List ℕ) → o ≡ answer_at width m → (o ≡ Some es) ↔ Answer width m es
  exactly o m es is = (λ found. answer_at-some width m es (sym is ∙ found), λ answer. is ∙ answer_at-is ops bits_of width ring field numbered m es answer)

  -- the difference of two sets is what their merged sketches answer
  pub differs : (o : Option (List ℕ)) (m xs ys : List ℕ) (c : ℕ) → o ≡ answer_at width m → All (λ e. (0 < e) × (e < 2 ^ width)) xs → All (λ e. (0 < e) × (e < 2 ^ width)) ys
      → AreDistinct xs → AreDistinct ys → length (difference xs ys) ≤ c → m ≡ sketch_sum (sketch_at width xs c) (sketch_at width ys c) → o ≡ Some (difference xs ys)
  differs o m xs ys c is in_xs in_ys apart_xs apart_ys few sums =
      is ∙ answer_at-is ops bits_of width ring field numbered m (difference xs ys)
      (subst (λ z. Answer width z (difference xs ys)) (sym sums) (difference_answers width xs ys c in_xs in_ys apart_xs apart_ys few))

  -- where the shortest recurrence is longer than the capacity, no set answers
  pub too_long : (m s cs : List A) → IsAllSums ops m s → IsShortest ops cs s → length m < length cs → answer_at width (map bits_of m) ≡ None
  too_long m s cs all shortest long =
      no_answer width (map bits_of m)
      (λ ns answer.
      let sums : HasSums ops bits_of s ns = set_of_answer ops ring bits_of width field numbered m s ns all answer in
      absurd (omega (arith, long, all.size, sums.few, (locator_of_set ops ring bits_of width field numbered sums.members s cs sums.set sums.few sums.sums shortest).0)))
