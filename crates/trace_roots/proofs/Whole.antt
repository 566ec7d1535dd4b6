-- The set that a sketch is of, as elements, and how it is found.
use Rattle.std.proofs.Common.{◌≡◌, ℕ, ◌+◌, ◌*◌, ◌^◌, ◌<◌, ◌≤◌, List, [], ◌∷◌, length, get_or, map, reverse, refl, sym, ap, subst, ◌∙◌, arith, Option, Some, None}
use Rattle.std.specs.Ordering.{nat_cmp, is_lt}
use Rattle.std.specs.declared.cmp.Ordering.{Ordering}
use Rattle.std.specs.List.Sorted.{IsNonDecreasingBy, IsPermutation, IsSorted}
use Rattle.std.proofs.lemmas.List.{length-map, get_or-map}
use Rattle.std.proofs.lemmas.List.Sorted.{IsNonDecreasingBy-from_sort, IsNonDecreasingBy-from_all_adjacent, IsPermutation-trans}
use Rattle.field_rules.specs.Ops.{Ops, IsRing}
use Rattle.field_rules.specs.Fields.{IsField}
use Rattle.field_rules.specs.Numbered.{IsNumbered}
use Rattle.sketch_rules.specs.PowerSums.{IsAllSums, power_sums, sketch_by}
use Rattle.sketch_rules.specs.Sketches.{sketch_at}
use Rattle.sketch_rules.specs.Answers.{IsAscending, Answer, answer_at, answer_at-some}
use Rattle.poly_rules.specs.Recurrences.{IsShortest}
use Rattle.field_laws.proofs.NumberedLists.{elements_of, same_elements}
use Rattle.sketch_laws.proofs.EverySums.{power_sums-only}
use Rattle.sketch_laws.proofs.Rising.{AllPairs-from_IsAscending, each_within}
use Rattle.sketch_laws.proofs.SketchNumbers.{sketch_by-numbers}
use Rattle.splitting_laws.proofs.Permutations.{ascending_only}
use Rattle.splitting_laws.proofs.Recurrences.{shortest_of_set}
use Rattle.poly_rules.specs.Roots.{with_roots}
use Rattle.trace_roots.specs.Parts.{IsSet}
use Rattle.trace_roots.proofs.Answering.{nonzero_of_rises, distinct_of_rises}

-- a list of no items
pub no_items : {A : Type 0} (xs : List A) → length xs ≡ 0 → xs ≡ []
no_items [] none = refl
no_items (x ∷ xs) none = absurd (omega (arith, none))

-- where no set answers there is no answer
pub no_answer : (width : ℕ) (sums : List ℕ) → ((es : List ℕ) → Answer width sums es → ⊥) → answer_at width sums ≡ None
no_answer width sums none = by (answer_at width sums) refl
  where
    by : (o : Option (List ℕ)) → answer_at width sums ≡ o → answer_at width sums ≡ None
    by (Some es) is = absurd (none es (answer_at-some width sums es is))
    by None is = is

-- what a sort by the field's order leaves doesn't fall
pub sorted_by_bits : {A : Type 0} (bits_of : A → ℕ) (cmp : A → A → Ordering) → ((a b : A) → cmp a b ≡ nat_cmp (bits_of a) (bits_of b)) → (xs : List A) → IsSorted cmp xs → IsNonDecreasingBy bits_of xs
sorted_by_bits bits_of cmp ordered xs sorted =
    IsNonDecreasingBy-from_sort bits_of xs (λ k d low high. ap is_lt (sym (ordered (get_or xs (k + 1) d) (get_or xs k d))) ∙ sorted k d low high)

-- a set of elements with the sums s, of at most half as many members
pub record HasSums {A : Type 0} (ops : Ops A) (bits_of : A → ℕ) (s : List A) (ns : List ℕ) : Type 0 where
  pub members : List A
  pub numbers : map bits_of members ≡ ns
  pub set : IsSet ops members
  pub few : 2 * length members ≤ length s
  pub sums : s ≡ power_sums ops members 1 (length s)
  pub ascending : IsNonDecreasingBy bits_of members

module _ {A : Type 0} (ops : Ops A) (ring : IsRing ops) (bits_of : A → ℕ) (width : ℕ) (field : IsField ops width) (numbered : IsNumbered ops bits_of width) where
  -- an answer over numbers is such a set
  pub set_of_answer : (m s : List A) (ns : List ℕ) → IsAllSums ops m s → Answer width (map bits_of m) ns → HasSums ops bits_of s ns
  set_of_answer m s ns all answer = record {
    members = es;
    numbers = is;
    set = record {
      distinct = distinct_of_rises ops bits_of width numbered es rises;
      nonzero = nonzero_of_rises ops bits_of width numbered es rises;
    };
    few = omega (arith, all.size, answer.few, ap length is, length-map es bits_of, length-map m bits_of);
    sums = power_sums-only ops ring es (length m) s (subst (λ z. IsAllSums ops z s) m_is all) ∙ ap (power_sums ops es 1) (sym all.size);
    ascending = IsNonDecreasingBy-from_all_adjacent bits_of es (λ k d lt. rises_next k d lt);
  }
    where
      found : (es : List A) × (map bits_of es ≡ ns)
      found = elements_of ops bits_of width numbered ns (λ k d lt. (each_within 1 (2 ^ width) ns answer.rises k d lt).1)

      es : List A
      es = found.0

      is : map bits_of es ≡ ns
      is = found.1

      rises : IsAscending 1 (2 ^ width) (map bits_of es)
      rises = subst (IsAscending 1 (2 ^ width)) (sym is) answer.rises

      rises_next : (k : ℕ) (d : A) → k + 1 < length es → bits_of (get_or es k d) ≤ bits_of (get_or es (k + 1) d)
      rises_next k d lt =
          let less : get_or (map bits_of es) k (bits_of d) < get_or (map bits_of es) (k + 1) (bits_of d) =
          AllPairs-from_IsAscending 1 (2 ^ width) (map bits_of es) rises k (k + 1) (bits_of d) (omega arith) (omega (arith, length-map es bits_of)) in
          omega (arith, less, get_or-map bits_of es k d (bits_of d) (omega arith), get_or-map bits_of es (k + 1) d (bits_of d) lt)

      m_is : m ≡ sketch_by ops es (length m)
      m_is =
          same_elements ops bits_of width numbered m (sketch_by ops es (length m))
          (sym answer.sketched
          ∙ ap (λ z. sketch_at width z (length (map bits_of m))) (sym is)
          ∙ ap (sketch_at width (map bits_of es)) (length-map m bits_of)
          ∙ sym (sketch_by-numbers ops bits_of width numbered es (length m)))

  -- its shortest recurrence is as long as the set is large, and has its polynomial
  pub locator_of_set : (es s cs : List A) → IsSet ops es → 2 * length es ≤ length s → s ≡ power_sums ops es 1 (length s) → IsShortest ops cs s
      → (length cs ≡ length es) × (reverse (ops.one ∷ cs) ≡ with_roots ops es)
  locator_of_set es s cs set few is shortest =
      shortest_of_set ops ring width field cs es (length s) set.distinct set.nonzero few (subst (IsShortest ops cs) is shortest)

  -- what was found, sorted, is the set
  pub found_is_set : (es xs ys : List A) → IsNonDecreasingBy bits_of es → IsPermutation es xs → IsPermutation xs ys → IsNonDecreasingBy bits_of ys → es ≡ ys
  found_is_set es xs ys ascending found sorted also = ascending_only bits_of numbered.same es ys ascending also (IsPermutation-trans es xs ys found sorted)
