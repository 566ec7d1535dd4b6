-- How a search tells a half of a set, where it has read all items of a trace's sequence but the last.
use Rattle.std.proofs.Common.{◌≡◌, ◌≢◌, ◌⊎◌, inl, inr, ℕ, ◌+◌, ◌-◌, ◌^◌, ◌≤◌, List, ◌∷◌, length, take, drop, reverse, sym, ap, subst, ◌∙◌, arith}
use Rattle.std.proofs.lemmas.List.{take_all}
use Rattle.field_rules.specs.Lists.{AreDistinct}
use Rattle.field_rules.specs.Ops.{Ops, IsRing}
use Rattle.field_rules.specs.Fields.{IsField, dot_of}
use Rattle.field_rules.specs.Numbered.{IsNumbered}
use Rattle.poly_rules.specs.Recurrences.{IsShortest}
use Rattle.splitting_laws.specs.Alike.{IsAlike}
use Rattle.sequence_laws.specs.Sequences.{IsUnit}
use Rattle.sequence_laws.specs.Parts.{IsTraceSequence, IsHalf}
use Rattle.sequence_laws.proofs.Steps.{alike_still}
use Rattle.sequence_laws.proofs.Found.{half_of_front, half_of_whole}

module _ {A : Type 0} (ops : Ops A) (ring : IsRing ops) (bits_of : A → ℕ) (width : ℕ) (field : IsField ops width) (numbered : IsNumbered ops bits_of width) where
  -- the items that the search has are z, and it has read all but one
  module _ (z items cs : List A) (read : ℕ) (last : A) (some : 1 ≤ length z) (items_is : items ≡ z) (read_is : read ≡ length z - 1) (shortest : IsShortest ops cs (take read items))
      (last_is : last ≡ dot_of ops (reverse (ops.one ∷ cs)) (drop (read - length cs) items)) where
    of_front : IsShortest ops cs (take (length z - 1) z)
    of_front = subst (λ s. IsShortest ops cs (take (length z - 1) s)) items_is (subst (λ k. IsShortest ops cs (take k items)) read_is shortest)

    at_last : last ≡ dot_of ops (reverse (ops.one ∷ cs)) (drop (length z - 1 - length cs) z)
    at_last =
        last_is
        ∙ ap (λ k. dot_of ops (reverse (ops.one ∷ cs)) (drop (k - length cs) items)) read_is
        ∙ ap (λ s. dot_of ops (reverse (ops.one ∷ cs)) (drop (length z - 1 - length cs) s)) items_is

    module _ (exponent : ℕ) (b : A) (u : A → A) (es : List A) (bits : bits_of b ≡ 2 ^ exponent) (differ : AreDistinct es) (unit : IsUnit ops u es) (size : length es ≡ length z)
        (traced : IsTraceSequence ops bits_of width exponent u es z) (alike : IsAlike ops bits_of width exponent es) where
      fits : length es ≡ length z - 1 + 1
      fits = omega (arith, size, some)

      pub told_none : length cs ≡ 0 → IsAlike ops bits_of width (exponent + 1) es
      told_none none = alike_still ops ring bits_of width field numbered exponent b bits u es differ unit (length z - 1) fits z traced cs of_front none alike

      pub told_by_front : (g : List A) → 1 ≤ length cs → (last ≡ ops.zero) ⊎ (last ≡ ops.one) → g ≡ reverse (ops.one ∷ cs) → IsHalf ops bits_of width (exponent + 1) es g
      told_by_front g long bit is = half_of_front ops ring bits_of width field numbered exponent b bits u es differ unit (length z - 1) fits z traced alike cs of_front g long (at_end bit) is
        where
          at_end : (last ≡ ops.zero) ⊎ (last ≡ ops.one)
              → (dot_of ops (reverse (ops.one ∷ cs)) (drop (length z - 1 - length cs) z) ≡ ops.zero) ⊎ (dot_of ops (reverse (ops.one ∷ cs)) (drop (length z - 1 - length cs) z) ≡ ops.one)
          at_end (inl none) = inl (sym at_last ∙ none)
          at_end (inr one) = inr (sym at_last ∙ one)

      pub told_by_whole : (g ds s : List A) (k : ℕ) → last ≢ ops.zero → last ≢ ops.one → k ≡ length z → s ≡ z → IsShortest ops ds (take k s) → g ≡ reverse (ops.one ∷ ds) → IsHalf ops bits_of width (exponent + 1) es g
      told_by_whole g ds s k none one all s_is whole is =
          half_of_whole ops ring bits_of width field numbered exponent b bits u es differ unit (length z - 1) fits z traced alike cs of_front g ds
          (λ e. none (at_last ∙ e)) (λ e. one (at_last ∙ e))
          (subst (IsShortest ops ds) (ap (take k) s_is ∙ take_all k z (omega (arith, all))) whole) is
