-- What the search of a trace's sequence finds is a half of the set.
use Rattle.std.proofs.Common.{◌≡◌, ◌≢◌, ◌⊎◌, inl, inr, ℕ, ◌+◌, ◌-◌, ◌*◌, ◌^◌, ◌≤◌, Bool, true, false, not, List, ◌∷◌, length, take, drop, reverse, refl, sym, subst, ◌∙◌, arith}
use Rattle.std.specs.Prelude.{filter}
use Rattle.std.proofs.lemmas.List.Elements.{filter_agree}
use Rattle.field_rules.specs.Lists.{AreDistinct}
use Rattle.field_rules.specs.Ops.{Ops, IsRing}
use Rattle.field_rules.specs.Fields.{IsField, dot_of}
use Rattle.field_rules.specs.Numbered.{IsNumbered}
use Rattle.poly_rules.specs.Recurrences.{IsShortest}
use Rattle.poly_rules.specs.Roots.{with_roots}
use Rattle.splitting_laws.specs.Alike.{IsAlike}
use Rattle.splitting_laws.proofs.Parts.{parts-length}
use Rattle.sequence_laws.specs.Sequences.{IsUnit}
use Rattle.sequence_laws.specs.Parts.{IsTraceSequence, IsHalf}
use Rattle.sequence_laws.proofs.Steps.{has_one, alike_halves, halves_some, half_of_zero, half_of_one, half_of_all}

-- the others of the others are the part
pub others_twice : {A : Type 0} (q : A → Bool) (es : List A) → filter (λ e. not (not (q e))) es ≡ filter q es
others_twice q es = filter_agree (λ e. not (not (q e))) q (λ e. back (q e)) es
  where
    back : (c : Bool) → not (not c) ≡ c
    back true = refl
    back false = refl

module _ {A : Type 0} (ops : Ops A) (ring : IsRing ops) (bits_of : A → ℕ) (width : ℕ) (field : IsField ops width) (numbered : IsNumbered ops bits_of width) where
  module _ (exponent : ℕ) (b : A) (bits : bits_of b ≡ 2 ^ exponent) (u : A → A) (es : List A) (differ : AreDistinct es) (unit : IsUnit ops u es)
      (m : ℕ) (size : length es ≡ m + 1) (z : List A) (traced : IsTraceSequence ops bits_of width exponent u es z) (alike : IsAlike ops bits_of width exponent es)
      (cs : List A) (shortest : IsShortest ops cs (take m z)) where
    abbrev passes : A → Bool
    passes = has_one ops ring bits_of width field numbered exponent b bits u es differ unit m size z traced

    abbrev d : A
    d = dot_of ops (reverse (ops.one ∷ cs)) (drop (m - length cs) z)

    both : IsAlike ops bits_of width (exponent + 1) (filter passes es) × IsAlike ops bits_of width (exponent + 1) (filter (λ e. not (passes e)) es)
    both = alike_halves ops ring bits_of width field numbered exponent b bits u es differ unit m size z traced alike

    sizes : (length cs ≤ length (filter passes es)) × (length cs ≤ length (filter (λ e. not (passes e)) es))
    sizes = halves_some ops ring bits_of width field numbered exponent b bits u es differ unit m size z traced cs shortest

    part_half : (g : List A) → g ≡ with_roots ops (filter passes es) → 1 ≤ length (filter passes es) → 1 ≤ length (filter (λ e. not (passes e)) es) → IsHalf ops bits_of width (exponent + 1) es g
    part_half g is some rest = record {
      test = passes;
      polynomial = is;
      some = some;
      rest = rest;
      alike = both.0;
      rest_alike = both.1;
    }

    others_half : (g : List A) → g ≡ with_roots ops (filter (λ e. not (passes e)) es) → 1 ≤ length cs → IsHalf ops bits_of width (exponent + 1) es g
    others_half g is some = record {
      test = λ e. not (passes e);
      polynomial = is;
      some = omega (arith, some, sizes.1);
      rest = subst (λ xs. 1 ≤ length xs) (sym (others_twice passes es)) (omega (arith, some, sizes.0));
      alike = both.1;
      rest_alike = subst (IsAlike ops bits_of width (exponent + 1)) (sym (others_twice passes es)) both.0;
    }

    -- the recurrence of all items but the last, where it gives 0 or 1 at the last
    pub half_of_front : (g : List A) → 1 ≤ length cs → (d ≡ ops.zero) ⊎ (d ≡ ops.one) → g ≡ reverse (ops.one ∷ cs) → IsHalf ops bits_of width (exponent + 1) es g
    half_of_front g some (inl none) is =
        part_half g (is ∙ half_of_zero ops ring bits_of width field numbered exponent b bits u es differ unit m size z traced cs shortest none) (omega (arith, some, sizes.0)) (omega (arith, some, sizes.1))
    half_of_front g some (inr one) is = others_half g (is ∙ half_of_one ops ring bits_of width field numbered exponent b bits u es differ unit m size z traced cs shortest one) some

    -- else that of all items
    pub half_of_whole : (g ds : List A) → d ≢ ops.zero → d ≢ ops.one → IsShortest ops ds z → g ≡ reverse (ops.one ∷ ds) → IsHalf ops bits_of width (exponent + 1) es g
    half_of_whole g ds none one whole is =
        let found : (2 * length (filter passes es) ≡ m + 1) × (reverse (ops.one ∷ ds) ≡ with_roots ops (filter passes es)) =
        half_of_all ops ring bits_of width field numbered exponent b bits u es differ unit m size z traced cs shortest none one ds whole in
        part_half g (is ∙ found.1) (omega (arith, found.0)) (omega (arith, found.0, parts-length passes es, size))
