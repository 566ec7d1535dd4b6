-- Splitting by the trace of the product with one basis element after the other, up to the end of the basis.
use Rattle.std.proofs.Common.{◌≡◌, ◌≢◌, ◌⊎◌, inl, inr, ℕ, ◌+◌, ◌^◌, ◌<◌, ◌≤◌, Bool, List, [], ◌∷◌, length, get_or, sym, ap, ◌∙◌, arith}
use Rattle.std.specs.Prelude.{filter}
use Rattle.std.specs.List.{All, AllPairs}
use Rattle.std.proofs.lemmas.List.Kept.{AllPairs-filter}
use Rattle.field_rules.specs.Ops.{Ops}
use Rattle.field_rules.specs.Fields.{IsSeparatedByTrace, trace_of}
use Rattle.field_rules.specs.Numbered.{IsNumbered}
use Rattle.field_rules.specs.Lists.{AreDistinct}
use Rattle.splitting_laws.specs.Alike.{IsAlike}

module _ {A : Type 0} (ops : Ops A) (bits_of : A → ℕ) (n : ℕ) where
  -- nothing is asked at first
  pub alike_first : (es : List A) → IsAlike ops bits_of n 0 es
  alike_first es = record { each = λ i b lt is. absurd (omega arith) }

  -- what is left of a set is alike where the set is
  pub alike_part : (j : ℕ) (p : A → Bool) (es : List A) → IsAlike ops bits_of n j es → IsAlike ops bits_of n j (filter p es)
  alike_part j p es alike = record {
    each = λ i b lt is. AllPairs-filter (λ x y. trace_of ops n (ops.times b x) ≡ trace_of ops n (ops.times b y)) p es (alike.each i b lt is);
  }

  -- at the end of the basis no two members are left
  pub alike_end : ((a b : A) → a ≢ b → IsSeparatedByTrace ops bits_of n a b) → (es : List A) → AreDistinct es → IsAlike ops bits_of n n es → length es ≤ 1
  alike_end separates [] differ alike = omega arith
  alike_end separates (a ∷ []) differ alike = omega arith
  alike_end separates (a ∷ b ∷ es) differ alike =
      let apart : IsSeparatedByTrace ops bits_of n a b = separates a b (differ 0 1 a (omega arith) (omega arith)) in
      absurd (apart.differ (alike.each apart.exponent apart.by apart.below apart.bits 0 1 a (omega arith) (omega arith)))

  module _ (width : ℕ) (numbered : IsNumbered ops bits_of width) where
    -- one basis element more, where all members have one trace
    pub alike_more : (j : ℕ) (b c : A) (es : List A) → bits_of b ≡ 2 ^ j → All (λ e. trace_of ops n (ops.times b e) ≡ c) es → IsAlike ops bits_of n j es → IsAlike ops bits_of n (j + 1) es
    alike_more j b c es is one alike = record { each = λ i a lt bits. by_index i a bits (cases i j lt) }
      where
        cases : (i j : ℕ) → i < j + 1 → (i < j) ⊎ (i ≡ j)
        cases i j lt = grind arith

        by_index : (i : ℕ) (a : A) → bits_of a ≡ 2 ^ i → (i < j) ⊎ (i ≡ j) → AllPairs (λ x y. trace_of ops n (ops.times a x) ≡ trace_of ops n (ops.times a y)) es
        by_index i a bits (inl below) = alike.each i a below bits
        by_index i a bits (inr here) = λ k l d below within.
            (let same : a ≡ b = numbered.same a b (bits ∙ ap (λ z. 2 ^ z) here ∙ sym is) in
            ap (λ z. trace_of ops n (ops.times z (get_or es k d))) same
            ∙ one k d (omega arith)
            ∙ sym (one l d within)
            ∙ ap (λ z. trace_of ops n (ops.times z (get_or es l d))) (sym same))
