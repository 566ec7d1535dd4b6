-- The bits of elements that rise.
use Rattle.std.proofs.Common.{◌≡◌, ◌≢◌, ◌⊎◌, inl, inr, ℕ, ◌^◌, ◌<◌, ◌≤◌, List, length, get_or, map, sym, ◌∙◌, arith}
use Rattle.std.specs.List.{All, AllPairs}
use Rattle.std.proofs.lemmas.Bool.{cases_eq}
use Rattle.std.proofs.lemmas.List.{length-map, get_or-map}
use Rattle.std.proofs.lemmas.List.Elements.{All-map}
use Rattle.field_rules.specs.Ops.{Ops}
use Rattle.field_rules.specs.Numbered.{IsNumbered}
use Rattle.sketch_rules.specs.Answers.{IsAscending}
use Rattle.sketch_laws.proofs.Rising.{IsAscending-from_AllPairs}

module _ {A : Type 0} (ops : Ops A) (bits_of : A → ℕ) (width : ℕ) (numbered : IsNumbered ops bits_of width) where
  -- an element other than zero has a bit
  has_bit : (a : A) → a ≢ ops.zero → 1 ≤ bits_of a
  has_bit a some = by (cases_eq (bits_of a) 0)
    where
      by : (bits_of a ≡ 0) ⊎ (bits_of a ≢ 0) → 1 ≤ bits_of a
      by (inl none) = absurd (some (numbered.same a ops.zero (none ∙ sym numbered.zero_bits)))
      by (inr bits) = omega arith

  -- the bits of elements that rise
  bits_rise : (es : List A) → AllPairs (λ a b. bits_of a < bits_of b) es → AllPairs (λ a b. a < b) (map bits_of es)
  bits_rise es rises i j d below within =
      let inside : j < length es = omega (arith, length-map es bits_of) in
      let less = rises i j ops.zero below inside in
      omega (arith, get_or-map bits_of es i ops.zero d (omega arith), get_or-map bits_of es j ops.zero d inside)

  pub IsAscending-bits : (es : List A) → AllPairs (λ a b. bits_of a < bits_of b) es → All (λ a. a ≢ ops.zero) es → IsAscending 1 (2 ^ width) (map bits_of es)
  IsAscending-bits es rises nonzero =
      IsAscending-from_AllPairs 1 (2 ^ width) (map bits_of es)
      (All-map (λ n. 1 ≤ n) bits_of es (λ k d lt. has_bit (get_or es k d) (nonzero k d lt)))
      (All-map (λ n. n < 2 ^ width) bits_of es (λ k d lt. numbered.below (get_or es k d)))
      (bits_rise es rises)
