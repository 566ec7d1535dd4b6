-- The sums of a sketch are numbers of as many bits as an element has.
use Rattle.std.proofs.Common.{◌≡◌, ℕ, ◌^◌, ◌<◌, List, map, get_or, subst, ap, ◌∙◌}
use Rattle.std.specs.List.{All}
use Rattle.std.proofs.lemmas.List.Elements.{All-map}
use Rattle.field_rules.specs.Ops.{Ops}
use Rattle.field_rules.specs.Numbered.{IsNumbered}
use Rattle.sketch_rules.specs.PowerSums.{sketch_by}
use Rattle.sketch_rules.specs.Sketches.{sketch_at}
use Rattle.field_laws.proofs.NumberedLists.{elements_of}
use Rattle.sketch_laws.proofs.SketchNumbers.{sketch_by-numbers}

module _ {A : Type 0} (ops : Ops A) (bits_of : A → ℕ) (width : ℕ) (numbered : IsNumbered ops bits_of width) where
  pub sketch_small : (es : List ℕ) (c : ℕ) → All (λ e. e < 2 ^ width) es → All (λ s. s < 2 ^ width) (sketch_at width es c)
  sketch_small es c small =
      let made = elements_of ops bits_of width numbered es small in
      let same : map bits_of (sketch_by ops made.0 c) ≡ sketch_at width es c = sketch_by-numbers ops bits_of width numbered made.0 c ∙ ap (λ ns. sketch_at width ns c) made.1 in
      subst (λ (ns : List ℕ). All (λ s. s < 2 ^ width) ns) same
      (All-map (λ s. s < 2 ^ width) bits_of (sketch_by ops made.0 c) (λ k d within. numbered.below (get_or (sketch_by ops made.0 c) k d)))
