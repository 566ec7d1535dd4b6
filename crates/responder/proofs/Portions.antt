-- Sums behind the first ones.
use Rattle.std.proofs.Common.{◌≡◌, ℕ, ◌+◌, ◌-◌, List, map, take, drop, length, sym, ap, ◌∙◌, arith}
use Rattle.std.proofs.lemmas.List.{drop-map, take-map, length-map}
use Rattle.field_rules.specs.Elements.{numbers}
use Rattle.sketch_rules.specs.PowerSums.{odd_power_sums}
use Rattle.sketch_rules.specs.Sketches.{sketch_of}
use Rattle.sketch_laws.proofs.EverySums.{length-odd_power_sums}
use Rattle.sketch_laws.proofs.Parts.{odd_power_sums-middle}

module _ {A : Type 0} (bits_of : A → ℕ) (lent sums : List A) (ns : List ℕ) (first count : ℕ) (same : lent ≡ sums) (are : map bits_of sums ≡ sketch_of ns (first + count)) where
  -- as many sums as the capacity
  pub sums_length : length lent ≡ first + count
  sums_length = sym (length-map lent bits_of) ∙ ap (λ xs. length (map bits_of xs)) same ∙ ap length are ∙ length-odd_power_sums (numbers 32) ns 0 (first + count)

  -- those behind the first ones
  pub sums_behind : map bits_of (take (first + count - first) (drop first lent)) ≡ odd_power_sums (numbers 32) ns first count
  sums_behind =
      let rest : first + count - first ≡ count = omega arith in
      ap (λ n. map bits_of (take n (drop first lent))) rest
      ∙ sym (take-map bits_of count (drop first lent))
      ∙ ap (take count) (sym (drop-map bits_of first lent))
      ∙ ap (λ xs. take count (drop first (map bits_of xs))) same
      ∙ ap (λ xs. take count (drop first xs)) are
      ∙ odd_power_sums-middle (numbers 32) ns first count (first + count) (omega arith)
