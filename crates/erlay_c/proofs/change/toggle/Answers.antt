use Rattle.std.proofs.Common.{◌≡◌, [], ◌∷◌, length, map, ap, ◌∙◌}
use Rattle.sketch_rules.specs.Sketches.{bytes_of, sketch_sum, sketch_of, sums_in}
use Rattle.clmul_lanes.specs.Lane32.{bits_of, ops, ring, numbered}
use Rattle.erlay_c.proofs.Lengths.{length-items}
use Rattle.erlay_c.proofs.Toggles.{with_odd_powers-numbers}
use Rattle.erlay_c.proofs.change.toggle.Goals as goal

pub returns : goal.returns
returns c =
    let bytes = c.args.bytes.now in
    let sums = c.in_ok-sketch.sketch in
    let read = c.in_ok-sketch.ensures in
    let element : bits_of c.new.result ≡ c.args.element = c.new.ensures in (
      read.0,
      c.if-element-eq0.false,
      c.in_ok-to_bytes.ensures
          ∙ ap (λ xs. bytes_of (map bits_of xs)) (c.sums.ensures ∙ c.toggle.ensures.sums)
          ∙ ap bytes_of (with_odd_powers-numbers ops ring bits_of 32 numbered c.new.result sums)
          ∙ ap (λ ms. bytes_of (sketch_sum ms (sketch_of (bits_of c.new.result ∷ []) (length sums)))) read.1
          ∙ ap (λ e. bytes_of (sketch_sum (sums_in bytes) (sketch_of (e ∷ []) (length sums)))) element
          ∙ ap (λ n. bytes_of (sketch_sum (sums_in bytes) (sketch_of (c.args.element ∷ []) n))) (length-items bits_of sums bytes read.1 read.0.2),
    )
