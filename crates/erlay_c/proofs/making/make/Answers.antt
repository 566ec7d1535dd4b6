use Rattle.std.proofs.Common.{◌≢◌, List, map, sym, ap, subst, ◌∙◌, arith}
use Rattle.std.specs.List.{All}
use Rattle.field_rules.specs.Lists.{AreDistinct}
use Rattle.sketch_rules.specs.PowerSums.{sketch_by}
use Rattle.sketch_rules.specs.Sketches.{bytes_of, sketch_of}
use Rattle.sketch_laws.proofs.SketchNumbers.{sketch_by-numbers}
use Rattle.list_laws.proofs.Pairs.{AreDistinct-from_map}
use Rattle.clmul_lanes.specs.declared.lane32.Lane32.{Lane32}
use Rattle.clmul_lanes.specs.Lane32.{bits_of, ops, numbered}
use Rattle.erlay_c.specs.Answers.{AreElements}
use Rattle.erlay_c.proofs.Sets.{nonzero}
use Rattle.erlay_c.proofs.making.make.Goals as goal

pub of-requires-clause-nonzero : goal.of-requires-clause-nonzero
of-requires-clause-nonzero c =
    let set = c.in_ok-set.ensures in
    let elements : All (λ e. e ≢ ops.zero) c.in_ok-set.set = nonzero c.in_ok-set.set (subst AreElements (sym set.2) set.0) in
    subst (λ (es : List Lane32). All (λ e. e ≢ ops.zero) es) (sym c.as_slice.ensures) elements

pub of-requires-clause-distinct : goal.of-requires-clause-distinct
of-requires-clause-distinct c =
    let set = c.in_ok-set.ensures in
    let distinct : AreDistinct c.in_ok-set.set = AreDistinct-from_map bits_of c.in_ok-set.set (subst AreDistinct (sym set.2) set.1) in
    subst (λ (es : List Lane32). AreDistinct es) (sym c.as_slice.ensures) distinct

pub returns : goal.returns
returns c =
    let set = c.in_ok-set.ensures in (
      ((omega arith, omega arith), omega arith),
      set.0,
      set.1,
      c.in_ok-to_bytes.ensures
          ∙ ap (λ xs. bytes_of (map bits_of xs)) (c.sums.ensures ∙ c.in-Ok.ensures.ok ∙ ap (λ es. sketch_by ops es c.args.capacity) c.as_slice.ensures)
          ∙ ap bytes_of (sketch_by-numbers ops bits_of 32 numbered c.in_ok-set.set c.args.capacity)
          ∙ ap (λ es. bytes_of (sketch_of es c.args.capacity)) set.2,
    )
