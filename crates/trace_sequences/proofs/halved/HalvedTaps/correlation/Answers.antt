use Rattle.std.proofs.Common.{◌≡◌, ◌+◌, List, ◌++◌, length, replicate, sym, subst, ap, ◌∙◌, length-append}
use Rattle.std.proofs.lemmas.List.{length-replicate}
use Rattle.splitting_laws.specs.Parts.{IsCorrelation}
use Rattle.trace_sequences.specs.Halved.{AreLists}
use Rattle.trace_sequences.proofs.TapLists.{without_zeros}
use Rattle.trace_sequences.proofs.halved.HalvedTaps.correlation.Goals as goal

pub returns : goal.returns
returns g c taps padded fits =
    let size : length (taps ++ replicate padded.zeros g.F.Field.ops.zero) ≡ c.args.self.now.size =
    length-append taps (replicate padded.zeros g.F.Field.ops.zero) ∙ ap (λ z. length taps + z) (length-replicate padded.zeros g.F.Field.ops.zero) ∙ padded.size_is in
    subst (IsCorrelation g.F.Field.ops taps c.args.others.now c.args.n) (sym c.truncate.ensures.items)
    (without_zeros g.F.Field.ops g.met.F.Field.ring taps c.args.others.now c.as_slice-2.result.now c.in_ok-products.products.items padded.zeros c.args.self.now.size c.args.n padded.size_is
    (c.as_slice-2.ensures.value ∙ c.in_ok-window.ensures) c.requires.size.0 fits
    (c.in_ok-products.ensures (taps ++ replicate padded.zeros g.F.Field.ops.zero)
    (subst (AreLists g.F.Field.ops c.args.self.now.depth (taps ++ replicate padded.zeros g.F.Field.ops.zero)) (sym c.as_slice.ensures.value) padded.lists_are) size))

pub correlation_by_halves-requires-clause-lists : goal.correlation_by_halves-requires-clause-lists
correlation_by_halves-requires-clause-lists g c =
    let taps : List _ = c.requires.lists.0 in
    let zeros : List _ = replicate c.requires.lists.1.zeros g.F.Field.ops.zero in (
      taps ++ zeros,
      subst (AreLists g.F.Field.ops c.args.self.now.depth (taps ++ zeros)) (sym c.as_slice.ensures.value) c.requires.lists.1.lists_are,
      length-append taps zeros ∙ ap (λ z. length taps + z) (length-replicate c.requires.lists.1.zeros g.F.Field.ops.zero) ∙ c.requires.lists.1.size_is,
    )
