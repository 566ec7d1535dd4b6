use Rattle.std.proofs.Common.{◌≡◌, ◌+◌, ◌<◌, ◌≤◌, [], ◌∷◌, ◌++◌, length, get_or, sym, ap, subst, ◌∙◌, arith, length-append}
use Rattle.std.proofs.lemmas.List.{get_or_default}
use Rattle.std.proofs.lemmas.List.Elements.{All-get_or}
use Rattle.splitting_laws.specs.Parts.{IsCorrelation}
use Rattle.trace_sequences.proofs.RowLists.{pushed}
use Rattle.trace_sequences.proofs.correlations.all_correlations.Goals as goal

pub loop-sequence-init : goal.loop-sequence-init
loop-sequence-init g c = record { size = ap length c.in_ok-found.ensures.items; each = λ i lt. absurd (omega arith) }

pub correlation-requires : goal.correlation-requires
correlation-requires g c =
    let inside : c.loop-sequence.sequence-index < length c.args.sequences.now = omega arith in
    let fits : c.args.n + length c.args.items.now ≤ length (get_or c.args.sequences.now c.loop-sequence.sequence-index []) + 1 =
    All-get_or (λ s. c.args.n + length c.args.items.now ≤ length s + 1) c.args.sequences.now c.loop-sequence.sequence-index [] inside c.requires in
    let item : c.as_slice.result.now ≡ get_or c.args.sequences.now c.loop-sequence.sequence-index [] =
    c.as_slice.ensures ∙ c.sequence-item.is ∙ get_or_default c.args.sequences.now c.loop-sequence.sequence-index c.sequence-item.result [] inside in
    omega (arith, fits, ap length item, ap length c.in_ok-taps.ensures)

pub loop-sequence-preserved : goal.loop-sequence-preserved
loop-sequence-preserved g c =
    let inside : c.loop-sequence.sequence-index < length c.args.sequences.now = omega arith in
    let item : c.as_slice.result.now ≡ get_or c.args.sequences.now c.loop-sequence.sequence-index [] =
    c.as_slice.ensures ∙ c.sequence-item.is ∙ get_or_default c.args.sequences.now c.loop-sequence.sequence-index c.sequence-item.result [] inside in
    let items : c.push.new.self.items ≡ c.loop-sequence.found.items ++ c.new.result ∷ [] = c.in_ok-push.ensures.items in
    let more : length c.push.new.self.items ≡ c.loop-sequence.sequence-index + 1 = omega (arith, ap length items, length-append c.loop-sequence.found.items (c.new.result ∷ []), c.loop-sequence.invariant.size) in
    record {
      size = more;
      each = λ i lt.
          pushed (λ k w. IsCorrelation g.F.Field.ops c.args.items.now (get_or c.args.sequences.now k []) c.args.n w) c.loop-sequence.found.items c.push.new.self.items c.new.result [] items
          (λ k below. c.loop-sequence.invariant.each k (omega (arith, below, c.loop-sequence.invariant.size)))
          (subst (IsCorrelation g.F.Field.ops c.args.items.now (get_or c.args.sequences.now (length c.loop-sequence.found.items) []) c.args.n) (sym c.new.ensures)
          (subst (λ k. IsCorrelation g.F.Field.ops c.args.items.now (get_or c.args.sequences.now k []) c.args.n c.in_ok-correlation.correlation.items) (sym c.loop-sequence.invariant.size)
          (subst (λ s. IsCorrelation g.F.Field.ops c.args.items.now s c.args.n c.in_ok-correlation.correlation.items) item
          (subst (λ f. IsCorrelation g.F.Field.ops f c.as_slice.result.now c.args.n c.in_ok-correlation.correlation.items) c.in_ok-taps.ensures c.in_ok-correlation.ensures))))
          i (omega (arith, lt, more));
    }

pub returns : goal.returns
returns g c = record { size = omega (arith, c.loop-sequence.invariant.size, c.loop-sequence.auto.sequence-index-end); each = λ i lt. c.loop-sequence.invariant.each i (omega arith) }
