use Rattle.std.proofs.Common.{◌≡◌, length, drop, replicate, sym, ap, subst, ◌∙◌, arith}
use Rattle.std.specs.List.{All}
use Rattle.std.proofs.lemmas.List.{take_at}
use Rattle.trace_sequences.proofs.CorrelationSums.{zeros_alike}
use Rattle.trace_sequences.proofs.traces.trace_sequence.Goals as goal

pub add_trace-requires : goal.add_trace-requires
add_trace-requires g c =
    let zeros : (length c.as_mut_slice.result.now ≡ c.args.n) × (c.as_mut_slice.result.now ≡ replicate (length c.as_mut_slice.result.now) g.F.Field.ops.zero) =
    zeros_alike c.as_mut_slice.result.now c.args.n g.F.Field.ops.zero (c.as_mut_slice.ensures.value ∙ c.in_ok-sum.ensures) in
    record { zeros = zeros.1; count = c.requires.count; sizes = subst (λ m. All (λ r. length r ≡ m) c.args.rows.now) (sym zeros.0) c.requires.sizes }

pub returns-clause-trace : goal.returns-clause-trace
returns-clause-trace g c = λ u es size are.
    (let count : length c.as_mut_slice.result.now ≡ c.args.n =
    (zeros_alike c.as_mut_slice.result.now c.args.n g.F.Field.ops.zero (c.as_mut_slice.ensures.value ∙ c.in_ok-sum.ensures)).0 in
    take_at c.add_trace.new.sum (drop (length c.add_trace.new.sum) c.in_ok-sum.sum.items) c.in_ok-sum.sum.len (omega (arith, count, ap length c.as_mut_slice.ensures.value))
    ∙ c.add_trace.ensures u es (size ∙ sym count) are)
