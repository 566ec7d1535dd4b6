use Rattle.std.proofs.Common.{◌≡◌, ◌-◌, length, ap, arith}
use Rattle.poly_rules.specs.Polynomials.{degree}
use Rattle.trace_roots.proofs.Parting.{correlations_fit, others, others_monic, others_times, half_sizes, split_of_half}
use Rattle.trace_roots.proofs.part.halves.Goals as goal

pub returns-then-size-eq0-clause-found : goal.returns-then-size-eq0-clause-found
returns-then-size-eq0-clause-found g c first u es part half =
    let sizes = half_sizes g.F.Field.ops g.met.F.Field.ring g.F.Field.bits_of g.F.Field.BITS first u es c.args.part.now.locator c.args.half c.args.part.now.traces.items part half in
    absurd (omega (arith, sizes.1, c.if-size-eq0.true, ap length c.coeffs-2.ensures.value))

pub returns-then-n-size-clause-found : goal.returns-then-n-size-clause-found
returns-then-n-size-clause-found g c first u es part half =
    let sizes = half_sizes g.F.Field.ops g.met.F.Field.ring g.F.Field.bits_of g.F.Field.BITS first u es c.args.part.now.locator c.args.half c.args.part.now.traces.items part half in
    absurd (omega (arith, sizes.0, sizes.2, c.if-n-size.true, ap length c.coeffs.ensures.value, ap length c.coeffs-2.ensures.value))

pub returns-then-coeffs-n-clause-found : goal.returns-then-coeffs-n-clause-found
returns-then-coeffs-n-clause-found g c first u es part half =
    let sizes = half_sizes g.F.Field.ops g.met.F.Field.ring g.F.Field.bits_of g.F.Field.BITS first u es c.args.part.now.locator c.args.half c.args.part.now.traces.items part half in
    let rest : c.in_ok-rest.rest ≡ others g.F.Field.ops g.met.F.Field.ring g.F.Field.bits_of g.F.Field.BITS first u es c.args.part.now.locator c.args.half c.args.part.now.traces.items part half =
    c.in_ok-rest.ensures.exact (others g.F.Field.ops g.met.F.Field.ring g.F.Field.bits_of g.F.Field.BITS first u es c.args.part.now.locator c.args.half c.args.part.now.traces.items part half)
    (others_monic g.F.Field.ops g.met.F.Field.ring g.F.Field.bits_of g.F.Field.BITS first u es c.args.part.now.locator c.args.half c.args.part.now.traces.items part half)
    (others_times g.F.Field.ops g.met.F.Field.ring g.F.Field.bits_of g.F.Field.BITS first u es c.args.part.now.locator c.args.half c.args.part.now.traces.items part half) in
    absurd (c.if-coeffs-n.true (omega (arith, sizes.0, sizes.1, sizes.2, ap length rest, ap length c.coeffs.ensures.value, ap length c.coeffs-2.ensures.value, ap length c.coeffs-3.ensures.value)))

pub returns-clause-first : goal.returns-clause-first
returns-clause-first g c =
    correlations_fit g.F.Field.ops g.met.F.Field.ring c.args.half c.coeffs-4.result.now (length c.coeffs-2.result.now - 1) c.as_slice.result.now c.in_ok-half_traces.half_traces.items c.in_ok-half_traces.ensures
    (ap degree c.coeffs-2.ensures.value) (omega (arith, c.if-size-eq0.false))

pub returns-clause-second : goal.returns-clause-second
returns-clause-second g c =
    correlations_fit g.F.Field.ops g.met.F.Field.ring c.in_ok-rest.rest c.coeffs-5.result.now (length c.coeffs.result.now - 1 - (length c.coeffs-2.result.now - 1)) c.as_slice-2.result.now c.in_ok-rest_traces.rest_traces.items c.in_ok-rest_traces.ensures
    (omega (arith, c.if-coeffs-n.false, ap length c.coeffs-3.ensures.value, c.if-n-size.false)) (omega (arith, c.if-n-size.false))

pub returns-clause-parts : goal.returns-clause-parts
returns-clause-parts g c first u es part half =
    let rest : c.in_ok-rest.rest ≡ others g.F.Field.ops g.met.F.Field.ring g.F.Field.bits_of g.F.Field.BITS first u es c.args.part.now.locator c.args.half c.args.part.now.traces.items part half =
    c.in_ok-rest.ensures.exact (others g.F.Field.ops g.met.F.Field.ring g.F.Field.bits_of g.F.Field.BITS first u es c.args.part.now.locator c.args.half c.args.part.now.traces.items part half)
    (others_monic g.F.Field.ops g.met.F.Field.ring g.F.Field.bits_of g.F.Field.BITS first u es c.args.part.now.locator c.args.half c.args.part.now.traces.items part half)
    (others_times g.F.Field.ops g.met.F.Field.ring g.F.Field.bits_of g.F.Field.BITS first u es c.args.part.now.locator c.args.half c.args.part.now.traces.items part half) in
    split_of_half g.F.Field.ops g.met.F.Field.ring g.F.Field.bits_of g.F.Field.BITS first u es c.args.part.now.locator c.args.half c.args.part.now.traces.items part half
    g.met.F.Field.field g.met.F.Field.numbered c.coeffs-5.result.now c.in_ok-rest.rest c.coeffs-4.result.now c.as_slice.result.now c.as_slice-2.result.now c.in_ok-half_traces.half_traces.items c.in_ok-rest_traces.rest_traces.items
    (length c.coeffs-2.result.now - 1) (length c.coeffs.result.now - 1 - (length c.coeffs-2.result.now - 1)) rest c.coeffs-5.ensures.value c.coeffs-4.ensures.value c.as_slice.ensures.value c.as_slice-2.ensures.value
    (ap degree c.coeffs-2.ensures.value) (omega (arith, ap length c.coeffs.ensures.value, ap length c.coeffs-2.ensures.value))
    c.in_ok-half_traces.ensures c.in_ok-rest_traces.ensures
