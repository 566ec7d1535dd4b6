use Rattle.std.proofs.Common.{◌≡◌, ◌<◌, [], length, get_or, sym, subst, ◌∙◌, arith}
use Rattle.std.specs.Prelude.{IfSome}
use Rattle.std.proofs.lemmas.List.{get_or_default}
use Rattle.sequence_laws.specs.Parts.{IsTraceSequence}
use Rattle.trace_sequences.specs.Rows.{AreTraceSequences}
use Rattle.trace_roots.proofs.members.with_trace.Goals as goal

pub returns-clause-trace : goal.returns-clause-trace
returns-clause-trace g c u es part =
    let traces : AreTraceSequences g.F.Field.ops g.F.Field.bits_of g.F.Field.BITS c.args.exponent u es c.in-Some.traces.items =
    subst (λ o. IfSome o (λ traces. AreTraceSequences g.F.Field.ops g.F.Field.bits_of g.F.Field.BITS c.args.exponent u es traces.items)) c.in-Some.is
    (c.in_ok-traces.ensures.traces u es part.distinct part.locator_is part.unit part.traces) in
    let some : 0 < length c.in-Some.traces.items = subst (λ o. IfSome o (λ traces. 0 < length traces.items)) c.in-Some.is c.in_ok-traces.ensures.some in
    let first : c.remove-trace.result ≡ get_or c.in-Some.traces.items 0 [] = c.remove-trace.ensures.value ∙ get_or_default c.in-Some.traces.items 0 c.remove-trace.result [] some in
    subst (IsTraceSequence g.F.Field.ops g.F.Field.bits_of g.F.Field.BITS c.args.exponent u es) (sym first)
    (subst (λ n. IsTraceSequence g.F.Field.ops g.F.Field.bits_of g.F.Field.BITS n u es (get_or c.in-Some.traces.items 0 [])) (omega arith) (traces 0 some))
