use Rattle.std.proofs.Common.{◌≡◌, [], get_or, sym, ap, ◌∙◌, arith}
use Rattle.std.proofs.lemmas.List.{get_or_default}
use Rattle.trace_sequences.proofs.Equal.{pointwise-same}
use Rattle.trace_sequences.proofs.traces.returns.Goals as goal

pub returns : goal.returns
returns g c same =
    let first : c.as_slice.result.now ≡ get_or c.args.rows.now 0 [] =
    c.as_slice.ensures ∙ c.index-rows-0.is ∙ get_or_default c.args.rows.now 0 c.index-rows-0.result [] (omega (arith, c.requires)) in
    let last : c.as_slice-2.result.now ≡ get_or c.args.rows.now g.F.Field.BITS [] =
    c.as_slice-2.ensures ∙ c.index-rows-BITS.is ∙ ap (λ n. get_or c.args.rows.now n c.index-rows-BITS.result) c.BITS.ensures ∙ get_or_default c.args.rows.now g.F.Field.BITS c.index-rows-BITS.result [] c.requires in
    c.eq.ensures ∙ pointwise-same g.F.PartialEq.eq g.F.Field.bits_of g.met.F.Field.equal c.as_slice.result.now c.as_slice-2.result.now (first ∙ same ∙ sym last)
