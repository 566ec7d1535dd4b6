use Rattle.std.proofs.Common.{◌≡◌, ◌-◌, length, sym, ap, subst, ◌∙◌, arith}
use Rattle.std.specs.Prelude.{IfOk}
use Rattle.std.specs.List.{All}
use Rattle.poly_rules.specs.Polynomials.{degree}
use Rattle.sequence_laws.specs.Halves.{evens, odds}
use Rattle.sequence_laws.specs.Sequences.{sequence_of}
use Rattle.sequence_laws.proofs.Halves.{length-halves, halves_even}
use Rattle.trace_sequences.proofs.RowLists.{size_of_set}
use Rattle.trace_sequences.proofs.rows.rows_of.Goals as goal

pub rows_by_halves-requires : goal.rows_by_halves-requires
rows_by_halves-requires g c = record {
  sums = (
    omega (arith, ap length c.as_slice-3.ensures.value, c.in_ok-sums.ensures.size),
    omega (arith, ap length c.as_slice-3.ensures.value, c.in_ok-sums.ensures.size, ap length c.coeffs.ensures.value, c.requires),
  );
  odd = omega (arith, ap length c.in_ok-odd.ensures, ap length c.as_slice-2.ensures.value, ap length c.in_ok-halves.ensures.odd, length-halves c.coeffs-3.result.now, (halves_even c.coeffs-3.result.now).0, (halves_even c.coeffs-3.result.now).1, ap length c.coeffs-3.ensures.value, ap length c.coeffs.ensures.value, c.requires);
  even = omega (arith, ap length c.in_ok-even.ensures, ap length c.as_slice.ensures.value, ap length c.in_ok-halves.ensures.even, length-halves c.coeffs-3.result.now, (halves_even c.coeffs-3.result.now).0, (halves_even c.coeffs-3.result.now).1, ap length c.coeffs-3.ensures.value, ap length c.coeffs.ensures.value, c.requires);
}

pub returns-clause-size : goal.returns-clause-size
returns-clause-size g c = subst (λ z. IfOk c.rows_by_halves.result (λ rows. All (λ r. length r ≡ degree z) rows.items)) c.coeffs.ensures.value c.rows_by_halves.ensures.size

pub returns-clause-rows : goal.returns-clause-rows
returns-clause-rows g c = λ es u differ is unit.
    c.rows_by_halves.ensures.rows es c.args.f.now u differ is unit
    (omega (arith, size_of_set g.F.Field.ops g.met.F.Field.ring c.args.f.now es is, ap length c.coeffs.ensures.value))
    (c.in_ok-even.ensures ∙ c.as_slice.ensures.value ∙ c.in_ok-halves.ensures.even ∙ ap evens c.coeffs-3.ensures.value)
    (c.in_ok-odd.ensures ∙ c.as_slice-2.ensures.value ∙ c.in_ok-halves.ensures.odd ∙ ap odds c.coeffs-3.ensures.value)
    (c.as_slice-3.ensures.value ∙ c.in_ok-sums.ensures.sums es u (c.coeffs-2.ensures.value ∙ is) unit
    ∙ ap (sequence_of g.F.Field.ops u es (length es - 1)) (sym c.in_ok-sums.ensures.size ∙ sym (ap length c.as_slice-3.ensures.value)))
