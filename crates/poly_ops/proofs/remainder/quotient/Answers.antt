use Rattle.std.proofs.Common.{◌≡◌, ◌++◌, length, take, drop, ap, subst, ◌∙◌, arith}
use Rattle.std.proofs.lemmas.List.{take_at}
use Rattle.poly_rules.specs.Polynomials.{degree, IsSamePolynomial}
use Rattle.poly_laws.proofs.Remainders.{monic-same}
use Rattle.poly_laws.proofs.Division.{quotient_of_product}
use Rattle.poly_ops.proofs.Dividing.{quotient_is, items_from}
use Rattle.poly_ops.proofs.remainder.quotient.Goals as goal

pub returns-clause-divides : goal.returns-clause-divides
returns-clause-divides g c =
    let divisor : c.of-divisor.result ≡ c.args.f.now = c.of-divisor.ensures ∙ c.coeffs-2.ensures.value in
    let whole : c.as_mut_slice.result.now ≡ c.args.a.now = c.as_mut_slice.ensures.value ∙ c.in_ok-rest.ensures.items ∙ c.coeffs.ensures.value in
    let written : take c.in_ok-rest.rest.len (c.divide.new.rest ++ drop (length c.divide.new.rest) c.in_ok-rest.rest.items) ≡ c.divide.new.rest =
    take_at c.divide.new.rest (drop (length c.divide.new.rest) c.in_ok-rest.rest.items) c.in_ok-rest.rest.len (omega arith) in
    let above : c.in_ok-coefficients.coefficients.items ≡ drop (degree c.args.f.now) c.divide.new.rest =
    items_from c.in_ok-coefficients.coefficients.items c.as_slice.result.now c.divide.new.rest c.degree.result c.min-from.result
    c.in_ok-coefficients.ensures.items (c.as_slice.ensures.value ∙ written) (omega arith)
    ∙ ap (λ n. drop n c.divide.new.rest) (c.degree.ensures.value ∙ ap degree divisor) in
    quotient_is g.F.Field.ops g.met.F.Field.ring c.args.f.now c.args.a.now c.divide.new.rest c.from_coeffs.result
    (rw (divisor, whole) at c.divide.ensures)
    (subst (IsSamePolynomial g.F.Field.ops c.from_coeffs.result) above c.from_coeffs.ensures.same)

pub returns-clause-exact : goal.returns-clause-exact
returns-clause-exact g c q monic exact =
    monic-same g.F.Field.ops c.from_coeffs.result q g.met.F.Field.field.apart c.from_coeffs.ensures.trimmed monic
    (quotient_of_product g.F.Field.ops g.met.F.Field.ring (degree c.args.f.now) c.args.a.now c.args.f.now q c.from_coeffs.result c.requires.monic exact (returns-clause-divides g c))
