use Rattle.std.proofs.Common.{sym, subst, ap, ◌∙◌}
use Rattle.poly_rules.specs.Polynomials.{IsSamePolynomial, IsMonic, degree}
use Rattle.poly_laws.proofs.Remainders.{monic-same}
use Rattle.bm_solver.proofs.locator.monic.Goals as goal

pub returns-clause-value : goal.returns-clause-value
returns-clause-value g c =
    monic-same g.F.Field.ops c.from_coeffs.result c.monic_form.result.now g.met.F.Field.field.apart c.from_coeffs.ensures.trimmed c.monic_form.ensures.monic
    (subst (IsSamePolynomial g.F.Field.ops c.from_coeffs.result) (c.in_ok-coefficients.ensures.items ∙ c.coeffs.ensures.value) c.from_coeffs.ensures.same)
    ∙ c.monic_form.ensures.value

pub returns-clause-monic : goal.returns-clause-monic
returns-clause-monic g c =
    subst (λ f. IsMonic g.F.Field.ops (degree f) f) (c.monic_form.ensures.value ∙ sym (returns-clause-value g c)) c.monic_form.ensures.monic

pub returns-clause-degree : goal.returns-clause-degree
returns-clause-degree g c =
    ap degree (returns-clause-value g c ∙ sym c.monic_form.ensures.value) ∙ c.monic_form.ensures.degree
