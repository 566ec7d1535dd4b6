use Rattle.std.proofs.Common.{◌≡◌, ◌++◌, ◌∷◌, length, take, drop, reverse, arith, ap, subst, sym, ◌∙◌}
use Rattle.std.proofs.lemmas.List.{take_at}
use Rattle.poly_rules.specs.Polynomials.{IsSamePolynomial, IsMonic, degree}
use Rattle.bm_solver.specs.Locators.{coefficients_of}
use Rattle.poly_laws.proofs.Remainders.{monic-same}
use Rattle.bm_solver.proofs.Locators.{monic_is}
use Rattle.bm_solver.proofs.locator.Locator.from_monic.Goals as goal

pub invariant_of-result : goal.invariant_of-result
invariant_of-result g c = record {
  is_monic = subst (λ f. IsMonic g.F.Field.ops (degree f) f) (sym kept) c.requires;
  is_poly = subst (IsSamePolynomial g.F.Field.ops c.from_coeffs.result) (turned ∙ ap reverse (sym kept)) c.from_coeffs.ensures.same;
}
  where
    kept : c.from_coeffs-2.result ≡ c.args.monic.items
    kept = monic-same g.F.Field.ops c.from_coeffs-2.result c.args.monic.items g.met.F.Field.field.apart c.from_coeffs-2.ensures.trimmed c.requires c.from_coeffs-2.ensures.same

    turned : take c.extend_from_slice.new.self.len (c.reverse.new.self ++ drop (length c.reverse.new.self) c.extend_from_slice.new.self.items) ≡ reverse c.args.monic.items
    turned =
        take_at c.reverse.new.self (drop (length c.reverse.new.self) c.extend_from_slice.new.self.items) c.extend_from_slice.new.self.len (omega arith)
        ∙ c.reverse.ensures.after
        ∙ ap reverse (c.as_mut_slice.ensures.value ∙ c.in_ok-extend_from_slice.ensures.items ∙ ap (λ z. z ++ c.as_slice.result.now) c.clear.ensures.items ∙ c.as_slice.ensures.value)

pub returns : goal.returns
returns g c =
    monic_is g.F.Field.ops c.args.monic.items c.requires
    ∙ ap (λ f. reverse (g.F.Field.ops.one ∷ coefficients_of f))
    (sym (monic-same g.F.Field.ops c.from_coeffs-2.result c.args.monic.items g.met.F.Field.field.apart c.from_coeffs-2.ensures.trimmed c.requires c.from_coeffs-2.ensures.same))
