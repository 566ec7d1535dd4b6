use Rattle.std.proofs.Common.{◌≡◌, ◌++◌, length, take, drop, sym, ap, subst, ◌∙◌, arith}
use Rattle.std.proofs.lemmas.List.{length-take, take_at}
use Rattle.poly_rules.specs.Polynomials.{degree}
use Rattle.poly_laws.specs.Rests.{IsRest}
use Rattle.poly_laws.proofs.Sums.{same_back}
use Rattle.poly_laws.proofs.Remainders.{rest_same, remainder_of_rest}
use Rattle.poly_ops.proofs.remainder.reduced.Goals as goal

pub returns : goal.returns
returns g c =
    let whole : take c.args.coeffs.len (c.divide.new.rest ++ drop (length c.divide.new.rest) c.args.coeffs.items) ≡ c.divide.new.rest =
    take_at c.divide.new.rest (drop (length c.divide.new.rest) c.args.coeffs.items) c.args.coeffs.len (omega arith) in
    let kept : c.truncate.new.self.items ≡ take (degree c.args.f.now) c.divide.new.rest =
    c.truncate.ensures.items ∙ ap (take c.degree.result) whole ∙ ap (λ n. take n c.divide.new.rest) c.degree.ensures.value in
    remainder_of_rest g.F.Field.ops g.met.F.Field.ring (degree c.args.f.now) c.args.f.now c.args.coeffs.items c.from_coeffs.result c.degree.ensures.monic
    (rest_same g.F.Field.ops g.met.F.Field.ring c.args.f.now c.args.coeffs.items c.truncate.new.self.items c.from_coeffs.result
    (subst (IsRest g.F.Field.ops c.args.f.now c.args.coeffs.items) (sym kept)
    record { quotient = drop (degree c.args.f.now) c.divide.new.rest; divides = rw c.as_mut_slice.ensures.value at c.divide.ensures })
    (same_back g.F.Field.ops c.from_coeffs.ensures.same))
    (omega (arith, ap length kept, length-take (degree c.args.f.now) c.divide.new.rest))
