use Rattle.std.proofs.Common.{◌≡◌, ◌++◌, length, take, drop, map, sym, ap, subst, ◌∙◌, arith}
use Rattle.std.proofs.lemmas.List.{take_at}
use Rattle.poly_rules.specs.Polynomials.{IsSamePolynomial, product_of}
use Rattle.poly_laws.specs.Squares.{with_zeros}
use Rattle.poly_laws.proofs.Squares.{square_is}
use Rattle.poly_laws.proofs.Remainders.{remainder_from}
use Rattle.poly_ops.proofs.remainder.square_by.Goals as goal

pub returns : goal.returns
returns g c =
    let whole : take c.in_ok-squares.squares.len (c.square_each.new.x ++ drop (length c.square_each.new.x) c.in_ok-squares.squares.items) ≡ c.square_each.new.x =
    take_at c.square_each.new.x (drop (length c.square_each.new.x) c.in_ok-squares.squares.items) c.in_ok-squares.squares.len (omega arith) in
    let squares : c.as_slice.result.now ≡ map (λ a. g.F.Field.ops.times a a) c.args.a.now =
    c.as_slice.ensures.value ∙ whole ∙ c.square_each.ensures ∙ ap (map (λ a. g.F.Field.ops.times a a)) (c.as_mut_slice.ensures.value ∙ c.in_ok-squares.ensures.items ∙ c.coeffs.ensures.value) in
    remainder_from g.F.Field.ops g.met.F.Field.ring c.args.f.now (product_of g.F.Field.ops c.args.a.now c.args.a.now) c.in_ok-with_zeros_between.field-0.items c.reduced.result
    (subst (IsSamePolynomial g.F.Field.ops (product_of g.F.Field.ops c.args.a.now c.args.a.now)) (sym (c.in_ok-with_zeros_between.ensures ∙ ap (with_zeros g.F.Field.ops.zero) squares))
    (square_is g.F.Field.ops g.met.F.Field.ring c.args.a.now))
    c.reduced.ensures
