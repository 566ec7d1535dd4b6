use Rattle.std.proofs.Common.{◌∙◌, ap, sym, subst, lit<, rules, ◌<◌, ◌^◌}
use Rattle.field_rules.specs.Elements.{IsProduct, product, remainder}
use Rattle.field_laws.proofs.Products.{product-is}
use Rattle.field_core.proofs.carryless.product.Goals as goal

pub returns-clause-value : goal.returns-clause-value
unfolding product
returns-clause-value c = c.reduce.ensures ∙ ap (remainder 32 32) c.carryless_product.ensures

pub returns-clause-product : goal.returns-clause-product
returns-clause-product c =
    let a_fits : c.args.a < 2 ^ 32 = search rules in
    let b_fits : c.args.b < 2 ^ 32 = search rules in
    subst (IsProduct 32 c.args.a c.args.b) (sym (returns-clause-value c)) (product-is 32 c.args.a c.args.b (lit< tt) a_fits b_fits)
