use Rattle.std.proofs.Common.{ap, ◌∙◌}
use Rattle.field_rules.specs.Elements.{product}
use Rattle.clmul_lanes.proofs.Nibbles.{product_is_linear}
use Rattle.clmul_lanes.proofs.multiples.Multiples.times.Goals as goal

pub returns : goal.returns
returns c = c.image.ensures (product 32 c.self.inside.factor) (product_is_linear c.self.inside.factor c.self.invariant.0) c.self.invariant.1 ∙ ap (λ z. product 32 z c.args.b) c.self.view_is
